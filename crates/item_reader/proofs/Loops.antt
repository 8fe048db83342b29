-- The loop over items: one more, and the last.
use Prim.Native.Nat.{ℕ}
use mathlib.Core.Path.{◌≡◌, refl}
use mathlib.Core.Bool.{Bool, true, false, not, ◌&&◌}
use mathlib.Core.List.{List, []}
use lib.Dec.{eqb}
use borrow.Author.Tests.{not-true, not-false}
use Rattle.spelling.specs.Cursor.{here, is_bracket}
use Rattle.grammar.specs.Tree.{Kind}
use Rattle.grammar.specs.Reader.{bracket, item, items}
use Rattle.token_reader.specs.Reading.{cursor_of, fault_of, Takes, Reads, Turns}
use Rattle.token_reader.specs.declared.Reader.{Reader}
use Rattle.token_reader.proofs.Compose.{lead, stands}
use Rattle.token_reader.proofs.Turning.{on_yes, on_no, turn_close, turned}
use Rattle.item_reader.proofs.Likeness.{items_more, items_close}

module _
    {t list₀ list : List ℕ} {r₀ r : Reader} {y : Bool} (q : Kind) (n : ℕ) (w : Turns false t list₀ r₀ (items q n) list r (items q n))
    (e : y ≡ (eqb (fault_of r) 0 && not (is_bracket 41 (here false t (cursor_of r))))) where
  pub items_again :
      {list' : List ℕ} {a : Reader} → y ≡ true → Reads false t list r (item q n) list' a
      → Turns false t list₀ r₀ (items q n) list' a (items q n)
  items_again f p = turned t [] w (λ _. items_more _ q n (not-true _ (on_yes (fault_of r) _ e f).1)) (λ σ. refl) (lead p)

  pub items_done : {a : Reader} → y ≡ false → Takes false t r (bracket 41) a → Reads false t list₀ r₀ (items q n) list a
  items_done f k =
      turn_close w
      (stands w.ready.stands (λ z. items_close _ q n (not-false _ (on_no (fault_of r) _ e f z))) (lead (k.reads list w.ready)))

-- How a list grows into which links are put.
use Prim.Native.Nat.{ℕ, ◌<◌}
use mathlib.Core.Path.{◌≡◌, refl, sym, ap, ◌∙◌}
use mathlib.Core.List.{List}
use mathlib.Core.Logic.{◌⊎◌, ⊎_elim}
use native.Mathlib.Omega.{arith}
use lib.ListN.{length, get_or, set, length-set}
use lib.Seq.{get_or-set_same, get_or-set_other}
use Rattle.laws.specs.Listed.{Filled}
use Rattle.job.specs.Model.{Model}
use Rattle.links.specs.Linkable.{Linkable}
use Rattle.links.specs.Linking.{FilledWhere, LinksPut}

module _ {f : ℕ → ℕ} where
  pub put_none : {P : ℕ → Type 0} (list : List ℕ) → ((k : ℕ) → P k → ⊥) → FilledWhere P f list list
  put_none list none = record { size = refl; there = λ k h. absurd (none k h); rest = λ k _. refl }

  pub put_one : (list : List ℕ) (i v : ℕ) → i < length list → v ≡ f i → FilledWhere (λ k. k ≡ i) f list (set list i v)
  put_one list i v h e =
      record {
        size = length-set list i v;
        there = λ k q. ap (λ (j : ℕ). get_or (set list i v) j 0) q ∙ get_or-set_same list i v 0 h ∙ e ∙ ap f (sym q);
        rest = λ k q. get_or-set_other list i k v 0 q;
      }

  -- those of P, then those of Q: what is not put again stays
  pub put_then :
      {P Q R : ℕ → Type 0} {before list after : List ℕ} → FilledWhere P f before list → FilledWhere Q f list after
      → ((k : ℕ) → P k → R k)
      → ((k : ℕ) → Q k → R k)
      → ((k : ℕ) → R k → Q k ⊎ (P k × (Q k → ⊥)))
      → FilledWhere R f before after
  put_then {P} {Q} a b p q r =
      record {
        size = b.size ∙ a.size;
        there = λ k h.
            ⊎_elim (λ (g : Q k). b.there k g) (λ (g : P k × (Q k → ⊥)). b.rest k g.1 ∙ a.there k g.0) (r k h);
        rest = λ k h. b.rest k (λ g. h (q k g)) ∙ a.rest k (λ g. h (p k g));
      }

  -- those of P are those of Q
  pub put_as :
      {P Q : ℕ → Type 0} {before list : List ℕ} → FilledWhere P f before list → ((k : ℕ) → P k → Q k) → ((k : ℕ) → Q k → P k)
      → FilledWhere Q f before list
  put_as a p q = record { size = a.size; there = λ k h. a.there k (q k h); rest = λ k h. a.rest k (λ g. h (p k g)) }

  pub put_filled : {n : ℕ} {before list : List ℕ} → FilledWhere (λ k. k < n) f before list → Filled n f before list
  put_filled a = record { size = a.size; below = a.there; rest = λ k h. a.rest k (λ g. omega arith) }

-- The list keeps its length, so the links still have room.
module _ {m : Model} {points begins before : List ℕ} {P : ℕ → Type 0} {list : List ℕ} (can : Linkable m points begins before)
    (put : LinksPut m points begins P before list) where
  pub links_size : length list ≡ length before
  links_size = let x = can.some in (put x.0 x.1 x.2).size

  pub links_room : Linkable m points begins list
  links_room = record { form = can.form; some = can.some; room = omega (arith, can.room, links_size) }

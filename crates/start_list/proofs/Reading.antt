-- Laws of what a text is read as: no text, no list, a list.
use Prim.Native.Nat.{ℕ}
use mathlib.Core.Path.{◌≡◌, refl, sym}
use mathlib.Core.Bool.{Bool, true, false}
use mathlib.Core.List.{List, [], ◌∷◌}
use native.Mathlib.Omega.{arith}
use lib.ListN.{length}
use Rattle.std.specs.Prelude.{Option, Some, None}
use Rattle.listing.specs.Listed.{filled}
use Rattle.start_list.specs.Starts.{listed, all_whole, is_list, starts_in, starts_read}
use Rattle.listing.proofs.Filling.{filled_none}

pub read_empty : (text list : List ℕ) → length text ≡ 0 → (Some 0 ≡ starts_read text) × (list ≡ filled list (starts_in text))
unfolding starts_read starts_in is_list all_whole listed
read_empty [] list e = (refl, sym (filled_none list))
read_empty (b ∷ bs) list e = absurd (omega arith)

module _ (text : List ℕ) {r : Option ℕ} (e : r ≡ starts_read text) where
  pub read_none : (list : List ℕ) → r ≡ None → list ≡ filled list (starts_in text)
  unfolding starts_read starts_in
  read_none list q = go (is_list text) refl
    where
      go : (b : Bool) → is_list text ≡ b → list ≡ filled list (starts_in text)
      go true t = absurd (let g : starts_read text ≡ Some (length (starts_in text)) = rw t in let z : ◌≡◌ {A = ℕ} 0 1 = cc in omega arith)
      go false f = rw f (sym (filled_none list))

  pub read_list : {n : ℕ} → r ≡ Some n → is_list text ≡ true
  unfolding starts_read
  read_list q = go (is_list text) refl
    where
      go : (b : Bool) → is_list text ≡ b → is_list text ≡ true
      go true t = t
      go false f = absurd (let g : starts_read text ≡ None = rw f in let z : ◌≡◌ {A = ℕ} 0 1 = cc in omega arith)

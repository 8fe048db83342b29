-- What holds of every element of a list.
use Prim.Native.Nat.{ℕ, zero, suc}
use mathlib.Core.List.{List, [], ◌∷◌, ◌++◌, map}
use lib.ListN.{get_or}

abbrev pub Every : {A : Type 0} → (A → Type 0) → List A → Type 0
Every P [] = Unit
Every P (a ∷ l) = P a × Every P l

module _ {A : Type 0} (P : A → Type 0) where
  pub every_append : (l r : List A) → Every P l → Every P r → Every P (l ++ r)
  every_append [] r e f = f
  every_append (a ∷ l) r e f = (e.0, every_append l r e.1 f)

  pub every_made : {B : Type 0} (f : B → A) → ((b : B) → P (f b)) → (l : List B) → Every P (map f l)
  every_made f h [] = tt
  every_made f h (b ∷ l) = (h b, every_made f h l)

  pub every_map : {B : Type 0} (Q : B → Type 0) (f : B → A) → ((b : B) → Q b → P (f b)) → (l : List B) → Every Q l → Every P (map f l)
  every_map Q f h [] e = tt
  every_map Q f h (b ∷ l) e = (h b e.0, every_map Q f h l e.1)

  -- at every index, if it also holds of what stands behind the last
  pub every_at : (d : A) → P d → (l : List A) → Every P l → (k : ℕ) → P (get_or l k d)
  every_at d p [] e k = p
  every_at d p (a ∷ l) e zero = e.0
  every_at d p (a ∷ l) e (suc k) = every_at d p l e.1 k

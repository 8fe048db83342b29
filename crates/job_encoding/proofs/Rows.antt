-- Laws of the records of a list: of two lists, and that a table given by its index is the list's.
use Prim.Native.Nat.{ℕ, zero, suc, ◌+◌}
use mathlib.Core.Path.{◌≡◌, refl, sym, ap, ◌∙◌}
use mathlib.Core.List.{List, [], ◌∷◌, ◌++◌, append-nil, append_assoc}
use lib.ListN.{length, get_or}
use Rattle.laws.specs.Listed.{concatenate}
use Rattle.job_encoding.specs.Encode.{rows}

-- the first part apart from the others
parts_first : (f : ℕ → List ℕ) (n : ℕ) → concatenate (suc n) f ≡ f 0 ++ concatenate n (λ k. f (suc k))
unfolding concatenate
parts_first f zero = sym (append-nil (f 0))
parts_first f (suc n) =
    ap (λ r. r ++ f (suc n)) (parts_first f n) ∙ append_assoc (f 0) (concatenate n (λ k. f (suc k))) (f (suc n))

module _ {A : Type 0} (f : A → List ℕ) where
  pub rows_append : (l m : List A) → rows f (l ++ m) ≡ rows f l ++ rows f m
  unfolding rows
  rows_append [] m = refl
  rows_append (a ∷ l) m = ap (λ r. f a ++ r) (rows_append l m) ∙ sym (append_assoc (f a) (rows f l) (rows f m))

  -- a table of as many records as a list has elements
  pub rows_parts : (d : A) (l : List A) → concatenate (length l) (λ k. f (get_or l k d)) ≡ rows f l
  unfolding rows concatenate
  rows_parts d [] = refl
  rows_parts d (a ∷ l) = parts_first (λ k. f (get_or (a ∷ l) k d)) (length l) ∙ ap (λ r. f a ++ r) (rows_parts d l)

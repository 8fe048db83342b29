-- Parts one after the other: from the first part on, their lengths, and a part for each element of a list.
use Prim.Native.Nat.{ℕ, zero, suc, ◌+◌, ◌<◌}
use mathlib.Core.Path.{◌≡◌, refl, sym, ap, ap₂, ◌∙◌}
use mathlib.Core.List.{List, [], ◌∷◌, ◌++◌, map, append-nil, append_assoc}
use native.Mathlib.Numerals.{add-one}
use native.Mathlib.Omega.{arith}
use lib.ListN.{length, get_or, length-append}
use Rattle.laws.specs.Listed.{tabulate}
use Rattle.job_notes.specs.Tables.{joined}

module _ {A : Type 0} where
  pub joined_more : (n : ℕ) (f : ℕ → List A) → joined (n + 1) f ≡ joined n f ++ f n
  unfolding joined
  joined_more n f = rw add-one

  pub length_joined : (n : ℕ) (f : ℕ → List A) → length (joined (n + 1) f) ≡ length (joined n f) + length (f n)
  length_joined n f = ap length (joined_more n f) ∙ length-append (joined n f) (f n)

  pub joined_first : (n : ℕ) (f : ℕ → List A) → joined (suc n) f ≡ f 0 ++ joined n (λ k. f (suc k))
  unfolding joined
  joined_first zero f = sym (append-nil (f 0))
  joined_first (suc n) f =
      ap (λ l. l ++ f (suc n)) (joined_first n f) ∙ append_assoc (f 0) (joined n (λ k. f (suc k))) (f (suc n))

  -- one element for each of a list
  pub joined_map :
      {X : Type 0} (d : X) (h : X → A) (xs : List X) (g : ℕ → A) → ((k : ℕ) → k < length xs → g k ≡ h (get_or xs k d))
      → joined (length xs) (λ k. g k ∷ []) ≡ map h xs
  unfolding joined
  joined_map d h [] g e = refl
  joined_map d h (x ∷ xs) g e =
      joined_first (length xs) (λ k. g k ∷ [])
      ∙ ap₂ {C = List A} (λ y ys. y ∷ ys) (e 0 (omega arith)) (joined_map d h xs (λ k. g (suc k)) (λ k l. e (suc k) (omega arith)))

pub tabulate_joined : (n : ℕ) (f : ℕ → ℕ) → tabulate n f ≡ joined n (λ k. f k ∷ [])
unfolding tabulate joined
tabulate_joined zero f = refl
tabulate_joined (suc n) f = ap (λ l. l ++ (f n ∷ [])) (tabulate_joined n f)

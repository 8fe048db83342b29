-- A search that has found nothing yet, and goes on: by one part more, to the pair found, to the end. What two loops find in a list is what is
-- found in the list of its pairs.
use Prim.Native.Nat.{ℕ, ◌+◌}
use mathlib.Core.Path.{◌≡◌, refl, sym, ap, ap₂, ◌∙◌}
use mathlib.Core.Bool.{Bool, true, false}
use mathlib.Core.List.{List, [], ◌∷◌, ◌++◌, map}
use mathlib.Core.Logic.{⊎_elim}
use native.Mathlib.Omega.{arith}
use Rattle.laws.proofs.Search.{either}
use Rattle.against.specs.declared.Search.{Search}
use Rattle.against.specs.Pairs.{Pair, pairs_of, up_to_first}
use Rattle.against.specs.Onward.{past, ◌onward◌, with_higher, through_pairs}

pub onward_start : (a : Search) → a ≡ past 0 onward a
unfolding ◌onward◌
onward_start a = let e : a.compared ≡ 0 + a.compared = omega arith in ap (λ (n : ℕ). record { compared = n; found = a.found }) e

pub onward_more : (n : ℕ) (a rest : Search) → a.found ≡ false → past n onward (a onward rest) ≡ past (n + a.compared) onward rest
unfolding ◌onward◌
onward_more n a rest t =
    rw t
    (let e : n + (a.compared + rest.compared) ≡ n + a.compared + rest.compared = omega arith in
    ap (λ (k : ℕ). record { compared = k; found = rest.found }) e)

pub onward_found :
    (n : ℕ) (a rest : Search) → a.found ≡ true → past n onward (a onward rest) ≡ record { compared = n + a.compared; found = true }
unfolding ◌onward◌
onward_found n a rest t = rw t

pub onward_end : (n : ℕ) → past n onward past 0 ≡ past n
unfolding ◌onward◌
onward_end n = let e : n + 0 ≡ n = omega arith in ap past e

onward_assoc : (a b c : Search) → (a onward b) onward c ≡ a onward (b onward c)
unfolding ◌onward◌
onward_assoc a b c =
    ⊎_elim
    (λ (t : a.found ≡ true). rw t)
    (λ (t : a.found ≡ false).
    ⊎_elim
    (λ (u : b.found ≡ true). rw (t, u))
    (λ (u : b.found ≡ false).
    rw (t, u)
    (let e : a.compared + b.compared + c.compared ≡ a.compared + (b.compared + c.compared) = omega arith in
    ap (λ (n : ℕ). record { compared = n; found = c.found }) e))
    (either b.found))
    (either a.found)

module _ (test : ℕ → ℕ → Bool) where
  -- one pair, then the others
  one_pair : (p : Pair) (ps : List Pair) → up_to_first test (p ∷ ps) ≡ record { compared = 1; found = test p.lower p.higher } onward up_to_first test ps
  unfolding up_to_first ◌onward◌
  one_pair p ps =
      ⊎_elim
      (λ (t : test p.lower p.higher ≡ true). rw t)
      (λ (t : test p.lower p.higher ≡ false). rw t)
      (either (test p.lower p.higher))

  pairs_append : (ps qs : List Pair) → up_to_first test (ps ++ qs) ≡ up_to_first test ps onward up_to_first test qs
  unfolding up_to_first
  pairs_append [] qs = onward_start (up_to_first test qs)
  pairs_append (p ∷ ps) qs =
      one_pair p (ps ++ qs) ∙ ap (λ (a : Search). record { compared = 1; found = test p.lower p.higher } onward a) (pairs_append ps qs)
      ∙ sym (onward_assoc _ (up_to_first test ps) (up_to_first test qs))
      ∙ ap (λ (a : Search). a onward up_to_first test qs) (sym (one_pair p ps))

  with_higher_lem : (e : ℕ) (fs : List ℕ) → up_to_first test (map (λ f. record { lower = e; higher = f }) fs) ≡ with_higher test e fs
  unfolding up_to_first with_higher
  with_higher_lem e [] = refl
  with_higher_lem e (f ∷ fs) =
      one_pair (record { lower = e; higher = f }) (map (λ g. record { lower = e; higher = g }) fs)
      ∙ ap (λ (a : Search). record { compared = 1; found = test e f } onward a) (with_higher_lem e fs)

  pub through_pairs_lem : (es : List ℕ) → up_to_first test (pairs_of es) ≡ through_pairs test es
  unfolding pairs_of up_to_first through_pairs
  through_pairs_lem [] = refl
  through_pairs_lem (e ∷ es) =
      pairs_append (map (λ f. record { lower = e; higher = f }) es) (pairs_of es) ∙ ap₂ ◌onward◌ (with_higher_lem e es) (through_pairs_lem es)

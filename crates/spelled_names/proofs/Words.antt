-- Comparing a part of a text with a word, byte by byte, and testing each byte of one, as the library's method does.
use Rattle.std.proofs.Common.{◌≡◌, ℕ, ◌+◌, ◌-◌, ◌≤◌, ◌<◌, Bool, true, false, List, length, get_or, refl, sym, ap, ◌∙◌}
use native.Mathlib.Omega.{arith}
use lib.Seq.{slice, length-slice, ext_get_or}
use Rattle.std.specs.List.{list_all}
use Rattle.std.proofs.lemmas.List.Folds.{list_all_at}
use Rattle.std.proofs.lemmas.List.Sums.{list_all-from_AllPass}
use Rattle.std.proofs.lemmas.List.Elements.{All-from_get_or}
use Rattle.laws.specs.Search.{all}
use Rattle.laws.proofs.Search.{contrary, all_intro, all_elim}
use Rattle.spelling.specs.Keywords.{same}
use Rattle.spelling.proofs.Same.{same_refl, same_eq}
use Rattle.spelling.proofs.Part.{part_at}

-- two words that differ in something are not the same
same_not : (w v : List ℕ) → (w ≡ v → ⊥) → same w v ≡ false
same_not w v f = go (same w v) refl
  where
    go : (b : Bool) → same w v ≡ b → same w v ≡ false
    go true e = absurd (f (same_eq w v e))
    go false e = e

module _ (text : List ℕ) (at end : ℕ) (word : List ℕ) (h : end ≤ length text) where
  pub same_longer : (end - at ≡ length word → ⊥) → false ≡ same (slice at end text) word
  same_longer f = sym (same_not _ _ (λ e. f (sym (length-slice at end text h) ∙ ap length e)))

  pub same_apart : (k : ℕ) → at + k < end → (get_or text (at + k) 0 ≡ get_or word k 0 → ⊥) → false ≡ same (slice at end text) word
  same_apart k l f = sym (same_not _ _ (λ e. f (sym (part_at text at end k l) ∙ ap (λ w. get_or w k 0) e)))

  pub same_all :
      at ≤ end → end - at ≡ length word → ((j : ℕ) → j < length word → get_or text (at + j) 0 ≡ get_or word j 0) →
      true ≡ same (slice at end text) word
  same_all a e f = sym (ap (λ w. same (slice at end text) w) (sym whole) ∙ same_refl (slice at end text))
    where
      whole : slice at end text ≡ word
      whole =
          ext_get_or 0 (slice at end text) word (length-slice at end text h ∙ e)
          (λ i l.
          let b : i < end - at = rw (length-slice at end text h) at l in
          let c : at + i < end = omega arith in
          part_at text at end i c ∙ f i (omega arith))

-- every byte passes where the library finds that each does
pub all_is : (p : ℕ → Bool) (w : List ℕ) → list_all p w ≡ all (length w) (λ k. p (get_or w k 0))
all_is p w = go (list_all p w) refl
  where
    each : list_all p w ≡ true → (k : ℕ) → k < length w → p (get_or w k 0) ≡ true
    each t k h = pass (p (get_or w k 0)) refl
      where
        pass : (b : Bool) → p (get_or w k 0) ≡ b → p (get_or w k 0) ≡ true
        pass true e = e
        pass false e = contrary t (list_all_at p w k 0 h e)

    none : list_all p w ≡ false → (b : Bool) → all (length w) (λ k. p (get_or w k 0)) ≡ b → false ≡ b
    none f true e = contrary (list_all-from_AllPass p w (All-from_get_or (λ x. p x ≡ true) w 0 (all_elim _ (length w) e))) f
    none f false e = refl

    go : (b : Bool) → list_all p w ≡ b → list_all p w ≡ all (length w) (λ k. p (get_or w k 0))
    go true t = t ∙ sym (all_intro _ (length w) (each t))
    go false f = f ∙ none f _ refl

-- One more note of a walk, and its end: how many records there are.
use Prim.Native.Nat.{ℕ, ◌+◌, ◌≤◌, ◌<◌}
use mathlib.Core.Path.{◌≡◌, sym, ap, ◌∙◌}
use mathlib.Core.Bool.{true, false, cond}
use mathlib.Core.List.{List, [], ◌∷◌}
use native.Mathlib.Numerals.{add-one}
use native.Mathlib.Omega.{arith}
use Rattle.laws.specs.Fold.{sum}
use lib.ListN.{length, get_or}
use lib.Seq.{slice, slice_empty, slice-cons}
use Rattle.notes.specs.Notes.{role_in}
use Rattle.job_notes.specs.Tables.{number_noted, leading_noted, length_noted}
use Rattle.job_from_notes.specs.declared.brought.Kind.{Kind}
use Rattle.job_from_notes.specs.Brought.{brings, within, count_noted, count_of_step}

-- the notes from a place on: the one there, and those behind it
pub slice_next : (l : List ℕ) (n k : ℕ) → k < n → n ≤ length l → slice k n l ≡ get_or l k 0 ∷ slice (k + 1) n l
slice_next l n k h w = slice-cons k n l 0 h w ∙ sym (ap (λ j. get_or l k 0 ∷ slice j n l) (add-one k))

pub slice_none : (l : List ℕ) (n k : ℕ) → n ≤ k → k ≤ n → slice k n l ≡ []
slice_none l n k h w = let q : k ≡ n = omega arith in rw q (slice_empty n l)

pub leading_there : (said : List ℕ) (k : ℕ) → k < length said → leading_noted (slice k (length said) said) ≡ number_noted (get_or said k 0)
unfolding leading_noted
leading_there said k h = rw (slice_next said (length said) k h (omega arith))

pub leading_not : (said : List ℕ) (k : ℕ) → length said ≤ k → k ≤ length said → leading_noted (slice k (length said) said) ≡ 0
unfolding leading_noted
leading_not said k h w = rw (slice_none said (length said) k h w)

-- how many records there are
module _ (kind : Kind) (duration : ℕ) where
  module _ (said : List ℕ) (k : ℕ) where
    pub count_more :
        k < length said → within kind (get_or said k 0) ≡ true
        → count_noted kind duration (slice k (length said) said)
        ≡ cond (brings kind duration (role_in (get_or said k 0))) 1 0 + count_noted kind duration (slice (k + 1) (length said) said)
    unfolding count_noted
    count_more h e = rw (slice_next said (length said) k h (omega arith), e)

    -- none from a note on that the walk ends before, and none behind the last
    pub count_over : k < length said → within kind (get_or said k 0) ≡ false → count_noted kind duration (slice k (length said) said) ≡ 0
    unfolding count_noted
    count_over h e = rw (slice_next said (length said) k h (omega arith), e)

    pub count_end : length said ≤ k → k ≤ length said → count_noted kind duration (slice k (length said) said) ≡ 0
    unfolding count_noted
    count_end h w = rw (slice_none said (length said) k h w)

-- one more step is counted
module _ (kind : Kind) (said plan acts : List ℕ) where
  pub planned_more :
      (s count : ℕ) {d r : ℕ} → count ≡ sum s (count_of_step kind said plan acts) → d ≡ length_noted plan s
      → r ≡ count_noted kind d (slice (get_or acts s 0) (length said) said)
      → count + r ≡ sum (s + 1) (count_of_step kind said plan acts)
  unfolding sum count_of_step
  planned_more s count e f g = rw add-one (rw (e, g, f))

-- The plan's lines, three notes each, and what they bring one after the other.
use Prim.Native.Nat.{ℕ, zero, suc, ◌+◌, ◌*◌, ◌<◌}
use mathlib.Core.Path.{◌≡◌, refl, ap, ap₂, ◌∙◌}
use mathlib.Core.List.{List, [], ◌∷◌, ◌++◌}
use native.Mathlib.Nat.{not-suc-le-zero, add-zero}
use native.Mathlib.Omega.{arith}
use lib.ListN.{length, get_or}
use Rattle.grammar.specs.Said.{Item}
use Rattle.notes.specs.Notes.{item_in, items_in}
use Rattle.supplied.specs.Plan.{Line, lines_of, behind}
use Rattle.supplied.specs.Records.{body, by_step}
use Rattle.supplied.specs.Job.{step_of}
use Rattle.job_notes.specs.Resolved.{no_line}
use Rattle.job_notes.specs.Tables.{joined, start_noted, length_noted, step_noted}
use Rattle.job_notes.proofs.Joined.{joined_first}
use Rattle.job_notes.proofs.Roles.{number_noted_lem}

module _ (text : List ℕ) where
  pub start_noted_lem :
      (ws : List ℕ) (s : ℕ) → s < length (lines_of (items_in text ws)) → (get_or (lines_of (items_in text ws)) s no_line).start ≡ start_noted ws s
  unfolding lines_of item_in start_noted
  start_noted_lem [] s h = absurd (not-suc-le-zero h)
  start_noted_lem (a ∷ []) s h = absurd (not-suc-le-zero h)
  start_noted_lem (a ∷ b ∷ []) s h = absurd (not-suc-le-zero h)
  start_noted_lem (a ∷ b ∷ c ∷ ws) zero h = number_noted_lem text a
  start_noted_lem (a ∷ b ∷ c ∷ ws) (suc s) h =
      let e : 3 * suc s ≡ suc (suc (suc (3 * s))) = omega arith in rw e (start_noted_lem ws s (omega arith))

  pub length_noted_lem :
      (ws : List ℕ) (s : ℕ) → s < length (lines_of (items_in text ws)) → (get_or (lines_of (items_in text ws)) s no_line).duration ≡ length_noted ws s
  unfolding lines_of item_in length_noted
  length_noted_lem [] s h = absurd (not-suc-le-zero h)
  length_noted_lem (a ∷ []) s h = absurd (not-suc-le-zero h)
  length_noted_lem (a ∷ b ∷ []) s h = absurd (not-suc-le-zero h)
  length_noted_lem (a ∷ b ∷ c ∷ ws) zero h = number_noted_lem text c
  length_noted_lem (a ∷ b ∷ c ∷ ws) (suc s) h =
      let e : 3 * suc s + 2 ≡ suc (suc (suc (3 * s + 2))) = omega arith in rw e (length_noted_lem ws s (omega arith))

  pub step_noted_lem :
      (ws : List ℕ) (s : ℕ) → s < length (lines_of (items_in text ws)) → step_noted ws s ≡ step_of (get_or (lines_of (items_in text ws)) s no_line)
  step_noted_lem ws s h = rw (start_noted_lem ws s h, length_noted_lem ws s h) refl

-- what a line brings, by the number of its step
pub by_step_lem :
    {A : Type 0} (f : ℕ → ℕ → List Item → List A) (is : List Item) (ls : List Line) (s : ℕ) (g : ℕ → List A)
    → ((k : ℕ) → k < length ls → g k ≡ f (s + k) (get_or ls k no_line).duration (body (behind (get_or ls k no_line).action is)))
    → joined (length ls) g ≡ by_step f is s ls
unfolding joined by_step
by_step_lem f is [] s g e = refl
by_step_lem f is (l ∷ ls) s g e =
    joined_first (length ls) g
    ∙ ap₂ ◌++◌
    (e 0 (omega arith) ∙ ap (λ i. f i l.duration (body (behind l.action is))) (add-zero s))
    (by_step_lem f is ls (suc s) (λ k. g (suc k)) (λ k h.
    e (suc k) (omega arith)
    ∙ ap (λ i. f i (get_or ls k no_line).duration (body (behind (get_or ls k no_line).action is))) (omega arith)))

-- The buffer afterwards: a refusal changes no byte; an accepted job stands at its front, and past it every byte stays.
use Prim.Native.Nat.{ℕ, ◌≤◌}
use mathlib.Core.Path.{◌≡◌, refl, ap, ◌∙◌}
use mathlib.Core.List.{List, ◌++◌}
use native.Mathlib.Nat.{zero-add}
use lib.ListN.{length, take, drop}
use lib.Seq.{sets, sets-eq, take-append_seam, drop-append_seam}
use Rattle.std.specs.Prelude.{Ok, Err}
use Rattle.texts_answer.specs.Answer.{TextsAnswer, number}
use Rattle.texts_answer.specs.FromTexts.{written}

pub refusal_keeps : (r : TextsAnswer) (job out : List ℕ) → (number r ≡ 0 → ⊥) → written r job out ≡ out
unfolding written
refusal_keeps (Ok n) job out h = absurd (h refl)
refusal_keeps (Err r) job out h = refl

module _ (job out : List ℕ) (h : length job ≤ length out) where
  front : sets out 0 job ≡ job ++ drop (length job) out
  front = sets-eq job out 0 (rw (zero-add (length job)) h) ∙ rw (zero-add (length job))

  pub job_stands : (n : ℕ) → take (length job) (written (Ok n) job out) ≡ job
  unfolding written
  job_stands n = ap (take (length job)) front ∙ take-append_seam job (drop (length job) out)

  pub rest_stays : (n : ℕ) → drop (length job) (written (Ok n) job out) ≡ drop (length job) out
  unfolding written
  rest_stays n = ap (drop (length job)) front ∙ drop-append_seam job (drop (length job) out)

-- What is answered once a job is checked, and the buffer then.
use Prim.Native.Nat.{ℕ, ◌≤◌, ◌<◌}
use mathlib.Core.Path.{◌≡◌, refl, sym, ap, ◌∙◌}
use mathlib.Core.List.{List, ◌++◌}
use native.Mathlib.Nat.{zero-add}
use borrow.Author.Tests.{le-leb, lt-leb}
use lib.ListN.{length, take, drop}
use lib.Seq.{sets-eq, take-length}
use Rattle.std.specs.Prelude.{Result, Ok, Err}
use Rattle.std.specs.Result.{IsErrAnd}
use Rattle.std.proofs.lemmas.Result.{err_from_is_err_and}
use Rattle.texts_answer.specs.declared.TextsRefusal.{TextsRefusal}
use Rattle.verdict.specs.declared.Refusal.{Refusal}
use Rattle.verdict.specs.Verdict.{Accepted}
use Rattle.validity.specs.Checks.{job_check}
use Rattle.texts_answer.specs.declared.TextsRefusal.TheVariants.{Refused, BufferTooShort}
use Rattle.texts_answer.specs.FromTexts.{checked, written}

-- what `?` hands back of a check that refuses
pub handed : {A : Type 0} (result : Result A TextsRefusal) {r : Refusal} → IsErrAnd result (λ x. x ≡ Refused r) → result ≡ Err (Refused r)
handed result e = let p = err_from_is_err_and result e in p.1 ∙ ap (λ x. Err x) p.2

module _ (job out : List ℕ) where
  pub refuses : {r : Refusal} → Err r ≡ job_check job → (Err (Refused r) ≡ checked job (length out)) × (out ≡ written (Err (Refused r)) job out)
  unfolding checked written
  refuses e = (rw (sym e) refl, refl)

  pub too_short :
      Accepted ≡ job_check job → length out < length job
      → (Err BufferTooShort ≡ checked job (length out)) × (out ≡ written (Err BufferTooShort) job out)
  unfolding checked written
  too_short e l = (rw (sym e, lt-leb (length job) (length out) l), refl)

  pub makes :
      {after : List ℕ} (n : ℕ) → Accepted ≡ job_check job → length job ≤ length out → n ≡ length job
      → after ≡ take (length job) job ++ drop (length job) out
      → (Ok n ≡ checked job (length out)) × (after ≡ written (Ok n) job out)
  unfolding checked written
  makes n e l p q = (
    rw (p, sym e, le-leb (length job) (length out) l),
    q ∙ ap (λ k. k ++ drop (length job) out) (take-length job)
        ∙ sym (sets-eq job out 0 (rw (zero-add (length job)) l) ∙ rw (zero-add (length job))),
  )

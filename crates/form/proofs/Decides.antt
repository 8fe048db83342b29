-- What refusals 1 to 6 leave of the form check to refusals 7 and 17.
use Prim.Native.Nat.{ℕ}
use mathlib.Core.Path.{◌≡◌, sym, ap, ◌∙◌}
use mathlib.Core.List.{List}
use Rattle.std.specs.Prelude.{Ok, Err}
use Rattle.record_check.specs.declared.RefusedFile.{RefusedFile}
use Rattle.verdict.specs.Verdict.{Verdict, number, ◌then◌}
use Rattle.verdict.proofs.Chain.{refusal_nonzero, then_accepted, first_refused}
use Rattle.job.specs.declared.layout.Job.{Job}
use Rattle.job.specs.Model.{view, model_of}
use Rattle.header_check.specs.Header.{header_check}
use Rattle.record_check.specs.Records.{record_check, RecordsPromise}
use Rattle.against.specs.Against.{step_check}
use Rattle.against.specs.Clock.{timed_check}
use Rattle.form.specs.Refusals.{form_check}

-- refusals 1 to 6 pass, so refusals 7 and 17 decide; or one of them stands
module _ (s : List ℕ) where
  pub records_passed :
      number (header_check s then record_check (model_of s)) ≡ 0 → (step_check (model_of s) then timed_check (model_of s)) ≡ form_check s
  unfolding form_check
  records_passed z = ap (λ (v : Verdict). v then timed_check (model_of s)) (then_accepted _ _ z)

  pub records_refused : (number (header_check s then record_check (model_of s)) ≡ 0 → ⊥) → (header_check s then record_check (model_of s)) ≡ form_check s
  unfolding form_check
  records_refused = first_refused _ _ _

-- the same of records that were read: the verdict of the form check with and without refusals 7 and 17
pub read_refused : {s : List ℕ} {x : RefusedFile} → RecordsPromise s (Err x) → Err x.refusal ≡ form_check s
read_refused {s} {x} p = p.verdict ∙ records_refused s (λ z. refusal_nonzero x.refusal (ap number p.verdict ∙ z))

pub read_passed : {s : List ℕ} {job : Job} → RecordsPromise s (Ok job) → (step_check (view job s) then timed_check (view job s)) ≡ form_check s
read_passed {s} p = ap (λ (j : Job). step_check (view j s) then timed_check (view j s)) p.job ∙ records_passed s (sym (ap number p.verdict))

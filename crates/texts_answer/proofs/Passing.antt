-- What an answer that accepts stands on: both texts are read, no line differs, and the job is counted, checked and finds room.
use Prim.Native.Nat.{ℕ, ◌≤◌}
use mathlib.Core.Path.{◌≡◌, refl, sym, ap, ◌∙◌}
use mathlib.Core.Bool.{Bool, true, false, cond}
use mathlib.Core.List.{List, [], ◌∷◌}
use mathlib.Core.Logic.{◌⊎◌, inl, inr}
use native.Mathlib.Omega.{arith}
use borrow.Author.Tests.{eqb-true, eqb-false, eq-eqb, leb-true}
use lib.Dec.{eqb, leb}
use lib.ListN.{length}
use Rattle.std.specs.Prelude.{Ok, Err}
use Rattle.verdict.specs.Verdict as verdict
use Rattle.verdict.specs.Verdict.{Verdict}
use Rattle.verdict.proofs.Chain.{refusal_nonzero, number_zero}
use Rattle.verdict.specs.declared.Refusal.TheVariants.{CountTooHigh}
use Rattle.grammar.specs.Said.{Item}
use Rattle.grammar.specs.Reader.{Outcome, read, refused}
use Rattle.job.specs.Layout.{count_too_high}
use Rattle.job.specs.Model.{Model}
use Rattle.job_encoding.specs.Encode.{counts_in, encode}
use Rattle.validity.specs.Checks.{job_check}
use Rattle.supplied.specs.Plan.{Line, lines_of, differs}
use Rattle.supplied.specs.Job.{supplied_job}
use Rattle.texts_answer.specs.declared.TextsRefusal.TheVariants.{ActionsOutside, ActionsTooDeep, PlanDiffers, Refused, BufferTooShort}
use Rattle.texts_answer.specs.Answer.{TextsAnswer, number}
use Rattle.texts_answer.specs.FromTexts.{job_bytes, unless_refused, checked, counted, lined, plan_answer, texts_answer}
use Rattle.texts_answer.specs.Promise.{Matching}

-- a job that the check passes and that finds room
pub record Fitting (job : List ℕ) (room : ℕ) : Type 0 where
  pub passes : verdict.number (job_check job) ≡ 0
  pub fits : length job ≤ room
  pub answers : checked job room ≡ Ok (length job)

checked_passes : (job : List ℕ) (room : ℕ) → number (checked job room) ≡ 0 → Fitting job room
unfolding checked
checked_passes job room = go (job_check job) (leb (length job) room) refl refl
  where
    go :
        (v : Verdict) (b : Bool) → job_check job ≡ v → leb (length job) room ≡ b
        → number (unless_refused v (cond b (Ok (length job)) (Err BufferTooShort))) ≡ 0 → Fitting job room
    go (Ok _) true p q e = record { passes = ap verdict.number p; fits = leb-true (length job) room q; answers = rw (p, q) }
    go (Ok _) false p q e = absurd (omega (arith, e))
    go (Err r) b p q e = absurd (refusal_nonzero r e)

counted_passes :
    (m : Model) (room : ℕ) → number (counted m room) ≡ 0
    → (count_too_high (counts_in m) ≡ false) × (counted m room ≡ checked (encode 1 m) room)
unfolding counted
counted_passes m room = go (count_too_high (counts_in m))
  where
    go :
        (b : Bool) → number (cond b (Err (Refused CountTooHigh)) (checked (encode 1 m) room)) ≡ 0
        → (b ≡ false) × (cond b (Err (Refused CountTooHigh)) (checked (encode 1 m) room) ≡ checked (encode 1 m) room)
    go true e = absurd (omega (arith, e))
    go false e = (refl, refl)

same_line : (b : Bool) (line : ℕ) (a : TextsAnswer) → number (cond b (Err (PlanDiffers line)) a) ≡ 0 → b ≡ false
same_line true line a e = absurd (omega (arith, e))
same_line false line a e = refl

lined_passes : (is : List Item) (ls : List Line) (a : TextsAnswer) → number (lined is ls a) ≡ 0 → Matching is ls × (lined is ls a ≡ a)
unfolding lined
lined_passes is [] a e = (tt, refl)
lined_passes is (l ∷ ls) a e =
    let d = same_line (differs is l) l.line (lined is ls a) e in
    let r = lined_passes is ls a (rw d at e) in
    ((d, r.0), rw d r.1)

-- where no line differs, the rest decides
matching_lined : (is : List Item) (ls : List Line) (a : TextsAnswer) → Matching is ls → lined is ls a ≡ a
unfolding lined
matching_lined is [] a h = refl
matching_lined is (l ∷ ls) a h = rw h.0 (matching_lined is ls a h.1)

pub record Passed (o p : Outcome) (room : ℕ) : Type 0 where
  pub is : List Item
  pub plan : List Item
  pub reads : o ≡ read is
  pub reads_plan : p ≡ read plan
  pub matches : Matching is (lines_of plan)
  pub counts : count_too_high (counts_in (supplied_job is plan)) ≡ false
  pub passes : verdict.number (job_check (job_bytes is plan)) ≡ 0
  pub fits : length (job_bytes is plan) ≤ room
  pub answers : texts_answer o p room ≡ Ok (length (job_bytes is plan))

no_refusal : (n line : ℕ) → number (cond (eqb n 19) (Err (ActionsTooDeep line)) (Err (ActionsOutside line))) ≡ 0 → ⊥
no_refusal n line = go (eqb n 19)
  where
    go : (b : Bool) → number (cond b (Err (ActionsTooDeep line)) (Err (ActionsOutside line))) ≡ 0 → ⊥
    go true e = omega (arith, e)
    go false e = omega (arith, e)

pub passed : (o p : Outcome) (room : ℕ) → number (texts_answer o p room) ≡ 0 → Passed o p room
unfolding texts_answer plan_answer job_bytes
passed (refused n line said) p room e = absurd (no_refusal n line e)
passed (read is) (refused n line said) room e = absurd (omega (arith, e))
passed (read is) (read plan) room e =
    let m = supplied_job is plan in
    let l = lined_passes is (lines_of plan) (counted m room) e in
    let c = counted_passes m room (ap number (sym l.1) ∙ e) in
    let f = checked_passes (encode 1 m) room (ap number (sym c.1) ∙ ap number (sym l.1) ∙ e) in
    record {
      is = is;
      plan = plan;
      reads = refl;
      reads_plan = refl;
      matches = l.0;
      counts = c.0;
      passes = f.passes;
      fits = f.fits;
      answers = l.1 ∙ c.1 ∙ f.answers;
    }

-- where both are read, no line differs, and the counts and the check pass, only room can lack
pub accepted_or_short :
    (is plan : List Item) (room : ℕ) → Matching is (lines_of plan) → count_too_high (counts_in (supplied_job is plan)) ≡ false
    → verdict.number (job_check (job_bytes is plan)) ≡ 0
    → (number (texts_answer (read is) (read plan) room) ≡ 0) ⊎ (texts_answer (read is) (read plan) room ≡ Err BufferTooShort)
unfolding texts_answer plan_answer counted checked job_bytes
accepted_or_short is plan room h c z =
    let m = supplied_job is plan in
    let b = leb (length (encode 1 m)) room in
    let e : texts_answer (read is) (read plan) room ≡ cond b (Ok (length (encode 1 m))) (Err BufferTooShort) =
    matching_lined is (lines_of plan) (counted m room) h ∙ rw (c, number_zero (job_check (encode 1 m)) z) in
    rw e (either b (length (encode 1 m)))
  where
    either : (b : Bool) (n : ℕ) → (number (cond b (Ok n) (Err BufferTooShort)) ≡ 0) ⊎ (cond b (Ok n) (Err BufferTooShort) ≡ Err BufferTooShort)
    either true n = inl refl
    either false n = inr refl

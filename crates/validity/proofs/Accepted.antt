-- Accepted exactly if sound, and refused only for what the number and the place say.
use Prim.Native.Nat.{ℕ, ◌≤◌, ◌<◌}
use mathlib.Core.Path.{◌≡◌, sym, ap, subst, ◌∙◌}
use mathlib.Core.Bool.{not}
use mathlib.Core.List.{List}
use mathlib.Core.Logic.{◌⊎◌, inl, inr, ⊎_elim}
use native.Mathlib.Decide.{ℕ_discrete}
use native.Mathlib.Omega.{arith}
use borrow.Author.Tests.{eqb-true, eq-eqb, not-false}
use lib.Dec.{eqb}
use lib.ListN.{length}
use Rattle.laws.proofs.Listed.{get_d_tabulate}
use Rattle.verdict.specs.declared.Refusal.TheVariants.{StartsMiscounted}
use Rattle.verdict.specs.Verdict.{Verdict, number, place, ◌then◌}
use Rattle.job.specs.Model.{Model, model_of}
use Rattle.job.specs.Clocked.{clocked, ClockedForm}
use Rattle.job.proofs.Clocked.{clocked_form}
use Rattle.verdict.proofs.Chain.{then_refused, then_accepted, then_zero, refuse_zero, zero_then, zero_refuse, zero_lowest}
use Rattle.verdict.proofs.Unplaced.{unplaced}
use Rattle.form.specs.Refusals.{form_check}
use Rattle.form.specs.Refused.{FormRefusal, FormNumber}
use Rattle.form.proofs.WellFormed.{well_formed_lem}
use Rattle.form.proofs.Refused.{form_most, form_refusal}
use Rattle.validity.specs.declared.Rule.{Rule}
use Rattle.validity.specs.declared.Rule.TheVariants.{FixedSteps, Effects, Conditions, Levels, Needs, Goals}
use Rattle.validity.specs.Ticks.{schedule_of, planned}
use Rattle.validity.specs.Valid.{Valid}
use Rattle.validity.specs.Checks.{broken, count_under, refusal_of, rule_check, timing_check, job_check, count_check, starts_check, schedule_check}
use Rattle.validity.specs.Refused.{rule_number, FirstViolation, UnderItsSentence}
use Rattle.validity.specs.Promise.{JobPromise, SchedulePromise}
use Rattle.validity.proofs.Kept.{kept_valid, valid_kept, keeps_unbroken, not_both}
use Rattle.validity.proofs.Refused.{CheckedTo, From, from_nine, not_timed, rules, turn_below, timing_checked, starts_checked}
use Rattle.validity.proofs.Refused.{timing_from, count_from, starts_from}
use Rattle.validity.proofs.Clock.{names_step}

module _ (m : Model) (x : ℕ → ℕ) where
  -- what has passed every check keeps every rule
  passed_valid : {v : Verdict} → CheckedTo m x rules v → number v ≡ 0 → Valid m x
  passed_valid c z = kept_valid m x (λ rule. c.kept z rule (turn_below rule))

  -- a rule accepts what keeps it
  rule_accepts : ClockedForm m → Valid m x → (rule : Rule) → number (rule_check m x rule) ≡ 0
  unfolding rule_check
  rule_accepts w v rule =
      zero_lowest (count_under m rule) (broken m x rule) (refusal_of rule)
      (λ k h. keeps_unbroken m x w (valid_kept m x v Effects) rule k h (valid_kept m x v rule k h))

  -- and so a sound timing passes refusals 10 to 13 and 21
  valid_accepted : ClockedForm m → Valid m x → number (timing_check m x) ≡ 0
  unfolding timing_check
  valid_accepted w v =
      zero_then _ _
      (zero_then _ _
      (zero_then _ _ (zero_then _ _ (rule_accepts w v Effects) (rule_accepts w v Conditions)) (rule_accepts w v Levels))
      (rule_accepts w v Needs))
      (rule_accepts w v Goals)

-- a file's form and then its timing t: the verdict is under its sentence
module _ (s : List ℕ) (x : ℕ → ℕ) (t : Verdict) {r : Verdict} (e : r ≡ (form_check s then t)) where
  abbrev M : Model
  M = clocked (model_of s)

  -- what the form check refuses stands; else the timing decides
  form_stands : (number (form_check s) ≡ 0 → ⊥) → r ≡ form_check s
  form_stands h = e ∙ sym (then_refused (form_check s) t h)

  timing_decides : number (form_check s) ≡ 0 → r ≡ t
  timing_decides z = e ∙ sym (then_accepted (form_check s) t z)

  -- a number of the form check is no other check's
  form_only : (number (form_check s) ≡ 0 → ⊥) → 7 < number r → (number r ≡ 17 → ⊥) → ⊥
  form_only z l n =
      let q = ap number (form_stands z) in
      ⊎_elim (λ (a : number (form_check s) ≤ 7). omega (arith, q)) (λ (a : number (form_check s) ≡ 17). n (q ∙ a)) (form_most s)

  -- the timing's verdict, where the form passes
  module _ (from : From 8 t) (c : number (form_check s) ≡ 0 → CheckedTo M x rules t) where
    checked : number (form_check s) ≡ 0 → CheckedTo M x rules r
    checked z = subst (CheckedTo M x rules) (sym (timing_decides z)) (c z)

    named : (rule : Rule) → number r ≡ rule_number rule → FirstViolation M x rule (place r)
    named rule q =
        elim (ℕ_discrete (number (form_check s)) 0) [
          | yes z ↦ (checked z).named rule q
          | no z ↦ absurd (form_only z (omega (arith, (from_nine rule).0)) (λ y. not_timed rule (sym q ∙ y)))
        ]

    -- a timing is never refused with 17
    never_timed : number (form_check s) ≡ 0 → number r ≡ 17 → ⊥
    never_timed z y =
        ⊎_elim
        (λ (l : number r ≤ 8). omega arith)
        (λ (b : (rule : Rule) × (number r ≡ rule_number rule)). not_timed b.0 (sym b.1 ∙ y))
        (checked z).only

    form_says : (number r ≡ 0 → ⊥) → FormNumber (number r) → (r ≡ form_check s) × FormRefusal s r
    form_says n l =
        elim (ℕ_discrete (number (form_check s)) 0) [
          | yes z ↦
              let q = ap number (timing_decides z) in
              let b = from (λ y. n (q ∙ y)) in
              absurd (⊎_elim (λ (y : number r ≤ 7). omega (arith, q)) (λ (y : number r ≡ 17). never_timed z y) l)
          | no z ↦ (form_stands z, form_refusal s (form_stands z))
        ]

    most : (number r ≤ 13) ⊎ ((number r ≡ 17) ⊎ (number r ≡ 21))
    most =
        elim (ℕ_discrete (number (form_check s)) 0) [
          | yes z ↦
              ⊎_elim
              (λ (l : number r ≤ 8). inl (omega arith))
              (λ (b : (rule : Rule) × (number r ≡ rule_number rule)).
              ⊎_elim
              (λ (l : rule_number b.0 ≤ 13). inl (omega (arith, b.1)))
              (λ (q : rule_number b.0 ≡ 21). inr (inr (b.1 ∙ q)))
              (from_nine b.0).1)
              (checked z).only
          | no z ↦
              let q = ap number (form_stands z) in
              ⊎_elim (λ (a : number (form_check s) ≤ 7). inl (omega (arith, q))) (λ (a : number (form_check s) ≡ 17). inr (inl (q ∙ a))) (form_most s)
        ]

    under_its_sentence : UnderItsSentence s x r
    under_its_sentence =
        record {
          form = form_says;
          well_formed = λ l n.
              elim (ℕ_discrete (number (form_check s)) 0) [
                | yes z ↦ well_formed_lem s z
                | no z ↦ absurd (form_only z l n)
              ];
          first = named;
          of_step = λ q. names_step (model_of s) x (place r) (named Effects q);
          unsound = λ l n v.
              elim (ℕ_discrete (number (form_check s)) 0) [
                | yes z ↦
                    ⊎_elim
                    (λ (b : number r ≤ 8). omega arith)
                    (λ (b : (rule : Rule) × (number r ≡ rule_number rule)).
                    let f = named b.0 b.1 in not_both M x b.0 _ f.violates (valid_kept M x v b.0 _ f.counted))
                    (checked z).only
                | no z ↦ form_only z (omega arith) n
              ];
          unplaced = unplaced r;
          most = most;
        }

-- the job check, on the written starts
pub job_promise : (s : List ℕ) {r : Verdict} → r ≡ job_check s → JobPromise s r
unfolding job_check
job_promise s {r} e =
    let m = clocked (model_of s) in
    let x = planned m in
    let t = timing_check m x in
    let c : number (form_check s) ≡ 0 → CheckedTo m x rules t = λ z.
    timing_checked m x (clocked_form (model_of s) (well_formed_lem s z)) (λ k h _. get_d_tabulate m.start m.steps k 0 h)
    in
    record {
      answer = e;
      sound = λ z.
          let b = then_zero _ _ (sym (ap number e) ∙ z) in
          record { form = b.0; well_formed = well_formed_lem s b.0; valid = passed_valid m x (c b.0) b.1 };
      complete = λ h. ap number e ∙ zero_then _ _ h.form (valid_accepted m x (clocked_form (model_of s) h.well_formed) h.valid);
      refused = under_its_sentence s x t e (λ z. omega (arith, timing_from m x z)) c;
      starts_pass = λ l.
          elim (ℕ_discrete (number (form_check s)) 0) [
            | yes z ↦
                let q = timing_decides s x t e z in
                omega (arith, ap number q, timing_from m x (λ y. omega (arith, ap number q)))
            | no z ↦
                let q = ap number (form_stands s x t e z) in
                ⊎_elim (λ (a : number (form_check s) ≤ 7). absurd (omega (arith, q))) (λ (a : number (form_check s) ≡ 17). omega (arith, q)) (form_most s)
          ];
    }

-- the timing check, on any list of starts
pub schedule_promise : (s starts : List ℕ) {r : Verdict} → r ≡ schedule_check s starts → SchedulePromise s starts r
unfolding schedule_check starts_check count_check
schedule_promise s starts {r} e =
    let m = clocked (model_of s) in
    let x : ℕ → ℕ = schedule_of starts in
    let t = starts_check m starts in
    let c : number (form_check s) ≡ 0 → CheckedTo m x rules t = λ z. starts_checked m (clocked_form (model_of s) (well_formed_lem s z)) starts in
    record {
      answer = e;
      one_each = λ z.
          let b = then_zero _ _ (then_zero _ _ (then_zero _ _ (sym (ap number e) ∙ z)).1).0 in
          eqb-true _ _ (not-false _ (refuse_zero _ _ b.0));
      sound = λ z.
          let b = then_zero _ _ (sym (ap number e) ∙ z) in
          record { form = b.0; well_formed = well_formed_lem s b.0; valid = passed_valid m x (c b.0) b.1 };
      complete = λ n h.
          let w = clocked_form (model_of s) h.well_formed in
          ap number e
          ∙ zero_then _ _ h.form
          (zero_then _ _
          (zero_then _ _ (zero_refuse _ _ (ap not (eq-eqb _ _ n))) (rule_accepts m x w h.valid FixedSteps))
          (valid_accepted m x w h.valid));
      refused = under_its_sentence s x t e (starts_from m starts 8 (omega arith) (count_from m starts)) c;
      miscounted = λ q n.
          elim (ℕ_discrete (number (form_check s)) 0) [
            | yes z ↦
                let d = ap number (timing_decides s x t e z) in
                let counted = zero_refuse (not (eqb (length starts) m.steps)) StartsMiscounted (ap not (eq-eqb _ _ n)) in
                omega (arith, d, starts_from m starts 9 (omega arith) (λ y. absurd (y counted)) (λ y. omega (arith, d)))
            | no z ↦
                let d = ap number (form_stands s x t e z) in
                ⊎_elim (λ (a : number (form_check s) ≤ 7). omega (arith, d)) (λ (a : number (form_check s) ≡ 17). omega (arith, d)) (form_most s)
          ];
    }

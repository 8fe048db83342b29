-- The answer to two texts keeps what is promised of them.
use Prim.Native.Nat.{ℕ, ◌≤◌}
use mathlib.Core.Path.{◌≡◌, refl, sym, ap, ap₂, subst, ◌∙◌}
use mathlib.Core.Bool.{false}
use mathlib.Core.List.{List, [], ◌∷◌}
use mathlib.Core.Logic.{◌⊎◌}
use native.Mathlib.Decide.{ℕ_discrete}
use lib.ListN.{length, take, drop}
use Rattle.spelling.specs.Tokens.{text_most}
use Rattle.std.specs.Prelude.{Ok, Err}
use Rattle.verdict.specs.Verdict as verdict
use Rattle.grammar.specs.Said.{Said, Item, on_line, said_of}
use Rattle.grammar.specs.Tree.{Text, Plan}
use Rattle.grammar.specs.Saying.{text_says, plan_says}
use Rattle.grammar.specs.Allowed.{depth_most}
use Rattle.grammar.specs.Reading.{action_reading, plan_reading}
use Rattle.grammar.proofs.Demanded.{action_demands, plan_demands}
use Rattle.grammar.proofs.Placed.{places}
use Rattle.job.specs.Layout.{count_too_high}
use Rattle.job.specs.Model.{Model, model_of}
use Rattle.job_encoding.specs.Encode.{counts_in, encode}
use Rattle.job_encoding.specs.Fits.{Fits}
use Rattle.job_encoding.specs.Agree.{Agree}
use Rattle.job_encoding.proofs.RoundTrip.{edition_back, round_trip}
use Rattle.validity.specs.Checks.{job_check}
use Rattle.validity.proofs.Accepted.{job_promise}
use Rattle.supplied.specs.Plan.{lines_of}
use Rattle.supplied.specs.Job.{supplied_job}
use Rattle.supplied.specs.Small.{Small}
use Rattle.supplied.specs.Clash.{NoClash}
use Rattle.supplied.proofs.Numbering.{numbering}
use Rattle.supplied.proofs.Clash.{names_promise}
use Rattle.supplied.proofs.Fits.{fits}
use Rattle.texts_answer.specs.declared.TextsRefusal.TheVariants.{BufferTooShort}
use Rattle.texts_answer.specs.Answer.{TextsAnswer, number, length_of}
use Rattle.texts_answer.specs.FromTexts.{actions_read, job_bytes, answer_to, bytes_of, written, buffer_after}
use Rattle.texts_answer.specs.Derived.{derived_job}
use Rattle.texts_answer.specs.Promise.{Matching, Derives, JobOfTexts, TextsPromise}
use Rattle.texts_answer.proofs.Unplaced.{job_bare, matches_bare, matches_placed}
use Rattle.texts_answer.proofs.Small.{SmallSaid, small_text, small_plan}
use Rattle.texts_answer.proofs.Passing.{Passed, passed, accepted_or_short}
use Rattle.texts_answer.proofs.Kept.{refusal_keeps, job_stands, rest_stays}

small_items : (is : List Item) → SmallSaid (said_of is) → Small is
unfolding said_of
small_items [] h = tt
small_items (i ∷ is) h = (h.0, small_items is h.1)

-- what trees say is what was read, so they describe the job of what was read
module _ (t : Text) (p : Plan) (is ps : List Item) (a : said_of is ≡ text_says t) (b : said_of ps ≡ plan_says p) where
  derived_job_lem : derived_job t p ≡ supplied_job is ps
  unfolding derived_job
  derived_job_lem = ap₂ (λ (x y : List Said). supplied_job (on_line 0 x) (on_line 0 y)) (sym a) (sym b) ∙ job_bare is ps

  said_matches : Matching is (lines_of ps) → Matching (on_line 0 (text_says t)) (lines_of (on_line 0 (plan_says p)))
  said_matches h =
      subst (λ (y : List Said). Matching (on_line 0 (text_says t)) (lines_of (on_line 0 y))) b
      (subst (λ (x : List Said). Matching (on_line 0 x) (lines_of (on_line 0 (said_of ps)))) a (matches_bare is ps h))

  matches_said : Matching (on_line 0 (text_says t)) (lines_of (on_line 0 (plan_says p))) → Matching is (lines_of ps)
  matches_said h =
      matches_placed is ps
      (subst (λ (y : List Said). Matching (on_line 0 (said_of is)) (lines_of (on_line 0 y))) (sym b)
      (subst (λ (x : List Said). Matching (on_line 0 x) (lines_of (on_line 0 (plan_says p)))) (sym a) h))

module _ (actions plan : List ℕ) where
  -- the bytes that are accepted are the job of the texts
  job_of_texts : {room : ℕ} (k : Passed (actions_read actions) (plan_reading plan) room) → JobOfTexts actions plan (job_bytes k.is k.plan)
  unfolding actions_read job_bytes
  job_of_texts k =
      let n = (names_promise (action_reading actions)).reads k.is k.reads in
      let x = (action_demands actions).only k.is n.0 in
      let y = (plan_demands plan).only k.plan k.reads_plan in
      let small = small_items k.is (subst SmallSaid (sym x.2) (small_text depth_most x.0 x.1.ok)) in
      let smallPlan = small_items k.plan (subst SmallSaid (sym y.2) (small_plan y.0 y.1.ok)) in
      let m = supplied_job k.is k.plan in
      let w : Fits 1 m = fits k.is k.plan small smallPlan k.counts in
      record {
        text = x.0;
        lines = y.0;
        derives =
            record {
              writes = x.1;
              writes_plan = y.1;
              names = subst NoClash x.2 n.1;
              matches = said_matches x.0 y.0 k.is k.plan x.2 y.2 k.matches;
            };
        edition = edition_back 1 m w;
        holds = subst (Agree (model_of (encode 1 m))) (sym (derived_job_lem x.0 y.0 k.is k.plan x.2 y.2)) (round_trip 1 m w);
        sound = (job_promise (encode 1 m) refl).sound k.passes;
      }

  one_job : (t u : Text) (p q : Plan) → Derives t p actions plan → Derives u q actions plan → derived_job t p ≡ derived_job u q
  unfolding derived_job
  one_job t u p q d e =
      ap₂ (λ (x y : List Said). supplied_job (on_line 0 x) (on_line 0 y))
      ((action_demands actions).one t u d.writes e.writes)
      ((plan_demands plan).one p q d.writes_plan e.writes_plan)

  accepted :
      (room : ℕ) → length actions ≤ text_most → length plan ≤ text_most → (t : Text) (p : Plan) → Derives t p actions plan
      → count_too_high (counts_in (derived_job t p)) ≡ false → verdict.number (job_check (encode 1 (derived_job t p))) ≡ 0
      → (number (answer_to actions plan room) ≡ 0) ⊎ (answer_to actions plan room ≡ Err BufferTooShort)
  unfolding answer_to actions_read job_bytes
  accepted room h g t p d c z =
      let x = (action_demands actions).every h t d.writes in
      let y = (plan_demands plan).every g p d.writes_plan in
      let e = (names_promise (action_reading actions)).kept x.0 x.1 (subst NoClash (sym x.2) d.names) in
      let j = derived_job_lem t p x.0 y.0 x.2 y.2 in
      rw (e, y.1)
      (accepted_or_short x.0 y.0 room (matches_said t p x.0 y.0 x.2 y.2 d.matches)
      (sym (ap (λ (m : Model). count_too_high (counts_in m)) j) ∙ c)
      (sym (ap (λ (m : Model). verdict.number (job_check (encode 1 m))) j) ∙ z))

-- an accepted job stands at the front of the buffer, and past it every byte stays
module _ (actions plan before : List ℕ) (k : Passed (actions_read actions) (plan_reading plan) (length before)) where
  abbrev job : List ℕ
  job = job_bytes k.is k.plan

  made_answer : answer_to actions plan (length before) ≡ Ok (length job)
  unfolding answer_to
  made_answer = k.answers

  made_buffer : buffer_after actions plan before ≡ written (Ok (length job)) job before
  unfolding buffer_after bytes_of
  made_buffer =
      ap₂ (λ (r : TextsAnswer) (s : List ℕ). written r s before) made_answer (ap₂ bytes_of k.reads k.reads_plan)

  made_front : take (length_of (answer_to actions plan (length before))) (buffer_after actions plan before) ≡ job
  made_front =
      ap₂ (λ (r : TextsAnswer) (s : List ℕ). take (length_of r) s) made_answer made_buffer ∙ job_stands job before k.fits (length job)

  made_rest :
      drop (length_of (answer_to actions plan (length before))) (buffer_after actions plan before)
      ≡ drop (length_of (answer_to actions plan (length before))) before
  made_rest =
      ap₂ (λ (r : TextsAnswer) (s : List ℕ). drop (length_of r) s) made_answer made_buffer
      ∙ rest_stays job before k.fits (length job)
      ∙ ap (λ (r : TextsAnswer). drop (length_of r) before) (sym made_answer)

module _ (actions plan before : List ℕ) where
  abbrev R : TextsAnswer
  R = answer_to actions plan (length before)

  abbrev after : List ℕ
  after = buffer_after actions plan before

  made : number R ≡ 0 → JobOfTexts actions plan (take (length_of R) after)
  unfolding answer_to
  made z =
      let k = passed (actions_read actions) (plan_reading plan) (length before) z in
      subst (JobOfTexts actions plan) (sym (made_front actions plan before k)) (job_of_texts actions plan k)

  kept : (number R ≡ 0 → ⊥) → after ≡ before
  unfolding buffer_after
  kept h = refusal_keeps R (bytes_of (actions_read actions) (plan_reading plan)) before h

  past : drop (length_of R) after ≡ drop (length_of R) before
  unfolding answer_to
  past =
      elim (ℕ_discrete (number R) 0) [
        | yes z ↦ made_rest actions plan before (passed (actions_read actions) (plan_reading plan) (length before) z)
        | no h ↦ ap (drop (length_of R)) (kept h)
      ]

  promise : TextsPromise actions plan before after R
  promise =
      record {
        answer = refl;
        buffer = refl;
        actions_read = action_demands actions;
        plan_read = plan_demands plan;
        actions_place = places actions;
        plan_place = places plan;
        names_kept = names_promise (action_reading actions);
        numbered = λ is k e. numbering is k;
        one = one_job actions plan;
        made = made;
        past = past;
        complete = accepted actions plan (length before);
        kept = kept;
      }

pub texts_promise :
    (actions plan before after : List ℕ) (r : TextsAnswer)
    → r ≡ answer_to actions plan (length before) → after ≡ buffer_after actions plan before
    → TextsPromise actions plan before after r
texts_promise actions plan before after r e f =
    subst (λ (x : TextsAnswer). TextsPromise actions plan before after x) (sym e)
    (subst (λ (s : List ℕ). TextsPromise actions plan before s (answer_to actions plan (length before))) (sym f)
    (promise actions plan before))

-- The counts of the job that notes hold, and when one of them is too high.
use Prim.Native.Nat.{ℕ, zero, suc, ◌/◌, ◌≤◌, ◌<◌}
use mathlib.Core.Path.{◌≡◌, refl, sym, ap, ap₂, ◌∙◌}
use mathlib.Core.Bool.{Bool, true, false, ◌||◌, or-false}
use mathlib.Core.List.{List, [], ◌∷◌}
use native.Mathlib.Omega.{arith}
use borrow.Author.Tests.{le-ltb, ltb-false}
use mir.Syntax.{w16}
use mir.Val.{Fits}
use lib.Dec.{ltb}
use lib.ListN.{length, take, drop, length-append}
use lib.Seq.{slice, take-append_seam}
use Rattle.std.specs.Prelude.{Err}
use Rattle.laws.specs.Search.{any}
use Rattle.laws.proofs.Search.{or_both}
use Rattle.laws.proofs.Listed.{length_tabulate}
use Rattle.job.specs.declared.layout.Counts.{Counts}
use Rattle.job.specs.Layout.{most_facts, most_levels, most_steps, most_conditions, most_effects, most_uses, most_goals, count_too_high}
use Rattle.job.specs.Model.{Model}
use Rattle.job_encoding.specs.Encode.{counts_in, encode}
use Rattle.order_file.specs.Held.{over}
use Rattle.verdict.specs.declared.Refusal.TheVariants.{CountTooHigh}
use Rattle.supplied.specs.Job.{level_from, model_in}
use Rattle.job_notes.specs.Tables.{joined, initial_noted, amount_noted, step_noted, tables_noted}
use Rattle.job_from_notes.specs.Counted.{tables_in, Walked, Counted}
use Rattle.job_from_notes.specs.Whole.{longest_job, Writable}
use Rattle.job_from_notes.proofs.Encoded.{whole_fits}
use Rattle.job_from_notes.specs.declared.tally.Totals.{Totals}
use Rattle.texts_answer.specs.Answer.{TextsAnswer}
use Rattle.texts_answer.specs.declared.TextsRefusal.TheVariants.{Refused}
use Rattle.texts_answer.specs.FromTexts.{checked, counted, written}
use Rattle.job_filing.specs.Filed.{Filed}

-- one element a part
single_parts : {A : Type 0} (f : ℕ → A) (n : ℕ) → length (joined n (λ k. f k ∷ [])) ≡ n
unfolding joined
single_parts f zero = refl
single_parts f (suc n) = length-append (joined n (λ k. f k ∷ [])) (f n ∷ []) ∙ (let e = single_parts f n in omega arith)

-- the counts as they are found
abbrev pub found : ℕ → ℕ → ℕ → Totals → ℕ → Counts
found facts levels steps t goals = record {
  facts = facts;
  levels = levels;
  steps = steps;
  conditions = t.conditions;
  effects = t.effects;
  uses = t.uses;
  goals = goals;
  timed = 0;
  needs = 0;
}

pub counts_are :
    (facts levels goals : ℕ) (said numbers plan acts : List ℕ) (t : Totals) → length said ≤ length numbers → Counted said plan acts t
    → ((facts levels : ℕ) (numbers plan acts : List ℕ) → length said ≤ length numbers
    → goals ≡ length (tables_in facts levels said numbers plan acts).goals)
    → counts_in (model_in (tables_in facts levels said numbers plan acts)) ≡ found facts levels (length plan / 3) t goals
unfolding counts_in tables_noted
counts_are facts levels goals said numbers plan acts t l c g =
    let all : List ℕ → List ℕ = slice 0 (length said) in
    cc (
      length_tabulate (initial_noted (all said) (all numbers)) facts,
      single_parts (λ k. level_from (amount_noted (all said) (all numbers) k)) levels,
      single_parts (step_noted plan) (length plan / 3),
      c.conditions facts levels numbers l,
      c.effects facts levels numbers l,
      c.uses facts levels numbers l,
      g facts levels numbers plan acts l,
    )

-- the test of all but the steps
abbrev pub high : ℕ → ℕ → Totals → ℕ → Bool
high facts levels t goals =
    ltb most_facts facts || ltb most_levels levels || ltb most_conditions t.conditions || ltb most_effects t.effects
    || ltb most_uses t.uses
    || ltb most_goals goals

pub high_is :
    (facts levels steps goals : ℕ) (t : Totals) → steps ≤ most_steps
    → count_too_high (found facts levels steps t goals) ≡ high facts levels t goals
unfolding count_too_high any
high_is facts levels steps goals t h = rw (le-ltb most_steps steps h, or-false (ltb most_facts facts || ltb most_levels levels), or-false, or-false) refl

-- a low number fits a u16
pub low_fits : {n : ℕ} (m : ℕ) → n ≤ m → m < 65536 → Fits w16 n
low_fits m l h = record { fits = omega arith }

-- where the test fails, each count is at most its highest
pub each_low :
    {b : Bool} (facts levels goals : ℕ) (t : Totals) → b ≡ high facts levels t goals → b ≡ false
    → (facts ≤ most_facts) × (levels ≤ most_levels) × (t.conditions ≤ most_conditions) × (t.effects ≤ most_effects) × (t.uses ≤ most_uses)
    × (goals ≤ most_goals)
each_low facts levels goals t e h =
    let g = or_both _ (ltb most_goals goals) (sym e ∙ h) in
    let u = or_both _ (ltb most_uses t.uses) g.0 in
    let f = or_both _ (ltb most_effects t.effects) u.0 in
    let c = or_both _ (ltb most_conditions t.conditions) f.0 in
    let l = or_both (ltb most_facts facts) (ltb most_levels levels) c.0 in (
      ltb-false most_facts facts l.0,
      ltb-false most_levels levels l.1,
      ltb-false most_conditions t.conditions c.1,
      ltb-false most_effects t.effects f.1,
      ltb-false most_uses t.uses u.1,
      ltb-false most_goals goals g.1,
    )

module _
    (facts levels goals : ℕ) (said numbers plan acts : List ℕ) (t : Totals) (w : Walked said plan acts) (l : length said ≤ length numbers)
    (c : Counted said plan acts t)
    (g : (facts levels : ℕ) (numbers plan acts : List ℕ) → length said ≤ length numbers
    → goals ≡ length (tables_in facts levels said numbers plan acts).goals)
  where
    abbrev job : Model
    job = model_in (tables_in facts levels said numbers plan acts)

    counts : counts_in job ≡ found facts levels (length plan / 3) t goals
    counts = counts_are facts levels goals said numbers plan acts t l c g

    test : count_too_high (counts_in job) ≡ high facts levels t goals
    test = ap count_too_high counts ∙ high_is facts levels (length plan / 3) goals t (omega (arith, w.steps))

    -- 4
    pub filed_high : {b : Bool} (out : List ℕ) → b ≡ high facts levels t goals → b ≡ true → Filed job out (Err (Refused CountTooHigh)) out
    unfolding counted written
    filed_high out e h = record { answer = rw (test ∙ sym e ∙ h); buffer = refl }

    module _ {b : Bool} (e : b ≡ high facts levels t goals) (h : b ≡ false) where
      low : high facts levels t goals ≡ false
      low = sym e ∙ h

      pub writable : (out : List ℕ) → longest_job ≤ length out → Writable said numbers plan acts (found facts levels (length plan / 3) t goals) out
      writable out r = record {
        walked = w;
        numbered = l;
        counted = sym counts;
        low = high_is facts levels (length plan / 3) goals t (omega (arith, w.steps)) ∙ low;
        room = r;
      }

      module _ (n : ℕ) (before bytes : List ℕ) (i : n ≡ length (encode 1 job)) (f : bytes ≡ over (encode 1 job) before) where
        front_is : take n bytes ≡ encode 1 job
        front_is = ap₂ take i f ∙ take-append_seam (encode 1 job) (drop (length (encode 1 job)) before)

        pub front_long : n ≡ length (take n bytes)
        front_long = i ∙ sym (ap length front_is)

        pub front_within : n ≤ length bytes
        front_within = omega (arith, i, ap length f, length-append (encode 1 job) (drop (length (encode 1 job)) before))

        pub front_short : length (take n bytes) ≤ longest_job
        front_short = omega (arith, ap length front_is, whole_fits facts levels said numbers plan acts (test ∙ low))

        -- what the job's bytes are answered
        pub filed_checked :
            {a : TextsAnswer} {out after : List ℕ} → (a ≡ checked (take n bytes) (length out)) × (after ≡ written a (take n bytes) out)
            → Filed job out a after
        unfolding counted
        filed_checked {a} {out} {after} p = record {
          answer = p.0 ∙ ap (λ b. checked b (length out)) front_is ∙ sym (rw (test, low) refl);
          buffer = p.1 ∙ ap (λ b. written a b out) front_is;
        }

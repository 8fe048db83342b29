-- A file that refusals 1 to 6 pass holds a job whose records are in range.
use Prim.Native.Nat.{ℕ, ◌≤◌, ◌<◌}
use mathlib.Core.Path.{◌≡◌, refl, sym, ap, subst, ◌∙◌}
use mathlib.Core.Bool.{true, false, ◌||◌}
use mathlib.Core.List.{List}
use mathlib.Core.Logic.{◌⊎◌, inl, inr, ⊎_elim}
use borrow.Author.Tests.{ltb-true, ltb-false, leb-true, eqb-true, eqb-false, not-true, not-false}
use lib.Dec.{leb, eqb, lit<}
use lib.ListN.{get_or}
use Rattle.little_endian.specs.Bytes.{sign_bias}
use Rattle.laws.proofs.Search.{either, and_both, any_false}
use Rattle.std.specs.Prelude.{Ok}
use Rattle.verdict.specs.declared.Refusal.TheVariants.{RecordOutOfRange}
use Rattle.verdict.specs.Verdict.{number, ◌then◌}
use Rattle.verdict.proofs.Chain.{then_zero, refuse_zero, lowest_zero}
use Rattle.job.specs.declared.layout.Table.{Table}
use Rattle.job.specs.declared.layout.Table.TheVariants.{Facts, Levels, Steps, Conditions, Effects, Uses, Goals, TimedFacts, Needs}
use Rattle.job.specs.declared.layout.Counts.{Counts}
use Rattle.job.specs.declared.layout.Job.{Job}
use Rattle.job.specs.Layout.{count_list, highest, job_of, count_too_high}
use Rattle.job.specs.Model.{Model, view, model_of, last_start, longest, last_deadline, no_deadline, last_timed}
use Rattle.job.specs.Model.{lowest_level, highest_level, lowest_amount, highest_amount}
use Rattle.job.specs.WellFormed.{Ranged}
use Rattle.header_check.specs.Header.{header_check}
use Rattle.ranges.specs.Ranges.{level_in_range, fact_ok, level_ok, step_ok, condition_ok, effect_ok, use_ok, goal_ok, timed_ok, need_ok}
use Rattle.ranges.specs.Ranges.{record_ok, record_broken, count_in}
use Rattle.record_check.specs.Records.{table_check, record_check, RecordsPromise}

-- once refusal 6 passes, every record of every table is in order
pub table_zero : (m : Model) (t : Table) → number (table_check m t) ≡ 0 → (k : ℕ) → k < count_in m t → record_ok m t k ≡ true
unfolding table_check
table_zero m t e k h =
    not-false (record_ok m t k) (lowest_zero (count_in m t) (record_broken m t) RecordOutOfRange e k h)

pub tables : (m : Model) → number (record_check m) ≡ 0 → (t : Table) (k : ℕ) → k < count_in m t → record_ok m t k ≡ true
unfolding record_check
tables m e =
    let n = then_zero _ _ e in
    let t = then_zero _ _ n.0 in
    let g = then_zero _ _ t.0 in
    let u = then_zero _ _ g.0 in
    let f = then_zero _ _ u.0 in
    let c = then_zero _ _ f.0 in
    let s = then_zero _ _ c.0 in
    let l = then_zero _ _ s.0 in
    elim [
      | Facts ↦ table_zero m Facts l.0
      | Levels ↦ table_zero m Levels l.1
      | Steps ↦ table_zero m Steps s.1
      | Conditions ↦ table_zero m Conditions c.1
      | Effects ↦ table_zero m Effects f.1
      | Uses ↦ table_zero m Uses u.1
      | Goals ↦ table_zero m Goals g.1
      | TimedFacts ↦ table_zero m TimedFacts t.1
      | Needs ↦ table_zero m Needs n.1
    ]

deadline : {d : ℕ} → (leb d last_deadline || eqb d no_deadline) ≡ true → (d ≤ last_deadline) ⊎ (d ≡ no_deadline)
deadline {d} e =
    ⊎_elim
    (λ (t : leb d last_deadline ≡ true). inl (leb-true _ _ t))
    (λ (f : leb d last_deadline ≡ false). inr (eqb-true _ _ (sym (ap (λ b. b || eqb d no_deadline) f) ∙ e)))
    (either (leb d last_deadline))

-- what each record's test says, part by part
fact_in : (m : Model) (k : ℕ) → fact_ok m k ≡ true → m.initial k ≤ 1
unfolding fact_ok
fact_in m k e = leb-true _ _ e

pub level_in_lem :
    (m : Model) (k : ℕ) → level_ok m k ≡ true → (lowest_level ≤ m.level_least k) × (m.level_least k ≤ m.level_initial k) × (m.level_initial
    k ≤ m.level_most k) × (m.level_most k ≤ highest_level)
unfolding level_ok
level_in_lem m k e =
    let d = and_both _ _ e in
    let c = and_both _ _ d.0 in
    let b = and_both _ _ c.0 in
    let a = and_both (level_in_range (m.level_initial k)) _ b.0 in (
      leb-true _ _ (and_both _ (leb (m.level_least k) highest_level) a.1).0,
      leb-true _ _ c.1,
      leb-true _ _ d.1,
      leb-true _ _ (and_both (leb lowest_level (m.level_most k)) _ b.1).1,
    )

pub step_in_lem : (m : Model) (k : ℕ) → step_ok m k ≡ true → (m.start k ≤ last_start) × (m.step_length k ≤ longest) × (m.fixed k ≤ 1)
unfolding step_ok
step_in_lem m k e =
    let b = and_both _ _ e in
    let a = and_both _ _ b.0 in
    (leb-true _ _ a.0, leb-true _ _ a.1, leb-true _ _ b.1)

condition_in_lem :
    (m : Model) (k : ℕ) → condition_ok m k ≡ true → (m.condition_step k < m.steps) × (m.condition_fact k < m.facts) × (m.condition_from
    k ≤ m.condition_to k) × (m.condition_to k ≤ m.step_length (m.condition_step k)) × (m.condition_value k ≤ 1)
unfolding condition_ok
condition_in_lem m k e =
    let d = and_both _ _ e in
    let c = and_both _ _ d.0 in
    let b = and_both _ _ c.0 in
    let a = and_both _ _ b.0 in
    (ltb-true _ _ a.0, ltb-true _ _ a.1, leb-true _ _ b.1, leb-true _ _ c.1, leb-true _ _ d.1)

pub effect_in_lem :
    (m : Model) (k : ℕ) → effect_ok m k ≡ true → (m.effect_step k < m.steps) × (m.effect_fact k < m.facts) × (m.effect_at k ≤ m.step_length
    (m.effect_step k)) × (m.effect_value k ≤ 1)
unfolding effect_ok
effect_in_lem m k e =
    let c = and_both _ _ e in
    let b = and_both _ _ c.0 in
    let a = and_both _ _ b.0 in
    (ltb-true _ _ a.0, ltb-true _ _ a.1, leb-true _ _ b.1, leb-true _ _ c.1)

pub use_in_lem :
    (m : Model) (k : ℕ) → use_ok m k ≡ true → (m.use_step k < m.steps) × (m.use_level k < m.levels) × (m.use_at k ≤ m.step_length
    (m.use_step k)) × (lowest_amount ≤ m.use_amount k) × (m.use_amount k ≤ highest_amount) × (m.use_amount k ≡ sign_bias → ⊥)
unfolding use_ok
use_in_lem m k e =
    let f = and_both _ _ e in
    let d = and_both _ _ f.0 in
    let c = and_both _ _ d.0 in
    let b = and_both _ _ c.0 in
    let a = and_both _ _ b.0 in
    (ltb-true _ _ a.0, ltb-true _ _ a.1, leb-true _ _ b.1, leb-true _ _ c.1, leb-true _ _ d.1, eqb-false _ _ (not-true _ f.1))

pub goal_in_lem :
    (m : Model) (k : ℕ) → goal_ok m k ≡ true → (m.goal_fact k < m.facts) × (m.goal_value k ≤ 1) × ((m.goal_deadline k ≤ last_deadline) ⊎
    (m.goal_deadline k ≡ no_deadline))
unfolding goal_ok
goal_in_lem m k e =
    let b = and_both _ _ e in
    let a = and_both _ _ b.0 in
    (ltb-true _ _ a.0, leb-true _ _ a.1, deadline b.1)

timed_in : (m : Model) (k : ℕ) → timed_ok m k ≡ true → (m.timed_fact k < m.facts) × (m.timed_tick k ≤ last_timed) × (m.timed_value k ≤ 1)
unfolding timed_ok
timed_in m k e =
    let b = and_both _ _ e in
    let a = and_both _ _ b.0 in
    (ltb-true _ _ a.0, leb-true _ _ a.1, leb-true _ _ b.1)

need_in :
    (m : Model) (k : ℕ) → need_ok m k ≡ true → (m.need_step k < m.steps) × (m.need_level k < m.levels) × (m.need_at k ≤ m.step_length
    (m.need_step k)) × (lowest_level ≤ m.need_least k) × (m.need_least k ≤ highest_level)
unfolding need_ok
need_in m k e =
    let c = and_both _ (level_in_range (m.need_least k)) e in
    let b = and_both _ _ c.0 in
    let a = and_both _ _ b.0 in
    let d = and_both (leb lowest_level (m.need_least k)) _ c.1 in
    (ltb-true _ _ a.0, ltb-true _ _ a.1, leb-true _ _ b.1, leb-true _ _ d.0, leb-true _ _ d.1)

-- no count exceeds its highest
pub counts : (c : Counts) → count_too_high c ≡ false → (t : ℕ) → t < 9 → get_or (count_list c) t 0 ≤ get_or highest t 0
unfolding count_too_high
counts c e t h = ltb-false _ _ (any_false _ 9 e t h)

-- nor does one of a file that refusals 1 to 5 pass
pub counted : (s : List ℕ) → number (header_check s) ≡ 0 → count_too_high (job_of s).count ≡ false
unfolding header_check
counted s e =
    let b = then_zero _ _ (then_zero _ _ e).0 in refuse_zero _ _ b.1

-- what refusals 1 to 6 leave
pub ranged : (s : List ℕ) → number (header_check s then record_check (model_of s)) ≡ 0 → Ranged (model_of s)
unfolding job_of
ranged s e =
    let b = then_zero _ _ e in
    let n = counts (job_of s).count (counted s b.0) in
    let m = model_of s in
    let ok = tables m b.1 in record {
      fact_count = n 0 (lit< tt);
      level_count = n 1 (lit< tt);
      step_count = n 2 (lit< tt);
      condition_count = n 3 (lit< tt);
      effect_count = n 4 (lit< tt);
      use_count = n 5 (lit< tt);
      timed_count = n 7 (lit< tt);
      need_count = n 8 (lit< tt);
      initial_value = λ k l. fact_in m k (ok Facts k l);
      length_range = λ k l. (step_in_lem m k (ok Steps k l)).1;
      condition_step = λ k l. (condition_in_lem m k (ok Conditions k l)).0;
      condition_fact = λ k l. (condition_in_lem m k (ok Conditions k l)).1;
      condition_span = λ k l. (condition_in_lem m k (ok Conditions k l)).2;
      condition_end = λ k l. (condition_in_lem m k (ok Conditions k l)).3;
      condition_value = λ k l. (condition_in_lem m k (ok Conditions k l)).4;
      effect_step = λ k l. (effect_in_lem m k (ok Effects k l)).0;
      effect_fact = λ k l. (effect_in_lem m k (ok Effects k l)).1;
      effect_end = λ k l. (effect_in_lem m k (ok Effects k l)).2;
      effect_value = λ k l. (effect_in_lem m k (ok Effects k l)).3;
      use_step = λ k l. (use_in_lem m k (ok Uses k l)).0;
      use_level = λ k l. (use_in_lem m k (ok Uses k l)).1;
      use_end = λ k l. (use_in_lem m k (ok Uses k l)).2;
      timed_fact = λ k l. (timed_in m k (ok TimedFacts k l)).0;
      timed_tick = λ k l. (timed_in m k (ok TimedFacts k l)).1;
      timed_value = λ k l. (timed_in m k (ok TimedFacts k l)).2;
      need_step = λ k l. (need_in m k (ok Needs k l)).0;
      need_level = λ k l. (need_in m k (ok Needs k l)).1;
      need_end = λ k l. (need_in m k (ok Needs k l)).2;
      need_from = λ k l. (need_in m k (ok Needs k l)).3;
      need_to = λ k l. (need_in m k (ok Needs k l)).4;
    }

-- the records that were read are in range
pub read_ranged : {s : List ℕ} {job : Job} → RecordsPromise s (Ok job) → Ranged (view job s)
read_ranged {s} p = subst (λ (j : Job). Ranged (view j s)) (sym p.job) (p.ranged refl)

-- A file that refusals 1 to 7 and 17 pass holds a well-formed job.
use Prim.Native.Nat.{ℕ, ◌≤◌, ◌<◌}
use mathlib.Core.Path.{◌≡◌, refl, sym, ap, ap₂, ◌∙◌}
use mathlib.Core.Bool.{Bool, true, false, not, ◌&&◌}
use mathlib.Core.List.{List}
use mathlib.Core.Logic.{⊎_elim}
use native.Mathlib.Omega.{arith}
use borrow.Author.Tests.{ltb-false, eqb-true, not-false, eq-eqb, le-leb, lt-ltb}
use lib.Dec.{eqb, lit<}
use Rattle.laws.proofs.Search.{either, contrary, by_order, any_false, owner_none}
use Rattle.verdict.specs.declared.Refusal.TheVariants.{TimedFactsConflict}
use Rattle.verdict.specs.Verdict.{number}
use Rattle.verdict.proofs.Chain.{then_zero, refuse_zero, lowest_zero}
use Rattle.job.specs.declared.layout.Table.{Table}
use Rattle.job.specs.declared.layout.Table.TheVariants.{Levels, Steps, Effects, Uses, Goals}
use Rattle.job.specs.Layout.{most_goals, job_of}
use Rattle.job.specs.Model.{Model, model_of}
use Rattle.job.specs.WellFormed.{WellFormed, Ranged}
use Rattle.ranges.specs.Ranges.{record_ok, count_in}
use Rattle.record_check.proofs.Ranged.{tables, counts, counted, ranged, level_in_lem, step_in_lem, effect_in_lem, use_in_lem, goal_in_lem}
use Rattle.against.specs.Against.{both_ways, uses_twice, opposes_own, set_before, used_before, opposes_any, both_ways_step, uses_twice_step, opposes_own_step}
use Rattle.against.specs.Against.{against_step, step_check}
use Rattle.against.specs.Clock.{timed_both_ways, timed_conflicts, timed_check}
use Rattle.form.specs.Refusals.{form_check}

-- where three tests of four pass and not all four do, the fourth fails
fourth : (a b c d : Bool) → (a && b && c && not d) ≡ false → a ≡ true → b ≡ true → c ≡ true → d ≡ true
fourth a b c d e x y z = not-false d (sym (ap (λ t. t && b && c && not d) x ∙ ap (λ t. t && c && not d) y ∙ ap (λ t. t && not d) z) ∙ e)

-- refusal 7 passes: in each of the three parts no step is found
pub steps_zero : (m : Model) → number (step_check m) ≡ 0 → m.steps ≤ against_step m
unfolding step_check
steps_zero m e = ltb-false _ _ (refuse_zero _ _ e)

-- refusal 17 passes: no two timed facts set a fact both ways at one tick
timed_one_way_lem :
    (m : Model) → number (timed_check m) ≡ 0 → (j k : ℕ) → j < m.timed → k < m.timed → m.timed_fact j ≡ m.timed_fact k
    → m.timed_tick j ≡ m.timed_tick k
    → m.timed_value j ≡ m.timed_value k
unfolding timed_check timed_conflicts timed_both_ways
timed_one_way_lem m e j k h g f t =
    let no = lowest_zero m.timed (timed_conflicts m) TimedFactsConflict e j h in
    eqb-true _ _ (fourth true _ _ _ (any_false (timed_both_ways m j) m.timed no k g) refl (eq-eqb _ _ f) (eq-eqb _ _ t))

module _ (m : Model) (ok : (t : Table) (k : ℕ) → k < count_in m t → record_ok m t k ≡ true) (no : m.steps ≤ against_step m) where
  no_both_ways : m.steps ≤ both_ways_step m
  unfolding against_step
  no_both_ways = omega arith

  no_uses_twice : m.steps ≤ uses_twice_step m
  unfolding against_step
  no_uses_twice = omega arith

  no_opposes_own : m.steps ≤ opposes_own_step m
  unfolding against_step
  no_opposes_own = omega arith

  later_agrees :
      (e f : ℕ) → e < m.effects → f < e → m.effect_step e ≡ m.effect_step f → m.effect_fact e ≡ m.effect_fact f
      → m.effect_at e ≡ m.effect_at f
      → m.effect_value e ≡ m.effect_value f
  unfolding both_ways_step set_before both_ways
  later_agrees e f h g s t a =
      eqb-true _ _
      (fourth _ _ _ _
      (any_false (both_ways m e) e (owner_none m.steps m.effect_step (set_before m) m.effects no_both_ways e h (effect_in_lem m e (ok Effects e h)).0) f g)
      (eq-eqb _ _ s)
      (eq-eqb _ _ t)
      (eq-eqb _ _ a))

  one_way_lem :
      (e f : ℕ) → e < m.effects → f < m.effects → m.effect_step e ≡ m.effect_step f → m.effect_fact e ≡ m.effect_fact f → m.effect_at
      e ≡ m.effect_at f → m.effect_value e ≡ m.effect_value f
  one_way_lem e f h g s t a =
      by_order e f
      (λ l. sym (later_agrees f e g l (sym s) (sym t) (sym a)))
      (λ l. later_agrees e f h l s t a)
      (λ q. ap m.effect_value q)

  no_later_use :
      (u v : ℕ) → u < m.uses → v < u → m.use_step u ≡ m.use_step v → m.use_level u ≡ m.use_level v → m.use_at u ≡ m.use_at v
      → ⊥
  unfolding uses_twice_step used_before uses_twice
  no_later_use u v h g s t a =
      contrary
      (ap₂ ◌&&◌ (ap₂ ◌&&◌ (eq-eqb _ _ s) (eq-eqb _ _ t)) (eq-eqb _ _ a))
      (any_false (uses_twice m u) u (owner_none m.steps m.use_step (used_before m) m.uses no_uses_twice u h (use_in_lem m u (ok Uses u h)).0) v g)

  one_use_lem :
      (u v : ℕ) → u < m.uses → v < m.uses → m.use_step u ≡ m.use_step v → m.use_level u ≡ m.use_level v → m.use_at u ≡ m.use_at v
      → u ≡ v
  one_use_lem u v h g s t a =
      by_order u v
      (λ l. absurd (no_later_use v u g l (sym s) (sym t) (sym a)))
      (λ l. absurd (no_later_use u v h l s t a))
      (λ q. q)

  keeps_own_lem :
      (e c : ℕ) → e < m.effects → c < m.conditions → m.effect_step e ≡ m.condition_step c → m.effect_fact e ≡ m.condition_fact c
      → m.condition_from
      c ≤ m.effect_at e → m.effect_at e < m.condition_to c → m.effect_value e ≡ m.condition_value c
  unfolding opposes_own_step opposes_any opposes_own
  keeps_own_lem e c h g s t a b =
      let f = any_false (opposes_own m e) m.conditions (owner_none m.steps m.effect_step (opposes_any m) m.effects no_opposes_own e h
      (effect_in_lem m e (ok Effects e h)).0) c g in
      ⊎_elim
      (λ (x : eqb (m.effect_value e) (m.condition_value c) ≡ true). eqb-true _ _ x)
      (λ (x : eqb (m.effect_value e) (m.condition_value c) ≡ false).
      contrary (ap₂ ◌&&◌ (ap₂ ◌&&◌ (ap₂ ◌&&◌ (ap₂ ◌&&◌ (eq-eqb _ _ s) (eq-eqb _ _ t)) (ap not x)) (le-leb _ _ a)) (lt-ltb _ _ b)) f)
      (either (eqb (m.effect_value e) (m.condition_value c)))

  all_parts : m.goals ≤ most_goals → Ranged m → number (timed_check m) ≡ 0 → WellFormed m
  all_parts goals r clock =
      record {
        fact_count = r.fact_count;
        level_count = r.level_count;
        step_count = r.step_count;
        condition_count = r.condition_count;
        effect_count = r.effect_count;
        use_count = r.use_count;
        goal_count = goals;
        timed_count = r.timed_count;
        need_count = r.need_count;
        initial_value = r.initial_value;
        level_from = λ k l. (level_in_lem m k (ok Levels k l)).0;
        level_low = λ k l. (level_in_lem m k (ok Levels k l)).1;
        level_high = λ k l. (level_in_lem m k (ok Levels k l)).2;
        level_to = λ k l. (level_in_lem m k (ok Levels k l)).3;
        start_range = λ k l. (step_in_lem m k (ok Steps k l)).0;
        length_range = r.length_range;
        fixed_mark = λ k l. (step_in_lem m k (ok Steps k l)).2;
        condition_step = r.condition_step;
        condition_fact = r.condition_fact;
        condition_span = r.condition_span;
        condition_end = r.condition_end;
        condition_value = r.condition_value;
        effect_step = r.effect_step;
        effect_fact = r.effect_fact;
        effect_end = r.effect_end;
        effect_value = r.effect_value;
        use_step = r.use_step;
        use_level = r.use_level;
        use_end = r.use_end;
        use_from = λ k l. (use_in_lem m k (ok Uses k l)).3;
        use_to = λ k l. (use_in_lem m k (ok Uses k l)).4;
        use_not_zero = λ k l. (use_in_lem m k (ok Uses k l)).5;
        goal_fact = λ k l. (goal_in_lem m k (ok Goals k l)).0;
        goal_value = λ k l. (goal_in_lem m k (ok Goals k l)).1;
        goal_deadline = λ k l. (goal_in_lem m k (ok Goals k l)).2;
        timed_fact = r.timed_fact;
        timed_tick = r.timed_tick;
        timed_value = r.timed_value;
        need_step = r.need_step;
        need_level = r.need_level;
        need_end = r.need_end;
        need_from = r.need_from;
        need_to = r.need_to;
        one_way = one_way_lem;
        one_use = one_use_lem;
        keeps_own = keeps_own_lem;
        timed_one_way = timed_one_way_lem m clock;
      }

pub well_formed_lem : (s : List ℕ) → number (form_check s) ≡ 0 → WellFormed (model_of s)
unfolding form_check
well_formed_lem s e =
    let d = then_zero _ _ e in
    let c = then_zero _ _ d.0 in
    let b = then_zero _ _ c.0 in
    let m = model_of s in
    all_parts m (tables m b.1) (steps_zero m c.1) (counts (job_of s).count (counted s b.0) 6 (lit< tt)) (ranged s c.0) d.1

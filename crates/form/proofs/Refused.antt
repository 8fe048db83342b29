-- The form check's number and place name the first of refusals 1 to 7 and 17 whose sentence fails, and the lowest record.
use Prim.Native.Nat.{ℕ, zero, suc, ◌≤◌, ◌<◌}
use mathlib.Core.Path.{◌≡◌, refl, sym, ap, ap₂, subst, ◌∙◌}
use mathlib.Core.Bool.{Bool, true, false, not, ◌&&◌, ◌||◌}
use mathlib.Core.List.{List}
use mathlib.Core.Logic.{◌⊎◌, inl, inr, ⊎_elim}
use native.Mathlib.Decide.{ℕ_discrete}
use native.Mathlib.Omega.{arith}
use borrow.Author.Tests.{ltb-true, ltb-false, leb-true, eqb-true, eqb-false, not-true, not-false, eq-eqb, ne_eqb, le-leb, lt-ltb}
use lib.Dec.{ltb, leb, eqb}
use lib.ListN.{length, get_or}
use Rattle.laws.specs.Search.{any, all, lowest_owner}
use Rattle.laws.proofs.Search.{contrary, by_order, and_both, or_both, or_out, any_intro, any_elim, all_elim, lowest_facts}
use Rattle.little_endian.specs.Bytes.{u16_at}
use Rattle.std.specs.Prelude.{Err}
use Rattle.verdict.specs.declared.Refusal.TheVariants.{FileTooShort, UnknownEdition, MarkOutOfRange, CountTooHigh, LayoutDisagrees}
use Rattle.verdict.specs.declared.Refusal.TheVariants.{RecordOutOfRange, StepAgainstItself, TimedFactsConflict}
use Rattle.verdict.specs.Verdict.{Verdict, Accepted, number, place, ◌then◌, refuse_if, refuse_lowest}
use Rattle.verdict.proofs.Chain.{accepted_then, refuse_yes, refuse_zero, refuse_says, refuse_either, lowest_outcome, in_turn, FirstRefuses, in_turn_lem}
use Rattle.verdict.proofs.Unplaced.{unplaced}
use Rattle.job.specs.declared.layout.Table.{Table}
use Rattle.job.specs.declared.layout.Table.TheVariants.{Facts, Levels, Steps, Conditions, Effects, Uses, Goals, TimedFacts, Needs}
use Rattle.job.specs.declared.layout.Counts.{Counts}
use Rattle.job.specs.Layout.{timed_edition, needs_edition, shortest_header, header_width, serial_mark, highest, counts_of, count_list, job_of, count_too_high}
use Rattle.job.specs.Model.{Model, model_of}
use Rattle.header_check.specs.Header.{edition_known, marks_wrong, layout_agrees, header_check}
use Rattle.ranges.specs.Ranges.{count_in, record_broken}
use Rattle.record_check.specs.Records.{table_check, record_check}
use Rattle.record_check.proofs.Ranged.{table_zero, tables, counts}
use Rattle.against.specs.Against.{both_ways, uses_twice, opposes_own, set_before, used_before, opposes_any, both_ways_step, uses_twice_step, opposes_own_step}
use Rattle.against.specs.Against.{against_step, step_check}
use Rattle.against.specs.BothWays.{SetsBothWays}
use Rattle.against.specs.Clock.{timed_both_ways, timed_conflicts, timed_check}
use Rattle.form.specs.Refusals.{form_check}
use Rattle.form.proofs.WellFormed.{steps_zero}
use Rattle.form.specs.Refused.{table_number, FirstOutOfRange, UsesOneTwice, OpposesItsOwn, AgainstItself, FirstAgainst}
use Rattle.form.specs.Refused.{TimedBothWays, FirstOfTwo, FormNumber, FormRefusal}

-- the nine checks in turn
abbrev form_step : List ℕ → ℕ → Verdict
form_step s zero = refuse_if (ltb (length s) shortest_header) FileTooShort
form_step s (suc zero) = refuse_if (not (edition_known (job_of s).edition)) UnknownEdition
form_step s (suc (suc zero)) = refuse_if (ltb (length s) (header_width (job_of s).edition)) FileTooShort
form_step s (suc (suc (suc zero))) = refuse_if (marks_wrong s (job_of s)) MarkOutOfRange
form_step s (suc (suc (suc (suc zero)))) = refuse_if (count_too_high (job_of s).count) CountTooHigh
form_step s (suc (suc (suc (suc (suc zero))))) = refuse_if (not (layout_agrees s (job_of s))) LayoutDisagrees
form_step s (suc (suc (suc (suc (suc (suc zero)))))) = record_check (model_of s)
form_step s (suc (suc (suc (suc (suc (suc (suc zero))))))) = step_check (model_of s)
form_step s (suc (suc (suc (suc (suc (suc (suc (suc k)))))))) = timed_check (model_of s)

-- and their numbers
abbrev number_in : ℕ → ℕ
number_in zero = 1
number_in (suc zero) = 2
number_in (suc (suc zero)) = 1
number_in (suc (suc (suc zero))) = 3
number_in (suc (suc (suc (suc zero)))) = 4
number_in (suc (suc (suc (suc (suc zero))))) = 5
number_in (suc (suc (suc (suc (suc (suc zero)))))) = 6
number_in (suc (suc (suc (suc (suc (suc (suc zero))))))) = 7
number_in (suc (suc (suc (suc (suc (suc (suc (suc k)))))))) = 17

form_in_turn : (s : List ℕ) → form_check s ≡ in_turn (form_step s) 9
unfolding form_check header_check in_turn
form_in_turn s =
    ap
    (λ (v : Verdict). v then form_step s 1 then form_step s 2 then form_step s 3 then form_step s 4 then form_step s 5 then form_step s 6
    then form_step s 7
    then form_step s 8)
    (sym (accepted_then (form_step s 0)))

-- the tables in turn
abbrev table_of : ℕ → Table
table_of zero = Facts
table_of (suc zero) = Levels
table_of (suc (suc zero)) = Steps
table_of (suc (suc (suc zero))) = Conditions
table_of (suc (suc (suc (suc zero)))) = Effects
table_of (suc (suc (suc (suc (suc zero))))) = Uses
table_of (suc (suc (suc (suc (suc (suc zero)))))) = Goals
table_of (suc (suc (suc (suc (suc (suc (suc zero))))))) = TimedFacts
table_of (suc (suc (suc (suc (suc (suc (suc (suc k)))))))) = Needs

records_in_turn : (m : Model) → record_check m ≡ in_turn (λ k. table_check m (table_of k)) 9
unfolding record_check in_turn
records_in_turn m =
    ap
    (λ (v : Verdict). v then table_check m Levels then table_check m Steps then table_check m Conditions then table_check m Effects
    then table_check m Uses
    then table_check m Goals
    then table_check m TimedFacts
    then table_check m Needs)
    (sym (accepted_then (table_check m Facts)))

table_back : (t : Table) → table_of (table_number t) ≡ t
table_back Facts = refl
table_back Levels = refl
table_back Steps = refl
table_back Conditions = refl
table_back Effects = refl
table_back Uses = refl
table_back Goals = refl
table_back TimedFacts = refl
table_back Needs = refl

table_at : (k : ℕ) → table_number (table_of k) ≤ k
table_at zero = omega arith
table_at (suc zero) = omega arith
table_at (suc (suc zero)) = omega arith
table_at (suc (suc (suc zero))) = omega arith
table_at (suc (suc (suc (suc zero)))) = omega arith
table_at (suc (suc (suc (suc (suc zero))))) = omega arith
table_at (suc (suc (suc (suc (suc (suc zero)))))) = omega arith
table_at (suc (suc (suc (suc (suc (suc (suc zero))))))) = omega arith
table_at (suc (suc (suc (suc (suc (suc (suc (suc k)))))))) = omega arith

-- a check that refuses does so with its number
abbrev Own : ℕ → Verdict → Type 0
Own n v = (number v ≡ 0 → ⊥) → number v ≡ n

-- refusal 6
module _ (m : Model) where
  table_own : (t : Table) → Own 6 (table_check m t)
  unfolding table_check refuse_lowest
  table_own t = refuse_either (Own 6) _ _ (λ _. refl) (λ z. absurd (z refl))

  -- a table that refuses names its lowest record out of range
  table_out :
      (t : Table) → (number (table_check m t) ≡ 0 → ⊥)
      → ((earlier : Table) → table_number earlier < table_number t → number (table_check m earlier) ≡ 0)
      → FirstOutOfRange m t (place (table_check m t))
  unfolding table_check
  table_out t n before =
      ⊎_elim
      (λ (a : (table_check m t ≡ Accepted) × ((k : ℕ) → k < count_in m t → record_broken m t k ≡ false)). absurd (n (ap number a.0)))
      (λ (a : (k : ℕ) × (k < count_in m t) × (record_broken m t k ≡ true) × ((j : ℕ) → j < k → record_broken m t j ≡ false)
      × (table_check m t ≡ Err (RecordOutOfRange k))).
      subst (FirstOutOfRange m t) (sym (ap place a.4))
      (record {
        counted = a.1;
        broken = not-true _ a.2;
        lower_ok = λ j h. not-false _ (a.3 j h);
        earlier_ok = λ earlier h. table_zero m earlier (before earlier h);
      }))
      (lowest_outcome (count_in m t) (record_broken m t) RecordOutOfRange)

  first_table : (number (record_check m) ≡ 0 → ⊥) → (j : ℕ) × FirstRefuses (λ k. table_check m (table_of k)) 9 j
  first_table n =
      ⊎_elim
      (λ (a : (number (in_turn (λ k. table_check m (table_of k)) 9) ≡ 0) × ((k : ℕ) → k < 9 → number (table_check m (table_of k)) ≡ 0)).
      absurd (n (ap number (records_in_turn m) ∙ a.0)))
      (λ (a : (j : ℕ) × FirstRefuses (λ k. table_check m (table_of k)) 9 j). a)
      (in_turn_lem (λ k. table_check m (table_of k)) 9)

  record_own : Own 6 (record_check m)
  record_own n =
      let f = first_table n in
      ap number (records_in_turn m ∙ f.1.verdict) ∙ table_own (table_of f.0) f.1.refuses

  record_out_lem : (number (record_check m) ≡ 0 → ⊥) → (t : Table) × FirstOutOfRange m t (place (record_check m))
  record_out_lem n =
      let f = first_table n in
      let t = table_of f.0 in (
        t,
        subst (FirstOutOfRange m t) (sym (ap place (records_in_turn m ∙ f.1.verdict)))
            (table_out t f.1.refuses
            (λ earlier h.
            subst (λ (t : Table). number (table_check m t) ≡ 0) (table_back earlier)
            (f.1.earlier (table_number earlier) (omega (arith, table_at f.0))))),
      )

-- the lowest owner owns an index that passes, and no index of a lower one does
module _ (n m : ℕ) (owner : ℕ → ℕ) (p : ℕ → Bool) where
  owned : lowest_owner n m owner p < n → (i : ℕ) × (i < m) × (owner i ≡ lowest_owner n m owner p) × (p i ≡ true)
  unfolding lowest_owner
  owned h =
      let q : ℕ → Bool = λ s. any m (λ k. eqb (owner k) s && p k) in
      let f = any_elim (λ k. eqb (owner k) (lowest_owner n m owner p) && p k) m ((lowest_facts q n).2 h) in
      let b = and_both _ _ f.2 in
      (f.0, f.1, eqb-true _ _ b.0, b.1)

  unowned : (i : ℕ) → i < m → owner i < lowest_owner n m owner p → p i ≡ true → ⊥
  unfolding lowest_owner
  unowned i h l t =
      let q : ℕ → Bool = λ s. any m (λ k. eqb (owner k) s && p k) in
      contrary
      (any_intro (λ k. eqb (owner k) (owner i) && p k) m i h (ap₂ ◌&&◌ (eq-eqb (owner i) (owner i) refl) t))
      ((lowest_facts q n).1 (owner i) l)

-- refusal 7
module _ (m : Model) where
  both_ways_lem : both_ways_step m < m.steps → (e : ℕ) × (f : ℕ) × SetsBothWays m (both_ways_step m) e f
  unfolding both_ways_step set_before both_ways
  both_ways_lem h =
      let o = owned m.steps m.effects m.effect_step (set_before m) h in
      let e = o.0 in
      let f = any_elim (both_ways m e) e o.3 in
      let c = and_both _ _ f.2 in
      let b = and_both _ _ c.0 in
      let a = and_both _ _ b.0 in (
        e,
        f.0,
        record {
          known = (o.1, omega (arith, o.1, f.1));
          own = (o.2, sym (eqb-true _ _ a.0) ∙ o.2);
          same_fact = eqb-true _ _ a.1;
          same_tick = eqb-true _ _ b.1;
          other_value = eqb-false _ _ (not-true _ c.1);
        },
      )

  uses_twice_lem : uses_twice_step m < m.steps → (u : ℕ) × (v : ℕ) × UsesOneTwice m (uses_twice_step m) u v
  unfolding uses_twice_step used_before uses_twice
  uses_twice_lem h =
      let o = owned m.steps m.uses m.use_step (used_before m) h in
      let u = o.0 in
      let f = any_elim (uses_twice m u) u o.3 in
      let b = and_both _ _ f.2 in
      let a = and_both _ _ b.0 in (
        u,
        f.0,
        record {
          known = (o.1, omega (arith, o.1, f.1));
          two = λ q. omega (arith, f.1);
          own = (o.2, sym (eqb-true _ _ a.0) ∙ o.2);
          same_level = eqb-true _ _ a.1;
          same_tick = eqb-true _ _ b.1;
        },
      )

  opposes_own_lem : opposes_own_step m < m.steps → (e : ℕ) × (c : ℕ) × OpposesItsOwn m (opposes_own_step m) e c
  unfolding opposes_own_step opposes_any opposes_own
  opposes_own_lem h =
      let o = owned m.steps m.effects m.effect_step (opposes_any m) h in
      let e = o.0 in
      let f = any_elim (opposes_own m e) m.conditions o.3 in
      let d = and_both _ _ f.2 in
      let c = and_both _ _ d.0 in
      let b = and_both _ _ c.0 in
      let a = and_both _ _ b.0 in (
        e,
        f.0,
        record {
          known = (o.1, f.1);
          own = (o.2, sym (eqb-true _ _ a.0) ∙ o.2);
          same_fact = eqb-true _ _ a.1;
          other_value = eqb-false _ _ (not-true _ b.1);
          from_first = leb-true _ _ c.1;
          before_last = ltb-true _ _ d.1;
        },
      )

  -- no lower step is against itself, in any of the three parts
  none_both_ways : (step e f : ℕ) → SetsBothWays m step e f → step < both_ways_step m → f < e → ⊥
  unfolding both_ways_step set_before both_ways
  none_both_ways step e f b h l =
      unowned m.steps m.effects m.effect_step (set_before m) e b.known.0 (omega (arith, b.own.0))
      (any_intro (both_ways m e) e f l
      (ap₂ ◌&&◌
      (ap₂ ◌&&◌ (ap₂ ◌&&◌ (eq-eqb _ _ (b.own.0 ∙ sym b.own.1)) (eq-eqb _ _ b.same_fact)) (eq-eqb _ _ b.same_tick))
      (ap not (ne_eqb _ _ b.other_value))))

  none_twice : (step u v : ℕ) → UsesOneTwice m step u v → step < uses_twice_step m → v < u → ⊥
  unfolding uses_twice_step used_before uses_twice
  none_twice step u v b h l =
      unowned m.steps m.uses m.use_step (used_before m) u b.known.0 (omega (arith, b.own.0))
      (any_intro (uses_twice m u) u v l
      (ap₂ ◌&&◌ (ap₂ ◌&&◌ (eq-eqb _ _ (b.own.0 ∙ sym b.own.1)) (eq-eqb _ _ b.same_level)) (eq-eqb _ _ b.same_tick)))

  none_own : (step e c : ℕ) → OpposesItsOwn m step e c → step < opposes_own_step m → ⊥
  unfolding opposes_own_step opposes_any opposes_own
  none_own step e c b h =
      unowned m.steps m.effects m.effect_step (opposes_any m) e b.known.0 (omega (arith, b.own.0))
      (any_intro (opposes_own m e) m.conditions c b.known.1
      (ap₂ ◌&&◌
      (ap₂ ◌&&◌
      (ap₂ ◌&&◌ (ap₂ ◌&&◌ (eq-eqb _ _ (b.own.0 ∙ sym b.own.1)) (eq-eqb _ _ b.same_fact)) (ap not (ne_eqb _ _ b.other_value)))
      (le-leb _ _ b.from_first))
      (lt-ltb _ _ b.before_last)))

  none_lower : (step : ℕ) → step < against_step m → AgainstItself m step → ⊥
  unfolding against_step
  none_lower step h a =
      ⊎_elim
      (λ (w : (e : ℕ) × (f : ℕ) × SetsBothWays m step e f).
      let b = w.2 in
      by_order w.0 w.1
      (λ l.
      none_both_ways step w.1 w.0
      (record {
        known = (b.known.1, b.known.0);
        own = (b.own.1, b.own.0);
        same_fact = sym b.same_fact;
        same_tick = sym b.same_tick;
        other_value = λ q. b.other_value (sym q);
      })
      (omega arith) l)
      (λ l. none_both_ways step w.0 w.1 b (omega arith) l)
      (λ q. b.other_value (ap m.effect_value q)))
      (λ (o : ((u : ℕ) × (v : ℕ) × UsesOneTwice m step u v) ⊎ ((e : ℕ) × (c : ℕ) × OpposesItsOwn m step e c)).
      ⊎_elim
      (λ (w : (u : ℕ) × (v : ℕ) × UsesOneTwice m step u v).
      let b = w.2 in
      by_order w.0 w.1
      (λ l.
      none_twice step w.1 w.0
      (record {
        known = (b.known.1, b.known.0);
        two = λ q. b.two (sym q);
        own = (b.own.1, b.own.0);
        same_level = sym b.same_level;
        same_tick = sym b.same_tick;
      })
      (omega arith) l)
      (λ l. none_twice step w.0 w.1 b (omega arith) l)
      b.two)
      (λ (w : (e : ℕ) × (c : ℕ) × OpposesItsOwn m step e c). none_own step w.0 w.1 w.2 (omega arith))
      o)
      a

  -- the step named is against itself in one of them
  some_against : against_step m < m.steps → AgainstItself m (against_step m)
  unfolding against_step
  some_against h =
      elim (ℕ_discrete (against_step m) (both_ways_step m)) [
        | yes q ↦ subst (AgainstItself m) (sym q) (inl (both_ways_lem (omega arith)))
        | no a ↦ elim (ℕ_discrete (against_step m) (uses_twice_step m)) [
          | yes q ↦ subst (AgainstItself m) (sym q) (inr (inl (uses_twice_lem (omega arith))))
          | no b ↦
              let q : against_step m ≡ opposes_own_step m = omega arith in
              subst (AgainstItself m) (sym q) (inr (inr (opposes_own_lem (omega arith))))
        ]
      ]

  step_own : Own 7 (step_check m)
  unfolding step_check
  step_own = refuse_either (Own 7) _ _ (λ _. refl) (λ z. absurd (z refl))

  step_out_lem : (number (step_check m) ≡ 0 → ⊥) → FirstAgainst m (place (step_check m))
  unfolding step_check
  step_out_lem n =
      let t = refuse_says (ltb (against_step m) m.steps) (StepAgainstItself (against_step m)) n in
      let h : against_step m < m.steps = ltb-true _ _ t in
      subst (FirstAgainst m) (ap place (refuse_yes (StepAgainstItself (against_step m)) t))
      (record { counted = h; against = some_against h; no_lower = none_lower })

  steps_in_lem : number (step_check m) ≡ 0 → (step : ℕ) → step < m.steps → AgainstItself m step → ⊥
  steps_in_lem z step h = none_lower step (omega (arith, steps_zero m z))

-- refusal 17: two timed facts, and the same two the other way round
module _ (m : Model) where
  two_ways : (j k : ℕ) → j < m.timed → k < m.timed → timed_both_ways m j k ≡ true → TimedBothWays m j k
  unfolding timed_both_ways
  two_ways j k h g t =
      let b = and_both _ _ t in
      let a = and_both _ _ b.0 in
      record {
        known = (h, g);
        same_fact = eqb-true _ _ a.0;
        same_tick = eqb-true _ _ a.1;
        other_value = eqb-false _ _ (not-true _ b.1);
      }

  turned : (j k : ℕ) → TimedBothWays m j k → TimedBothWays m k j
  turned j k b =
      record {
        known = (b.known.1, b.known.0);
        same_fact = sym b.same_fact;
        same_tick = sym b.same_tick;
        other_value = λ q. b.other_value (sym q);
      }

  timed_found : (j k : ℕ) → TimedBothWays m j k → timed_conflicts m j ≡ true
  unfolding timed_conflicts timed_both_ways
  timed_found j k b =
      any_intro (timed_both_ways m j) m.timed k b.known.1
      (ap₂ ◌&&◌ (ap₂ ◌&&◌ (eq-eqb _ _ b.same_fact) (eq-eqb _ _ b.same_tick)) (ap not (ne_eqb _ _ b.other_value)))

  timed_own : Own 17 (timed_check m)
  unfolding timed_check refuse_lowest
  timed_own = refuse_either (Own 17) _ _ (λ _. refl) (λ z. absurd (z refl))

  -- the other of the two is higher: were it lower, it would be the one named
  first_of_two :
      (j : ℕ) → j < m.timed → timed_conflicts m j ≡ true → ((i : ℕ) → i < j → timed_conflicts m i ≡ false) → FirstOfTwo m j
  unfolding timed_conflicts
  first_of_two j h t below =
      let f = any_elim (timed_both_ways m j) m.timed t in
      let b = two_ways j f.0 h f.1 f.2 in
      record {
        against =
            by_order j f.0
            (λ l. (f.0, l, b))
            (λ l. contrary (timed_found f.0 j (turned j f.0 b)) (below f.0 l))
            (λ q. absurd (b.other_value (ap m.timed_value q)));
        no_lower = λ lower k l c. contrary (timed_found lower k c) (below lower l);
      }

  timed_out_lem : (number (timed_check m) ≡ 0 → ⊥) → FirstOfTwo m (place (timed_check m))
  unfolding timed_check
  timed_out_lem n =
      ⊎_elim
      (λ (a : (timed_check m ≡ Accepted) × ((k : ℕ) → k < m.timed → timed_conflicts m k ≡ false)). absurd (n (ap number a.0)))
      (λ (a : (k : ℕ) × (k < m.timed) × (timed_conflicts m k ≡ true) × ((j : ℕ) → j < k → timed_conflicts m j ≡ false)
      × (timed_check m ≡ Err (TimedFactsConflict k))).
      subst (FirstOfTwo m) (sym (ap place a.4)) (first_of_two a.0 a.1 a.2 a.3))
      (lowest_outcome m.timed (timed_conflicts m) TimedFactsConflict)

-- refusal 3: where a number of the header must be 0, it is
kept_zero : (a b : Bool) → (a && not b) ≡ false → a ≡ true → b ≡ true
kept_zero a b e t = not-false b (sym (ap (λ x. x && not b) t) ∙ e)

mark_out_lem :
    (s : List ℕ) → marks_wrong s (job_of s) ≡ true
    → (1 < serial_mark s) ⊎ (((u16_at s 0 < timed_edition) × (u16_at s 18 ≡ 0 → ⊥)) ⊎ ((u16_at s 0 ≡ needs_edition) × (u16_at s 54 ≡ 0 → ⊥)))
unfolding job_of counts_of marks_wrong
mark_out_lem s e =
    let mark = ltb 1 (serial_mark s) in
    let counted = ltb (u16_at s 0) timed_edition && not (eqb (u16_at s 18) 0) in
    let behind = eqb (u16_at s 0) needs_edition && not (eqb (u16_at s 54) 0) in
    ⊎_elim
    (λ (a : (mark || counted) ≡ true).
    ⊎_elim
    (λ (b : mark ≡ true). inl (ltb-true _ _ b))
    (λ (b : counted ≡ true). let p = and_both _ _ b in inr (inl (ltb-true _ _ p.0, eqb-false _ _ (not-true _ p.1))))
    (or_out mark counted a))
    (λ (a : behind ≡ true). let p = and_both _ _ a in inr (inr (eqb-true _ _ p.0, eqb-false _ _ (not-true _ p.1))))
    (or_out (mark || counted) behind e)

marks_in_lem :
    (s : List ℕ) → marks_wrong s (job_of s) ≡ false
    → (serial_mark s ≤ 1) × (u16_at s 0 < timed_edition → u16_at s 18 ≡ 0) × (u16_at s 0 ≡ needs_edition → u16_at s 54 ≡ 0)
unfolding job_of counts_of marks_wrong
marks_in_lem s e =
    let b = or_both _ _ e in
    let a = or_both _ _ b.0 in (
      ltb-false _ _ a.0,
      λ l. eqb-true _ _ (kept_zero _ _ a.1 (lt-ltb _ _ l)),
      λ q. eqb-true _ _ (kept_zero _ _ b.1 (eq-eqb _ _ q)),
    )

-- refusal 4
count_out_lem : (c : Counts) → count_too_high c ≡ true → (t : ℕ) × (t < 9) × (get_or highest t 0 < get_or (count_list c) t 0)
unfolding count_too_high
count_out_lem c h = let f = any_elim (λ t. ltb (get_or highest t 0) (get_or (count_list c) t 0)) 9 h in (f.0, f.1, ltb-true _ _ f.2)

form_own : (s : List ℕ) (k : ℕ) → Own (number_in k) (form_step s k)
form_own s zero = refuse_either (Own 1) _ _ (λ _. refl) (λ z. absurd (z refl))
form_own s (suc zero) = refuse_either (Own 2) _ _ (λ _. refl) (λ z. absurd (z refl))
form_own s (suc (suc zero)) = refuse_either (Own 1) _ _ (λ _. refl) (λ z. absurd (z refl))
form_own s (suc (suc (suc zero))) = refuse_either (Own 3) _ _ (λ _. refl) (λ z. absurd (z refl))
form_own s (suc (suc (suc (suc zero)))) = refuse_either (Own 4) _ _ (λ _. refl) (λ z. absurd (z refl))
form_own s (suc (suc (suc (suc (suc zero))))) = refuse_either (Own 5) _ _ (λ _. refl) (λ z. absurd (z refl))
form_own s (suc (suc (suc (suc (suc (suc zero)))))) = record_own (model_of s)
form_own s (suc (suc (suc (suc (suc (suc (suc zero))))))) = step_own (model_of s)
form_own s (suc (suc (suc (suc (suc (suc (suc (suc k)))))))) = timed_own (model_of s)

-- of the nine checks, those that give number n are among p, and those that give a number above n come after k
abbrev among : (ℕ → Bool) → ℕ → Bool
among p n = all 9 (λ j. not (eqb (number_in j) n) || p j)

abbrev after : ℕ → ℕ → Bool
after k n = all 9 (λ j. not (ltb n (number_in j)) || ltb k j)

-- where a test is implied by another that passes, it passes
implied : (a b : Bool) → (not a || b) ≡ true → a ≡ true → b ≡ true
implied a b e t = sym (ap (λ x. not x || b) t) ∙ e

module _ (s : List ℕ) {r : Verdict} (e : r ≡ form_check s) where
  -- check j is the first that refuses, and gives its verdict and its number
  abbrev Given : ℕ → Type 0
  Given j = FirstRefuses (form_step s) 9 j × (r ≡ form_step s j) × (number r ≡ number_in j)

  -- none refuses, or the first that does is given
  outcome : (number r ≡ 0) ⊎ ((j : ℕ) × Given j)
  outcome =
      ⊎_elim
      (λ (a : (number (in_turn (form_step s) 9) ≡ 0) × ((k : ℕ) → k < 9 → number (form_step s k) ≡ 0)). inl
      (ap number (e ∙ form_in_turn s) ∙ a.0))
      (λ (a : (j : ℕ) × FirstRefuses (form_step s) 9 j).
      let q = e ∙ form_in_turn s ∙ a.1.verdict in
      inr (a.0, (a.1, q, ap number q ∙ form_own s a.0 a.1.refuses)))
      (in_turn_lem (form_step s) 9)

  -- a check whose number is the verdict's gave it
  comes_among :
      (p : ℕ → Bool) (n : ℕ) → among p (suc n) ≡ true → number r ≡ suc n
      → (j : ℕ) × (p j ≡ true) × (r ≡ form_step s j) × (number (form_step s j) ≡ 0 → ⊥)
  comes_among p n t q =
      ⊎_elim
      (λ (z : number r ≡ 0). absurd (omega arith))
      (λ (a : (j : ℕ) × Given j). (
        a.0,
        implied _ _ (all_elim (λ j. not (eqb (number_in j) (suc n)) || p j) 9 t a.0 a.1.0.below) (eq-eqb _ _ (sym a.1.2 ∙ q)),
        a.1.1,
        a.1.0.refuses,
      ))
      outcome

  comes_from : (k n : ℕ) → among (λ j. eqb j k) (suc n) ≡ true → number r ≡ suc n → (r ≡ form_step s k) × (number (form_step s k) ≡ 0 → ⊥)
  comes_from k n t q =
      let a = comes_among (λ j. eqb j k) n t q in
      subst (λ (i : ℕ). (r ≡ form_step s i) × (number (form_step s i) ≡ 0 → ⊥)) (eqb-true a.0 k a.1) (a.2, a.3)

  -- and those before it accept
  lower_pass : (k n : ℕ) → after k n ≡ true → n < number r → number (form_step s k) ≡ 0
  lower_pass k n t h =
      ⊎_elim
      (λ (z : number r ≡ 0). absurd (omega arith))
      (λ (a : (j : ℕ) × Given j).
      a.1.0.earlier k
      (ltb-true _ _
      (implied _ _ (all_elim (λ j. not (ltb n (number_in j)) || ltb k j) 9 t a.0 a.1.0.below) (lt-ltb n (number_in a.0) (omega (arith, a.1.2))))))
      outcome

  at_most : FormNumber (number r)
  unfolding all
  at_most =
      ⊎_elim
      (λ (z : number r ≡ 0). inl (omega arith))
      (λ (a : (j : ℕ) × Given j).
      subst FormNumber (sym a.1.2)
      (⊎_elim
      (λ (t : leb (number_in a.0) 7 ≡ true). inl (leb-true _ _ t))
      (λ (t : eqb (number_in a.0) 17 ≡ true). inr (eqb-true _ _ t))
      (or_out _ _ (all_elim (λ j. leb (number_in j) 7 || eqb (number_in j) 17) 9 refl a.0 a.1.0.below))))
      outcome

  too_short : number r ≡ 1 → (length s < shortest_header) ⊎ (length s < header_width (u16_at s 0))
  unfolding job_of all
  too_short q =
      let a = comes_among (λ j. eqb j 0 || eqb j 2) 0 refl q in
      let says : (k : ℕ) → eqb a.0 k ≡ true → number (form_step s k) ≡ 0 → ⊥ =
      λ k i. subst (λ (j : ℕ). number (form_step s j) ≡ 0 → ⊥) (eqb-true a.0 k i) a.3 in
      ⊎_elim
      (λ (i : eqb a.0 0 ≡ true). inl (ltb-true _ _ (refuse_says _ _ (says 0 i))))
      (λ (i : eqb a.0 2 ≡ true). inr (ltb-true _ _ (refuse_says _ _ (says 2 i))))
      (or_out _ _ a.1)

  pub form_refusal : FormRefusal s r
  unfolding job_of counts_of edition_known all
  form_refusal =
      let m = model_of s in
      record {
        short = too_short;
        long = λ h. ltb-false _ _ (refuse_zero _ _ (lower_pass 0 1 refl h));
        long_enough = λ h. ltb-false _ _ (refuse_zero _ _ (lower_pass 2 2 refl h));
        other_edition = λ q a b.
            contrary (ap₂ ◌&&◌ (le-leb _ _ a) (le-leb _ _ b)) (not-true _ (refuse_says _ _ (comes_from 1 1 refl q).1));
        known_edition = λ h.
            let b = and_both _ _ (not-false _ (refuse_zero _ _ (lower_pass 1 2 refl h))) in
            (leb-true _ _ b.0, leb-true _ _ b.1);
        mark_out = λ q. mark_out_lem s (refuse_says _ _ (comes_from 3 2 refl q).1);
        marks_in = λ h. marks_in_lem s (refuse_zero _ _ (lower_pass 3 3 refl h));
        count_out = λ q. count_out_lem (counts_of s) (refuse_says _ _ (comes_from 4 3 refl q).1);
        counts_in = λ h. counts (counts_of s) (refuse_zero _ _ (lower_pass 4 4 refl h));
        layout_out = λ q. not-true _ (refuse_says _ _ (comes_from 5 4 refl q).1);
        layout_in = λ h. not-false _ (refuse_zero _ _ (lower_pass 5 5 refl h));
        record_out = λ q.
            let g = comes_from 6 5 refl q in
            let o = record_out_lem m g.1 in
            (o.0, subst (FirstOutOfRange m o.0) (sym (ap place g.0)) o.1);
        records_in = λ h. tables m (lower_pass 6 6 refl h);
        step_out = λ q. let g = comes_from 7 6 refl q in subst (FirstAgainst m) (sym (ap place g.0)) (step_out_lem m g.1);
        steps_in = λ h. steps_in_lem m (lower_pass 7 7 refl h);
        timed_out = λ q. let g = comes_from 8 16 refl q in subst (FirstOfTwo m) (sym (ap place g.0)) (timed_out_lem m g.1);
        most = at_most;
        unplaced = λ h. unplaced r (inl h);
      }

pub form_most : (s : List ℕ) → FormNumber (number (form_check s))
form_most s = at_most s refl

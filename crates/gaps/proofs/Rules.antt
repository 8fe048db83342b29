-- Rules 2, 3 and 4, with needs: a table raised to the orders between groups of points is raised by the rule's gaps.
use Prim.Native.Nat.{ℕ, ◌+◌, ◌%◌, ◌≤◌, ◌<◌, max}
use mathlib.Core.Path.{◌≡◌, refl, sym, ap, ap₂, subst, ◌∙◌}
use mathlib.Core.Bool.{Bool, true, not, ◌&&◌}
use mathlib.Core.List.{List}
use mathlib.Core.Logic.{inl, inr, ⊎_elim}
use native.Mathlib.Decide.{ℕ_discrete, dec_lt}
use native.Mathlib.Omega.{arith}
use borrow.Author.Tests.{eqb-true, eqb-false, not-true, ltb-true, eq-eqb, ne_eqb, lt-ltb}
use lib.Dec.{eqb, ltb}
use lib.ListN.{length, get_or}
use Rattle.laws.specs.Fold.{largest}
use Rattle.laws.proofs.Fold.{largest_le}
use Rattle.laws.proofs.Search.{and_both}
use Rattle.job.specs.Model.{Model}
use Rattle.job.specs.Clocked.{clocked}
use Rattle.job.proofs.Clocked.{step_near, clocked_form}
use Rattle.timeline.specs.Words.{word_step, word_value, word_tick, number_at, value_span}
use Rattle.validity.specs.Ticks.{schedule_of, effect_tick, first_tick, last_tick, use_tick, need_tick, opposes}
use Rattle.points.specs.Points.{wanted_group, used_group, needed_group}
use Rattle.orders.specs.Gaps.{opposing_order, opposing_gap, before_order, after_order, condition_gap, level_order, level_gap}
use Rattle.orders.specs.Gaps.{need_order, use_order, need_gap}
use Rattle.orders.proofs.Orders.{condition_ge, need_ge}
use Rattle.orders.proofs.Near.{from_near, to_near, use_near, need_near}
use Rattle.origins.specs.declared.Fact.{Fact}
use Rattle.origins.specs.declared.Origin.{Origin}
use Rattle.origins.specs.declared.Span.{Span}
use Rattle.origins.specs.declared.Turn.{Turn}
use Rattle.origins.specs.declared.Turn.TheVariants.{Same, Other}
use Rattle.origins.specs.Raised.{Raised}
use Rattle.gaps.specs.Rules.{ValidPoints}
use Rattle.origins.specs.Points.{point_origin, last_origin, Group, FactKnown, Reached, Among}
use Rattle.gaps.specs.Rules.{fact_at, span_at}
use Rattle.origins.specs.Points.{FromSetters, FromConditions, FactOrder, FromPoints, FromTo, Between}
use Rattle.origins.proofs.Reached.{reached_raised}
use Rattle.gaps.proofs.Pairs.{Listed, Rule, listed_offset, listed_group, rule_under, rule_over, rule_raised}

-- The places that the code read.
module _ {fact given : Fact} (e : fact ≡ given) where
  pub given_known : {m : Model} {starts points : List ℕ} → FactKnown m starts points given → FactKnown m starts points fact
  given_known {m} {starts} {points} w = subst (λ f. FactKnown m starts points f) (sym e) w

  pub given_reached :
      (n : ℕ) (m : Model) (x : ℕ → ℕ) (points before after : List ℕ) → Reached n (FactOrder m x points fact) before after
      → Reached n (FactOrder m x points given) before after
  given_reached n m x points before after w = subst (λ f. Reached n (FactOrder m x points f) before after) e w

pub given_points :
    (n : ℕ) (x : ℕ → ℕ) (points before after : List ℕ) (turn : Turn) {low high low' high' : ℕ} → low ≡ low' → high ≡ high'
    → Reached n (FromPoints x points low high turn) before after
    → Reached n (FromPoints x points low' high' turn) before after
given_points n x points before after turn {low} {high} {low'} {high'} d e w =
    subst (λ l. Reached n (FromPoints x points l high' turn) before after) d
    (subst (λ h. Reached n (FromPoints x points low h turn) before after) e w)

pub given_group :
    {n : ℕ} {starts points : List ℕ} {span given : Span} → span ≡ given → Group n starts points given.low given.high
    → Group n starts points span.low span.high
given_group {n} {starts} {points} e w = subst (λ s. Group n starts points s.low s.high) (sym e) w

pub given_between :
    (n : ℕ) (x : ℕ → ℕ) (points before after : List ℕ) {first second first' second' : Span} → first ≡ first' → second ≡ second'
    → Reached n (Between x points first second) before after
    → Reached n (Between x points first' second') before after
given_between n x points before after {first} {second} {first'} {second'} d e w =
    subst (λ f. Reached n (Between x points f second') before after) d (subst (λ g. Reached n (Between x points first g) before after) e w)

-- the orders of rule 2 of a fact, and of rule 4 and the needs of a level of a job of so many facts and levels
abbrev pub OpposingOrder : (ℕ → ℕ) → List ℕ → List ℕ → ℕ → ℕ → ℕ → ℕ → Type 0
OpposingOrder x points begins f = FromPoints x points (get_or begins f 0) (get_or begins (f + 1) 0) Other

abbrev pub LevelOrder : ℕ → (ℕ → ℕ) → List ℕ → List ℕ → ℕ → ℕ → ℕ → ℕ → Type 0
LevelOrder facts x points begins l = FromPoints x points (get_or begins (facts + facts + l) 0) (get_or begins (facts + facts + l + 1) 0) Same

abbrev pub NeedOrder : ℕ → ℕ → (ℕ → ℕ) → List ℕ → List ℕ → ℕ → ℕ → ℕ → ℕ → Type 0
NeedOrder facts levels x points begins l = Between x points (span_at begins (facts + facts + l)) (span_at begins (facts + facts + levels + l))

-- what lies at least a tick later is later
later_by_one : (a b : ℕ) → a + 1 ≤ b → ltb a b ≡ true
later_by_one a b h = lt-ltb a b (omega arith)

one_later : (a b : ℕ) → ltb a b ≡ true → a + 1 ≤ b
one_later a b t = omega (arith, ltb-true a b t)

-- equality does not mind the order
eqb_swap : (a b : ℕ) → eqb a b ≡ eqb b a
eqb_swap a b =
    elim (ℕ_discrete a b) [
      | yes q ↦ eq-eqb a b q ∙ sym (eq-eqb b a (sym q))
      | no q ↦ ne_eqb a b q ∙ sym (ne_eqb b a (λ r. q (sym r)))
    ]

module _ {m : Model} {x : ℕ → ℕ} {points begins : List ℕ} where
  -- Points of facts with values: those of one value against those of the other.
  opposing_rule :
      {first second : Listed m x points begins} (origin : ℕ → Origin) (end : ℕ → ℕ) (wait : ℕ) (fits sooner : ℕ → ℕ → Bool)
      → ((word : ℕ) → (origin word).step ≡ word_step word)
      → ((word : ℕ) → (origin word).value ≡ (word_value word + 1) % value_span)
      → ((word : ℕ) → (origin word).tick ≡ word_tick word + wait)
      → first.groups ≡ second.groups
      → ((a b : ℕ) → fits a b ≡ (eqb (first.group a) (second.group b) && not (eqb (first.value a) (second.value b))))
      → ((g p : ℕ) → g < first.groups → get_or begins (first.place g) 0 ≤ p → p < get_or begins (first.place g + 1) 0
      → (origin (get_or points p 0)).at ≡ end (number_at points p))
      → ((a b : ℕ) → a < first.count → b < second.count → fits a b ≡ true → (first.step a ≡ second.step b → ⊥)
      → first.tick a + wait ≤ second.tick b
      → sooner a b ≡ true)
      → ((a b : ℕ) → a < first.count → b < second.count → sooner a b ≡ true → first.tick a + wait ≤ second.tick b)
      → Rule m x points begins first second origin end wait 1 fits sooner
  opposing_rule {first} {second} origin end wait fits sooner from valued due alike same ended waiting waited =
      record {
        from = from;
        valued = valued;
        due = due;
        facing = λ g h. omega (arith, alike);
        ended = ended;
        fitting = λ a b h l e v.
            same a b
            ∙ ap₂ ◌&&◌ (eq-eqb _ _ (sym e)) (ap not (ne_eqb (first.value a) (second.value b) (λ q. omega (arith, v, q, first.two a h))));
        fitted = λ a b h l r.
            let both = and_both (eqb (first.group a) (second.group b)) (not (eqb (first.value a) (second.value b))) (sym (same a b) ∙ r) in
            let differ : first.value a ≡ second.value b → ⊥ = eqb-false _ _ (not-true _ both.1) in
            (sym (eqb-true _ _ both.0), omega (arith, first.two a h, second.two b l));
        waiting = waiting;
        waited = waited;
      }

  -- Points on levels, which have no value: those of one kind against those of the same or of another.
  level_rule :
      {first second : Listed m x points begins} (fits sooner : ℕ → ℕ → Bool) → first.groups ≡ second.groups
      → ((a b : ℕ) → second.value b ≡ (first.value a + 0) % value_span)
      → ((a b : ℕ) → second.group b ≡ first.group a → fits a b ≡ true)
      → ((a b : ℕ) → fits a b ≡ true → second.group b ≡ first.group a)
      → ((a b : ℕ) → sooner a b ≡ ltb (first.tick a) (second.tick b))
      → Rule m x points begins first second (point_origin x Same) first.at 1 0 fits sooner
  level_rule {first} {second} fits sooner alike none fitting fitted same =
      record {
        from = λ w. refl;
        valued = λ w. refl;
        due = λ w. refl;
        facing = λ g h. omega (arith, alike);
        ended = λ g p h a b. (listed_offset first g h p a b).0;
        fitting = λ a b h l e z. fitting a b e;
        fitted = λ a b h l r. (fitted a b r, none a b);
        waiting = λ a b h l r d t. same a b ∙ later_by_one _ _ t;
        waited = λ a b h l t. one_later _ _ (sym (same a b) ∙ t);
      }

  module _ (known : ValidPoints m x points begins) where
    unfoldable effect_list : Listed m x points begins
    effect_list =
        let f = known.form in
        record {
          count = m.effects;
          groups = m.facts;
          place = λ g. g;
          group = m.effect_fact;
          tick = effect_tick m x;
          value = m.effect_value;
          step = m.effect_step;
          at = m.effect_at;
          placed = known.known.setters;
          within = f.effect_fact;
          two = f.effect_value;
          timed = λ e. refl;
          inside = f.effect_step;
          near = step_near m f;
        }

    unfoldable condition_list : Listed m x points begins
    condition_list =
        let f = known.form in
        record {
          count = m.conditions;
          groups = m.facts;
          place = wanted_group m;
          group = m.condition_fact;
          tick = first_tick m x;
          value = m.condition_value;
          step = m.condition_step;
          at = m.condition_from;
          placed = known.known.wanted;
          within = f.condition_fact;
          two = f.condition_value;
          timed = λ c. refl;
          inside = f.condition_step;
          near = from_near (clocked m) (clocked_form m f);
        }

    unfoldable use_list : Listed m x points begins
    use_list =
        let f = known.form in
        record {
          count = m.uses;
          groups = m.levels;
          place = used_group m;
          group = m.use_level;
          tick = use_tick m x;
          value = λ _. 0;
          step = m.use_step;
          at = m.use_at;
          placed = known.known.used;
          within = f.use_level;
          two = λ u h. omega arith;
          timed = λ u. refl;
          inside = f.use_step;
          near = use_near (clocked m) (clocked_form m f);
        }

    unfoldable need_list : Listed m x points begins
    need_list =
        let f = known.form in
        record {
          count = m.needs;
          groups = m.levels;
          place = needed_group m;
          group = m.need_level;
          tick = need_tick m x;
          value = λ _. 0;
          step = m.need_step;
          at = m.need_at;
          placed = known.known.needed;
          within = f.need_level;
          two = λ n h. omega arith;
          timed = λ n. refl;
          inside = f.need_step;
          near = need_near (clocked m) (clocked_form m f);
        }

    -- Rule 2.
    opposing_is :
        Rule m x points begins effect_list effect_list (point_origin x Other) m.effect_at 1 1 (λ e f. opposes m e (m.effect_fact f) (m.effect_value f))
        (λ e f. ltb (effect_tick m x e) (effect_tick m x f))
    unfolding effect_list
    opposing_is =
        opposing_rule (point_origin x Other) m.effect_at 1 _ _ (λ w. refl) (λ w. refl) (λ w. refl) refl (λ e f. refl)
        (λ g p h a b. (listed_offset effect_list g h p a b).0)
        (λ e f h l r d t. later_by_one _ _ t) (λ e f h l t. one_later _ _ t)

    pub opposing_raised :
        (before after : List ℕ) → Reached m.steps (Among 0 m.facts (OpposingOrder x points begins)) before after
        → Raised m.steps (opposing_gap m x) before after
    unfolding effect_list opposing_gap opposing_order
    opposing_raised before after w = rule_raised opposing_is before after known.form.step_count w

    -- Rule 3.
    before_is :
        Rule m x points begins effect_list condition_list (point_origin x Other) m.effect_at 1 1 (λ e c. opposes m e (m.condition_fact c) (m.condition_value c))
        (λ e c. ltb (effect_tick m x e) (first_tick m x c))
    unfolding effect_list condition_list
    before_is =
        opposing_rule (point_origin x Other) m.effect_at 1 _ _ (λ w. refl) (λ w. refl) (λ w. refl) refl (λ e c. refl)
        (λ g p h a b. (listed_offset effect_list g h p a b).0)
        (λ e c h l r d t. later_by_one _ _ t) (λ e c h l t. one_later _ _ t)

    -- an opposing effect of another step that is not before the first tick is after the last
    after_last :
        (c e : ℕ) → c < m.conditions → e < m.effects → opposes m e (m.condition_fact c) (m.condition_value c) ≡ true
        → (m.condition_step c ≡ m.effect_step e → ⊥)
        → first_tick m x c + 0 ≤ effect_tick m x e
        → ltb (last_tick m x c) (effect_tick m x e) ≡ true
    after_last c e h l against apart t =
        elim (dec_lt (last_tick m x c) (effect_tick m x e)) [
          | yes r ↦ lt-ltb _ _ r
          | no r ↦
              let both = and_both (eqb (m.effect_fact e) (m.condition_fact c)) (not (eqb (m.effect_value e) (m.condition_value c))) against in
              absurd
              (eqb-false _ _ (not-true _ both.1)
              (known.kept c e h l (λ q. apart (sym q)) (eqb-true _ _ both.0) (omega arith) (omega arith)))
        ]

    after_is :
        Rule m x points begins condition_list effect_list (last_origin m) m.condition_to 0 1 (λ c e. opposes m e (m.condition_fact c) (m.condition_value c))
        (λ c e. ltb (last_tick m x c) (effect_tick m x e))
    unfolding effect_list condition_list
    after_is =
        opposing_rule (last_origin m) m.condition_to 0 (λ c e. opposes m e (m.condition_fact c) (m.condition_value c)) _ (λ w. refl) (λ w. refl)
        (λ w. omega arith) refl
        (λ c e. ap₂ (λ s t. s && not t) (eqb_swap (m.effect_fact e) (m.condition_fact c)) (eqb_swap (m.effect_value e) (m.condition_value c)))
        (λ g p h a b. refl) after_last
        (λ c e h l t. omega (arith, ltb-true (last_tick m x c) (effect_tick m x e) t, known.form.condition_span c h))

    condition_le :
        (i k bound : ℕ) → ((e c : ℕ) → e < m.effects → c < m.conditions → before_order m x i k c e ≤ bound)
        → ((c e : ℕ) → c < m.conditions → e < m.effects → after_order m x i k c e ≤ bound)
        → condition_gap m x i k ≤ bound
    unfolding condition_gap
    condition_le i k bound before after =
        largest_le (λ c. max (largest m.effects (before_order m x i k c)) (largest m.effects (after_order m x i k c))) m.conditions bound
        (λ c h. omega (
          arith,
          largest_le (before_order m x i k c) m.effects bound (λ e l. before e c l h),
          largest_le (after_order m x i k c) m.effects bound (λ e l. after c e h l),
        ))

    pub conditions_raised :
        (before after : List ℕ)
        → Reached m.steps (Among 0 m.facts (λ f. FactOrder m x points (fact_at begins m.facts f))) before after
        → Raised m.steps (condition_gap m x) before after
    unfolding effect_list condition_list before_order after_order
    conditions_raised before after w =
        reached_raised m.steps (Among 0 m.facts (λ f. FactOrder m x points (fact_at begins m.facts f))) (condition_gap m x) before after
        known.form.step_count w
        (λ i k gap a o.
        ⊎_elim
        (λ (r : FromSetters x points (fact_at begins m.facts o.0) i k gap).
        rule_under before_is o.0 i k gap (condition_gap m x i k) o.2 a.2 r (λ e c h l. (condition_ge m x i k c e l h).0))
        (λ (r : FromConditions m x points (fact_at begins m.facts o.0) i k gap).
        rule_under after_is o.0 i k gap (condition_gap m x i k) o.2 a.2 r (λ c e h l. (condition_ge m x i k c e h l).1))
        o.3)
        (λ i k bound a all.
        condition_le i k bound (rule_over before_is i k bound (λ f gap h o. all gap (f, omega arith, h, inl o)))
        (rule_over after_is i k bound (λ f gap h o. all gap (f, omega arith, h, inr o))))

    -- Rule 4.
    levels_is :
        Rule m x points begins use_list use_list (point_origin x Same) m.use_at 1 0 (λ u v. eqb (m.use_level u) (m.use_level v))
        (λ u v. ltb (use_tick m x u) (use_tick m x v))
    unfolding use_list
    levels_is =
        level_rule _ _ refl (λ u v. refl) (λ u v e. eq-eqb _ _ (sym e)) (λ u v r. sym (eqb-true _ _ r)) (λ u v. refl)

    pub levels_raised :
        (before after : List ℕ) → Reached m.steps (Among 0 m.levels (LevelOrder m.facts x points begins)) before after
        → Raised m.steps (level_gap m x) before after
    unfolding use_list level_gap level_order
    levels_raised before after w = rule_raised levels_is before after known.form.step_count w

    -- With rule 4: a need before the uses of its level, and after them.
    needs_is :
        Rule m x points begins need_list use_list (point_origin x Same) m.need_at 1 0 (λ n u. eqb (m.use_level u) (m.need_level n))
        (λ n u. ltb (need_tick m x n) (use_tick m x u))
    unfolding need_list use_list
    needs_is = level_rule _ _ refl (λ n u. refl) (λ n u e. eq-eqb _ _ e) (λ n u r. eqb-true _ _ r) (λ n u. refl)

    uses_is :
        Rule m x points begins use_list need_list (point_origin x Same) m.use_at 1 0 (λ u n. eqb (m.use_level u) (m.need_level n))
        (λ u n. ltb (use_tick m x u) (need_tick m x n))
    unfolding need_list use_list
    uses_is = level_rule _ _ refl (λ u n. refl) (λ u n e. eq-eqb _ _ (sym e)) (λ u n r. sym (eqb-true _ _ r)) (λ u n. refl)

    need_le :
        (i k bound : ℕ) → ((n u : ℕ) → n < m.needs → u < m.uses → need_order m x i k n u ≤ bound)
        → ((u n : ℕ) → u < m.uses → n < m.needs → use_order m x i k n u ≤ bound)
        → need_gap m x i k ≤ bound
    unfolding need_gap
    need_le i k bound before after =
        largest_le (λ n. max (largest m.uses (need_order m x i k n)) (largest m.uses (use_order m x i k n))) m.needs bound
        (λ n h. omega (
          arith,
          largest_le (need_order m x i k n) m.uses bound (λ u l. before n u h l),
          largest_le (use_order m x i k n) m.uses bound (λ u l. after u n l h),
        ))

    pub needs_raised :
        (before after : List ℕ) → Reached m.steps (Among 0 m.levels (NeedOrder m.facts m.levels x points begins)) before after
        → Raised m.steps (need_gap m x) before after
    unfolding need_list use_list need_order use_order
    needs_raised before after w =
        reached_raised m.steps (Among 0 m.levels (NeedOrder m.facts m.levels x points begins)) (need_gap m x) before after
        known.form.step_count w
        (λ i k gap a o.
        ⊎_elim
        (λ (r : FromTo x points (used o.0) (needed o.0) Same i k gap).
        rule_under uses_is o.0 i k gap (need_gap m x i k) o.2 a.2 r (λ u n l h. (need_ge m x i k n u h l).1))
        (λ (r : FromTo x points (needed o.0) (used o.0) Same i k gap).
        rule_under needs_is o.0 i k gap (need_gap m x i k) o.2 a.2 r (λ n u h l. (need_ge m x i k n u h l).0))
        o.3)
        (λ i k bound a all.
        need_le i k bound (rule_over needs_is i k bound (λ l gap h o. all gap (l, omega arith, h, inr o)))
        (rule_over uses_is i k bound (λ l gap h o. all gap (l, omega arith, h, inl o))))
      where
        used : ℕ → Span
        used l = span_at begins (used_group m l)

        needed : ℕ → Span
        needed l = span_at begins (needed_group m l)

-- What the rules order, if each step has a start.
module _ {m : Model} {starts points begins : List ℕ} (known : ValidPoints m (schedule_of starts) points begins) (each : m.steps ≤ length starts) where
  pub opposing_known : (f : ℕ) → f < m.facts → Group m.steps starts points (get_or begins f 0) (get_or begins (f + 1) 0)
  unfolding effect_list
  opposing_known f h = listed_group (effect_list known) f h each

  pub fact_known : (f : ℕ) → f < m.facts → FactKnown m starts points (fact_at begins m.facts f)
  unfolding condition_list
  fact_known f h =
      record {
        placed = record { setters = opposing_known f h; wanted = listed_group (condition_list known) f h each; few = known.form.step_count };
        ended = λ p a b. to_near (clocked m) (clocked_form m known.form) (number_at points p) ((known.known.wanted f h).holds p a b).0;
      }

  pub level_known : (l : ℕ) → l < m.levels → Group m.steps starts points (get_or begins (used_group m l) 0) (get_or begins (used_group m l + 1) 0)
  unfolding use_list
  level_known l h = listed_group (use_list known) l h each

  pub need_known : (l : ℕ) → l < m.levels → Group m.steps starts points (get_or begins (needed_group m l) 0) (get_or begins (needed_group m l + 1) 0)
  unfolding need_list
  need_known l h = listed_group (need_list known) l h each

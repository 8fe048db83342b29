-- What is filed of a valid schedule keeps every limit of an order file. No point lies further from its start than a step is
-- long, so no gap is above the highest; no step is ordered against itself, so a pair of each row stays empty.
use Prim.Native.Nat.{ℕ, ◌+◌, ◌-◌, ◌/◌, ◌%◌, ◌≤◌, ◌<◌, max}
use mathlib.Core.Path.{◌≡◌, refl, ap, ◌∙◌}
use mathlib.Core.Bool.{Bool, true, false, ◌&&◌, not, cond}
use mathlib.Core.Logic.{◌⊎◌, inl, inr, ⊎_elim}
use native.Mathlib.Decide.{ℕ_discrete, dec_lt, dec_le}
use native.Mathlib.Omega.{arith}
use borrow.Author.Tests.{lt-ltb, le-ltb, eq-eqb, eqb-true, eqb-false, not-true}
use lib.Dec.{ltb, eqb}
use Rattle.laws.specs.Fold.{largest}
use Rattle.laws.specs.Nth.{count}
use Rattle.laws.proofs.Search.{either, and_both}
use Rattle.laws.proofs.Fold.{largest_at, least_none}
use Rattle.laws.proofs.Nth.{nth_ascends, count_apart}
use Rattle.job.specs.Model.{Model, longest, last_start}
use Rattle.job.specs.Clocked.{ClockedForm}
use Rattle.validity.specs.Ticks.{opposes}
use Rattle.validity.specs.Valid.{Valid}
use Rattle.order_file.specs.Within.{Within}
use Rattle.order_file.specs.Contents.{initial_state, no_latest, last_link, order_limit, gap_bias, least_gap, most_gap}
use Rattle.order_file.specs.Table.{row_width, table_size}
use Rattle.orders.specs.Links.{condition_link, nth_link}
use Rattle.orders.specs.Gaps.{strictly, support_order, support_gap, opposing_order, opposing_gap, before_order, after_order, condition_gap, level_order}
use Rattle.orders.specs.Gaps.{level_gap, need_order, use_order, need_gap, gap_of}
use Rattle.orders.specs.Windows.{limit_of, allowed, latest_of}
use Rattle.rounds.specs.Rounds.{earliest}
use Rattle.orders.specs.Supporter.{LinkedTo, by_initial_state, by_effect}
use Rattle.orders.specs.File.{rounds_of, earliest_of, ordered, pair_of, file_with}
use Rattle.rounds.proofs.Rounds.{after_above, rounds_le}
use Rattle.orders.proofs.Near.{from_near, to_near, use_near, need_near}
use Rattle.orders.proofs.Supporter.{condition_supported, goal_supported}
use Rattle.orders.proofs.Limits.{latest_fixed, latest_free}
use Rattle.orders.proofs.Planned.{planned_obeys}
use Rattle.orders.proofs.Satisfied.{ordered_out, pair_ordered, earliest_planned}

-- no order, or one whose gap an order file can hold
abbrev Span : ℕ → Type 0
Span gap = (gap ≡ 0) ⊎ ((least_gap ≤ gap) × (gap ≤ most_gap))

span_max : {a b : ℕ} → Span a → Span b → Span (max a b)
span_max {a} {b} s t =
    elim (dec_le a b) [
      | yes l ↦ let e : max a b ≡ b = omega arith in rw e t
      | no l ↦ let e : max a b ≡ a = omega arith in rw e s
    ]

span_largest : (f : ℕ → ℕ) (n : ℕ) → ((k : ℕ) → k < n → Span (f k)) → Span (largest n f)
span_largest f n h =
    ⊎_elim
    (λ (z : largest n f ≡ 0). inl z)
    (λ (w : (k : ℕ) × (k < n) × (f k ≡ largest n f)). rw (← w.2) (h w.0 w.1))
    (largest_at f n)

-- the gap of two points no further from their starts than a step is long, if it is chosen
span_chosen : (b : Bool) (p q : ℕ) → (b ≡ true → (p ≤ longest) × (q ≤ longest)) → Span (cond b (strictly p q) 0)
span_chosen true p q h = let n = h refl in inr (omega (arith, n.0, n.1), omega (arith, n.0))
span_chosen false p q h = inl refl

-- of two points of steps i and k as they lie: rules 2, 3 and 4
near :
    (x : ℕ → ℕ) (i k j n p q : ℕ) (c : Bool) → (j ≡ i → p ≤ longest) → (n ≡ k → q ≤ longest)
    → Span (cond (eqb j i && eqb n k && c && ltb (x j + p) (x n + q)) (strictly p q) 0)
near x i k j n p q c h g =
    span_chosen (eqb j i && eqb n k && c && ltb (x j + p) (x n + q)) p q
    (λ t. let b = and_both _ _ (and_both _ _ (and_both _ _ t).0).0 in (h (eqb-true _ _ b.0), g (eqb-true _ _ b.1)))

-- a link is an effect's number, or stands for the initial state
pub link_known :
    (m : Model) (x : ℕ → ℕ) (fact v : ℕ) (before own : ℕ → Type 0) (link : ℕ) → LinkedTo m x fact v before own link
    → (link < m.effects) ⊎ (link ≡ initial_state)
link_known m x fact v before own link (by_initial_state z i) = inr z
link_known m x fact v before own link (by_effect n p) = inl p.candidate.known

module _ (m : Model) (x : ℕ → ℕ) (w : ClockedForm m) (s : Valid m x) where
  -- of two steps, not of the clock
  module _ (i k : ℕ) (h : i < m.steps) (g : k < m.steps) where
    own_near : (e a : ℕ) → e < m.effects → a < m.steps → m.effect_step e ≡ a → m.effect_at e ≤ longest
    own_near e a l b q = w.step_effect_near e l (omega arith)

    support_span : Span (support_gap m x i k)
    unfolding support_gap support_order
    support_span =
        span_largest (support_order m x i k) m.conditions
        (λ c l.
        let e = condition_link m x c in
        span_chosen (not (eqb e initial_state) && eqb (m.effect_step e) i && eqb (m.condition_step c) k) (m.effect_at e) (m.condition_from c)
        (λ t.
        let b = and_both _ _ (and_both _ _ t).0 in
        let n = eqb-false _ _ (not-true _ b.0) in (
          ⊎_elim
              (λ (r : e < m.effects). own_near e i r h (eqb-true _ _ b.1))
              (λ (z : e ≡ initial_state). absurd (n z))
              (link_known m x _ _ _ _ e (condition_supported m x w s c l)),
          from_near m w c l,
        )))

    opposing_span : Span (opposing_gap m x i k)
    unfolding opposing_gap opposing_order
    opposing_span =
        span_largest (λ e. largest m.effects (opposing_order m x i k e)) m.effects
        (λ e l. span_largest (opposing_order m x i k e) m.effects
        (λ f r. near x i k (m.effect_step e) (m.effect_step f) (m.effect_at e) (m.effect_at f) (opposes m e (m.effect_fact f) (m.effect_value f))
        (own_near e i l h) (own_near f k r g)))

    condition_span_lem : Span (condition_gap m x i k)
    unfolding condition_gap before_order after_order
    condition_span_lem =
        span_largest (λ c. max (largest m.effects (before_order m x i k c)) (largest m.effects (after_order m x i k c))) m.conditions
        (λ c l.
        let o : ℕ → Bool = λ e. opposes m e (m.condition_fact c) (m.condition_value c) in
        span_max
        (span_largest (before_order m x i k c) m.effects
        (λ e r. near x i k (m.effect_step e) (m.condition_step c) (m.effect_at e) (m.condition_from c) (o e) (own_near e i r h) (λ _. from_near m w c l)))
        (span_largest (after_order m x i k c) m.effects
        (λ e r. near x i k (m.condition_step c) (m.effect_step e) (m.condition_to c) (m.effect_at e) (o e) (λ _. to_near m w c l) (own_near e k r g))))

    level_span : Span (level_gap m x i k)
    unfolding level_gap level_order
    level_span =
        span_largest (λ u. largest m.uses (level_order m x i k u)) m.uses
        (λ u l. span_largest (level_order m x i k u) m.uses
        (λ v r. near x i k (m.use_step u) (m.use_step v) (m.use_at u) (m.use_at v) (eqb (m.use_level u) (m.use_level v)) (λ _. use_near m w u l)
        (λ _. use_near m w v r)))

    need_span : Span (need_gap m x i k)
    unfolding need_gap need_order use_order
    need_span =
        span_largest (λ n. max (largest m.uses (need_order m x i k n)) (largest m.uses (use_order m x i k n))) m.needs
        (λ n l.
        let o : ℕ → Bool = λ u. eqb (m.use_level u) (m.need_level n) in
        span_max
        (span_largest (need_order m x i k n) m.uses
        (λ u r. near x i k (m.need_step n) (m.use_step u) (m.need_at n) (m.use_at u) (o u) (λ _. need_near m w n l) (λ _. use_near m w u r)))
        (span_largest (use_order m x i k n) m.uses
        (λ u r. near x i k (m.use_step u) (m.need_step n) (m.use_at u) (m.need_at n) (o u) (λ _. use_near m w u r) (λ _. need_near m w n l))))

    -- no gap is below the least or above the highest
    gap_span_lem : Span (gap_of m x i k)
    unfolding gap_of
    gap_span_lem =
        ⊎_elim
        (λ (e : eqb i k ≡ true). rw e (inl refl))
        (λ (e : eqb i k ≡ false).
        rw e (span_max (span_max (span_max (span_max support_span opposing_span) condition_span_lem) level_span) need_span))
        (either (eqb i k))

    filed_span : (gap_of m x i k ≡ 0 → ⊥) → (least_gap ≤ gap_of m x i k) × (gap_of m x i k ≤ most_gap)
    filed_span n =
        ⊎_elim
        (λ (z : gap_of m x i k ≡ 0). absurd (n z))
        (λ (b : (least_gap ≤ gap_of m x i k) × (gap_of m x i k ≤ most_gap)). b)
        gap_span_lem

-- no step is ordered against itself
gap_self : (m : Model) (x : ℕ → ℕ) (i k : ℕ) → i ≡ k → gap_of m x i k ≡ 0
unfolding gap_of
gap_self m x i k e = rw (eq-eqb _ _ e)

-- the pairs of a step with itself: in each row one entry further on
abbrev alone : ℕ → Bool
alone q = eqb (q % (row_width + 1)) 0

alone_count : count table_size alone ≡ row_width
unfolding count
alone_count = refl

alone_same : (q : ℕ) → q < table_size → q % (row_width + 1) ≡ 0 → q / row_width ≡ q % row_width
alone_same q h e = omega arith

order_count_lem : (m : Model) (x : ℕ → ℕ) → count table_size (ordered m x) ≤ order_limit
order_count_lem m x =
    omega (
      arith,
      alone_count,
      count_apart (ordered m x) alone table_size
          (λ q h t a. (ordered_out m x q t).2 (gap_self m x _ _ (alone_same q h (eqb-true _ _ a)))),
    )

-- each link of a valid schedule is an effect's number, or stands for the initial state
pub nth_known :
    (m : Model) (x : ℕ → ℕ) → ClockedForm m → Valid m x → (j : ℕ) → j < m.conditions + m.goals
    → (nth_link m x j < m.effects) ⊎ (nth_link m x j ≡ initial_state)
unfolding nth_link
nth_known m x w s j h =
    elim (dec_lt j m.conditions) [
      | yes l ↦ rw (lt-ltb _ _ l) (link_known m x _ _ _ _ _ (condition_supported m x w s j l))
      | no l ↦
          rw (le-ltb j m.conditions (omega arith))
          (link_known m x _ _ _ _ _ (goal_supported m x w s (j - m.conditions) (omega arith)))
    ]

-- of a schedule within the range of starts
module _ (m : Model) (x : ℕ → ℕ) (w : ClockedForm m) (s : Valid m x) (zero : x m.steps ≡ 0)
    (early : (k : ℕ) → k < m.steps → x k ≤ last_start) where
  earliest_most : (k : ℕ) → k < m.steps → earliest_of m x k ≤ no_latest
  earliest_most k h = omega (arith, earliest_planned m x w s zero k h, early k h)

  earliest_limit : (k : ℕ) → limit_of m x k ≤ earliest_of m x k
  unfolding earliest
  earliest_limit k = after_above m.steps (gap_of m x) gap_bias (limit_of m x) (rounds_of m x) k

  earliest_latest : (k : ℕ) → k < m.steps → earliest_of m x k ≤ latest_of m x k
  earliest_latest k h =
      elim (ℕ_discrete (latest_of m x k) no_latest) [
        | yes e ↦ omega (arith, earliest_most k h)
        | no n ↦ omega (arith, earliest_planned m x w s zero k h, (planned_obeys m x w s zero).by_latest k h n)
      ]

  latest_most_lem : (k : ℕ) → k < m.steps → latest_of m x k ≤ no_latest
  latest_most_lem k h =
      elim (ℕ_discrete (m.fixed k) 1) [
        | yes f ↦ omega (arith, latest_fixed m x k f, w.start_range k h)
        | no f ↦ omega (arith, latest_free m x k f, least_none (allowed m x k) m.goals no_latest)
      ]

  pair_ascends :
      (q r : ℕ) → q < r → (q / row_width < r / row_width) ⊎ ((q / row_width ≡ r / row_width) × (q % row_width < r % row_width))
  pair_ascends q r h =
      elim (dec_lt (q / row_width) (r / row_width)) [ yes l ↦ inl l | no l ↦ inr (omega arith, omega arith) ]

  -- a link is numbered as an effect, or stands for the initial state
  module _ (number : ℕ → ℕ) (initial : number initial_state ≡ initial_state) (last : (e : ℕ) → e < m.effects → number e ≤ last_link) where
    numbered : (link : ℕ) → (link < m.effects) ⊎ (link ≡ initial_state) → (number link ≤ last_link) ⊎ (number link ≡ initial_state)
    numbered link p =
        ⊎_elim (λ (l : link < m.effects). inl (last link l)) (λ (z : link ≡ initial_state). inr (ap number z ∙ initial)) p

    link_most_lem : (j : ℕ) → j < m.conditions + m.goals → (number (nth_link m x j) ≤ last_link) ⊎ (number (nth_link m x j) ≡ initial_state)
    link_most_lem j h = numbered (nth_link m x j) (nth_known m x w s j h)

    pub file_within : Within (file_with number m x)
    unfolding file_with
    file_within =
        record {
          steps = w.step_count;
          orders = order_count_lem m x;
          links = omega (arith, w.condition_count, w.goal_count);
          rounds = rounds_le m.steps (gap_of m x) gap_bias (limit_of m x);
          first_counted = λ o h. (ordered_out m x (pair_of m x o) (pair_ordered m x o h)).0;
          second_counted = λ o h. (ordered_out m x (pair_of m x o) (pair_ordered m x o h)).1;
          apart = λ o h e. (ordered_out m x (pair_of m x o) (pair_ordered m x o h)).2 (gap_self m x _ _ e);
          gap_least = λ o h. let p = ordered_out m x (pair_of m x o) (pair_ordered m x o h) in (filed_span m x w s _ _ p.0 p.1 p.2).0;
          gap_most = λ o h. let p = ordered_out m x (pair_of m x o) (pair_ordered m x o h) in (filed_span m x w s _ _ p.0 p.1 p.2).1;
          ascending = λ o h. pair_ascends (pair_of m x o) (pair_of m x (o + 1)) (nth_ascends (ordered m x) table_size o (o + 1) (omega arith) h);
          linked = link_most_lem;
          from_limit = λ k h. earliest_limit k;
          by_latest = earliest_latest;
          latest_most = latest_most_lem;
        }

-- A condition and the setters of the other value, each pair looked at once: the orders between them are those from the setters and those
-- from the conditions.
use Prim.Native.Nat.{ℕ, ◌≤◌, ◌<◌}
use mathlib.Core.Path.{◌≡◌, refl, sym, ap, subst, ◌∙◌}
use mathlib.Core.Bool.{Bool, true, false, cond}
use mathlib.Core.List.{List}
use mathlib.Core.Logic.{◌⊎◌, inl, inr, ⊎_elim}
use native.Mathlib.Decide.{dec_lt}
use native.Mathlib.Omega.{arith}
use borrow.Author.Tests.{lt-ltb, le-ltb}
use lib.Dec.{ltb}
use lib.ListN.{get_or}
use Rattle.job.specs.Model.{Model}
use Rattle.timeline.specs.Words.{word_step, word_value, word_tick}
use Rattle.orders.specs.Gaps.{strictly}
use Rattle.order_file.specs.Table.{gap_of_entry, row_width}
use Rattle.origins.specs.declared.Fact.{Fact}
use Rattle.origins.specs.declared.Origin.{Origin}
use Rattle.origins.specs.Raised.{single}
use Rattle.origins.specs.Raised.{Raised}
use Rattle.origins.specs.Points.{offset_of, offset_at, last_origin, FactPlaced, Apart, Reached, Among, Onto, Toward, Beside, Around}
use Rattle.origins.specs.Points.{FromSetters, FromConditions, FactOrder, AroundCondition}
use Rattle.origins.proofs.Reached.{reached_none, reached_is, reached_one, reached_narrow}
use Rattle.rows.proofs.Grouped.{value_low}

-- what holds of both holds of the chosen one
pub chosen : (P : ℕ → Type 0) (t : Bool) (a b : ℕ) {r : ℕ} → r ≡ cond t a b → P a → P b → P r
chosen P true a b e u v = subst P (sym e) u
chosen P false a b e u v = subst P (sym e) v

-- The orders between a condition and a setter: none, or one.
module _ (x : ℕ → ℕ) (origin : Origin) (from word : ℕ) where
  pub beside_none : (gaps : List ℕ) → (word_value word ≡ origin.value → ⊥) → Reached row_width (Beside x origin from word) gaps gaps
  beside_none gaps d =
      reached_none row_width (Beside x origin from word) gaps
      (λ i k gap o. ⊎_elim (λ (s : Toward x origin from word i k gap). d s.0) (λ (s : Onto x origin word i k gap). d s.0) o)

  -- the order that the code chose
  module _ (entry : ℕ) (before after : List ℕ) {tick step at i k p q : ℕ} (from-here : origin.step < row_width) (to-here : word_step word < row_width)
      (same : word_value word ≡ origin.value) (read : tick ≡ word_tick word) (its : step ≡ word_step word) (far : at ≡ offset_of x word)
      (first : i ≡ cond (ltb tick origin.tick) step origin.step) (last : k ≡ cond (ltb tick origin.tick) origin.step step)
      (early : p ≡ cond (ltb tick origin.tick) at origin.at) (late : q ≡ cond (ltb tick origin.tick) from at)
      (made : gap_of_entry entry ≡ strictly p q) (w : Raised row_width (single i k (gap_of_entry entry)) before after) where
    one : i < row_width → k < row_width → Reached row_width (λ a b g. (i ≡ a) × (k ≡ b) × (g ≡ gap_of_entry entry)) before after
    one h l = reached_one row_width i k (gap_of_entry entry) before after (omega arith) h l w

    setter_first : word_tick word < origin.tick → Reached row_width (Beside x origin from word) before after
    setter_first l =
        let test : ltb tick origin.tick ≡ true = lt-ltb tick origin.tick (omega arith) in
        let a : i ≡ word_step word = first ∙ ap (λ t. cond t step origin.step) test ∙ its in
        let b : k ≡ origin.step = last ∙ ap (λ t. cond t origin.step step) test in
        let c : p ≡ offset_of x word = early ∙ ap (λ t. cond t at origin.at) test ∙ far in
        let d : q ≡ from = late ∙ ap (λ t. cond t from at) test in
        reached_is row_width (λ u v g. (i ≡ u) × (k ≡ v) × (g ≡ gap_of_entry entry)) (Beside x origin from word) before after
        (one (omega arith) (omega arith))
        (λ u v g apart o. inr (inl (same, l, sym a ∙ o.0, sym b ∙ o.1, omega (arith, o.2, made, c, d))))
        (λ u v g apart o.
        ⊎_elim
        (λ (s : Toward x origin from word u v g). (gap_of_entry entry, omega (arith, s.4, made, c, d), (a ∙ s.2, b ∙ s.3, refl)))
        (λ (s : Onto x origin word u v g). absurd (omega (arith, s.1))) o)

    setter_last : origin.tick ≤ word_tick word → Reached row_width (Beside x origin from word) before after
    setter_last l =
        let test : ltb tick origin.tick ≡ false = le-ltb tick origin.tick (omega arith) in
        let a : i ≡ origin.step = first ∙ ap (λ t. cond t step origin.step) test in
        let b : k ≡ word_step word = last ∙ ap (λ t. cond t origin.step step) test ∙ its in
        let c : p ≡ origin.at = early ∙ ap (λ t. cond t at origin.at) test in
        let d : q ≡ offset_of x word = late ∙ ap (λ t. cond t from at) test ∙ far in
        reached_is row_width (λ u v g. (i ≡ u) × (k ≡ v) × (g ≡ gap_of_entry entry)) (Beside x origin from word) before after
        (one (omega arith) (omega arith))
        (λ u v g apart o. inr (inr (same, l, sym a ∙ o.0, sym b ∙ o.1, omega (arith, o.2, made, c, d))))
        (λ u v g apart o.
        ⊎_elim
        (λ (s : Toward x origin from word u v g). absurd (omega (arith, s.1)))
        (λ (s : Onto x origin word u v g). (gap_of_entry entry, omega (arith, s.4, made, c, d), (a ∙ s.2, b ∙ s.3, refl))) o)

    pub beside_one : Reached row_width (Beside x origin from word) before after
    beside_one =
        elim (dec_lt (word_tick word) origin.tick) [
          | yes l ↦ setter_first l
          | no l ↦ setter_last (omega arith)
        ]

module _ (m : Model) (x : ℕ → ℕ) (points : List ℕ) (fact : Fact) where
  -- the condition that the code read
  pub around_given :
      (p : ℕ) (before after : List ℕ) {origin : Origin} {from : ℕ} → origin ≡ last_origin m (get_or points p 0) → from ≡ offset_at x points p
      → Reached row_width (Around x points fact.low fact.high origin from) before after
      → Reached row_width (AroundCondition m x points fact p) before after
  around_given p before after {origin} {from} e f w =
      subst (λ o. Reached row_width (Around x points fact.low fact.high o (offset_at x points p)) before after) e
      (subst (λ g. Reached row_width (Around x points fact.low fact.high origin g) before after) f w)

  -- by condition is by setter and by condition
  pub fact_paired :
      (n : ℕ) {starts : List ℕ} (before after : List ℕ) → FactPlaced n starts points fact
      → Reached row_width (Among fact.after fact.until (AroundCondition m x points fact)) before after
      → Reached n (FactOrder m x points fact) before after
  fact_paired n before after placed w =
      reached_narrow n row_width (FactOrder m x points fact) before after placed.few
      (reached_is row_width (Among fact.after fact.until (AroundCondition m x points fact)) (FactOrder m x points fact) before after w to from)
      inside
    where
      to :
          (i k gap : ℕ) → Apart row_width i k → Among fact.after fact.until (AroundCondition m x points fact) i k gap
          → (gap ≡ 0) ⊎ FactOrder m x points fact i k gap
      to i k gap a o =
          let word : ℕ = get_or points o.0 0 in
          let setter : ℕ = get_or points o.3.0 0 in
          ⊎_elim
          (λ (s : Toward x (last_origin m word) (offset_of x word) setter i k gap).
          inr (inl (
            o.3.0,
            o.3.1,
            o.3.2,
            (o.0, o.1, o.2, (omega (arith, s.0, value_low word), omega (arith, s.1), s.2, s.3, s.4)),
          )))
          (λ (s : Onto x (last_origin m word) setter i k gap). inr (inr (o.0, o.1, o.2, (o.3.0, o.3.1, o.3.2, s))))
          o.3.3

      from :
          (i k gap : ℕ) → Apart row_width i k → FactOrder m x points fact i k gap
          → (more : ℕ) × (gap ≤ more) × Among fact.after fact.until (AroundCondition m x points fact) i k more
      from i k gap a o =
          ⊎_elim
          (λ (s : FromSetters x points fact i k gap).
          let setter : ℕ = get_or points s.0 0 in
          let t = s.3.3 in (
            gap,
            omega arith,
            (
              s.3.0,
              s.3.1,
              s.3.2,
              (s.0, s.1, s.2, inl (omega (arith, t.0, value_low setter), omega (arith, t.1), t.2, t.3, t.4)),
            ),
          ))
          (λ (s : FromConditions m x points fact i k gap).
          (gap, omega arith, (s.0, s.1, s.2, (s.3.0, s.3.1, s.3.2, inr s.3.3))))
          o

      inside : (i k gap : ℕ) → Apart row_width i k → FactOrder m x points fact i k gap → (i < n) × (k < n)
      inside i k gap a o =
          ⊎_elim
          (λ (s : FromSetters x points fact i k gap). (
            omega (arith, s.3.3.2, placed.setters.step s.0 s.1 s.2),
            omega (arith, s.3.3.3, placed.wanted.step s.3.0 s.3.1 s.3.2),
          ))
          (λ (s : FromConditions m x points fact i k gap). (
            omega (arith, s.3.3.2, placed.wanted.step s.0 s.1 s.2),
            omega (arith, s.3.3.3, placed.setters.step s.3.0 s.3.1 s.3.2),
          ))
          o

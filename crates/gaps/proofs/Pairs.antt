-- The orders that a rule makes between points are those between their groups: one law for every rule over pairs of points.
use Prim.Native.Nat.{ℕ, ◌+◌, ◌%◌, ◌≤◌, ◌<◌}
use mathlib.Core.Path.{◌≡◌, refl, sym, ap, ap₂, ◌∙◌}
use mathlib.Core.Bool.{Bool, true, false, ◌&&◌, cond}
use mathlib.Core.List.{List}
use native.Mathlib.Omega.{arith}
use borrow.Author.Tests.{eqb-true, eq-eqb}
use lib.Dec.{eqb}
use lib.ListN.{length, get_or}
use Rattle.laws.specs.Fold.{largest}
use Rattle.laws.proofs.Fold.{largest_le}
use Rattle.job.specs.Model.{Model, longest}
use Rattle.timeline.specs.Words.{word_step, word_value, word_tick, value_at, tick_at, step_at, number_at, value_span}
use Rattle.timeline.specs.Placed.{Placed}
use Rattle.validity.specs.Ticks.{schedule_of}
use Rattle.orders.specs.Gaps.{strictly}
use Rattle.orders.proofs.Orders.{pairs_ge}
use Rattle.origins.specs.declared.Origin.{Origin}
use Rattle.origins.specs.Raised.{Raised}
use Rattle.origins.specs.Points.{offset_at, Group, Reached, Among, After}
use Rattle.origins.proofs.Reached.{reached_raised}
use Rattle.order_file.specs.Contents.{step_limit}

-- Points of one kind, group by group in the order of their ticks.
pub record Listed (m : Model) (x : ℕ → ℕ) (points begins : List ℕ) : Type 0 where
  pub count : ℕ
  pub groups : ℕ
  pub place : ℕ → ℕ
  pub group : ℕ → ℕ
  pub tick : ℕ → ℕ
  pub value : ℕ → ℕ
  pub step : ℕ → ℕ
  pub at : ℕ → ℕ
  pub placed :
      (g : ℕ) → g < groups
      → Placed (λ k. (k < count) × (group k ≡ g)) tick value step points (get_or begins (place g) 0) (get_or begins (place g + 1) 0)
  pub within : (k : ℕ) → k < count → group k < groups
  pub two : (k : ℕ) → k < count → value k ≤ 1
  pub timed : (k : ℕ) → tick k ≡ x (step k) + at k
  pub inside : (k : ℕ) → k < count → step k < m.steps
  pub near : (k : ℕ) → k < count → at k ≤ longest

module _ {m : Model} {x : ℕ → ℕ} {points begins : List ℕ} (l : Listed m x points begins) (g : ℕ) (h : g < l.groups) where
  -- the offset of a point, by its tick
  pub listed_offset :
      (p : ℕ) → get_or begins (l.place g) 0 ≤ p → p < get_or begins (l.place g + 1) 0
      → (offset_at x points p ≡ l.at (number_at points p)) × (x (step_at points p) ≤ tick_at points p)
  listed_offset p a b =
      let o = l.placed g h in
      let start : x (step_at points p) ≡ x (l.step (number_at points p)) = ap x (o.steps p a b) in
      (omega (arith, start, o.ticks p a b, l.timed (number_at points p)), omega (arith, start, o.ticks p a b, l.timed (number_at points p)))

-- its points have a start each, if each step has one
pub listed_group :
    {m : Model} {starts points begins : List ℕ} (l : Listed m (schedule_of starts) points begins) (g : ℕ) → g < l.groups
    → m.steps ≤ length starts
    → Group m.steps starts points (get_or begins (l.place g) 0) (get_or begins (l.place g + 1) 0)
listed_group {points = points} l g h each =
    let o = l.placed g h in
    record {
      begins = o.begins;
      ends = o.ends;
      rises = o.rises;
      step = λ p a b. omega (arith, o.steps p a b, l.inside (number_at points p) (o.holds p a b).0);
      started = λ p a b. omega (arith, o.steps p a b, l.inside (number_at points p) (o.holds p a b).0);
      begun = λ p a b. (listed_offset l g h p a b).1;
      near = λ p a b. omega (arith, (listed_offset l g h p a b).0, l.near (number_at points p) (o.holds p a b).0);
    }

-- A rule orders points of the first list, from an end of them, before points of the second in the group of the same number, where values
-- differ by `turn` and `wait` ticks lie between them. It tests that by `fits` and `sooner`.
pub record Rule (m : Model) (x : ℕ → ℕ) (points begins : List ℕ) (first second : Listed m x points begins) (origin : ℕ → Origin) (end : ℕ → ℕ)
    (wait turn : ℕ) (fits sooner : ℕ → ℕ → Bool) : Type 0 where
  pub from : (word : ℕ) → (origin word).step ≡ word_step word
  pub valued : (word : ℕ) → (origin word).value ≡ (word_value word + turn) % value_span
  pub due : (word : ℕ) → (origin word).tick ≡ word_tick word + wait
  pub facing : (g : ℕ) → g < first.groups → g < second.groups
  pub ended :
      (g p : ℕ) → g < first.groups → get_or begins (first.place g) 0 ≤ p → p < get_or begins (first.place g + 1) 0
      → (origin (get_or points p 0)).at ≡ end (number_at points p)
  pub fitting :
      (a b : ℕ) → a < first.count → b < second.count → second.group b ≡ first.group a → second.value b ≡ (first.value a + turn) % value_span
      → fits a b ≡ true
  pub fitted :
      (a b : ℕ) → a < first.count → b < second.count → fits a b ≡ true
      → (second.group b ≡ first.group a) × (second.value b ≡ (first.value a + turn) % value_span)
  pub waiting :
      (a b : ℕ) → a < first.count → b < second.count → fits a b ≡ true → (first.step a ≡ second.step b → ⊥)
      → first.tick a + wait ≤ second.tick b
      → sooner a b ≡ true
  pub waited : (a b : ℕ) → a < first.count → b < second.count → sooner a b ≡ true → first.tick a + wait ≤ second.tick b

-- a test of four parts, all of which pass, or one of which fails
four_pass : (a b c d : Bool) (v : ℕ) → a ≡ true → b ≡ true → c ≡ true → d ≡ true → cond (a && b && c && d) v 0 ≡ v
four_pass a b c d v p q r s = rw (p, q, r, s) refl

four_le :
    (a b c d : Bool) (v bound : ℕ) → (a ≡ true → b ≡ true → c ≡ true → d ≡ true → v ≤ bound) → cond (a && b && c && d) v 0 ≤ bound
four_le true true true true v bound h = h refl refl refl refl
four_le true true true false v bound h = omega arith
four_le true true false d v bound h = omega arith
four_le true false c d v bound h = omega arith
four_le false b c d v bound h = omega arith

module _ {m : Model} {x : ℕ → ℕ} {points begins : List ℕ} {first second : Listed m x points begins} {origin : ℕ → Origin} {end : ℕ → ℕ}
    {wait turn : ℕ} {fits sooner : ℕ → ℕ → Bool} (rule : Rule m x points begins first second origin end wait turn fits sooner) where
  -- the orders between two groups, and what the rule says of two points
  abbrev pub GroupOrder : ℕ → ℕ → ℕ → ℕ → Type 0
  GroupOrder g =
      Among (get_or begins (first.place g) 0) (get_or begins (first.place g + 1) 0)
      (λ p. After x points (get_or begins (second.place g) 0) (get_or begins (second.place g + 1) 0) (origin (get_or points p 0)))

  abbrev pub pair_order : ℕ → ℕ → ℕ → ℕ → ℕ
  pair_order i k a b = cond (eqb (first.step a) i && eqb (second.step b) k && fits a b && sooner a b) (strictly (end a) (second.at b)) 0

  -- an order between groups is an order of two points
  pub rule_under :
      (g i k gap bound : ℕ) → g < first.groups → (i ≡ k → ⊥) → GroupOrder g i k gap
      → ((a b : ℕ) → a < first.count → b < second.count → pair_order i k a b ≤ bound)
      → gap ≤ bound
  rule_under g i k gap bound h apart o all =
      let p : ℕ = o.0 in
      let q : ℕ = o.3.0 in
      let a : ℕ = number_at points p in
      let b : ℕ = number_at points q in
      let here = first.placed g h in
      let there = second.placed g (rule.facing g h) in
      let low = here.holds p o.1 o.2 in
      let low' = there.holds q o.3.1 o.3.2 in
      let onto = o.3.3 in
      let step : first.step a ≡ i = sym (here.steps p o.1 o.2) ∙ sym (rule.from (get_or points p 0)) ∙ onto.2 in
      let step' : second.step b ≡ k = sym (there.steps q o.3.1 o.3.2) ∙ onto.3 in
      let value : second.value b ≡ (first.value a + turn) % value_span =
      sym (there.values q o.3.1 o.3.2)
      ∙ onto.0
      ∙ rule.valued (get_or points p 0)
      ∙ ap (λ v. (v + turn) % value_span) (here.values p o.1 o.2)
      in
      let fit : fits a b ≡ true = rule.fitting a b low.0 low'.0 (low'.1 ∙ sym low.1) value in
      let soon : sooner a b ≡ true =
      rule.waiting a b low.0 low'.0 fit (λ e. apart (sym step ∙ e ∙ step'))
      (omega (arith, onto.1, rule.due (get_or points p 0), here.ticks p o.1 o.2, there.ticks q o.3.1 o.3.2))
      in
      omega (
        arith,
        onto.4,
        rule.ended g p h o.1 o.2,
        (listed_offset second g (rule.facing g h) q o.3.1 o.3.2).0,
        four_pass (eqb (first.step a) i) (eqb (second.step b) k) (fits a b) (sooner a b) (strictly (end a) (second.at b)) (eq-eqb _ _ step)
            (eq-eqb _ _ step') fit soon,
        all a b low.0 low'.0,
      )

  -- and the other way
  pub rule_over :
      (i k bound : ℕ) → ((g gap : ℕ) → g < first.groups → GroupOrder g i k gap → gap ≤ bound)
      → (a b : ℕ) → a < first.count → b < second.count
      → pair_order i k a b ≤ bound
  rule_over i k bound all a b h l =
      four_le (eqb (first.step a) i) (eqb (second.step b) k) (fits a b) (sooner a b) (strictly (end a) (second.at b)) bound
      (λ s s' r t.
      let g : ℕ = first.group a in
      let in_g : g < first.groups = first.within a h in
      let fit = rule.fitted a b h l r in
      let here = first.placed g in_g in
      let there = second.placed g (rule.facing g in_g) in
      let f = here.found a (h, refl) in
      let f' = there.found b (l, fit.0) in
      let p : ℕ = f.0 in
      let q : ℕ = f'.0 in
      let tick : tick_at points p ≡ first.tick a = here.ticks p f.1 f.2 ∙ ap first.tick f.3 in
      let tick' : tick_at points q ≡ second.tick b = there.ticks q f'.1 f'.2 ∙ ap second.tick f'.3 in
      let value : value_at points p ≡ first.value a = here.values p f.1 f.2 ∙ ap first.value f.3 in
      let value' : value_at points q ≡ second.value b = there.values q f'.1 f'.2 ∙ ap second.value f'.3 in
      all g (strictly (end a) (second.at b)) in_g (
        p,
        f.1,
        f.2,
        (
          q,
          f'.1,
          f'.2,
          (
            value' ∙ fit.1 ∙ ap (λ v. (v + turn) % value_span) (sym value) ∙ sym (rule.valued (get_or points p 0)),
            omega (arith, tick, tick', rule.due (get_or points p 0), rule.waited a b h l t),
            rule.from (get_or points p 0) ∙ here.steps p f.1 f.2 ∙ ap first.step f.3 ∙ eqb-true _ _ s,
            there.steps q f'.1 f'.2 ∙ ap second.step f'.3 ∙ eqb-true _ _ s',
            ap₂ strictly (sym (rule.ended g p in_g f.1 f.2 ∙ ap end f.3))
                (sym ((listed_offset second g (rule.facing g in_g) q f'.1 f'.2).0 ∙ ap second.at f'.3)),
          ),
        ),
      ))

  -- a table raised to the orders of all groups is raised by the largest of each two steps
  pub rule_raised :
      (before after : List ℕ) → m.steps ≤ step_limit → Reached m.steps (Among 0 first.groups GroupOrder) before after
      → Raised m.steps (λ i k. largest first.count (λ a. largest second.count (pair_order i k a))) before after
  rule_raised before after few w =
      reached_raised m.steps (Among 0 first.groups GroupOrder)
      (λ i k. largest first.count (λ a. largest second.count (pair_order i k a))) before after few w
      (λ i k gap apart o.
      rule_under o.0 i k gap _ o.2 apart.2 o.3
      (pairs_ge (pair_order i k) first.count second.count))
      (λ i k bound apart all.
      largest_le (λ j. largest second.count (pair_order i k j)) first.count bound
      (λ a h. largest_le (pair_order i k a) second.count bound
      (λ b l. rule_over i k bound (λ g gap low o. all gap (g, omega arith, low, o)) a b h l)))

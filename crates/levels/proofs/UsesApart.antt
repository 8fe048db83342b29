-- A step uses no level twice at one tick where no two points of a level's group have one tick and one step.
use Prim.Native.Nat.{ℕ, ◌+◌, ◌-◌, ◌≤◌, ◌<◌}
use mathlib.Core.Path.{◌≡◌, refl, sym, ap, ap₂, subst, ◌∙◌}
use mathlib.Core.List.{List}
use native.Mathlib.Decide.{dec_lt}
use native.Mathlib.Omega.{arith}
use lib.ListN.{length, get_or}
use Rattle.laws.proofs.Search.{by_order}
use Rattle.job.specs.Model.{Model}
use Rattle.timeline.specs.Words.{step_at, number_at, tick_at}
use Rattle.validity.specs.Ticks.{use_tick}
use Rattle.points.specs.Points.{PointsKnown}
use Rattle.opposing.specs.Against.{Rising}
use Rattle.levels.specs.UsesApart.{Single, StepsApart, LevelsListed, LevelsApart}

-- the points from place p up to place q are of other steps than the one at q, whose tick and step were read
pub record Others (points : List ℕ) (low q tick step p : ℕ) : Type 0 where
  pub listed : q < length points
  pub rises : Rising points low q
  pub at : tick ≡ tick_at points q
  pub by : step ≡ step_at points q
  pub to : p ≤ q
  pub other : (k : ℕ) → p ≤ k → k < q → step_at points k ≡ step_at points q → ⊥

module _ {points : List ℕ} {low q tick step : ℕ} where
  pub others_start :
      (q < length points) × Rising points low q → tick ≡ tick_at points q → step ≡ step_at points q → Others points low q tick step q
  others_start ready at by =
      record { listed = ready.0; rises = ready.1; at = at; by = by; to = omega arith; other = λ k l g. absurd (omega arith) }

  module _ {p : ℕ} (so : Others points low q tick step p) where
    -- one more point; s is the step that the code read
    pub others_more : {s : ℕ} → low < p → s ≡ step_at points (p - 1) → (s ≡ step → ⊥) → Others points low q tick step (p - 1)
    others_more some read not =
        record {
          listed = so.listed;
          rises = so.rises;
          at = so.at;
          by = so.by;
          to = omega (arith, so.to);
          other = λ k l g same.
              elim (dec_lt k p) [
                | yes i ↦ not (read ∙ ap (step_at points) (let e : p - 1 ≡ k = omega arith in e) ∙ same ∙ sym so.by)
                | no i ↦ so.other k (omega arith) g same
              ];
        }

    -- the point before is of an earlier tick, and so is all before it; t is the tick that the code read
    pub others_past : {t : ℕ} → low < p → t ≡ tick_at points (p - 1) → t < tick → Single points low q
    others_past some read earlier k i g same =
        elim (dec_lt k p) [
          | yes j ↦
              let up : tick_at points k ≤ tick_at points (p - 1) =
              elim (dec_lt k (p - 1)) [
                | yes b ↦ so.rises k (p - 1) i b (omega (arith, so.to))
                | no b ↦ let e : tick_at points k ≡ tick_at points (p - 1) = ap (tick_at points) (let z : k ≡ p - 1 = omega arith in z) in omega arith
              ]
              in
              absurd (omega (arith, so.at))
          | no j ↦ so.other k (omega arith) g
        ]

    pub others_end : p ≤ low → Single points low q
    others_end past k i g same = so.other k (omega arith) g

pub apart_more : (points : List ℕ) {low q : ℕ} → StepsApart points low q → Single points low q → StepsApart points low (q + 1)
apart_more points {low} {q} so more k l =
    elim (dec_lt k q) [
      | yes i ↦ so k i
      | no i ↦ subst (Single points low) (let e : q ≡ k = omega arith in e) more
    ]

pub levels_more :
    (facts : ℕ) (points begins : List ℕ) {level low high : ℕ} → LevelsApart facts level points begins → low ≡ get_or begins (facts + facts + level) 0
    → high ≡ get_or begins (facts + facts + level + 1) 0
    → StepsApart points low high
    → LevelsApart facts (level + 1) points begins
levels_more facts points begins {level} so begin end more l h =
    elim (dec_lt l level) [
      | yes i ↦ so l i
      | no i ↦
          let e : level ≡ l = omega arith in
          subst (λ k. StepsApart points (get_or begins (facts + facts + k) 0) (get_or begins (facts + facts + k + 1) 0)) e
          (subst (λ a. StepsApart points a (get_or begins (facts + facts + level + 1) 0)) begin (subst (StepsApart points _) end more))
    ]

module _ {m : Model} {x : ℕ → ℕ} {points begins : List ℕ} (known : PointsKnown m x points begins) where
  pub levels_listed : LevelsListed m.facts m.levels points begins
  levels_listed =
      record {
        room = omega (arith, known.room);
        ends = λ l h. (known.used l h).ends;
        rises = λ l h. (known.used l h).rises;
      }

  pub apart_one_use :
      ((u : ℕ) → u < m.uses → m.use_level u < m.levels) → LevelsApart m.facts m.levels points begins
      → (u v : ℕ) → u < m.uses → v < m.uses → m.use_step u ≡ m.use_step v → m.use_level u ≡ m.use_level v
      → m.use_at u ≡ m.use_at v → u ≡ v
  apart_one_use listed so u v i j step level offset =
      let h = listed u i in
      let group = known.used (m.use_level u) h in
      let a = group.found u (i, refl) in
      let b = group.found v (j, sym level) in
      let p : ℕ = a.0 in
      let q : ℕ = b.0 in
      let apart = so (m.use_level u) h in
      let tick : tick_at points p ≡ tick_at points q =
      group.ticks p a.1 a.2 ∙ ap (use_tick m x) a.3 ∙ ap₂ (λ s o. x s + o) step offset
      ∙ sym (group.ticks q b.1 b.2 ∙ ap (use_tick m x) b.3)
      in
      let same : step_at points p ≡ step_at points q =
      group.steps p a.1 a.2 ∙ ap m.use_step a.3 ∙ step ∙ sym (group.steps q b.1 b.2 ∙ ap m.use_step b.3)
      in
      by_order p q (λ l. absurd (apart q b.2 p a.1 l tick same)) (λ l. absurd (apart p a.2 q b.1 l (sym tick) (sym same)))
      (λ e. sym a.3 ∙ ap (number_at points) e ∙ b.3)

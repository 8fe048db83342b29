-- What the setters of a fact in the order of their ticks say: who gives it a value before a tick, and which value is seen there.
use Prim.Native.Nat.{ℕ, ◌+◌, ◌-◌, ◌≤◌, ◌<◌}
use mathlib.Core.Path.{◌≡◌, refl, sym, ap, ◌∙◌}
use mathlib.Core.List.{List}
use native.Mathlib.Decide.{dec_lt, ℕ_discrete}
use native.Mathlib.Omega.{arith}
use lib.ListN.{get_or}
use Rattle.job.specs.Model.{Model}
use Rattle.job.specs.Clocked.{ClockedForm}
use Rattle.timeline.specs.Words.{number_at, tick_at, value_at}
use Rattle.timeline.specs.Placed.{Parted}
use Rattle.validity.specs.Ticks.{effect_tick}
use Rattle.validity.specs.Seen.{seen}
use Rattle.validity.specs.Valid.{Valid}
use Rattle.validity.proofs.Seen.{Giver, seen_by_effect, seen_by_initial}
use Rattle.points.specs.Points.{ClockedRange, PointsKnown, OneValue}

-- in a well-formed job, steps of a valid schedule apart, no two effects give a fact different values at one tick
pub one_value_lem :
    {m : Model} (x : ℕ → ℕ) → ClockedForm m
    → ((e f : ℕ) → e < m.effects → f < m.effects → (m.effect_step e ≡ m.effect_step f → ⊥) → m.effect_fact e ≡ m.effect_fact f
    → effect_tick m x e ≡ effect_tick m x f
    → m.effect_value e ≡ m.effect_value f)
    → OneValue m x
one_value_lem {m} x form apart e f h g same tick =
    elim (ℕ_discrete (m.effect_step e) (m.effect_step f)) [
      | yes s ↦
          let start : x (m.effect_step e) ≡ x (m.effect_step f) = ap x s in
          form.one_way e f h g s same (omega arith)
      | no s ↦ apart e f h g s same tick
    ]

pub valid_one_value : {m : Model} {x : ℕ → ℕ} → ClockedForm m → Valid m x → OneValue m x
valid_one_value {m} {x} form valid = one_value_lem x form valid.effects_apart

-- The setters of fact f.
module _ {m : Model} {x : ℕ → ℕ} {points begins : List ℕ} (known : PointsKnown m x points begins) (f : ℕ) (h : f < m.facts) where
  -- the one at a place gives the fact its value
  pub placed_giver :
      (p : ℕ) → get_or begins f 0 ≤ p → p < get_or begins (f + 1) 0 → Giver m f (value_at points p) (number_at points p)
  placed_giver p l g =
      let group = known.setters f h in
      record { known = (group.holds p l g).0; of_fact = (group.holds p l g).1; of_value = sym (group.values p l g) }

  -- whoever gives it a value stands at a place
  pub giver_placed :
      (v e : ℕ) → Giver m f v e
      → (p : ℕ) × (get_or begins f 0 ≤ p) × (p < get_or begins (f + 1) 0) × (number_at points p ≡ e) × (tick_at points p ≡ effect_tick m x e)
      × (value_at points p ≡ v)
  giver_placed v e g =
      let group = known.setters f h in
      let place = group.found e (g.known, g.of_fact) in (
        place.0,
        place.1,
        place.2,
        place.3,
        group.ticks place.0 place.1 place.2 ∙ ap (effect_tick m x) place.3,
        group.values place.0 place.1 place.2 ∙ ap m.effect_value place.3 ∙ g.of_value,
      )

  -- two of different values, one after the other, lie at different ticks
  pub placed_apart :
      OneValue m x → (p q : ℕ) → get_or begins f 0 ≤ p → p < q → q < get_or begins (f + 1) 0 → (value_at points p ≡ value_at points q → ⊥)
      → tick_at points p < tick_at points q
  placed_apart one p q l g k differ =
      let group = known.setters f h in
      let a = placed_giver p l (omega arith) in
      let b = placed_giver q (omega arith) k in
      let up : tick_at points p ≤ tick_at points q = group.rises p q l g k in
      elim (dec_lt (tick_at points p) (tick_at points q)) [
        | yes i ↦ i
        | no i ↦
            let same : tick_at points p ≡ tick_at points q = omega arith in
            absurd
            (differ
            (sym a.of_value
            ∙ one (number_at points p) (number_at points q) a.known b.known (a.of_fact ∙ sym b.of_fact)
            (sym (group.ticks p l (omega arith)) ∙ same ∙ group.ticks q (omega arith) k)
            ∙ b.of_value))
      ]

  module _ (form : ClockedRange m) {t r : ℕ} (parts : Parted points (get_or begins f 0) (get_or begins (f + 1) 0) t r) where
    -- where nothing stands before tick t, the initial value is seen
    pub seen_first : r ≤ get_or begins f 0 → seen m x f t ≡ m.initial f
    seen_first none =
        seen_by_initial m x f (m.initial f) t (form.initial_value f h) refl
        (λ e g early.
        let place = giver_placed (1 - m.initial f) e g in
        let at : ℕ = place.0 in
        let late : t ≤ tick_at points at = parts.after at (omega (arith, place.1)) place.2 in
        let same : tick_at points at ≡ effect_tick m x e = place.4 in
        omega arith)

    -- else the value of the point before it
    pub seen_before : OneValue m x → get_or begins f 0 < r → seen m x f t ≡ value_at points (r - 1)
    seen_before one some =
        let to : r ≤ get_or begins (f + 1) 0 = parts.to in
        let g = placed_giver (r - 1) (omega arith) (omega arith) in
        let tick : tick_at points (r - 1) ≡ effect_tick m x (number_at points (r - 1)) = (known.setters f h).ticks (r - 1) (omega arith) (omega arith) in
        let early : tick_at points (r - 1) < t = parts.before (r - 1) (omega arith) (omega arith) in
        let bit : value_at points (r - 1) ≤ 1 = bound g in
        seen_by_effect m x f (value_at points (r - 1)) t (number_at points (r - 1)) bit g (omega arith)
        (λ e o before.
        let place = giver_placed (1 - value_at points (r - 1)) e o in
        let at : ℕ = place.0 in
        let same : tick_at points at ≡ effect_tick m x e = place.4 in
        let value : value_at points at ≡ 1 - value_at points (r - 1) = place.5 in
        elim (dec_lt at r) [
          | yes i ↦
              elim (dec_lt at (r - 1)) [
                | yes j ↦
                    let apart : tick_at points at < tick_at points (r - 1) = placed_apart one at (r - 1) place.1 j (omega arith) (λ q. omega arith) in
                    omega arith
                | no j ↦
                    let here : value_at points at ≡ value_at points (r - 1) = ap (value_at points) (let q : at ≡ r - 1 = omega arith in q) in
                    absurd (omega arith)
              ]
          | no i ↦ let late : t ≤ tick_at points at = parts.after at (omega arith) place.2 in absurd (omega arith)
        ])
      where
        bound : Giver m f (value_at points (r - 1)) (number_at points (r - 1)) → value_at points (r - 1) ≤ 1
        bound g = omega (arith, form.effect_value (number_at points (r - 1)) g.known, g.of_value)

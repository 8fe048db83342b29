-- With a deadline the value of a goal is seen right after it, so no effect opposes it later, and its link lies at or before the deadline.
use Prim.Native.Nat.{ℕ, suc, ◌-◌, ◌≤◌, ◌<◌}
use mathlib.Core.Path.{◌≡◌}
use mathlib.Core.Bool.{true}
use mathlib.Core.Logic.{◌⊎◌, ⊎_elim}
use native.Mathlib.Decide.{dec_le}
use native.Mathlib.Omega.{arith}
use Rattle.job.specs.Model.{Model}
use Rattle.job.specs.Model.{no_deadline}
use Rattle.job.specs.Clocked.{ClockedForm}
use Rattle.validity.specs.Ticks.{effect_tick, opposes}
use Rattle.validity.specs.Seen.{last_given, seen}
use Rattle.validity.specs.Valid.{Valid}
use Rattle.validity.proofs.Seen.{Giver, LaterGiver, last_given_ge, seen_other, seen_why_apart}
use Rattle.order_file.specs.Contents.{initial_state}
use Rattle.orders.specs.Links.{goal_link}
use Rattle.orders.specs.Supporter.{TieTo, by_initial_state, by_effect, GoalLinkedTo}
use Rattle.orders.proofs.Supporter.{giver_gives, opposes_giver, apart, goal_supported}

module _ (m : Model) (x : ℕ → ℕ) (w : ClockedForm m) (s : Valid m x) where
  -- no effect opposes a goal after its deadline: right after it the other value would be seen
  opposed_in_time :
      (g f : ℕ) → g < m.goals → (m.goal_deadline g ≡ no_deadline → ⊥) → Giver m (m.goal_fact g) (1 - m.goal_value g) f
      → effect_tick m x f ≤ m.goal_deadline g
  opposed_in_time g f h d o =
      elim (dec_le (effect_tick m x f) (m.goal_deadline g)) [
        | yes l ↦ l
        | no l ↦
            let q : seen m x (m.goal_fact g) (suc (effect_tick m x f)) ≡ 1 - m.goal_value g =
            seen_other m x (m.goal_fact g) (m.goal_value g) (suc (effect_tick m x f)) f (w.goal_value g h) o (omega arith)
            (λ e k r. omega (arith, apart m x w s (m.goal_fact g) (m.goal_value g) e f k o))
            in
            absurd (omega (arith, q, s.goal_in_time g (suc (effect_tick m x f)) h d (omega arith)))
      ]

  pub goal_link_in_time :
      (g : ℕ) → g < m.goals → (m.goal_deadline g ≡ no_deadline → ⊥) → (goal_link m x g ≡ initial_state → ⊥)
      → effect_tick m x (goal_link m x g) ≤ m.goal_deadline g
  goal_link_in_time g h d n = by (goal_supported m x w s g h)
    where
      by : GoalLinkedTo m x g (goal_link m x g) → effect_tick m x (goal_link m x g) ≤ m.goal_deadline g
      by (by_initial_state z i) = absurd (n z)
      by (by_effect k p) =
          let fact = m.goal_fact g in
          let v = m.goal_value g in
          let t = suc (m.goal_deadline g) in
          let o : (f : ℕ) → f < m.effects → opposes m f fact v ≡ true → effect_tick m x f < last_given m x fact (1 - v) t = λ f l a.
          let c = opposes_giver m fact v f w (w.goal_value g h) l a in
          last_given_ge m x fact (1 - v) t f c (omega (arith, opposed_in_time g f h d c))
          in
          ⊎_elim
          (λ (e : LaterGiver m x fact v t).
          ⊎_elim
          (λ (l : effect_tick m x (goal_link m x g) < effect_tick m x e.0). omega (arith, e.2))
          (λ (l : (effect_tick m x (goal_link m x g) ≡ effect_tick m x e.0) × TieTo (λ f. ⊥) (goal_link m x g) e.0). omega (arith, l.0, e.2))
          (p.earliest e.0
          (record {
            known = e.1.known;
            wanted = giver_gives m fact v e.0 e.1;
            after = λ f l a _. omega (arith, e.3, o f l a);
          })))
          (λ (z : (m.initial fact ≡ v) × (last_given m x fact (1 - v) t ≡ 0)).
          absurd (k (record { wanted = z.0; unopposed = λ f l a _. omega (arith, z.1, o f l a) })))
          (seen_why_apart m x fact v t (w.goal_value g h) (apart m x w s fact v) (s.goal_in_time g t h d (omega arith)))

-- The walk back over the setters of a fact: each row is raised by what is noted of those behind, then its setter is noted too.
use Prim.Native.Nat.{ℕ, ◌+◌, ◌*◌, ◌-◌, ◌≤◌, ◌<◌}
use mathlib.Core.Path.{◌≡◌, sym, ap, subst}
use mathlib.Core.List.{List}
use native.Mathlib.Decide.{ℕ_discrete}
use native.Mathlib.Omega.{arith}
use lib.ListN.{get_or, replicate}
use Rattle.timeline.specs.Words.{value_at, tick_at, value_span}
use Rattle.validity.specs.Ticks.{schedule_of}
use Rattle.order_file.specs.Table.{row_width}
use Rattle.order_file.specs.Contents.{step_limit}
use Rattle.origins.specs.declared.Origin.{Origin}
use Rattle.origins.specs.declared.Turn.TheVariants.{Other}
use Rattle.origins.specs.Points.{point_origin, Group, ValuesApart, Reached, Among, PointOrder, Leads, leads_with, LeadsKnown, Ahead}
use Rattle.origins.proofs.Reached.{within_down, within_empty}
use Rattle.rows.proofs.Grouped.{ahead_after, after_given, leads_start, leads_below, leads_more}

-- the setters from place p on are noted, and their rows are raised
pub record Setting (n : ℕ) (x : ℕ → ℕ) (points : List ℕ) (low high : ℕ) (before leads : List ℕ) (p : ℕ) (gaps : List ℕ) : Type 0 where
  pub from : low ≤ p
  pub upto : p ≤ high
  pub led : Leads x points p high leads
  pub reached : Reached n (Among p high (PointOrder x points low high Other)) before gaps

module _ {n : ℕ} {starts points : List ℕ} {low high : ℕ} (few : n ≤ step_limit) (group : Group n starts points low high) where
  pub setting_start : (gaps : List ℕ) → Setting n (schedule_of starts) points low high gaps (replicate (value_span * row_width) 0) high gaps
  setting_start gaps =
      record {
        from = group.begins;
        upto = omega arith;
        led = leads_start starts points high high (omega arith);
        reached = within_empty _ _ _ _ _ (omega arith);
      }

  module _ {before leads gaps : List ℕ} {p : ℕ} (w : Setting n (schedule_of starts) points low high before leads p gaps) where
    pub setting_known : LeadsKnown n leads
    setting_known = leads_below starts points n low p high leads group w.from w.led

    -- one more: none before it is later, and what is noted of the other value is
    pub setting_more :
        {o : Origin} {more raised : List ℕ} → low < p → ValuesApart points low high → o ≡ point_origin (schedule_of starts) Other (get_or points (p - 1) 0)
        → Reached n (Ahead o leads) gaps raised
        → more ≡ leads_with (schedule_of starts) (get_or points (p - 1) 0) leads
        → Setting n (schedule_of starts) points low high before more (p - 1) raised
    setting_more {o} {more} {raised} some apart e r noted =
        record {
          from = omega arith;
          upto = omega arith;
          led =
              subst (λ l. Leads (schedule_of starts) points (p - 1) high l) (sym noted)
              (leads_more starts points n low p high leads group few some upto w.led);
          reached =
              within_down _ _ _ _ _ p (p - 1) _ (omega arith) upto w.reached
              (after_given starts points n low high gaps raised e
              (ahead_after starts points n low high p o leads gaps raised group few w.from early late w.led r));
        }
      where
        upto : p ≤ high
        upto = w.upto

        tick : o.tick ≡ tick_at points (p - 1) + 1
        tick = ap (λ o. o.tick) e

        early : (q : ℕ) → low ≤ q → q < p → tick_at points q < o.tick
        early q a b =
            elim (ℕ_discrete q (p - 1)) [
              | yes same ↦ omega (arith, tick, ap (tick_at points) same)
              | no other ↦ omega (arith, tick, group.rises q (p - 1) a (omega arith) (omega (arith, w.upto)))
            ]

        late : (q : ℕ) → p ≤ q → q < high → value_at points q ≡ o.value → o.tick ≤ tick_at points q
        late q a b v =
            omega (
              arith,
              tick,
              apart (p - 1) q (omega arith) (omega arith) b (λ same. omega (arith, same, v, ap (λ o. o.value) e)),
            )

-- Nothing, where all points lie after the last tick; else what the two scans find.
use mathlib.Core.Path.{refl}
use Rattle.values.proofs.Against.{past_unopposed}
use Rattle.values.proofs.conditions.is_opposed.Goals as goal

pub returns-then-is_past : goal.returns-then-is_past
returns-then-is_past c = past_unopposed _ _ _ _ _ _ (c.is_past.ensures c.if-is_past.true)

pub opposed_from-broken-requires : goal.opposed_from-broken-requires
opposed_from-broken-requires c = c.requires

pub opposed_before-early-requires : goal.opposed_before-early-requires
opposed_before-early-requires c = c.requires

pub returns : goal.returns
returns c =
    record {
      broken = c.opposed_from-broken.result;
      early = c.opposed_before-early.result;
      scan = c.opposed_from-broken.ensures;
      scanned = c.opposed_before-early.ensures;
      either = refl;
    }

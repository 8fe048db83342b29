use Rattle.laws.specs.Fold.{largest}
use Rattle.job.specs.Model.{view}
use Rattle.job.specs.Clocked.{clocked}
use Rattle.orders.specs.Gaps.{support_order}
use Rattle.order_file.specs.Table.{Gaps}
use Rattle.gaps.specs.Rules.{RaisedByLinks}
use Rattle.gaps.proofs.fill.fill_support.Given as goal

abbrev pub invariant-loop-c : goal.invariant-loop-c
invariant-loop-c l =
    Gaps l.gaps × RaisedByLinks (clocked (view l.job.head l.job.bytes.now)) l.links (λ m x i k. largest l.c (support_order m x i k)) l.initial.gaps l.gaps

use Prim.Native.Nat.{◌+◌}
use Rattle.job.specs.Model.{view}
use Rattle.job.specs.Clocked.{clocked}
use Rattle.links.specs.Linkable.{Linkable}
use Rattle.links.specs.Linking.{FromTo, LinksPut}
use Rattle.links.proofs.support.link_goals.Given as goal

abbrev pub invariant-loop-g : goal.invariant-loop-g
invariant-loop-g l =
    Linkable (clocked (view l.fn.timeline.job.head l.fn.timeline.job.bytes.now)) l.fn.timeline.points.now l.fn.timeline.begins.now l.initial.links
    × LinksPut (clocked (view l.fn.timeline.job.head l.fn.timeline.job.bytes.now)) l.fn.timeline.points.now l.fn.timeline.begins.now (FromTo l.fn.timeline.job.head.count.conditions (l.fn.timeline.job.head.count.conditions + l.g)) l.initial.links l.links

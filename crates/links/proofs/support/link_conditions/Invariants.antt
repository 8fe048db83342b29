use mathlib.Core.Path.{◌≡◌}
use lib.ListN.{length}
use Rattle.timeline.specs.Words.{step_span}
use Rattle.job.specs.Model.{view}
use Rattle.job.specs.Clocked.{clocked}
use Rattle.links.specs.Linkable.{Linkable}
use Rattle.links.specs.Linking.{Below, LinksPut}
use Rattle.links.proofs.support.link_conditions.Given as goal

abbrev pub invariant-loop-fact : goal.invariant-loop-fact
invariant-loop-fact l =
    Linkable (clocked (view l.fn.timeline.job.head l.fn.timeline.job.bytes.now)) l.fn.timeline.points.now l.fn.timeline.begins.now l.initial.links × (length l.firsts ≡ step_span)
    × LinksPut (clocked (view l.fn.timeline.job.head l.fn.timeline.job.bytes.now)) l.fn.timeline.points.now l.fn.timeline.begins.now (Below (clocked (view l.fn.timeline.job.head l.fn.timeline.job.bytes.now)) l.fact) l.initial.links l.links

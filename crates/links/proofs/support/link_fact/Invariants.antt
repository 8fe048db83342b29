use Rattle.links.specs.Linking.{Linking}
use Rattle.links.proofs.support.link_fact.Given as goal

abbrev pub invariant-loop-p : goal.invariant-loop-p
invariant-loop-p l =
    Linking l.fn.timeline.points.now l.fn.timeline.begins.now l.fact l.initial' l.low l.high l.begin l.end l.p l.cursor l.tie l.firsts l.initial.links l.links

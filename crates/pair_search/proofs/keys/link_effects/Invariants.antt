use Rattle.timeline.specs.Indexed.{Growing}
use Rattle.job.specs.Model.{view}
use Rattle.pair_search.proofs.keys.link_effects.Given as goal

abbrev pub invariant-loop-k : goal.invariant-loop-k
invariant-loop-k l = Growing (view l.job.head l.job.bytes.now).effect_step l.k l.index

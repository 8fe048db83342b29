use Rattle.laws.proofs.Linked.{WalkBack, ahead}
use Rattle.job.specs.Model.{view}
use Rattle.self_check.specs.Keys.{use_key}
use Rattle.against.specs.Against.{uses_twice}
use Rattle.self_check.proofs.used_before.Given as goal

abbrev pub invariant-loop-v : goal.invariant-loop-v
invariant-loop-v l = WalkBack (use_key (view l.job.head l.job.bytes.now)) (use_key (view l.job.head l.job.bytes.now) l.u) (uses_twice (view l.job.head l.job.bytes.now) l.u) l.u l.v

abbrev pub decreases-loop-v : goal.decreases-loop-v
decreases-loop-v l = ahead l.u l.v

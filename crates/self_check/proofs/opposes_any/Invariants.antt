use Prim.Native.Nat.{ℕ}
use mathlib.Core.Path.{◌≡◌}
use Rattle.laws.proofs.Linked.{WalkBack, ahead}
use Rattle.job.specs.Model.{view, effect_of}
use Rattle.self_check.specs.Keys.{effect_key, condition_key}
use Rattle.against.specs.Against.{opposes_own}
use Rattle.self_check.proofs.opposes_any.Given as goal

abbrev pub invariant-loop-c : goal.invariant-loop-c
invariant-loop-c l =
    (k : ℕ) → l.e ≡ effect_of (view l.job.head l.job.bytes.now) k → WalkBack (condition_key (view l.job.head l.job.bytes.now)) (effect_key (view l.job.head l.job.bytes.now) k)
    (opposes_own (view l.job.head l.job.bytes.now) k) l.job.head.count.conditions l.c

abbrev pub decreases-loop-c : goal.decreases-loop-c
decreases-loop-c l = ahead l.job.head.count.conditions l.c

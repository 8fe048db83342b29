-- The bytes passed are mixed in.
use native.Mathlib.Omega.{arith}
use Rattle.naming.proofs.Linking.{mix_more, mix_end}
use Rattle.naming.proofs.lookup.mix.Goals as goal

pub loop-b-preserved : goal.loop-b-preserved
loop-b-preserved c = (omega arith, mix_more _ _ _ _ c.loop-b-test.true c.loop-b.invariant.1 c.from.ensures)

pub returns : goal.returns
returns c = (mix_end _ _ _ c.loop-b-test.false c.loop-b.invariant.1, c.loop-b.invariant.0)

-- From the last point to the first.
use mathlib.Core.Path.{◌≡◌}
use native.Mathlib.Omega.{arith}
use borrow.Author.Rules.{rules}
use Rattle.links.proofs.Tied.{firsts_more}
use Rattle.links.proofs.tie.note_firsts.Goals as goal

pub loop-p-preserved : goal.loop-p-preserved
loop-p-preserved c =
    let i = c.loop-p.invariant in
    let some = c.loop-p-test.true in (
      omega (arith, some),
      omega (arith, i.1),
      search (rules, i.2),
      firsts_more (omega (arith, some)) c.step_of.ensures.0 (omega (arith, c.step_of.ensures.1, i.2)) i.3,
    )

pub returns : goal.returns
returns c =
    let i = c.loop-p.invariant in
    let begins : c.loop-p.p ≡ c.args.from = omega (arith, i.0, c.loop-p-test.false) in
    rw begins at i.3

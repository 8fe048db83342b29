-- Those up to q are passed, and none of them is opposite.
use Prim.Native.Nat.{◌-◌}
use mathlib.Core.Path.{sym, ◌∙◌}
use native.Mathlib.Omega.{arith}
use Rattle.pair_search.proofs.Comparing.{passed_start, passed_more, passed_found, passed_end}
use Rattle.pair_search.proofs.compare.with_higher.Goals as goal

pub loop-q-init : goal.loop-q-init
loop-q-init c = (c.opposite_of-other.ensures, passed_start c.requires.0)

pub returns-then-keys-q : goal.returns-then-keys-q
returns-then-keys-q c =
    let i = c.loop-q.invariant in
    (passed_found i.1 c.loop-q-test.true (c.if-keys-q.true ∙ i.0), omega arith)

pub loop-q-preserved : goal.loop-q-preserved
loop-q-preserved c =
    let i = c.loop-q.invariant in
    (i.0, passed_more i.1 c.loop-q-test.true (λ q. c.if-keys-q.false (q ∙ sym i.0)))

pub returns : goal.returns
returns c = (passed_end c.loop-q.invariant.1 c.loop-q-test.false, omega arith)

-- The keys up to p are passed as the lower ones of their pairs, and none of these was found.
use Prim.Native.Nat.{◌-◌}
use native.Mathlib.Omega.{arith}
use Rattle.pair_search.proofs.Comparing.{pairs_start, pairs_more, pairs_found, pairs_end}
use Rattle.pair_search.proofs.compare.through_pairs.Goals as goal

pub loop-p-init : goal.loop-p-init
loop-p-init c = pairs_start

pub with_higher-search-requires : goal.with_higher-search-requires
with_higher-search-requires c = (c.loop-p-test.true, omega arith)

pub returns-then-search : goal.returns-then-search
returns-then-search c =
    let a = c.with_higher-search.ensures in
    (pairs_found c.loop-p.invariant c.loop-p-test.true a.0 c.if-search.true, omega arith)

pub loop-p-preserved : goal.loop-p-preserved
loop-p-preserved c =
    let a = c.with_higher-search.ensures in
    pairs_more c.loop-p.invariant c.loop-p-test.true a.0 a.1 c.if-search.false

pub returns : goal.returns
returns c = (pairs_end c.loop-p.invariant c.loop-p-test.false, omega arith)

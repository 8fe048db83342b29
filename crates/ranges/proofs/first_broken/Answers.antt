-- A search for the lowest record that is not in order.
use mathlib.Core.Path.{ap}
use mathlib.Core.Bool.{not}
use native.Mathlib.Omega.{arith}
use Rattle.laws.proofs.Search.{lowest_start, lowest_more, first_found, first_none}
use Rattle.ranges.proofs.first_broken.Goals as goal

pub loop-k-init : goal.loop-k-init
loop-k-init c = lowest_start _

pub record_ok-requires : goal.record_ok-requires
record_ok-requires c =
    let p = c.requires in
    let l = c.loop-k-test.true in
    (p.0, omega (arith, p.1))

pub returns-then-not-record_ok : goal.returns-then-not-record_ok
returns-then-not-record_ok c =
    first_found _ _ _ c.loop-k.invariant c.loop-k-test.true (ap not c.record_ok.ensures)
    (ap not c.if-not-record_ok.true)

pub loop-k-preserved : goal.loop-k-preserved
loop-k-preserved c =
    lowest_more _ _ c.loop-k.invariant (ap not c.record_ok.ensures) (ap not c.if-not-record_ok.false)

pub returns : goal.returns
returns c = first_none _ _ _ c.loop-k.invariant c.loop-k.auto.k-end c.loop-k-test.false

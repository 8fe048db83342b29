-- A search back along the uses of one key.
use native.Mathlib.Omega.{arith}
use Rattle.laws.proofs.Search.{any_found}
use Rattle.laws.proofs.Linked.{back_start, back_more, back_less, back_end}
use Rattle.against.specs.Against.{uses_twice, used_before}
use Rattle.self_check.proofs.Steps.{own_uses_twice}
use borrow.Author.Rules.{rules}
use Rattle.self_check.proofs.used_before.Goals as goal

pub last_of-v-requires : goal.last_of-v-requires
unfolding used_before
last_of-v-requires c = let p = c.requires in (p.growing.size, p.low)

pub loop-v-init : goal.loop-v-init
unfolding used_before
loop-v-init c =
    let p = c.requires in
    back_start p.growing.linked p.few _ _ (own_uses_twice _ _) _ _ p.same p.low c.last_of-v.ensures

pub returns-then-uses_twice : goal.returns-then-uses_twice
unfolding used_before
returns-then-uses_twice c = any_found _ _ _ c.loop-v-test.true c.uses_twice.ensures c.if-uses_twice.true

pub before_of-v-requires : goal.before_of-v-requires
unfolding used_before
before_of-v-requires c = let p = c.requires in (p.growing.size, omega (arith, c.loop-v-test.true, p.few))

pub loop-v-smaller : goal.loop-v-smaller
unfolding used_before
loop-v-smaller c = let p = c.requires in back_less p.growing.linked p.few _ _ c.loop-v-test.true c.before_of-v.ensures

pub loop-v-preserved : goal.loop-v-preserved
unfolding used_before
loop-v-preserved c =
    let p = c.requires in
    back_more p.growing.linked p.few _ _ (own_uses_twice _ _) _ c.loop-v.invariant c.loop-v-test.true
    c.uses_twice.ensures c.if-uses_twice.false c.before_of-v.ensures

pub returns : goal.returns
unfolding used_before
returns c = back_end _ _ _ c.loop-v.invariant c.loop-v-test.false

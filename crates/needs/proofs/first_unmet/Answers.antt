-- Level by level: every need is of one of them.
use native.Mathlib.Omega.{arith}
use Rattle.laws.proofs.Noted.{noted_start, noted_lowest}
use Rattle.laws.proofs.Search.{first_is, none_is}
use Rattle.needs.proofs.first_unmet.Goals as goal

pub returns-then-n-eq0 : goal.returns-then-n-eq0
returns-then-n-eq0 c x known =
    none_is _ _ _ (noted_lowest (noted_start (λ _. ⊥) (λ k none. none)) (λ k l. omega (arith, l, c.if-n-eq0.true))) (omega arith)

pub loop-l-init : goal.loop-l-init
loop-l-init c x known = noted_start _ (λ k l. omega arith)

pub with_level-best-requires : goal.with_level-best-requires
with_level-best-requires c = let p = c.requires in (p.1, c.loop-l-test.true, p.2)

pub loop-l-preserved : goal.loop-l-preserved
loop-l-preserved c x known = c.with_level-best.ensures x known (c.loop-l.invariant x known)

pub returns-then-best-n : goal.returns-then-best-n
returns-then-best-n c x known =
    let p = c.requires in
    first_is _ _ _ (noted_lowest (c.loop-l.invariant x known) (λ k l. omega (arith, p.0.need_level k l, c.loop-l-test.false))) c.if-best-n.true

pub returns-else-best-n : goal.returns-else-best-n
returns-else-best-n c x known =
    let p = c.requires in
    none_is _ _ _ (noted_lowest (c.loop-l.invariant x known) (λ k l. omega (arith, p.0.need_level k l, c.loop-l-test.false))) c.if-best-n.false

-- A search back along the first appearances of one key.
use native.Mathlib.Omega.{arith}
use Rattle.laws.proofs.Linked.{back_start, back_more, back_less}
use Rattle.naming.proofs.Linking.{own, walk_first, first_says, looked_here, looked_none}
use Rattle.naming.proofs.Looking.{first_inside, first_same}
use Rattle.naming.proofs.lookup.find.Goals as goal

pub loop-j-init : goal.loop-j-init
loop-j-init c =
    back_start c.requires.1.linked (omega (arith, c.requires.0.few, c.requires.2)) _ _ (own _ _) _ _ c.mix-key.ensures.0
    c.mix-key.ensures.1 c.from-j.ensures

pub word_is-requires : goal.word_is-requires
word_is-requires c =
    let p = c.requires in
    let here = walk_first _ _ _ _ c.loop-j.invariant c.loop-j-test.true in (
      omega (arith, c.name_at.ensures.0, c.name_end.ensures.1),
      omega (arith, c.name_end.ensures.0, first_inside _ _ _ here p.0 (omega (arith, c.loop-j-test.true, p.2))),
    )

pub returns-then-word_is : goal.returns-then-word_is
returns-then-word_is c =
    let here = walk_first _ _ _ _ c.loop-j.invariant c.loop-j-test.true in
    let a = c.args in
    looked_here _ _ _ _ c.loop-j-test.true here
    (first_same a.text.now a.said.now c.loop-j.j here _ c.name_at.ensures.0 c.name_end.ensures.0
    c.word_is.ensures) c.if-word_is.true

pub loop-j-smaller : goal.loop-j-smaller
loop-j-smaller c =
    let p = c.requires in
    back_less p.1.linked (omega (arith, p.0.few, p.2)) _ _ c.loop-j-test.true c.from-j-in-loop-j.ensures

pub loop-j-preserved : goal.loop-j-preserved
loop-j-preserved c =
    let p = c.requires in
    let a = c.args in
    let here = walk_first _ _ _ _ c.loop-j.invariant c.loop-j-test.true in
    back_more p.1.linked (omega (arith, p.0.few, p.2)) _ _ (own _ _) _ c.loop-j.invariant c.loop-j-test.true
    (first_says _ _ _ here
    (first_same a.text.now a.said.now c.loop-j.j here _ c.name_at.ensures.0 c.name_end.ensures.0
    c.word_is.ensures))
    c.if-word_is.false c.from-j-in-loop-j.ensures

pub returns : goal.returns
returns c = looked_none _ _ _ _ c.loop-j.invariant c.loop-j-test.false

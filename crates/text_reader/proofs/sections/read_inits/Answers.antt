use Rattle.text_reader.proofs.Loops.{inits_again, inits_done}
use Rattle.token_reader.proofs.Turning.{ahead_less, on_yes, turn_start}
use native.Mathlib.Omega.{arith}
use Rattle.text_reader.proofs.sections.read_inits.Goals as goal

pub loop-opened-init : goal.loop-opened-init
loop-opened-init c = turn_start _ c.requires

pub goes_on-requires : goal.goes_on-requires
goes_on-requires c = c.loop-opened.invariant.ready.stands

pub take_bracket-opened-requires : goal.take_bracket-opened-requires
take_bracket-opened-requires c = c.loop-opened.invariant.ready.stands

pub read_init_item-next-requires : goal.read_init_item-next-requires
read_init_item-next-requires c = (c.take_bracket-opened.ensures.reads _ c.loop-opened.invariant.ready).ready

pub loop-opened-smaller : goal.loop-opened-smaller
loop-opened-smaller c =
    let p = c.take_bracket-opened.ensures.reads _ c.loop-opened.invariant.ready in
    let q = c.read_init_item-next.ensures in
    ahead_less c.loop-opened.next q.ready.stands (on_yes _ _ c.goes_on.ensures c.loop-opened-test.true).0
    (omega (arith, p.onward, q.onward)) (λ e. let h = q.further e in omega (arith, p.onward))

pub loop-opened-preserved : goal.loop-opened-preserved
loop-opened-preserved c =
    inits_again c.loop-opened.invariant c.goes_on.ensures c.loop-opened-test.true c.take_bracket-opened.ensures
    c.read_init_item-next.ensures

pub take_bracket-requires : goal.take_bracket-requires
take_bracket-requires c = c.loop-opened.invariant.ready.stands

pub shape_of-said : goal.shape_of-said
shape_of-said c = c.loop-opened.invariant.size

pub returns : goal.returns
returns c = inits_done c.loop-opened.invariant c.goes_on.ensures c.loop-opened-test.false c.take_bracket.ensures

use Rattle.text_reader.proofs.Loops.{lines_done}
use Rattle.token_reader.proofs.Turning.{ahead_less, on_yes, turn_start, turn_turn}
use borrow.Author.Tests.{not-true}
use Rattle.text_reader.proofs.plan_lines.read_lines.Goals as goal

pub loop-said-init : goal.loop-said-init
loop-said-init c = turn_start _ c.requires

pub at_line-requires : goal.at_line-requires
at_line-requires c = c.loop-said.invariant.ready.stands

pub read_line-next-requires : goal.read_line-next-requires
read_line-next-requires c =
    let e = on_yes _ _ c.at_line.ensures c.loop-said-test.true in
    (c.loop-said.invariant.ready, e.0, not-true _ e.1)

pub loop-said-smaller : goal.loop-said-smaller
loop-said-smaller c =
    let p = c.read_line-next.ensures in
    ahead_less c.loop-said.next p.0.ready.stands (on_yes _ _ c.at_line.ensures c.loop-said-test.true).0 p.0.onward
    p.1

pub loop-said-preserved : goal.loop-said-preserved
loop-said-preserved c = turn_turn c.loop-said.invariant c.read_line-next.ensures.0

pub shape_of-said : goal.shape_of-said
shape_of-said c = c.loop-said.invariant.size

pub returns : goal.returns
returns c = lines_done c.loop-said.invariant c.at_line.ensures c.loop-said-test.false

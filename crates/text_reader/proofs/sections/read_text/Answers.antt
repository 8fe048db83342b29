use Rattle.text_reader.proofs.Loops.{actions_again, text_done}
use Rattle.token_reader.proofs.Turning.{ahead_less, on_yes, turn_start}
use mathlib.Core.Path.{◌∙◌}
use native.Mathlib.Omega.{arith}
use Rattle.text_reader.proofs.sections.read_text.Goals as goal

pub take_bracket-next-requires : goal.take_bracket-next-requires
take_bracket-next-requires c = c.requires.stands

pub loop-said-init : goal.loop-said-init
loop-said-init c = turn_start _ (c.take_bracket-next.ensures.reads _ c.requires).ready

pub at_action-requires : goal.at_action-requires
at_action-requires c = c.loop-said.invariant.ready.stands

pub read_action-done-requires : goal.read_action-done-requires
read_action-done-requires c = c.loop-said.invariant.ready

pub take_bracket-next-requires-in-loop-said : goal.take_bracket-next-requires-in-loop-said
take_bracket-next-requires-in-loop-said c = c.read_action-done.ensures.ready.stands

pub loop-said-smaller : goal.loop-said-smaller
loop-said-smaller c =
    let p = c.read_action-done.ensures in
    let q = c.take_bracket-next-in-loop-said.ensures.reads _ p.ready in
    ahead_less c.loop-said.next q.ready.stands (on_yes _ _ c.at_action.ensures c.loop-said-test.true).0
    (omega (arith, p.onward, q.onward)) (λ e. let h = q.further e in omega (arith, p.onward))

pub loop-said-preserved : goal.loop-said-preserved
loop-said-preserved c =
    actions_again c.loop-said.invariant c.at_action.ensures c.loop-said-test.true c.read_action-done.ensures
    c.take_bracket-next-in-loop-said.ensures

pub take_word-begun-requires : goal.take_word-begun-requires
take_word-begun-requires c = c.loop-said.invariant.ready.stands

pub read_inits-given-requires : goal.read_inits-given-requires
read_inits-given-requires c = (c.take_word-begun.ensures.reads _ c.loop-said.invariant.ready).ready

pub read_goal-requires : goal.read_goal-requires
read_goal-requires c = c.read_inits-given.ensures.ready

pub shape_of-said : goal.shape_of-said
shape_of-said c = c.read_goal.ensures.size ∙ c.read_inits-given.ensures.size ∙ c.loop-said.invariant.size

pub returns : goal.returns
returns c =
    text_done c.loop-said.invariant c.at_action.ensures c.requires c.take_bracket-next.ensures c.loop-said-test.false
    c.take_word-begun.ensures c.read_inits-given.ensures c.read_goal.ensures

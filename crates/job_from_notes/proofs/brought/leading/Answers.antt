-- Behind the last note stands no number.
use mathlib.Core.Path.{sym, ◌∙◌}
use native.Mathlib.Omega.{arith}
use Rattle.job_from_notes.proofs.Walk.{leading_there, leading_not}
use Rattle.job_from_notes.proofs.brought.leading.Goals as goal

pub returns-then-k-said : goal.returns-then-k-said
returns-then-k-said c = (c.number.ensures.0 ∙ sym (leading_there c.args.said.now _ c.if-k-said.true), c.number.ensures.1)

pub returns-else-k-said : goal.returns-else-k-said
returns-else-k-said c = (sym (leading_not c.args.said.now _ c.if-k-said.false c.requires), omega arith)

use mathlib.Core.Bool.{not}
use mathlib.Core.Path.{ap}
use Rattle.order_answers.proofs.Answers.{first_broken, second_broken, both_compared}
use Rattle.order_reader.proofs.alike.Goals as goal

pub returns-then-not-well_formed : goal.returns-then-not-well_formed
returns-then-not-well_formed c = first_broken _ _ c.well_formed-2.ensures (ap not c.if-not-well_formed.true)

pub returns-then-not-well_formed-2 : goal.returns-then-not-well_formed-2
returns-then-not-well_formed-2 c =
    second_broken _ _ c.well_formed-2.ensures (ap not c.if-not-well_formed.false) c.well_formed-3.ensures (ap not c.if-not-well_formed-2.true)

pub returns : goal.returns
returns c =
    both_compared _ _ c.well_formed-2.ensures (ap not c.if-not-well_formed.false) c.well_formed-3.ensures (ap not c.if-not-well_formed-2.false)
    c.same_contents.ensures

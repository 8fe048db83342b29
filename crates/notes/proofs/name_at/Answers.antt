use borrow.Author.Rules.{rules}
use Rattle.notes.specs.Notes.{name_at}
use Rattle.notes.proofs.name_at.Goals as goal

pub value-requires : goal.value-requires
unfolding name_at
value-requires c = search rules

pub returns : goal.returns
unfolding name_at
returns c = (rw c.value.ensures.0, search rules)

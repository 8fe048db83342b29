use borrow.Author.Rules.{rules}
use Rattle.notes.specs.Notes.{name_end, name_at}
use Rattle.notes.proofs.name_end.Goals as goal

pub value-requires : goal.value-requires
unfolding name_end name_at
value-requires c = search rules

pub value-requires-2 : goal.value-requires-2
unfolding name_end name_at
value-requires-2 c = search rules

pub overflow_add-result : goal.overflow_add-result
unfolding name_end name_at
overflow_add-result c = search rules

pub returns : goal.returns
unfolding name_end name_at
returns c = (rw (c.value.ensures.0, c.value-2.ensures.0), search rules)

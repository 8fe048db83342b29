use borrow.Author.Rules.{rules}
use Rattle.notes.specs.Notes.{numbered}
use Rattle.notes.proofs.note_number.Goals as goal

pub overflow_mul-result : goal.overflow_mul-result
unfolding numbered
overflow_mul-result c = search rules

pub overflow_add-result : goal.overflow_add-result
unfolding numbered
overflow_add-result c = search rules

pub returns : goal.returns
unfolding numbered
returns c = search rules

use borrow.Author.Rules.{rules}
use Rattle.notes.specs.Notes.{named}
use Rattle.notes.proofs.note_name.Goals as goal

pub overflow_sub-value : goal.overflow_sub-value
unfolding named
overflow_sub-value c = search rules

pub overflow_mul-value : goal.overflow_mul-value
unfolding named
overflow_mul-value c = search rules

pub overflow_add-value : goal.overflow_add-value
unfolding named
overflow_add-value c = search rules

pub overflow_mul-result : goal.overflow_mul-result
unfolding named
overflow_mul-result c = search rules

pub overflow_add-result : goal.overflow_add-result
unfolding named
overflow_add-result c = search rules

pub overflow_mul-result-2 : goal.overflow_mul-result-2
unfolding named
overflow_mul-result-2 c = search rules

pub overflow_add-result-2 : goal.overflow_add-result-2
unfolding named
overflow_add-result-2 c = search rules

pub returns : goal.returns
unfolding named
returns c = search rules

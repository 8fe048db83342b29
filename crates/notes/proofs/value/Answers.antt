use borrow.Author.Rules.{rules}
use Rattle.notes.specs.Notes.{value_in}
use Rattle.notes.proofs.value.Goals as goal

pub returns : goal.returns
unfolding value_in
returns c = search rules

use borrow.Author.Rules.{rules}
use Rattle.notes.specs.Notes.{line_in}
use Rattle.notes.proofs.line.Goals as goal

pub returns : goal.returns
unfolding line_in
returns c = search rules

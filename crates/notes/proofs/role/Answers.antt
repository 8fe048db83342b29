use borrow.Author.Rules.{rules}
use Rattle.notes.specs.Notes.{role_in}
use Rattle.notes.proofs.role.Goals as goal

pub returns : goal.returns
unfolding role_in
returns c = search rules

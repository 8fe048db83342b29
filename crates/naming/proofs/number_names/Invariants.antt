use Rattle.notes.specs.Notes.{items_in}
use Rattle.naming.specs.Passed.{Passed}
use Rattle.naming.proofs.number_names.Given as goal

abbrev pub invariant-loop-k : goal.invariant-loop-k
invariant-loop-k l = Passed (items_in l.text l.said) l.k l.index l.numbers l.marks l.counts

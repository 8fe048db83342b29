use Rattle.laws.proofs.Linked.{WalkBack, ahead}
use Rattle.notes.specs.Notes.{items_in}
use Rattle.naming.specs.Index.{mixed, key}
use Rattle.naming.proofs.Linking.{is_first_of}
use Rattle.naming.proofs.lookup.find.Given as goal

abbrev pub invariant-loop-j : goal.invariant-loop-j
invariant-loop-j l =
    WalkBack (key (items_in l.text l.said)) (mixed 0 l.word) (is_first_of (items_in l.text l.said) l.word) l.m l.j

abbrev pub decreases-loop-j : goal.decreases-loop-j
decreases-loop-j l = ahead l.m l.j

-- The list holds what is said.
use Rattle.job_from_notes.proofs.Begun.{zeros, given_ready, given_put}
use Rattle.job_from_notes.proofs.file.write_given.Goals as goal

pub find_stated-requires : goal.find_stated-requires
find_stated-requires c = zeros 256

pub write_facts-requires : goal.write_facts-requires
write_facts-requires c =
    let given = c.requires in
    given_ready 256 _ _ _ c.find_stated.ensures _ given.0 _ _ given.1

pub returns : goal.returns
returns c =
    let few = c.requires.0 in
    given_put 256 _ _ _ c.find_stated.ensures _ few c.write_facts.ensures

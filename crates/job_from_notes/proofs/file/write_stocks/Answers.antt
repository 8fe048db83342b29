-- The list holds what is said.
use Rattle.job_from_notes.proofs.Begun.{zeros, stock_ready, stock_put}
use Rattle.job_from_notes.proofs.file.write_stocks.Goals as goal

pub find_stated-requires : goal.find_stated-requires
find_stated-requires c = zeros 16

pub write_levels-requires : goal.write_levels-requires
write_levels-requires c =
    let given = c.requires in
    stock_ready 16 _ _ _ c.find_stated.ensures _ given.0 _ _ given.1

pub returns : goal.returns
returns c =
    let few = c.requires.0 in
    stock_put 16 _ _ _ c.find_stated.ensures _ few c.write_levels.ensures

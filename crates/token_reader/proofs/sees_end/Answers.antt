use Rattle.token_reader.proofs.Steps.{stand, same_here}
use Rattle.spelling.specs.Cursor.{is_stop}
use Rattle.token_reader.proofs.sees_end.Goals as goal

pub at_end-requires : goal.at_end-requires
at_end-requires c =
    let start = c in
    stand _ _ _ c.cursor.ensures start.requires

pub returns : goal.returns
returns c =
    let at-cursor = c in
    same_here _ _ is_stop at-cursor.cursor.ensures c.at_end.ensures

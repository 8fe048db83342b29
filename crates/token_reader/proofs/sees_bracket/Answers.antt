use Rattle.token_reader.proofs.Steps.{stand, same_here}
use Rattle.spelling.specs.Cursor.{is_bracket}
use Rattle.token_reader.proofs.sees_bracket.Goals as goal

pub at_bracket-requires : goal.at_bracket-requires
at_bracket-requires c =
    let start = c in
    stand _ _ _ c.cursor.ensures start.requires

pub returns : goal.returns
returns c =
    let at-cursor = c in
    same_here _ _ (is_bracket _) at-cursor.cursor.ensures c.at_bracket.ensures

use Rattle.token_reader.proofs.Steps.{stand, same_here}
use Rattle.spelling.specs.Cursor.{is_word}
use Rattle.token_reader.proofs.sees_word.Goals as goal

pub at_word-requires : goal.at_word-requires
at_word-requires c =
    let start = c in
    stand _ _ _ c.cursor.ensures start.requires

pub returns : goal.returns
returns c =
    let at-cursor = c in
    same_here _ _ (is_word _) at-cursor.cursor.ensures c.at_word.ensures

use mathlib.Core.Bool.{◌&&◌}
use mathlib.Core.Path.{ap₂}
use Rattle.token_reader.proofs.Steps.{none_met}
use Rattle.text_reader.proofs.sections.at_action.Goals as goal

pub sees_word-requires : goal.sees_word-requires
sees_word-requires c = c.requires

pub returns : goal.returns
returns c = ap₂ ◌&&◌ (none_met _ c.is_none.ensures) c.sees_word.ensures

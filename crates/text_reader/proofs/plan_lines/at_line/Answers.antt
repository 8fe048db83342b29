use mathlib.Core.Bool.{◌&&◌, not}
use mathlib.Core.Path.{ap₂}
use Rattle.token_reader.proofs.Steps.{none_met}
use Rattle.text_reader.proofs.plan_lines.at_line.Goals as goal

pub sees_end-requires : goal.sees_end-requires
sees_end-requires c = c.requires

pub returns : goal.returns
returns c = ap₂ (λ w z. w && not z) (none_met _ c.is_none.ensures) c.sees_end.ensures

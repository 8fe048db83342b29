use mathlib.Core.Bool.{◌&&◌, not}
use mathlib.Core.Path.{ap₂}
use Rattle.token_reader.proofs.Steps.{none_met}
use Rattle.item_reader.proofs.nested.goes_on.Goals as goal

pub sees_bracket-requires : goal.sees_bracket-requires
sees_bracket-requires c =
    let start = c in
    start.requires

pub returns : goal.returns
returns c = ap₂ (λ w z. w && not z) (none_met _ c.is_none.ensures) c.sees_bracket.ensures

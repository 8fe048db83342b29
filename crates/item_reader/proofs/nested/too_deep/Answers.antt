use Rattle.token_reader.proofs.Steps.{clear, met}
use Rattle.item_reader.proofs.Roles.{deep_fails, deep_passes}
use Rattle.item_reader.proofs.nested.too_deep.Goals as goal

pub returns-then-is_some : goal.returns-then-is_some
returns-then-is_some c =
    let start = c in
    λ q. deep_passes _ start.requires.0 (met _ c.is_some.ensures c.if-is_some.true)

pub returns : goal.returns
returns c =
    let at-if1 = c in
    let start = at-if1 in
    λ q. deep_fails _ start.requires.0 start.requires.1 (clear _ at-if1.is_some.ensures at-if1.if-is_some.false) q c.refuse.ensures

use Rattle.token_reader.proofs.Steps.{take_passes, take_goes, take_fails, clear, met}
use Rattle.token_reader.proofs.Tested.{bracket_inside, bracket_yes, bracket_no}
use Rattle.token_reader.proofs.take_bracket.Goals as goal

pub returns-then-is_some : goal.returns-then-is_some
returns-then-is_some c =
    let start = c in
    take_passes _ _ start.requires (met _ c.is_some.ensures c.if-is_some.true)

pub sees_bracket-requires : goal.sees_bracket-requires
sees_bracket-requires c =
    let start = c in
    start.requires

pub advance-requires : goal.advance-requires
advance-requires c =
    let at-sees-bracket = c in
    let start = at-sees-bracket in
    (start.requires, bracket_inside _ _ _ _ at-sees-bracket.sees_bracket.ensures c.if-sees_bracket.true)

pub returns-then-sees_bracket : goal.returns-then-sees_bracket
returns-then-sees_bracket c =
    let at-if2 = c in
    let at-sees-bracket = at-if2 in
    let at-if1 = at-sees-bracket in
    let start = at-if1 in
    take_goes _ _ start.requires (clear _ at-if1.is_some.ensures at-if1.if-is_some.false) (bracket_yes _ _ at-sees-bracket.sees_bracket.ensures at-if2.if-sees_bracket.true)
    c.advance.ensures

pub returns : goal.returns
returns c =
    let at-if2 = c in
    let at-sees-bracket = at-if2 in
    let at-if1 = at-sees-bracket in
    let start = at-if1 in
    take_fails _ _ start.requires (clear _ at-if1.is_some.ensures at-if1.if-is_some.false) (bracket_no _ _ at-sees-bracket.sees_bracket.ensures at-if2.if-sees_bracket.false)
    c.refuse.ensures

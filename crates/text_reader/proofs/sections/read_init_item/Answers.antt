use Rattle.notes.specs.declared.Place.TheVariants.{Given}
use Rattle.text_reader.proofs.Likeness.{given_alike, stock_alike}
use Rattle.item_reader.proofs.Roles.{as_fact, as_stock, fact_some}
use Rattle.token_reader.proofs.Compose.{lead, stands, then}
use mathlib.Core.Bool.{true}
use native.Mathlib.Omega.{arith}
use Rattle.text_reader.proofs.sections.read_init_item.Goals as goal

pub sees_word-requires : goal.sees_word-requires
sees_word-requires c = c.requires.stands

pub take_word-inner-requires : goal.take_word-inner-requires
take_word-inner-requires c = c.requires.stands

pub read_level-requires : goal.read_level-requires
read_level-requires c =
    let p1 = c.take_word-inner.ensures.reads _ c.requires in
    (p1.ready, (λ z. omega arith), omega arith)

pub shape_of-said-then-sees_word : goal.shape_of-said-then-sees_word
shape_of-said-then-sees_word c = c.read_level.ensures.size

pub returns-then-sees_word : goal.returns-then-sees_word
returns-then-sees_word c =
    let p1 = c.take_word-inner.ensures.reads _ c.requires in
    let p2 = as_stock c.read_level.ensures in
    stands c.requires.stands (λ _. stock_alike _ c.sees_word.ensures c.if-sees_word.true) (then p1 p2)

pub take_name-named-requires : goal.take_name-named-requires
take_name-named-requires c = (c.requires, fact_some Given true c.fact_role-role.ensures.0, c.fact_role-role.ensures.1)

pub take_bracket-requires : goal.take_bracket-requires
take_bracket-requires c = c.take_name-named.ensures.ready.stands

pub shape_of-said : goal.shape_of-said
shape_of-said c = c.take_name-named.ensures.size

pub returns : goal.returns
returns c =
    let p1 = as_fact Given true c.fact_role-role.ensures.0 c.take_name-named.ensures in
    let p2 = c.take_bracket.ensures.reads _ c.take_name-named.ensures.ready in
    stands c.requires.stands (λ _. given_alike _ c.sees_word.ensures c.if-sees_word.false) (then p1 (lead p2))

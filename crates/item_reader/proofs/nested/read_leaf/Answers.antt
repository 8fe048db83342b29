use Rattle.item_reader.proofs.Likeness.{goal_alike}
use Rattle.item_reader.proofs.Roles.{as_kind}
use Rattle.item_reader.specs.declared.nested.Items.TheVariants.{Conditions, Effects, Goals}
use Rattle.token_reader.proofs.Compose.{lead, stands}
use Rattle.item_reader.proofs.nested.read_leaf.Goals as goal

pub read_condition-requires : goal.read_condition-requires
read_condition-requires c =
    let start = c in
    start.requires

pub read_effect-requires : goal.read_effect-requires
read_effect-requires c =
    let start = c in
    start.requires

pub read_fact-requires : goal.read_fact-requires
read_fact-requires c =
    let start = c in
    start.requires.0

pub shape_of-said-in-Conditions : goal.shape_of-said-in-Conditions
shape_of-said-in-Conditions c =
    let at-read-condition = c in
    at-read-condition.read_condition.auto.said

pub returns-in-Conditions : goal.returns-in-Conditions
returns-in-Conditions c =
    let at-read-condition = c in
    let at-enum-told = at-read-condition in
    λ n. as_kind Conditions at-enum-told.in-Conditions.is n (at-read-condition.read_condition.ensures n)

pub shape_of-said-in-Effects : goal.shape_of-said-in-Effects
shape_of-said-in-Effects c =
    let at-read-effect = c in
    at-read-effect.read_effect.auto.said

pub returns-in-Effects : goal.returns-in-Effects
returns-in-Effects c =
    let at-read-effect = c in
    let at-enum-told2 = at-read-effect in
    λ n. as_kind Effects at-enum-told2.in-Effects.is n (at-read-effect.read_effect.ensures n)

pub shape_of-said-in-Goals : goal.shape_of-said-in-Goals
shape_of-said-in-Goals c =
    let at-read-fact = c in
    at-read-fact.read_fact.ensures.size

pub returns-in-Goals : goal.returns-in-Goals
returns-in-Goals c =
    let at-read-fact = c in
    let at-enum-told3 = at-read-fact in
    let start = at-enum-told3 in
    λ n. as_kind Goals at-enum-told3.in-Goals.is n (stands start.requires.0.stands (λ _. goal_alike _ n start.requires.1) (lead
    at-read-fact.read_fact.ensures))

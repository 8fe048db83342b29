use Rattle.item_reader.proofs.Likeness.{decrease_alike, increase_alike, set_alike}
use Rattle.item_reader.proofs.Roles.{as_fall, as_rise, as_set, later_low, later_some}
use Rattle.token_reader.proofs.Compose.{lead, stands, then}
use native.Mathlib.Omega.{arith}
use Rattle.item_reader.proofs.literals.read_change_body.Goals as goal

pub sees_word-requires : goal.sees_word-requires
sees_word-requires c =
    let start = c in
    start.requires.stands

pub take_word-inner-requires : goal.take_word-inner-requires
take_word-inner-requires c =
    let start = c in
    start.requires.stands

pub read_level-requires : goal.read_level-requires
read_level-requires c =
    let at-role-at = c in
    let at-take-word = at-role-at in
    let start = at-take-word in
    let p1 = at-take-word.take_word-inner.ensures.reads _ start.requires in (
      p1.ready,
      later_some 4 start.args.end at-role-at.role_at-role.ensures (omega arith),
      later_low 4 start.args.end
          at-role-at.role_at-role.ensures (omega arith),
    )

pub shape_of-said-then-sees_word : goal.shape_of-said-then-sees_word
shape_of-said-then-sees_word c =
    let at-read-level = c in
    at-read-level.read_level.ensures.size

pub returns-then-sees_word : goal.returns-then-sees_word
returns-then-sees_word c =
    let at-read-level = c in
    let at-role-at = at-read-level in
    let at-take-word = at-role-at in
    let at-if1 = at-take-word in
    let at-sees-word = at-if1 in
    let start = at-sees-word in
    let p1 = at-take-word.take_word-inner.ensures.reads _ start.requires in
    let p2 = as_rise start.args.end at-role-at.role_at-role.ensures at-read-level.read_level.ensures in
    stands start.requires.stands (λ _. increase_alike _ _ at-sees-word.sees_word.ensures at-if1.if-sees_word.true) (then p1 p2)

pub sees_word-requires-2 : goal.sees_word-requires-2
sees_word-requires-2 c =
    let start = c in
    start.requires.stands

pub take_word-inner-requires-then-sees_word-2 : goal.take_word-inner-requires-then-sees_word-2
take_word-inner-requires-then-sees_word-2 c =
    let start = c in
    start.requires.stands

pub read_level-requires-then-sees_word-2 : goal.read_level-requires-then-sees_word-2
read_level-requires-then-sees_word-2 c =
    let at-role-at2 = c in
    let at-take-word2 = at-role-at2 in
    let start = at-take-word2 in
    let p1 = at-take-word2.take_word-inner-then-sees_word-2.ensures.reads _ start.requires in (
      p1.ready,
      later_some 6 start.args.end at-role-at2.role_at-role-then-sees_word-2.ensures (omega arith),
      later_low 6 start.args.end
          at-role-at2.role_at-role-then-sees_word-2.ensures (omega arith),
    )

pub shape_of-said-then-sees_word-2 : goal.shape_of-said-then-sees_word-2
shape_of-said-then-sees_word-2 c =
    let at-read-level2 = c in
    at-read-level2.read_level-then-sees_word-2.ensures.size

pub returns-then-sees_word-2 : goal.returns-then-sees_word-2
returns-then-sees_word-2 c =
    let at-read-level2 = c in
    let at-role-at2 = at-read-level2 in
    let at-take-word2 = at-role-at2 in
    let at-if2 = at-take-word2 in
    let at-sees-word2 = at-if2 in
    let at-if1 = at-sees-word2 in
    let at-sees-word = at-if1 in
    let start = at-sees-word in
    let p1 = at-take-word2.take_word-inner-then-sees_word-2.ensures.reads _ start.requires in
    let p2 = as_fall start.args.end at-role-at2.role_at-role-then-sees_word-2.ensures at-read-level2.read_level-then-sees_word-2.ensures in
    stands start.requires.stands (λ _. decrease_alike _ _ at-sees-word.sees_word.ensures at-if1.if-sees_word.false
    at-sees-word2.sees_word-2.ensures at-if2.if-sees_word-2.true) (then p1 p2)

pub read_fact-requires : goal.read_fact-requires
read_fact-requires c =
    let start = c in
    start.requires

pub shape_of-said : goal.shape_of-said
shape_of-said c =
    let at-read-fact = c in
    at-read-fact.read_fact.ensures.size

pub returns : goal.returns
returns c =
    let at-read-fact = c in
    let at-set-place = at-read-fact in
    let at-if2 = at-set-place in
    let at-sees-word2 = at-if2 in
    let at-if1 = at-sees-word2 in
    let at-sees-word = at-if1 in
    let start = at-sees-word in
    let p1 = as_set start.args.end at-set-place.set_place.ensures at-read-fact.read_fact.ensures in
    stands start.requires.stands (λ _. set_alike _ _ at-sees-word.sees_word.ensures at-if1.if-sees_word.false
    at-sees-word2.sees_word-2.ensures at-if2.if-sees_word-2.false) (lead p1)

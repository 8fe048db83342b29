use Rattle.item_reader.proofs.Roles.{as_action}
use Rattle.token_reader.proofs.Compose.{lead, then}
use mathlib.Core.Path.{◌∙◌}
use native.Mathlib.Omega.{arith}
use Rattle.text_reader.proofs.sections.read_action.Goals as goal

pub take_word-begun-requires : goal.take_word-begun-requires
take_word-begun-requires c = c.requires.stands

pub take_name-named-requires : goal.take_name-named-requires
take_name-named-requires c =
    let p1 = c.take_word-begun.ensures.reads _ c.requires in
    (p1.ready, (λ z. omega arith), omega arith)

pub take_word-lasts-requires : goal.take_word-lasts-requires
take_word-lasts-requires c = c.take_name-named.ensures.ready.stands

pub take_bracket-opened-requires : goal.take_bracket-opened-requires
take_bracket-opened-requires c = c.take_word-lasts.ensures.stands

pub take_word-equal-requires : goal.take_word-equal-requires
take_word-equal-requires c = c.take_bracket-opened.ensures.stands

pub take_word-asked-requires : goal.take_word-asked-requires
take_word-asked-requires c = c.take_word-equal.ensures.stands

pub take_time-timed-requires : goal.take_time-timed-requires
take_time-timed-requires c =
    let p3 = c.take_word-lasts.ensures.reads _ c.take_name-named.ensures.ready in
    let p4 = c.take_bracket-opened.ensures.reads _ p3.ready in
    let p5 = c.take_word-equal.ensures.reads _ p4.ready in
    let p6 = c.take_word-asked.ensures.reads _ p5.ready in
    p6.ready

pub take_bracket-closed-requires : goal.take_bracket-closed-requires
take_bracket-closed-requires c = c.take_time-timed.ensures.ready.stands

pub take_word-wants-requires : goal.take_word-wants-requires
take_word-wants-requires c = c.take_bracket-closed.ensures.stands

pub read_item-wanted-requires : goal.read_item-wanted-requires
read_item-wanted-requires c =
    let p8 = c.take_bracket-closed.ensures.reads _ c.take_time-timed.ensures.ready in
    let p9 = c.take_word-wants.ensures.reads _ p8.ready in
    p9.ready

pub take_word-does-requires : goal.take_word-does-requires
take_word-does-requires c = c.read_item-wanted.ensures.ready.stands

pub read_item-done-requires : goal.read_item-done-requires
read_item-done-requires c =
    let p11 = c.take_word-does.ensures.reads _ c.read_item-wanted.ensures.ready in
    p11.ready

pub take_bracket-requires : goal.take_bracket-requires
take_bracket-requires c = c.read_item-done.ensures.ready.stands

pub shape_of-said : goal.shape_of-said
shape_of-said c =
    c.read_item-done.ensures.size
    ∙ c.read_item-wanted.ensures.size
    ∙ c.take_time-timed.ensures.size
    ∙ c.take_name-named.ensures.size

pub returns : goal.returns
returns c =
    let p1 = c.take_word-begun.ensures.reads _ c.requires in
    let p2 = as_action c.take_name-named.ensures in
    let p3 = c.take_word-lasts.ensures.reads _ c.take_name-named.ensures.ready in
    let p4 = c.take_bracket-opened.ensures.reads _ p3.ready in
    let p5 = c.take_word-equal.ensures.reads _ p4.ready in
    let p6 = c.take_word-asked.ensures.reads _ p5.ready in
    let p7 = c.take_time-timed.ensures in
    let p8 = c.take_bracket-closed.ensures.reads _ c.take_time-timed.ensures.ready in
    let p9 = c.take_word-wants.ensures.reads _ p8.ready in
    let p10 = c.read_item-wanted.ensures in
    let p11 = c.take_word-does.ensures.reads _ c.read_item-wanted.ensures.ready in
    let p12 = c.read_item-done.ensures in
    let p13 = c.take_bracket.ensures.reads _ c.read_item-done.ensures.ready in
    (then p1 (then p2 (then p3 (then p4 (then p5 (then p6 (then p7 (then p8 (then p9 (then p10 (then p11 (then p12 (lead p13)))))))))))))

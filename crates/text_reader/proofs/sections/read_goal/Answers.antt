use Rattle.token_reader.proofs.Turning.{ends_then}
use Rattle.text_reader.proofs.sections.read_goal.Goals as goal

pub take_bracket-opened-requires : goal.take_bracket-opened-requires
take_bracket-opened-requires c = c.requires.stands

pub take_word-begun-requires : goal.take_word-begun-requires
take_word-begun-requires c = c.take_bracket-opened.ensures.stands

pub read_item-read-requires : goal.read_item-read-requires
read_item-read-requires c =
    let p1 = c.take_bracket-opened.ensures.reads _ c.requires in
    let p2 = c.take_word-begun.ensures.reads _ p1.ready in
    p2.ready

pub take_bracket-closed-requires : goal.take_bracket-closed-requires
take_bracket-closed-requires c = c.read_item-read.ensures.ready.stands

pub take_end-requires : goal.take_end-requires
take_end-requires c = c.take_bracket-closed.ensures.stands

pub shape_of-said : goal.shape_of-said
shape_of-said c = c.read_item-read.ensures.size

pub returns : goal.returns
returns c =
    let p1 = c.take_bracket-opened.ensures.reads _ c.requires in
    let p2 = c.take_word-begun.ensures.reads _ p1.ready in
    let p3 = c.read_item-read.ensures in
    let p4 = c.take_bracket-closed.ensures.reads _ c.read_item-read.ensures.ready in
    ends_then p1 (ends_then p2 (ends_then p3 (ends_then p4 (c.take_end.ensures _ p4.ready))))

use Rattle.text_reader.proofs.Loops.{line_blank, line_full}
use Rattle.item_reader.proofs.Roles.{as_planned}
use Rattle.token_reader.proofs.Compose.{lead, then}
use mathlib.Core.Path.{◌∙◌}
use native.Mathlib.Omega.{arith}
use Rattle.text_reader.proofs.plan_lines.read_line.Goals as goal

pub sees_bracket-requires : goal.sees_bracket-requires
sees_bracket-requires c = c.requires.0.stands

pub take_bracket-requires : goal.take_bracket-requires
take_bracket-requires c = c.requires.0.stands

pub returns-then-sees_bracket : goal.returns-then-sees_bracket
returns-then-sees_bracket c =
    let p = c.take_bracket.ensures.reads _ c.requires.0 in
    (line_blank c.requires.0 c.sees_bracket.ensures c.if-sees_bracket.true p, p.further)

pub take_time-starts-requires : goal.take_time-starts-requires
take_time-starts-requires c = c.requires.0

pub take_bracket-parted-requires : goal.take_bracket-parted-requires
take_bracket-parted-requires c = c.take_time-starts.ensures.ready.stands

pub take_bracket-opened-requires : goal.take_bracket-opened-requires
take_bracket-opened-requires c = c.take_bracket-parted.ensures.stands

pub take_name-named-requires : goal.take_name-named-requires
take_name-named-requires c =
    let p2 = c.take_bracket-parted.ensures.reads _ c.take_time-starts.ensures.ready in
    let p3 = c.take_bracket-opened.ensures.reads _ p2.ready in
    (p3.ready, (λ z. omega arith), omega arith)

pub take_bracket-closed-requires : goal.take_bracket-closed-requires
take_bracket-closed-requires c = c.take_name-named.ensures.ready.stands

pub take_bracket-lasts-requires : goal.take_bracket-lasts-requires
take_bracket-lasts-requires c = c.take_bracket-closed.ensures.stands

pub take_time-timed-requires : goal.take_time-timed-requires
take_time-timed-requires c =
    let p5 = c.take_bracket-closed.ensures.reads _ c.take_name-named.ensures.ready in
    let p6 = c.take_bracket-lasts.ensures.reads _ p5.ready in
    p6.ready

pub take_bracket-last-requires : goal.take_bracket-last-requires
take_bracket-last-requires c = c.take_time-timed.ensures.ready.stands

pub end_line-requires : goal.end_line-requires
end_line-requires c = c.take_bracket-last.ensures.stands

pub shape_of-said : goal.shape_of-said
shape_of-said c =
    c.take_time-timed.ensures.size
    ∙ c.take_name-named.ensures.size
    ∙ c.take_time-starts.ensures.size

pub returns : goal.returns
returns c =
    let p1 = c.take_time-starts.ensures in
    let p2 = c.take_bracket-parted.ensures.reads _ c.take_time-starts.ensures.ready in
    let p3 = c.take_bracket-opened.ensures.reads _ p2.ready in
    let p4 = as_planned c.take_name-named.ensures in
    let p5 = c.take_bracket-closed.ensures.reads _ c.take_name-named.ensures.ready in
    let p6 = c.take_bracket-lasts.ensures.reads _ p5.ready in
    let p7 = c.take_time-timed.ensures in
    let p8 = c.take_bracket-last.ensures.reads _ c.take_time-timed.ensures.ready in
    let row = (then p1 (then p2 (then p3 (then p4 (then p5 (then p6 (then p7 (lead p8)))))))) in
    let e = c.end_line.ensures in
    let t = line_full c.requires.0 c.sees_bracket.ensures c.if-sees_bracket.false c.requires.2 row (e.turns _ p8.ready) in
    (t, λ z. let h = row.further (e.kept_fault z) in omega (arith, (e.turns _ p8.ready).onward))

use Rattle.text_reader.proofs.Hearing.{actions_long, actions_short, first_outcome, first_ready, heard_end, heard_long}
use mathlib.Core.Bool.{false}
use mathlib.Core.Path.{◌∙◌}
use Rattle.text_reader.proofs.read_actions.Goals as goal

pub returns-then-text-gt-TEXT_MOST : goal.returns-then-text-gt-TEXT_MOST
returns-then-text-gt-TEXT_MOST c =
    heard_long false _ _ c.if-text-gt-TEXT_MOST.true c.requires.0 c.requires.1 c.too_long.ensures (actions_long _ c.if-text-gt-TEXT_MOST.true)

pub first-c-requires : goal.first-c-requires
first-c-requires c = c.if-text-gt-TEXT_MOST.false

pub read_text-requires : goal.read_text-requires
read_text-requires c =
    first_ready false _ _ c.if-text-gt-TEXT_MOST.false c.requires.0 c.requires.1 c.first-c.ensures c.reader_at-r.ensures

pub shape_of-said : goal.shape_of-said
shape_of-said c = c.read_text.ensures.size

pub returns : goal.returns
returns c =
    let reading = actions_short _ c.if-text-gt-TEXT_MOST.false ∙ first_outcome false _ _ c.if-text-gt-TEXT_MOST.false c.requires.0 c.requires.1
    c.first-c.ensures c.reader_at-r.ensures _ in
    heard_end c.requires.0 reading c.read_text.ensures

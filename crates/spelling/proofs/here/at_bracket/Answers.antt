use Rattle.spelling.proofs.Standing.{inside, bracket_end, bracket_is}
use Rattle.spelling.proofs.here.at_bracket.Goals as goal

pub returns-then-at-text : goal.returns-then-at-text
returns-then-at-text c = bracket_end _ _ _ _ c.if-at-text.true

pub bounds-text-at : goal.bounds-text-at
bounds-text-at c = inside _ _ _ c.requires c.if-at-text.false

pub bounds-text-at-2 : goal.bounds-text-at-2
bounds-text-at-2 c = inside _ _ _ c.requires c.if-at-text.false

pub returns : goal.returns
returns c =
    let s = c in
    bracket_is _ _ _ _ (inside _ _ _ s.requires c.if-at-text.false) c.is_mark.ensures

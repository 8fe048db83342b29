use Rattle.spelling.proofs.Standing.{inside, some_end, some_is}
use Rattle.spelling.proofs.here.at_some_word.Goals as goal

pub returns-then-at-text : goal.returns-then-at-text
returns-then-at-text c = some_end _ _ _ c.if-at-text.true

pub bounds-text-at : goal.bounds-text-at
bounds-text-at c = inside _ _ _ c.requires c.if-at-text.false

pub returns : goal.returns
returns c = some_is _ _ _ (inside _ _ _ c.requires c.if-at-text.false) c.is_mark.ensures

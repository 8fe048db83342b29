use Rattle.token_reader.proofs.Steps.{stand, advanced_to}
use Rattle.token_reader.proofs.advance.Goals as goal

pub next-c-requires : goal.next-c-requires
next-c-requires c =
    let start = c in
    let p = start.requires in (p.0.short, stand _ _ _ c.cursor.ensures p.0, rw c.cursor.ensures p.1)

pub returns : goal.returns
returns c =
    let at_next = c in
    let at-cursor = at_next in
    let start = at-cursor in
    advanced_to _ _ at-cursor.cursor.ensures start.requires.0 at_next.next-c.ensures c.reader_at.ensures

-- From the token's end, on the line behind its first byte.
use Rattle.spelling.proofs.Scan.{line_fits, next_asks, next_token}
use Rattle.spelling.proofs.next.Goals as goal

pub bounds-text-at : goal.bounds-text-at
bounds-text-at c = c.requires.2

pub line_after-line-requires : goal.line_after-line-requires
line_after-line-requires c = line_fits _ _ _ c.requires

pub token_from-requires : goal.token_from-requires
token_from-requires c = next_asks _ _ _ c.requires _ c.line_after-line.ensures.1

pub returns : goal.returns
returns c =
    let p = c.requires in
    next_token _ _ _ _ _ p.1 p.2 c.line_after-line.ensures.0 c.token_from.ensures

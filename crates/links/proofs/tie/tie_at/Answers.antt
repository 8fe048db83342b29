-- The last tie, one of no points, or one that is found and, where it has several, noted.
use native.Mathlib.Omega.{arith}
use borrow.Author.Rules.{rules}
use Rattle.links.proofs.Tied.{tie_none, tie_found}
use Rattle.links.proofs.tie.tie_at.Goals as goal

pub returns-then-high-run : goal.returns-then-high-run
returns-then-high-run c =
    let p = c.requires in
    tie_none p.2 p.0.noted.size p.1 c.if-high-run.true

pub returns-then-second-end : goal.returns-then-second-end
returns-then-second-end c =
    let p = c.requires in
    tie_found p.2 (search (rules, p.0.noted.size)) c.tie_end-end.ensures
    (λ _. c.note_firsts.ensures)

pub returns-else-second-end : goal.returns-else-second-end
returns-else-second-end c =
    let p = c.requires in
    tie_found p.2 p.0.noted.size c.tie_end-end.ensures (λ l. absurd (omega (arith, c.if-second-end.false)))

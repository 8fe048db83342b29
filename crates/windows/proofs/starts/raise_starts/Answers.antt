-- All starts are the first n, where n is their number.
use Rattle.windows.proofs.starts.raise_starts.Goals as goal

pub raise_all-requires : goal.raise_all-requires
raise_all-requires c =
    let p = c.requires in
    let all = p.1 in
    (p.0, (rw c.if-n-eq-WIDTH.true at all), p.3, p.4)

pub raise_first-requires : goal.raise_first-requires
raise_first-requires c = c.requires

pub returns-then-n-eq-WIDTH : goal.returns-then-n-eq-WIDTH
returns-then-n-eq-WIDTH c = rw c.if-n-eq-WIDTH.true c.raise_all.ensures

pub returns-else-n-eq-WIDTH : goal.returns-else-n-eq-WIDTH
returns-else-n-eq-WIDTH c = c.raise_first.ensures

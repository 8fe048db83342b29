-- The limit is the higher of two.
use native.Mathlib.Omega.{arith}
use Rattle.moves.specs.Moved.{Up}
use Rattle.moves.proofs.Moved.{up_same, up_on, moved_met}
use Rattle.moves.proofs.raise_limit.Goals as goal

pub returns : goal.returns
returns c =
    let start = c.saturating_sub-limit.ensures in
    let most = c.max.ensures in
    moved_met Up up_same up_on _ _ _ _ (omega arith) (omega (arith, most)) (omega (arith, start, most))
    (λ bound a b. omega (arith, start, most, a, b))

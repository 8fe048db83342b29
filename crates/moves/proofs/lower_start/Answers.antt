-- The latest start is the lower of two.
use native.Mathlib.Omega.{arith}
use Rattle.moves.specs.Moved.{Down}
use Rattle.moves.proofs.Moved.{down_same, down_on, moved_none, moved_met, before_one}
use Rattle.moves.proofs.lower_start.Goals as goal

pub returns-in-Some : goal.returns-in-Some
returns-in-Some c =
    let offset = c.saturating_sub.ensures in
    let start = c.saturating_sub-start.ensures in
    let least = c.min.ensures in
    before_one c.args.at _ _ c.in-Some.is
    (moved_met Down down_same down_on _ _ _ _ (omega arith) (omega (arith, least)) (omega (arith, offset, start, least))
    (λ bound a b. omega (arith, offset, start, least, a, b)))

pub returns-in_default : goal.returns-in_default
returns-in_default c = moved_none Down down_same down_on _ _ (λ k v o. c.in_default.not-Some o.0 o.1)

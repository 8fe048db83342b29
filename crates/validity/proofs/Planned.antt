-- The written starts are one a step, and no fixed step is moved: their check is that of their timing.
use Prim.Native.Nat.{ℕ, ◌<◌}
use mathlib.Core.Path.{◌≡◌, sym, ap, ◌∙◌}
use mathlib.Core.Bool.{Bool, false, not, ◌&&◌, and-false}
use borrow.Author.Tests.{eq-eqb}
use lib.Dec.{eqb}
use Rattle.laws.proofs.Listed.{length_tabulate, get_d_tabulate}
use Rattle.job.specs.Model.{Model}
use Rattle.verdict.specs.Verdict.{number}
use Rattle.verdict.proofs.Chain.{then_accepted, zero_then, zero_refuse, zero_lowest}
use Rattle.validity.specs.declared.Rule.TheVariants.{FixedSteps}
use Rattle.validity.specs.Ticks.{planned, planned_starts}
use Rattle.validity.specs.Checks.{moved, rule_check, count_check, timing_check, starts_check}

none_moved : (m : Model) (k : ℕ) → k < m.steps → moved m (planned m) k ≡ false
unfolding moved
none_moved m k h =
    ap (λ (b : Bool). eqb (m.fixed k) 1 && not b) (eq-eqb _ _ (get_d_tabulate m.start m.steps k 0 h))
    ∙ and-false (eqb (m.fixed k) 1)

counted : (m : Model) → number (count_check m (planned_starts m)) ≡ 0
unfolding count_check
counted m = zero_refuse _ _ (ap not (eq-eqb _ _ (length_tabulate m.start m.steps)))

kept : (m : Model) → number (rule_check m (planned m) FixedSteps) ≡ 0
unfolding rule_check
kept m = zero_lowest _ _ _ (none_moved m)

pub planned_check : (m : Model) → starts_check m (planned_starts m) ≡ timing_check m (planned m)
unfolding starts_check
planned_check m = sym (then_accepted _ _ (zero_then _ _ (counted m) (kept m)))

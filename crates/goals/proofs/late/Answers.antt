-- No deadline, no lateness; else the run's first tick tells.
use mathlib.Core.Path.{refl, ap}
use mathlib.Core.Bool.{not, ◌&&◌}
use native.Mathlib.Omega.{arith}
use lib.Dec.{ltb, eqb}
use Rattle.goals.proofs.late.Goals as goal

pub returns-then-deadline-eq-NO_DEADLINE : goal.returns-then-deadline-eq-NO_DEADLINE
returns-then-deadline-eq-NO_DEADLINE c = record { never = λ _. refl; ends = λ due. absurd (due c.if-deadline-eq-NO_DEADLINE.true) }

pub last_run-run-requires : goal.last_run-run-requires
last_run-run-requires c = let p = c.requires in (omega (arith, p.0), p.1)

pub bounds-points-run : goal.bounds-points-run
bounds-points-run c =
    let p = c.requires in
    omega (arith, p.1, c.last_run-run.ensures.some p.0)

pub returns : goal.returns
returns c =
    let p = c.args in
    let run = c.last_run-run in
    record {
      never = λ none. absurd (c.if-deadline-eq-NO_DEADLINE.false none);
      ends = λ _. (run.result, run.ensures, ap (λ t. not (p.kept && eqb run.result p.low) && ltb p.deadline t) c.tick_of.ensures.0);
    }

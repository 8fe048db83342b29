-- By the test.
use mathlib.Core.Path.{sym, ◌∙◌}
use Rattle.job_from_notes.proofs.opening.store_stated.Goals as goal

pub returns-then-states : goal.returns-then-states
returns-then-states c = rw (sym c.states.ensures ∙ c.if-states.true, sym c.amount.ensures) c.store.ensures

pub returns-else-states : goal.returns-else-states
returns-else-states c = rw (sym c.states.ensures ∙ c.if-states.false)

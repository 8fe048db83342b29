use borrow.Author.Tests.{lt-ltb, le-ltb}
use Rattle.pair_search.specs.Answer.{found_in}
use Rattle.pair_search.proofs.found_in.Goals as goal

pub returns-then-step-job : goal.returns-then-step-job
unfolding found_in
returns-then-step-job c = λ s. rw (lt-ltb _ _ c.if-step-job.true)

pub returns-else-step-job : goal.returns-else-step-job
unfolding found_in
returns-else-step-job c = λ s. rw (le-ltb _ _ c.if-step-job.false)

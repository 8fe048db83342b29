-- An effect and the initial state keep their number; what is left is a timed fact.
use Rattle.links.proofs.Numbered.{kept_number, timed_number}
use Rattle.links.proofs.numbers.link_number.Goals as goal

pub returns-then-link-job : goal.returns-then-link-job
returns-then-link-job c = λ s. kept_number _ _ c.requires.1.0 c.if-link-job.true

pub returns : goal.returns
returns c = λ s. timed_number _ _ c.if-link-job.false

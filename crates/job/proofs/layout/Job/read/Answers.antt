-- The parts are those of `job_of`.
use Rattle.job.specs.Layout.{job_of}
use borrow.Author.Rules.{rules}
use Rattle.job.proofs.layout.Job.read.Goals as goal

pub u16_at-edition-requires : goal.u16_at-edition-requires
unfolding job_of
u16_at-edition-requires c = search rules

pub overflow_cast-edition : goal.overflow_cast-edition
unfolding job_of
overflow_cast-edition c = search rules

pub read-count-requires : goal.read-count-requires
unfolding job_of
read-count-requires c = search rules

pub header_width-requires : goal.header_width-requires
unfolding job_of
header_width-requires c = search rules

pub of-at-requires : goal.of-at-requires
unfolding job_of
of-at-requires c = c.header_width.ensures.1

pub returns : goal.returns
unfolding job_of
returns c =
    rw (
      c.of-at.ensures,
      c.header_width.ensures.0,
      c.read-count.ensures,
      c.u16_at-edition.ensures.0,
    )

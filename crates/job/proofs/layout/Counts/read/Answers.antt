-- Each count stands where `counts_of` reads it.
use Rattle.job.specs.Layout.{counts_of}
use borrow.Author.Rules.{rules}
use Rattle.job.proofs.layout.Counts.read.Goals as goal

pub u16_at-requires : goal.u16_at-requires
unfolding counts_of
u16_at-requires c = search rules

pub overflow_cast-result : goal.overflow_cast-result
unfolding counts_of
overflow_cast-result c = search rules

pub u16_at-requires-2 : goal.u16_at-requires-2
unfolding counts_of
u16_at-requires-2 c = search rules

pub overflow_cast-result-2 : goal.overflow_cast-result-2
unfolding counts_of
overflow_cast-result-2 c = search rules

pub u16_at-requires-3 : goal.u16_at-requires-3
unfolding counts_of
u16_at-requires-3 c = search rules

pub overflow_cast-result-3 : goal.overflow_cast-result-3
unfolding counts_of
overflow_cast-result-3 c = search rules

pub u16_at-requires-4 : goal.u16_at-requires-4
unfolding counts_of
u16_at-requires-4 c = search rules

pub overflow_cast-result-4 : goal.overflow_cast-result-4
unfolding counts_of
overflow_cast-result-4 c = search rules

pub u16_at-requires-5 : goal.u16_at-requires-5
unfolding counts_of
u16_at-requires-5 c = search rules

pub overflow_cast-result-5 : goal.overflow_cast-result-5
unfolding counts_of
overflow_cast-result-5 c = search rules

pub u16_at-requires-6 : goal.u16_at-requires-6
unfolding counts_of
u16_at-requires-6 c = search rules

pub overflow_cast-result-6 : goal.overflow_cast-result-6
unfolding counts_of
overflow_cast-result-6 c = search rules

pub u16_at-requires-7 : goal.u16_at-requires-7
unfolding counts_of
u16_at-requires-7 c = search rules

pub overflow_cast-result-7 : goal.overflow_cast-result-7
unfolding counts_of
overflow_cast-result-7 c = search rules

pub u16_at-requires-8 : goal.u16_at-requires-8
unfolding counts_of
u16_at-requires-8 c = search rules

pub overflow_cast-result-8 : goal.overflow_cast-result-8
unfolding counts_of
overflow_cast-result-8 c = search rules

pub needs_counted-requires : goal.needs_counted-requires
unfolding counts_of
needs_counted-requires c = search rules

pub returns : goal.returns
unfolding counts_of
returns c =
    rw (
      c.needs_counted.ensures,
      c.u16_at-8.ensures.0,
      c.u16_at-7.ensures.0,
      c.u16_at-6.ensures.0,
      c.u16_at-5.ensures.0,
      c.u16_at-4.ensures.0,
      c.u16_at-3.ensures.0,
      c.u16_at-2.ensures.0,
      c.u16_at.ensures.0,
    )

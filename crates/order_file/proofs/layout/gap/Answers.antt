use Rattle.order_file.specs.Layout.{contents_of}
use borrow.Author.Rules.{rules}
use Rattle.order_file.proofs.layout.gap.Goals as goal

pub steps-requires : goal.steps-requires
unfolding contents_of
steps-requires c = search rules

pub order_at-requires : goal.order_at-requires
unfolding contents_of
order_at-requires c = search rules

pub overflow_add-order_at : goal.overflow_add-order_at
unfolding contents_of
overflow_add-order_at c = search rules

pub biased_at-requires : goal.biased_at-requires
unfolding contents_of
biased_at-requires c = search rules

pub gap_read-requires : goal.gap_read-requires
unfolding contents_of
gap_read-requires c = search rules

pub returns : goal.returns
unfolding contents_of
returns c = (cc, c.gap_read.ensures.1)

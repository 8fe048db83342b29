use Rattle.order_file.specs.Layout.{contents_of}
use borrow.Author.Rules.{rules}
use Rattle.order_file.proofs.layout.first.Goals as goal

pub steps-requires : goal.steps-requires
unfolding contents_of
steps-requires c = search rules

pub order_at-requires : goal.order_at-requires
unfolding contents_of
order_at-requires c = search rules

pub u16_at-requires : goal.u16_at-requires
unfolding contents_of
u16_at-requires c = search rules

pub returns : goal.returns
unfolding contents_of
returns c = (cc, c.u16_at.ensures.1)

use Rattle.order_file.specs.Layout.{contents_of}
use borrow.Author.Rules.{rules}
use Rattle.order_file.proofs.layout.steps.Goals as goal

pub u16_at-requires : goal.u16_at-requires
unfolding contents_of
u16_at-requires c = search rules

pub returns : goal.returns
unfolding contents_of
returns c = search rules

use Rattle.order_file.specs.Layout.{contents_of}
use borrow.Author.Rules.{rules}
use Rattle.order_file.proofs.layout.limit.Goals as goal

pub window_at-requires : goal.window_at-requires
unfolding contents_of
window_at-requires c = search rules

pub u32_at-requires : goal.u32_at-requires
unfolding contents_of
u32_at-requires c = search rules

pub returns : goal.returns
unfolding contents_of
returns c = (cc, c.u32_at.ensures.1)

use Rattle.order_file.specs.Layout.{contents_of}
use borrow.Author.Rules.{rules}
use Rattle.order_file.proofs.layout.rounds.Goals as goal

pub u32_at-requires : goal.u32_at-requires
unfolding contents_of
u32_at-requires c = search rules

pub returns : goal.returns
unfolding contents_of
returns c = search rules

use borrow.Author.Rules.{rules}
use Rattle.pair_search.specs.Keys.{opposite}
use Rattle.pair_search.proofs.compare.opposite_of.Goals as goal

pub overflow_mul-result : goal.overflow_mul-result
unfolding opposite
overflow_mul-result c = search rules

pub overflow_sub-result : goal.overflow_sub-result
unfolding opposite
overflow_sub-result c = search rules

pub overflow_add-result : goal.overflow_add-result
unfolding opposite
overflow_add-result c = search rules

pub returns : goal.returns
unfolding opposite
returns c = search rules

use borrow.Author.Rules.{rules}
use Rattle.pair_search.specs.Keys.{key_of}
use Rattle.pair_search.proofs.keys.effect_key.Goals as goal

pub overflow_cast-result : goal.overflow_cast-result
unfolding key_of
overflow_cast-result c = search rules

pub overflow_mul-result : goal.overflow_mul-result
unfolding key_of
overflow_mul-result c = search rules

pub overflow_cast-result-2 : goal.overflow_cast-result-2
unfolding key_of
overflow_cast-result-2 c = search rules

pub overflow_add-result : goal.overflow_add-result
unfolding key_of
overflow_add-result c = search rules

pub overflow_mul-result-2 : goal.overflow_mul-result-2
unfolding key_of
overflow_mul-result-2 c = search rules

pub overflow_cast-result-3 : goal.overflow_cast-result-3
unfolding key_of
overflow_cast-result-3 c = search rules

pub overflow_add-result-2 : goal.overflow_add-result-2
unfolding key_of
overflow_add-result-2 c = search rules

pub returns : goal.returns
unfolding key_of
returns c = search rules

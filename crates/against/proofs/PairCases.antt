-- The cases of the search by pairs, computed.
use mathlib.Core.Path.{refl}
use Rattle.against.specs.Against.{both_ways}
use Rattle.against.specs.Pairs.{pairs_of, up_to_first, effects_from, through_step, through_steps, pair_search}
use Rattle.against.specs.PairCases.{job_with, pair_cases, AllCompare}

pub pair_answers : AllCompare pair_cases
unfolding both_ways pairs_of up_to_first effects_from through_step through_steps pair_search job_with pair_cases
pair_answers = (refl, (refl, (refl, (refl, (refl, (refl, (refl, (refl, (refl, tt)))))))))

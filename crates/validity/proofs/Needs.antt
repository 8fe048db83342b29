-- The cases of needs, computed.
use mathlib.Core.Path.{refl}
use Rattle.laws.specs.Fold.{largest, sum}
use Rattle.laws.specs.Listed.{tabulate}
use Rattle.laws.specs.Search.{any, lowest}
use Rattle.verdict.specs.Verdict.{◌then◌, refuse_if, refuse_lowest}
use Rattle.validity.specs.Seen.{last_given, seen}
use Rattle.validity.specs.Levels.{rises_before, falls_before, falls_against, unmet}
use Rattle.validity.specs.Checks.{passes, level_fails, goal_fails, rule_check, timing_check}
use Rattle.validity.specs.Needs.{shelves, AllJudged, calibration, calibrated, need_cases}

pub need_verdicts : AllJudged need_cases
unfolding largest sum tabulate any lowest ◌then◌ refuse_if refuse_lowest last_given seen rises_before falls_before falls_against unmet passes level_fails
    goal_fails rule_check timing_check shelves calibration calibrated need_cases
need_verdicts =
    (refl, (refl, (refl, (refl, (refl, (refl, (refl, (refl, (refl, (refl, (refl, (refl, (refl, (refl, (refl, (refl, (refl, tt)))))))))))))))))

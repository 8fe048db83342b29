-- The first point, or none.
use Rattle.std.proofs.Common.{rules}
use Rattle.spelled_numbers.proofs.Numbers.{point_found, point_nowhere}
use Rattle.spelled_numbers.proofs.point_at.Goals as goal

pub returns-in-Some : goal.returns-in-Some
returns-in-Some c = (point_found _ c.in-Some.k (search rules) (search rules) (search rules), search rules)

pub returns-in-None : goal.returns-in-None
returns-in-None c = (point_nowhere _ (search rules), search rules)

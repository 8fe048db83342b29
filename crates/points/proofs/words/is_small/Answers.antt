-- Both tests pass.
use native.Mathlib.Omega.{arith}
use lib.Dec.{leb}
use borrow.Author.Tests.{leb-true}
use Rattle.laws.proofs.Search.{and_both}
use Rattle.points.specs.Words.{few_points, few_groups}
use Rattle.points.proofs.words.is_small.Goals as goal

pub returns : goal.returns
returns c t =
    let n = c.points_counted.result in
    let groups = c.groups_counted.result in
    let both = and_both (leb n few_points) (leb groups few_groups) t in
    record {
      points = omega (arith, leb-true n few_points both.0, c.points_counted.ensures);
      groups = omega (arith, leb-true groups few_groups both.1, c.groups_counted.ensures);
    }

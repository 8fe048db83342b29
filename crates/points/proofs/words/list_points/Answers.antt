-- The words are listed and then sorted, so the points are known.
use native.Mathlib.Omega.{arith}
use Rattle.job.specs.Model.{view}
use Rattle.points.proofs.ClockedRange.{clocked_range}
use Rattle.points.proofs.Placing.{groups_low, points_known}
use Rattle.points.proofs.words.list_points.Goals as goal

pub put_words-requires : goal.put_words-requires
put_words-requires c = let p = c.requires in (p.0, p.1.sorted, p.2)

pub sort_points-requires : goal.sort_points-requires
sort_points-requires c =
    let p = c.requires in
    let listed = c.put_words.ensures in
    rw (c.points_counted.ensures, c.groups_counted.ensures)
    (record {
      size = p.1.listed;
      spare_size = omega (arith, listed.1, p.1.sorted);
      few = omega (arith, p.0.condition_count, p.0.effect_count, p.0.timed_count, p.0.use_count, p.0.need_count);
      room = p.1.grouped;
      known = groups_low (clocked_range (view c.args.job.head c.args.job.bytes.now) p.0) listed.0;
    })

pub returns : goal.returns
returns c =
    let sorted = c.sort_points.ensures in
    let n = c.points_counted.ensures in
    let groups = c.groups_counted.ensures in
    let p = c.requires in
    points_known (clocked_range (view c.args.job.head c.args.job.bytes.now) p.0) c.put_words.ensures.0 (rw n at sorted.rearranged)
    (rw (n, groups) at sorted.grouped) (omega (arith, sorted.points_len_unchanged, p.1.listed)) (omega (arith, sorted.begins_len_unchanged, p.1.grouped))

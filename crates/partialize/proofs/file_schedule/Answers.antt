-- The links; without timed facts the points are those of the steps.
use native.Mathlib.Omega.{arith}
use mathlib.Core.Path.{◌∙◌}
use lib.ListN.{length-replicate}
use Prim.Native.Nat.{ℕ}
use Rattle.job.specs.Model.{view}
use Rattle.job.proofs.Clocked.{clocked_form}
use Rattle.validity.specs.Ticks.{schedule_of}
use Rattle.points.proofs.Own.{own_known}
use Rattle.order_file.specs.Contents.{link_limit}
use Rattle.partialize.proofs.file_schedule.Goals as goal

pub find_links-requires : goal.find_links-requires
find_links-requires c =
    let p = c.requires.0 in
    let w = p.valid.form in
    record {
      form = clocked_form _ w;
      some = (_, p.known, p.valid.valid);
      room = omega (arith, length-replicate {A = ℕ} link_limit 0, w.condition_count, w.goal_count);
    }

pub file_points-requires : goal.file_points-requires
file_points-requires c =
    let p = c.requires.0 in
    let f = c.find_links.ensures (schedule_of c.args.timeline.starts.now) p.known p.valid.valid in (
      record {
        timed = record { valid = p.valid; linked = record { each = f.below }; size = f.size ∙ length-replicate {A = ℕ} link_limit 0 };
        known = own_known (view c.args.timeline.job.head c.args.timeline.job.bytes.now) c.if-job-eq0.true _ p.known;
      },
      c.requires.1,
    )

pub returns-then-job-eq0 : goal.returns-then-job-eq0
returns-then-job-eq0 c = c.file_points.ensures

pub file_timed-requires : goal.file_timed-requires
file_timed-requires c =
    let p = c.requires.0 in
    let f = c.find_links.ensures (schedule_of c.args.timeline.starts.now) p.known p.valid.valid in (
      record { valid = p.valid; linked = record { each = f.below }; size = f.size ∙ length-replicate {A = ℕ} link_limit 0 },
      c.requires.1,
    )

pub returns : goal.returns
returns c = c.file_timed.ensures

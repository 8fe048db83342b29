-- One more step is put behind the others.
use native.Mathlib.Omega.{arith}
use Rattle.job_from_notes.proofs.Behind.{put_size, parts_start}
use Rattle.job_from_notes.proofs.Even.{steps_room, steps_more}
use Rattle.job_from_notes.proofs.file.write_steps.Goals as goal

pub loop-s-init : goal.loop-s-init
loop-s-init c = parts_start _ _ _

pub write_step-requires : goal.write_step-requires
write_step-requires c = steps_room _ _ _ c.loop-s.invariant c.loop-s-test.true c.requires

pub overflow_add-next : goal.overflow_add-next
overflow_add-next c =
    let room = steps_room _ _ _ c.loop-s.invariant c.loop-s-test.true c.requires in
    omega (arith, room, put_size _ _ c.loop-s.invariant, c.well_formed.1.1.0)

pub loop-s-preserved : goal.loop-s-preserved
loop-s-preserved c = steps_more _ _ c.loop-s.invariant c.starts.ensures c.lasts.ensures c.write_step.ensures

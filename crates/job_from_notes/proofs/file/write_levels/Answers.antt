-- One more level is put behind the others.
use native.Mathlib.Omega.{arith}
use Rattle.job_from_notes.proofs.Behind.{put_size, parts_start}
use Rattle.job_from_notes.proofs.Even.{levels_room, levels_more}
use Rattle.job_from_notes.proofs.file.write_levels.Goals as goal

pub loop-l-init : goal.loop-l-init
loop-l-init c = parts_start _ _ _

pub write_level-requires : goal.write_level-requires
write_level-requires c = levels_room _ _ _ c.loop-l.invariant c.loop-l-test.true c.requires.0

pub overflow_add-next : goal.overflow_add-next
overflow_add-next c =
    let room = levels_room _ _ _ c.loop-l.invariant c.loop-l-test.true c.requires.0 in
    omega (arith, room, put_size _ _ c.loop-l.invariant, c.well_formed.1.1.1.0)

pub loop-l-preserved : goal.loop-l-preserved
loop-l-preserved c = levels_more _ _ c.loop-l.invariant c.write_level.ensures

-- One more byte is put behind the others.
use native.Mathlib.Omega.{arith}
use Rattle.job_from_notes.proofs.Behind.{put_size, parts_start}
use Rattle.job_from_notes.proofs.Even.{facts_room, facts_more}
use Rattle.job_from_notes.proofs.file.write_facts.Goals as goal

pub loop-f-init : goal.loop-f-init
loop-f-init c = parts_start _ _ _

pub overflow_add-next : goal.overflow_add-next
overflow_add-next c =
    let room = facts_room _ _ _ c.loop-f.invariant c.loop-f-test.true c.requires.0 in
    omega (arith, room, put_size _ _ c.loop-f.invariant, c.well_formed.1.1.1.0)

pub loop-f-preserved : goal.loop-f-preserved
loop-f-preserved c = facts_more _ _ c.loop-f.invariant c.put_byte.ensures

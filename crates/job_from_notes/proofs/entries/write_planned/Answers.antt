-- The records of one more step are put behind the others.
use Rattle.job_from_notes.proofs.Behind.{parts_start}
use Rattle.job_from_notes.proofs.Planned.{step_room, step_more}
use Rattle.job_from_notes.proofs.entries.write_planned.Goals as goal

pub loop-s-init : goal.loop-s-init
loop-s-init c = parts_start _ _ _

pub write_notes-next-requires : goal.write_notes-next-requires
write_notes-next-requires c =
    let taken = c.loop-s-test.true in
    rw c.from.ensures (
      c.requires.0.inside _ taken,
      step_room _ _ _ _ _ _ c.lasts.ensures c.loop-s.invariant _ taken c.requires.1,
    )

pub loop-s-preserved : goal.loop-s-preserved
loop-s-preserved c = step_more _ _ _ _ _ _ c.lasts.ensures c.loop-s.invariant (rw c.from.ensures at c.write_notes-next.ensures)

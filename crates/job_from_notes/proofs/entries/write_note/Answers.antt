-- A note brings one record or none.
use Rattle.job_from_notes.proofs.Rows.{note_room, note_put, note_none}
use Rattle.job_from_notes.proofs.entries.write_note.Goals as goal

pub write_row-requires : goal.write_row-requires
write_row-requires c =
    let args = c.args in (
      note_room args.span.step args.span.duration args.kind args.w args.n args.amount c.role-role.ensures
          c.brings.ensures args.at _ c.if-brings.true c.requires.0,
      c.requires.1,
    )

pub returns-then-brings : goal.returns-then-brings
returns-then-brings c =
    note_put _ _ _ _ _ _ c.role-role.ensures c.brings.ensures _ _ c.if-brings.true c.write_row.ensures
    c.width.ensures

pub returns-else-brings : goal.returns-else-brings
returns-else-brings c = note_none _ _ _ _ _ _ c.role-role.ensures c.brings.ensures _ _ c.if-brings.false

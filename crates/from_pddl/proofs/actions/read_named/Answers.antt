-- The reader's answer, or the first clash among the names.
use mathlib.Core.Path.{sym}
use Rattle.from_pddl.proofs.Understood.{notes_length, notes_readable, clash_understood, reader_understood}
use Rattle.from_pddl.proofs.actions.read_named.Goals as goal

pub slice_bounds-number_names-end-2 : goal.slice_bounds-number_names-end-2
slice_bounds-number_names-end-2 c = sym (notes_length _ _ _ c.read_actions-r.ensures)

pub number_names-requires : goal.number_names-requires
number_names-requires c =
    let p = c.requires in
    (notes_readable _ _ _ c.read_actions-r.ensures, p.3, p.4, p.2)

pub returns-in-Err : goal.returns-in-Err
returns-in-Err c = clash_understood _ _ _ c.read_actions-r.ensures _ _ _ _ _ c.in-Err.ensures c.line.ensures.0 c.line.ensures.1

pub returns-in-Ok : goal.returns-in-Ok
returns-in-Ok c = reader_understood _ _ _ c.read_actions-r.ensures _ _ _ c.in-Ok.ensures

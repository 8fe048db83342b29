-- The plan's fault, the first line that differs, too many lines, or what the job of the notes is answered.
use Prim.Native.Nat.{ℕ}
use mathlib.Core.Path.{refl, sym}
use mathlib.Core.List.{[]}
use native.Mathlib.Omega.{arith}
use lib.ListN.{length-replicate}
use Rattle.notes.specs.Notes.{notes_most}
use Rattle.token_reader.proofs.Steps.{clear, met}
use Rattle.from_pddl.proofs.Blank.{no_notes}
use Rattle.from_pddl.proofs.Planned.{lines_length, lines_readable, plan_outside, line_refused, too_many_lines, notes_walked, rest_answered}
use Rattle.from_pddl.proofs.plan.file_plan.Goals as goal

pub read_plan-r-requires : goal.read_plan-r-requires
read_plan-r-requires c = (length-replicate {A = ℕ} notes_most 0, no_notes)

pub returns-then-is_some : goal.returns-then-is_some
returns-then-is_some c = plan_outside _ _ _ c.read_plan-r.ensures _ _ _ (met _ c.is_some.ensures c.if-is_some.true) refl

pub slice_bounds-check_lines-end : goal.slice_bounds-check_lines-end
slice_bounds-check_lines-end c = sym (lines_length _ _ _ c.read_plan-r.ensures)

pub check_lines-requires : goal.check_lines-requires
check_lines-requires c =
    let p = c.requires in
    let h = c.read_plan-r.ensures in
    (p.0, p.1.indexed, lines_readable _ _ _ h, length-replicate {A = ℕ} 64 0)

pub returns-in-Some : goal.returns-in-Some
returns-in-Some c = line_refused _ _ _ c.read_plan-r.ensures _ _ _ (clear _ c.is_some.ensures c.if-is_some.false) _ _ c.in-Some.ensures c.line.ensures.0

pub returns-then-n : goal.returns-then-n
returns-then-n c = too_many_lines _ _ _ c.read_plan-r.ensures _ _ _ (clear _ c.is_some.ensures c.if-is_some.false) _ c.in_default.ensures (omega arith)

pub slice_bounds-file_notes-end : goal.slice_bounds-file_notes-end
slice_bounds-file_notes-end c =
    let h = c.read_plan-r.ensures in
    sym (lines_length _ _ _ h)

pub file_notes-requires : goal.file_notes-requires
file_notes-requires c =
    let p = c.requires in
    let h = c.read_plan-r.ensures in
    let size = p.1.numbered.size in
    (notes_walked _ _ _ h _ _ [] (clear _ c.is_some.ensures c.if-is_some.false) _ c.in_default.ensures p.0 (omega arith), omega (arith, size, p.0.few))

pub returns : goal.returns
returns c =
    let p = c.requires in
    let h = c.read_plan-r.ensures in
    rest_answered _ _ _ h _ _ _ (clear _ c.is_some.ensures c.if-is_some.false) _ c.in_default.ensures _ _ _ _ _ p.0 p.1 (omega arith) c.file_notes.ensures

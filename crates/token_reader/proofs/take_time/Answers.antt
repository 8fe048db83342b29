use mathlib.Core.Path.{refl}
use mathlib.Core.Logic.{inl, inr}
use Rattle.token_reader.specs.declared.Fault.TheVariants.{OutsideGrammar}
use Rattle.token_reader.proofs.Steps.{stand, passes, fault, clear, met}
use Rattle.token_reader.proofs.Numbering.{lines_fit, numbered_sound, time_inside, time_no, time_reads}
use borrow.Author.Rules.{rules}
use Rattle.token_reader.proofs.take_time.Goals as goal

pub returns-then-is_some : goal.returns-then-is_some
returns-then-is_some c =
    let start = c in
    passes _ _ _ _ _ start.requires (met _ c.is_some.ensures c.if-is_some.true)

pub time_at-requires : goal.time_at-requires
time_at-requires c =
    let start = c in
    stand _ _ _ c.cursor.ensures start.requires.stands

pub returns-in_default : goal.returns-in_default
returns-in_default c =
    let at-enum-told = c in
    let at-time-at = at-enum-told in
    let at-cursor = at-time-at in
    let at-if1 = at-cursor in
    let start = at-if1 in
    fault _ _ _ _ _ _ OutsideGrammar (inr (inl refl)) start.requires (clear _ at-if1.is_some.ensures at-if1.if-is_some.false)
    (time_no _ _ start.requires.stands at-cursor.cursor.ensures at-time-at.time_at.ensures at-enum-told.in_default.is)
    c.refuse.ensures

pub note_number-w-requires : goal.note_number-w-requires
note_number-w-requires c =
    let start = c in
    lines_fit start.requires.stands

pub note-requires : goal.note-requires
note-requires c =
    let at-note-number = c in
    let at_n = at-note-number in
    let at-time-at = at_n in
    let at-cursor = at-time-at in
    let at-if1 = at-cursor in
    let start = at-if1 in
    let p = start.requires.stands in (
      start.requires,
      time_inside _ _ p at-cursor.cursor.ensures at-time-at.time_at.ensures
          at_n.in-Some.is,
      (clear _ at-if1.is_some.ensures at-if1.if-is_some.false),
      numbered_sound p (search rules) at-note-number.note_number-w.ensures,
    )

pub returns : goal.returns
returns c =
    let at-note = c in
    let at-note-number = at-note in
    let at_n = at-note-number in
    let at-time-at = at_n in
    let at-cursor = at-time-at in
    let start = at-cursor in
    time_reads _ _ start.requires.stands at-cursor.cursor.ensures at-time-at.time_at.ensures at_n.in-Some.is (search rules)
    at-note-number.note_number-w.ensures at-note.note.ensures

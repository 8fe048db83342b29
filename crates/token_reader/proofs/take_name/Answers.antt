use mathlib.Core.Path.{refl, ap}
use mathlib.Core.Logic.{inl, inr}
use Rattle.token_reader.specs.declared.Fault.TheVariants.{OutsideGrammar}
use Rattle.token_reader.proofs.Steps.{stand, passes, fault, clear, met}
use Rattle.token_reader.proofs.Naming.{bounds, name_no, named_sound, name_reads}
use mathlib.Core.Bool.{not}
use Rattle.token_reader.proofs.take_name.Goals as goal

pub returns-then-is_some : goal.returns-then-is_some
returns-then-is_some c =
    let start = c in
    passes _ _ _ _ _ start.requires.0 (met _ c.is_some.ensures c.if-is_some.true)

pub at_name-requires : goal.at_name-requires
at_name-requires c =
    let start = c in
    stand _ _ _ c.cursor.ensures start.requires.0.stands

pub returns-then-not-at_name : goal.returns-then-not-at_name
returns-then-not-at_name c =
    let at-if2 = c in
    let at_name = at-if2 in
    let at-cursor = at_name in
    let at-if1 = at-cursor in
    let start = at-if1 in
    fault _ _ _ _ _ _ OutsideGrammar (inr (inl refl)) start.requires.0 (clear _ at-if1.is_some.ensures at-if1.if-is_some.false)
    (name_no _ _ start.requires.0.stands at-cursor.cursor.ensures at_name.at_name.ensures _ (ap not at-if2.if-not-at_name.true)) c.refuse.ensures

pub note_name-w-requires : goal.note_name-w-requires
note_name-w-requires c =
    let at_name = c in
    let at-cursor = at_name in
    let start = at-cursor in
    let b = bounds _ _ start.requires.0.stands at-cursor.cursor.ensures at_name.at_name.ensures (ap not c.if-not-at_name.false) in
    (b.within, start.requires.0.stands.standing.onward, b.short, b.lined, start.requires.2)

pub note-requires : goal.note-requires
note-requires c =
    let at-note-name = c in
    let at-if2 = at-note-name in
    let at_name = at-if2 in
    let at-cursor = at_name in
    let at-if1 = at-cursor in
    let start = at-if1 in
    let p = start.requires.0.stands in
    let b = bounds _ _ p at-cursor.cursor.ensures at_name.at_name.ensures (ap not at-if2.if-not-at_name.false) in (
      start.requires.0,
      b.inside,
      (clear _ at-if1.is_some.ensures at-if1.if-is_some.false),
      named_sound _ _ p at-cursor.cursor.ensures at_name.at_name.ensures _
          (ap not at-if2.if-not-at_name.false) start.requires.2 at-note-name.note_name-w.ensures,
    )

pub returns : goal.returns
returns c =
    let at-note = c in
    let at-note-name = at-note in
    let at-if2 = at-note-name in
    let at_name = at-if2 in
    let at-cursor = at_name in
    let start = at-cursor in
    name_reads _ _ start.requires.0.stands at-cursor.cursor.ensures at_name.at_name.ensures _ (ap not at-if2.if-not-at_name.false) start.requires.1
    at-note-name.note_name-w.ensures at-note.note.ensures

-- What a note brings is put behind the others; what the notes from here on bring is left.
use mathlib.Core.Path.{sym, ◌∙◌}
use native.Mathlib.Omega.{arith}
use Rattle.job_from_notes.proofs.Rows.{notes_room, notes_more, notes_over, notes_end}
use Rattle.job_from_notes.proofs.entries.write_notes.Goals as goal

pub returns-then-not-within : goal.returns-then-not-within
returns-then-not-within c =
    notes_over _ _ _ _ _ _ c.loop-k.invariant c.loop-k-test.true c.args.noted.enough (sym c.within.ensures ∙ c.if-not-within.true)

pub write_note-next-requires : goal.write_note-next-requires
write_note-next-requires c =
    let on = sym c.within.ensures ∙ c.if-not-within.false in
    let behind = c.leading-amount.ensures in
    (notes_room _ _ _ _ _ _ c.loop-k.invariant c.loop-k-test.true c.args.noted.enough on behind.0 c.requires.1, behind.1)

pub loop-k-preserved : goal.loop-k-preserved
loop-k-preserved c =
    let on = sym c.within.ensures ∙ c.if-not-within.false in
    notes_more _ _ _ _ _ _ c.loop-k.invariant c.loop-k-test.true c.args.noted.enough on c.leading-amount.ensures.0 c.write_note-next.ensures

pub returns : goal.returns
returns c = notes_end _ _ _ _ _ _ c.loop-k.invariant c.loop-k-test.false (omega arith)

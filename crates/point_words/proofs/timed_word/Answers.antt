-- The parts of a timed fact's word are within their spans.
use mathlib.Core.Path.{◌∙◌}
use native.Mathlib.Omega.{arith}
use Rattle.job.specs.Model.{view}
use Rattle.validity.specs.Ticks.{schedule_of}
use Rattle.point_words.proofs.Parts.{timed_parts, clock_word}
use Rattle.point_words.proofs.timed_word.Goals as goal

pub timed-p-requires : goal.timed-p-requires
timed-p-requires c = let p = c.requires in (p.2, p.1)

pub overflow_add-tick : goal.overflow_add-tick
overflow_add-tick c =
    let parts = timed_parts c.requires.0 c.args.j c.requires.1 in
    rw c.timed-p.ensures (omega arith)

pub overflow_add-number : goal.overflow_add-number
overflow_add-number c = omega (arith, (timed_parts c.requires.0 c.args.j c.requires.1).number)

pub word_of-requires : goal.word_of-requires
word_of-requires c =
    let parts = timed_parts c.requires.0 c.args.j c.requires.1 in
    rw c.timed-p.ensures (omega arith, omega arith, parts.number, omega arith, omega arith)

pub returns : goal.returns
returns c =
    let m = view c.args.job.head c.args.job.bytes.now in
    let parts = timed_parts c.requires.0 c.args.j c.requires.1 in
    let read = c.timed-p.ensures in
    let start = c.start_of.ensures in
    let clock = clock_word m (schedule_of c.args.starts.now) c.args.j in
    (c.word_of.ensures ∙ rw (start.0, read) clock.0, omega (arith, clock.1, start.0, start.1, parts.within))

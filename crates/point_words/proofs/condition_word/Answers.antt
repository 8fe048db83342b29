-- The parts of a condition's word are within their spans.
use mathlib.Core.Path.{◌∙◌}
use native.Mathlib.Omega.{arith}
use Rattle.point_words.proofs.Parts.{condition_parts}
use Rattle.point_words.proofs.condition_word.Goals as goal

pub condition-p-requires : goal.condition-p-requires
condition-p-requires c = let p = c.requires in (p.2, p.1)

pub overflow_add-start_of : goal.overflow_add-start_of
overflow_add-start_of c =
    let parts = condition_parts c.requires.0 c.args.c c.requires.1 in
    rw c.condition-p.ensures (omega arith)

pub word_of-requires : goal.word_of-requires
word_of-requires c =
    let parts = condition_parts c.requires.0 c.args.c c.requires.1 in
    rw c.condition-p.ensures (omega arith, omega arith, omega arith, omega arith, omega arith)

pub returns : goal.returns
returns c =
    let parts = condition_parts c.requires.0 c.args.c c.requires.1 in
    let read = c.condition-p.ensures in
    let start = c.start_of.ensures in
    (c.word_of.ensures ∙ rw (start.0, read), omega (arith, rw read at start.0))

-- The parts of a use's word are within their spans.
use mathlib.Core.Path.{◌∙◌}
use native.Mathlib.Omega.{arith}
use Rattle.point_words.proofs.Parts.{use_parts}
use Rattle.point_words.proofs.use_word.Goals as goal

pub usage-p-requires : goal.usage-p-requires
usage-p-requires c = let p = c.requires in (p.2, p.1)

pub overflow_add-start_of : goal.overflow_add-start_of
overflow_add-start_of c =
    let parts = use_parts c.requires.0 c.args.u c.requires.1 in
    rw c.usage-p.ensures (omega arith)

pub word_of-requires : goal.word_of-requires
word_of-requires c =
    let parts = use_parts c.requires.0 c.args.u c.requires.1 in
    rw c.usage-p.ensures (omega arith, omega arith, omega arith, omega arith, omega arith)

pub returns : goal.returns
returns c =
    let parts = use_parts c.requires.0 c.args.u c.requires.1 in
    let read = c.usage-p.ensures in
    let start = c.start_of.ensures in
    (c.word_of.ensures ∙ rw (start.0, read), omega (arith, rw read at start.0))

-- What is counted and what the notes from here on bring make up the whole.
use Prim.Native.Nat.{◌≤◌}
use mathlib.Core.Bool.{Bool, true, false, cond}
use mathlib.Core.Path.{◌≡◌, refl, sym, ap, ◌∙◌}
use mir.Val.{bool_byte}
use native.Mathlib.Omega.{arith}
use Rattle.job_from_notes.specs.Brought.{brings}
use Rattle.job_from_notes.proofs.Walk.{count_more, count_over, count_end}
use Rattle.job_from_notes.proofs.tally.count_notes.Goals as goal

as_number : (t : Bool) → bool_byte t ≡ cond t 1 0
as_number true = refl
as_number false = refl

one_at_most : (t : Bool) → bool_byte t ≤ 1
one_at_most true = omega arith
one_at_most false = omega arith

pub returns-then-not-within : goal.returns-then-not-within
returns-then-not-within c =
    let start = c.args in
    let over = count_over start.kind start.duration start.said.now _ c.loop-k-test.true (sym c.within.ensures ∙ c.if-not-within.true) in
    (omega (arith, c.loop-k.invariant.1, over), omega arith)

pub loop-k-preserved : goal.loop-k-preserved
loop-k-preserved c =
    let start = c.args in
    let more = count_more start.kind start.duration start.said.now _ c.loop-k-test.true (sym c.within.ensures ∙ c.if-not-within.false) in
    let one = c.from-count.ensures ∙ as_number _ ∙ ap (λ b. cond b 1 0) (c.brings.ensures ∙ ap (λ r. brings start.kind start.duration r) c.role.ensures) in
    (omega (arith, c.from-count.ensures, one_at_most c.brings.result), omega (arith, more, one, c.loop-k.invariant.1))

pub returns : goal.returns
returns c =
    let start = c.args in
    let end = count_end start.kind start.duration start.said.now _ c.loop-k-test.false (omega arith) in
    (omega (arith, c.loop-k.invariant.1, end), omega arith)

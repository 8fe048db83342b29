-- The bytes passed agree.
use Prim.Native.Nat.{◌+◌, ◌-◌, ◌<◌}
use mathlib.Core.Path.{◌≡◌}
use lib.ListN.{length}
use native.Mathlib.Omega.{arith}
use Rattle.spelled_names.proofs.Words.{same_longer, same_apart, same_all}
use Rattle.spelled_names.proofs.word_is.Goals as goal

pub returns-then-end-at : goal.returns-then-end-at
returns-then-end-at c =
    let other : c.args.end - c.args.at ≡ length c.args.word.now → ⊥ = λ e. omega (arith, c.if-end-at.true) in
    same_longer _ _ _ _ c.requires.1 other

pub returns-then-text-at : goal.returns-then-text-at
returns-then-text-at c =
    let i : c.args.at + c.loop-k.k < c.args.end = omega (arith, c.loop-k-test.true, c.if-end-at.false) in
    same_apart _ _ _ _ c.requires.1 c.loop-k.k i c.if-text-at.true

pub returns : goal.returns
returns c =
    same_all _ _ _ _ c.requires.1 c.requires.0 (omega (arith, c.if-end-at.false))
    (λ j l. c.loop-k.invariant j (omega (arith, l, c.loop-k-test.false)))

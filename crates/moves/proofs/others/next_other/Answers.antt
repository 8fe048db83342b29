-- Place after place.
use mathlib.Core.Path.{refl, sym}
use native.Mathlib.Omega.{arith}
use Rattle.moves.proofs.Tested.{both_pass, one_fails}
use Rattle.moves.proofs.NextOthers.{no_more, no_other}
use Rattle.moves.proofs.others.next_other.Goals as goal

pub loop-place-init : goal.loop-place-init
loop-place-init c = λ p a b e g. absurd (omega arith)

pub returns-then-value_of-value : goal.returns-then-value_of-value
returns-then-value_of-value c =
    let t = both_pass c.value_of.ensures.0 refl c.tick_of.ensures.0 c.if-value_of-value.true in
    record {
      begins = c.loop-place.auto.place;
      ends = omega arith;
      before = c.loop-place.invariant;
      here = λ _. (λ e. t.0 (sym e), t.1);
    }

pub loop-place-preserved : goal.loop-place-preserved
loop-place-preserved c =
    let a = c.args in
    no_more a.order.now a.from c.loop-place.place a.value a.t c.loop-place.invariant
    (one_fails c.value_of.ensures.0 refl c.tick_of.ensures.0 c.if-value_of-value.false)

pub returns : goal.returns
returns c = no_other _ _ _ _ _ _ c.requires.0 c.loop-place.invariant c.loop-place-test.false

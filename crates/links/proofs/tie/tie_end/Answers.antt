-- Point by point, as long as the tick stays.
use mathlib.Core.Path.{◌≡◌, sym, ◌∙◌}
use native.Mathlib.Omega.{arith}
use Rattle.links.proofs.Tied.{tick_more}
use Rattle.links.proofs.tie.tie_end.Goals as goal

pub returns-then-tick_of-tick : goal.returns-then-tick_of-tick
returns-then-tick_of-tick c =
    let first = c.tick_of-tick.ensures.0 in
    record {
      some = omega (arith, c.loop-end.auto.end);
      to = omega (arith, c.loop-end-test.true);
      alike = c.loop-end.invariant;
      other = λ _ e. c.if-tick_of-tick.true (c.tick_of.ensures.0 ∙ e ∙ sym first);
    }

pub loop-end-preserved : goal.loop-end-preserved
loop-end-preserved c =
    let first = c.tick_of-tick.ensures.0 in
    tick_more c.loop-end.invariant (sym c.tick_of.ensures.0 ∙ c.if-tick_of-tick.false ∙ first)

pub returns : goal.returns
returns c =
    let all : c.loop-end.end ≡ c.args.high = omega (arith, c.loop-end.auto.end-end, c.requires.0, c.loop-end-test.false) in
    record { some = c.requires.0; to = omega arith; alike = rw all at c.loop-end.invariant; other = λ l _. omega arith }

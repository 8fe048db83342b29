-- A setter is as far into its step as it lies after the step's start.
use Prim.Native.Nat.{◌-◌}
use borrow.Author.Rules.{rules}
use Rattle.timeline.specs.Words.{word_step, word_tick}
use Rattle.validity.specs.Ticks.{schedule_of}
use Rattle.limits.proofs.latest.lower_setters.Goals as goal

pub lower_points-requires : goal.lower_points-requires
lower_points-requires c = (c.requires.0.spanned, c.requires.1, λ p a b. let begun = c.requires.0.begun p a b in search rules)

pub returns : goal.returns
returns c =
    c.lower_points.ensures (λ word. word_tick word - schedule_of c.args.starts.now (word_step word))
    (λ p r a b e. search rules)

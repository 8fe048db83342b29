-- The only point, the first of the own step, or the first of all.
use mathlib.Core.Path.{refl, sym, ◌∙◌}
use Rattle.links.proofs.Tied.{within, own_first}
use Rattle.links.proofs.tie.own_place.Goals as goal

pub returns-then-step_of-step : goal.returns-then-step_of-step
returns-then-step_of-step c =
    let l = within _ _ _ c.if-first-tie.false in
    own_first (c.requires.0.several c.if-tie.false) refl l.0 l.1 (sym c.step_of.ensures.0 ∙ c.if-step_of-step.true)

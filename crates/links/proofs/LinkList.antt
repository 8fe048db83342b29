-- What a list of all links holds: the link of each condition and goal, and in a valid schedule only effects and the initial state.
use Prim.Native.Nat.{ℕ, ◌+◌, ◌<◌}
use mathlib.Core.Path.{◌≡◌, ◌∙◌}
use mathlib.Core.List.{List}
use native.Mathlib.Omega.{arith}
use lib.ListN.{get_or}
use Rattle.job.specs.Model.{Model}
use Rattle.job.specs.Clocked.{ClockedForm}
use Rattle.validity.specs.Valid.{Valid}
use Rattle.orders.specs.Links.{condition_link, goal_link}
use Rattle.links.specs.LinkList.{LinksOf, Named}
use Rattle.orders.specs.Supporter.{by_initial_state, by_effect, ConditionLinkedTo}
use Rattle.orders.proofs.Supporter.{condition_nth, goal_nth, condition_supported}

module _ (m : Model) (x : ℕ → ℕ) (links : List ℕ) (w : LinksOf m x links) where
  pub condition_link_lem : (c : ℕ) → c < m.conditions → get_or links c 0 ≡ condition_link m x c
  condition_link_lem c h = w.each c (omega arith) ∙ condition_nth m x c h

  pub goal_link_lem : (g : ℕ) → g < m.goals → get_or links (m.conditions + g) 0 ≡ goal_link m x g
  goal_link_lem g h = w.each (m.conditions + g) (omega arith) ∙ goal_nth m x g

  pub valid_named : ClockedForm m → Valid m x → Named m links
  valid_named f v c h d = named (condition_supported m x f v c h)
    where
      named : ConditionLinkedTo m x c (condition_link m x c) → get_or links c 0 < m.effects
      named (by_initial_state e _) = absurd (d (condition_link_lem c h ∙ e))
      named (by_effect _ p) = rw (condition_link_lem c h) p.candidate.known

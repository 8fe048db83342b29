-- The roles of an action's notes.
use mathlib.Core.Bool.{◌||◌, ◌&&◌}
use mathlib.Core.Path.{ap}
use lib.Dec.{eqb, leb, ltb}
use Rattle.notes.specs.Notes.{rise_role, reached_role}
use Rattle.job_notes.specs.Tables.{in_action_noted}
use Rattle.job_from_notes.proofs.brought.in_action.Goals as goal

pub returns : goal.returns
unfolding in_action_noted
returns c = ap (λ r. eqb r 0 || (leb rise_role r && ltb r reached_role)) c.role-role.ensures

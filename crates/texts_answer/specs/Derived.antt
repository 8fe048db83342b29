-- The job that a derivation describes: what the trees of the two texts say, on whatever lines.

use Rattle.grammar.specs.Said.{on_line}
use Rattle.grammar.specs.Tree.{Text, Plan}
use Rattle.grammar.specs.Saying.{text_says, plan_says}
use Rattle.job.specs.Model.{Model}
use Rattle.supplied.specs.Job.{supplied_job}

unfoldable pub derived_job : Text → Plan → Model
derived_job t p = supplied_job (on_line 0 (text_says t)) (on_line 0 (plan_says p))

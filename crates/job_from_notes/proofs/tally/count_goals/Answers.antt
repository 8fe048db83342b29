-- The walk over all notes.
use mathlib.Core.Path.{◌∙◌}
use Rattle.job_from_notes.proofs.Lengths.{goals_counted}
use Rattle.job_from_notes.proofs.tally.count_goals.Goals as goal

pub returns : goal.returns
returns c facts levels numbers plan acts h = c.count_notes.ensures.0 ∙ goals_counted facts levels c.args.said.now numbers plan acts h

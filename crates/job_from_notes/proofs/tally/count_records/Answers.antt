-- Kind by kind.
use mathlib.Core.Path.{◌∙◌}
use Rattle.job_from_notes.proofs.Lengths.{conditions_planned, effects_planned, uses_planned}
use Rattle.job_from_notes.proofs.tally.count_records.Goals as goal

pub returns : goal.returns
returns c =
    let start = c.args in
    let said = start.said.now in
    let plan = start.plan.now in
    let acts = start.acts.now in
    record {
      conditions = λ f l ns h. c.count_planned.ensures ∙ conditions_planned f l said ns plan acts h;
      effects = λ f l ns h. c.count_planned-2.ensures ∙ effects_planned f l said ns plan acts h;
      uses = λ f l ns h. c.count_planned-3.ensures ∙ uses_planned f l said ns plan acts h;
    }

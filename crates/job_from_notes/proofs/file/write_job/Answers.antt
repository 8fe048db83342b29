-- The tables are put one behind the other.
use Rattle.job_from_notes.proofs.Chain.{few_facts, few_levels, after_header, after_facts, after_levels, after_steps, after_conditions}
use Rattle.job_from_notes.proofs.Chain.{after_effects, after_uses_lem, after_goals, facts_fit, levels_fit, steps_fit, conditions_fit, effects_fit}
use Rattle.job_from_notes.proofs.Chain.{uses_fit, goals_fit, whole, whole_end, whole_size}
use Rattle.job_from_notes.proofs.file.write_job.Goals as goal

pub write_given-levels-requires : goal.write_given-levels-requires
write_given-levels-requires c =
    let w = c.requires in
    let p0 = after_header w c.write_header.ensures in
    (few_facts w, facts_fit w p0)

pub write_stocks-steps-requires : goal.write_stocks-steps-requires
write_stocks-steps-requires c =
    let w = c.requires in
    let p0 = after_header w c.write_header.ensures in
    let p1 = after_facts w p0 c.write_given-levels.ensures in
    (few_levels w, levels_fit w p1)

pub write_steps-conditions-requires : goal.write_steps-conditions-requires
write_steps-conditions-requires c =
    let w = c.requires in
    let p0 = after_header w c.write_header.ensures in
    let p1 = after_facts w p0 c.write_given-levels.ensures in
    let p2 = after_levels w p1 c.write_stocks-steps.ensures in
    steps_fit w p2

pub write_planned-effects-requires : goal.write_planned-effects-requires
write_planned-effects-requires c =
    let w = c.requires in
    let p0 = after_header w c.write_header.ensures in
    let p1 = after_facts w p0 c.write_given-levels.ensures in
    let p2 = after_levels w p1 c.write_stocks-steps.ensures in
    let p3 = after_steps w p2 c.write_steps-conditions.ensures in
    (w.walked, conditions_fit w p3)

pub write_planned-uses-requires : goal.write_planned-uses-requires
write_planned-uses-requires c =
    let w = c.requires in
    let p0 = after_header w c.write_header.ensures in
    let p1 = after_facts w p0 c.write_given-levels.ensures in
    let p2 = after_levels w p1 c.write_stocks-steps.ensures in
    let p3 = after_steps w p2 c.write_steps-conditions.ensures in
    let p4 = after_conditions w p3 c.write_planned-effects.ensures in
    (w.walked, effects_fit w p4)

pub write_planned-goals-requires : goal.write_planned-goals-requires
write_planned-goals-requires c =
    let w = c.requires in
    let p0 = after_header w c.write_header.ensures in
    let p1 = after_facts w p0 c.write_given-levels.ensures in
    let p2 = after_levels w p1 c.write_stocks-steps.ensures in
    let p3 = after_steps w p2 c.write_steps-conditions.ensures in
    let p4 = after_conditions w p3 c.write_planned-effects.ensures in
    let p5 = after_effects w p4 c.write_planned-uses.ensures in
    (w.walked, uses_fit w p5)

pub write_goals-requires : goal.write_goals-requires
write_goals-requires c =
    let w = c.requires in
    let p0 = after_header w c.write_header.ensures in
    let p1 = after_facts w p0 c.write_given-levels.ensures in
    let p2 = after_levels w p1 c.write_stocks-steps.ensures in
    let p3 = after_steps w p2 c.write_steps-conditions.ensures in
    let p4 = after_conditions w p3 c.write_planned-effects.ensures in
    let p5 = after_effects w p4 c.write_planned-uses.ensures in
    let p6 = after_uses_lem w p5 c.write_planned-goals.ensures in
    goals_fit w p6

pub shape_of-out : goal.shape_of-out
shape_of-out c =
    let w = c.requires in
    let p0 = after_header w c.write_header.ensures in
    let p1 = after_facts w p0 c.write_given-levels.ensures in
    let p2 = after_levels w p1 c.write_stocks-steps.ensures in
    let p3 = after_steps w p2 c.write_steps-conditions.ensures in
    let p4 = after_conditions w p3 c.write_planned-effects.ensures in
    let p5 = after_effects w p4 c.write_planned-uses.ensures in
    let p6 = after_uses_lem w p5 c.write_planned-goals.ensures in
    let p7 = after_goals w p6 c.write_goals.ensures in
    whole_size w p7

pub returns : goal.returns
returns c =
    let w = c.requires in
    let p0 = after_header w c.write_header.ensures in
    let p1 = after_facts w p0 c.write_given-levels.ensures in
    let p2 = after_levels w p1 c.write_stocks-steps.ensures in
    let p3 = after_steps w p2 c.write_steps-conditions.ensures in
    let p4 = after_conditions w p3 c.write_planned-effects.ensures in
    let p5 = after_effects w p4 c.write_planned-uses.ensures in
    let p6 = after_uses_lem w p5 c.write_planned-goals.ensures in
    let p7 = after_goals w p6 c.write_goals.ensures in
    record { value = whole_end w p7; out_after = whole w p7 }

-- The actions' fault, or what the plan is answered.
use Prim.Native.Nat.{ℕ}
use mathlib.Core.Path.{◌≡◌, refl, sym, ap, ◌∙◌}
use mathlib.Core.List.{[]}
use native.Mathlib.Omega.{arith}
use lib.ListN.{length-replicate, get_or-replicate}
use Rattle.notes.specs.Notes.{notes_most}
use Rattle.naming.specs.Index.{index_size, unlinked}
use Rattle.token_reader.specs.Reading.{fault_number, number_of}
use Rattle.from_pddl.specs.Understood.{met_by}
use Rattle.from_pddl.proofs.Blank.{no_notes}
use Rattle.from_pddl.proofs.Whole.{actions_length, too_deep, outside, answered}
use Rattle.from_pddl.proofs.job_from_texts.Goals as goal

pub read_named-read-requires : goal.read_named-read-requires
read_named-read-requires c =
    let blank = length-replicate {A = ℕ} notes_most 0 in
    (blank, no_notes, blank, length-replicate {A = ℕ} index_size unlinked, λ k h. get_or-replicate {A = ℕ} index_size k unlinked 0 h)

pub returns-in-TooDeep : goal.returns-in-TooDeep
returns-in-TooDeep c =
    too_deep _ _ _ _ _ _ _ c.read_named-read.ensures _ (ap number_of c.in-Some.is ∙ ap fault_number c.in-TooDeep.is) refl

pub returns-in-OutsideGrammar : goal.returns-in-OutsideGrammar
returns-in-OutsideGrammar c =
    let u = c.read_named-read.ensures in
    let m : met_by c.read_named-read.result ≡ 18 = ap number_of c.in-Some.is ∙ ap fault_number c.in-OutsideGrammar.is in
    outside _ _ _ _ _ _ _ u _ (λ z. omega (arith, z, m)) (λ z. omega (arith, z, m)) refl

pub slice_bounds-file_plan-end : goal.slice_bounds-file_plan-end
slice_bounds-file_plan-end c =
    let u = c.read_named-read.ensures in
    sym (actions_length _ [] [] _ _ _ _ u)

pub file_plan-requires : goal.file_plan-requires
file_plan-requires c =
    let u = c.read_named-read.ensures in
    (u.readable, u.named (ap number_of c.in_default.is))

pub returns : goal.returns
returns c =
    let u = c.read_named-read.ensures in
    answered _ _ _ _ _ _ _ u (ap number_of c.in_default.is) c.file_plan.ensures

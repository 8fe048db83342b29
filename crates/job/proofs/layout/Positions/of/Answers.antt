-- Each table starts where the one before it ends, as `table_at` says.
use Prim.Native.Nat.{ℕ, suc, ◌+◌, ◌*◌}
use mathlib.Core.Path.{◌≡◌, refl, sym, ap, ◌∙◌}
use lib.ListN.{get_or}
use Rattle.job.specs.declared.layout.Counts.{Counts}
use Rattle.job.specs.Layout.{widths, count_list, positions_of, table_at}
use borrow.Author.Rules.{rules}
use Rattle.job.proofs.layout.Positions.of.Goals as goal

first : (header : ℕ) (c : Counts) → header ≡ table_at header c 0
unfolding table_at
first header c = refl

next :
    (header : ℕ) (c : Counts) (t : ℕ) {at end : ℕ} → at ≡ table_at header c t → end ≡ at + get_or widths t 0 * get_or (count_list c) t 0
    → end ≡ table_at header c (suc t)
unfolding table_at
next header c t p q = q ∙ ap (λ at. at + get_or widths t 0 * get_or (count_list c) t 0) p

pub overflow_cast-facts : goal.overflow_cast-facts
unfolding positions_of
overflow_cast-facts c = search rules

pub bounds-0 : goal.bounds-0
unfolding positions_of
bounds-0 c = search rules

pub table_end-levels-requires : goal.table_end-levels-requires
unfolding positions_of
table_end-levels-requires c = search rules

pub bounds-1 : goal.bounds-1
unfolding positions_of
bounds-1 c = search rules

pub table_end-steps-requires : goal.table_end-steps-requires
unfolding positions_of
table_end-steps-requires c = search rules

pub bounds-2 : goal.bounds-2
unfolding positions_of
bounds-2 c = search rules

pub table_end-conditions-requires : goal.table_end-conditions-requires
unfolding positions_of
table_end-conditions-requires c = search rules

pub bounds-3 : goal.bounds-3
unfolding positions_of
bounds-3 c = search rules

pub table_end-effects-requires : goal.table_end-effects-requires
unfolding positions_of
table_end-effects-requires c = search rules

pub bounds-4 : goal.bounds-4
unfolding positions_of
bounds-4 c = search rules

pub table_end-uses-requires : goal.table_end-uses-requires
unfolding positions_of
table_end-uses-requires c = search rules

pub bounds-5 : goal.bounds-5
unfolding positions_of
bounds-5 c = search rules

pub table_end-goals-requires : goal.table_end-goals-requires
unfolding positions_of
table_end-goals-requires c = search rules

pub bounds-6 : goal.bounds-6
unfolding positions_of
bounds-6 c = search rules

pub table_end-timed-requires : goal.table_end-timed-requires
unfolding positions_of
table_end-timed-requires c = search rules

pub bounds-7 : goal.bounds-7
unfolding positions_of
bounds-7 c = search rules

pub table_end-needs-requires : goal.table_end-needs-requires
unfolding positions_of
table_end-needs-requires c = search rules

pub bounds-8 : goal.bounds-8
unfolding positions_of
bounds-8 c = search rules

pub table_end-end-requires : goal.table_end-end-requires
unfolding positions_of
table_end-end-requires c = search rules

pub returns : goal.returns
unfolding positions_of
returns c =
    let passed = c.args in
    let h = passed.header in
    let n = passed.count in
    let facts = first h n in
    let levels = next h n 0 facts c.table_end-levels.ensures.value in
    let steps = next h n 1 levels c.table_end-steps.ensures.value in
    let conditions = next h n 2 steps c.table_end-conditions.ensures.value in
    let effects = next h n 3 conditions c.table_end-effects.ensures.value in
    let uses = next h n 4 effects c.table_end-uses.ensures.value in
    let goals = next h n 5 uses c.table_end-goals.ensures.value in
    let timed = next h n 6 goals c.table_end-timed.ensures.value in
    let needed = next h n 7 timed c.table_end-needs.ensures.value in
    let end = next h n 8 needed c.table_end-end.ensures.value in
    rw (levels, steps, conditions, effects, uses, goals, timed, needed, end, sym facts) refl

-- The rules one after the other.
use Rattle.job.specs.Model.{view}
use Rattle.orders.specs.Gaps.{gap_of}
use Rattle.origins.proofs.Raised.{raised_is}
use Rattle.gaps.proofs.Own.{own_points, own_gaps}
use Rattle.gaps.proofs.Filled.{raised_then, empty_gaps, table_of}
use Rattle.gaps.proofs.fill.fill_gaps.Goals as goal

pub fill_opposing-requires : goal.fill_opposing-requires
unfolding gap_of
fill_opposing-requires c =
    let w = c.requires.0 in
    let none = empty_gaps _ w.size w.empty in
    let whole1 = (c.fill_support.ensures _ w.linked).whole none in
    (c.args.timeline.job.bytes.now, own_points w, whole1, c.requires.2)

pub fill_conditions-requires : goal.fill_conditions-requires
unfolding gap_of
fill_conditions-requires c =
    let w = c.requires.0 in
    let known = own_points w in
    let none = empty_gaps _ w.size w.empty in
    let whole1 = (c.fill_support.ensures _ w.linked).whole none in
    let whole2 = (c.fill_opposing.ensures _ known).whole whole1 in
    (known, whole2, c.requires.2)

pub fill_levels-requires : goal.fill_levels-requires
unfolding gap_of
fill_levels-requires c =
    let w = c.requires.0 in
    let known = own_points w in
    let none = empty_gaps _ w.size w.empty in
    let whole1 = (c.fill_support.ensures _ w.linked).whole none in
    let whole2 = (c.fill_opposing.ensures _ known).whole whole1 in
    let whole3 = c.fill_conditions.ensures.whole whole2 in
    (c.args.timeline.job.bytes.now, known, whole3, c.requires.2)

pub fill_needs-requires : goal.fill_needs-requires
unfolding gap_of
fill_needs-requires c =
    let w = c.requires.0 in
    let known = own_points w in
    let none = empty_gaps _ w.size w.empty in
    let whole1 = (c.fill_support.ensures _ w.linked).whole none in
    let whole2 = (c.fill_opposing.ensures _ known).whole whole1 in
    let whole3 = c.fill_conditions.ensures.whole whole2 in
    let whole4 = (c.fill_levels.ensures _ known).whole whole3 in
    (c.args.timeline.job.bytes.now, known, whole4, c.requires.2)

pub returns : goal.returns
unfolding gap_of
returns c =
    let w = c.requires.0 in
    let known = own_points w in
    let m = view c.args.timeline.job.head c.args.timeline.job.bytes.now in
    table_of _ _ _ _ _ w.form.step_count
    (raised_is _ _ _ _ _
    (raised_then _ _ _ _ _ _
    (raised_then _ _ _ _ _ _
    (raised_then _ _ _ _ _ _
    (raised_then _ _ _ _ _ _ (c.fill_support.ensures _ w.linked) (c.fill_opposing.ensures _ known))
    c.fill_conditions.ensures) (c.fill_levels.ensures _ known)) (c.fill_needs.ensures _ known))
    (own_gaps m _)) c.clear_own.ensures
    w.size w.empty

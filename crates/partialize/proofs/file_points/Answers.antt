-- The gaps, the windows, the numbers of the links, then the file.
use Prim.Native.Nat.{ℕ, ◌+◌, ◌<◌}
use mathlib.Core.Path.{◌≡◌, refl, ap, ◌∙◌}
use mathlib.Core.List.{List, []}
use native.Mathlib.Decide.{dec_lt}
use native.Mathlib.Omega.{arith}
use lib.ListN.{get_or, replicate, length-replicate, get_or-replicate, get_or-eq_default}
use Rattle.job.specs.Model.{Model, view}
use Rattle.job.specs.Clocked.{clocked}
use Rattle.job.proofs.Clocked.{clocked_form}
use Rattle.validity.specs.Ticks.{schedule_of}
use Rattle.order_file.specs.Contents.{no_latest}
use Rattle.limits.proofs.AllAre.{all_are}
use Rattle.order_file.specs.Table.{table_size}
use Rattle.orders.specs.Links.{nth_link}
use Rattle.orders.specs.File.{link_number}
use Rattle.orders.proofs.Within.{nth_known}
use Rattle.links.specs.Numbered.{Numbered}
use Rattle.partialize.specs.Found.{Timed}
use Rattle.partialize.proofs.file_points.Goals as goal

-- an empty table reads as no order everywhere
zeros : (p : ℕ) → get_or {A = ℕ} (replicate table_size 0) p 0 ≡ 0
zeros p =
    elim (dec_lt p table_size) [
      | yes h ↦ get_or-replicate {A = ℕ} table_size p 0 0 h
      | no h ↦ get_or-eq_default {A = ℕ} (replicate table_size 0) 0 {n = p} (omega (arith, length-replicate {A = ℕ} table_size 0))
    ]

-- the links of a schedule, once they are numbered
file_numbers :
    (m : Model) (starts links after : List ℕ) (p : Timed m starts links) → Numbered m links after → (k : ℕ) → k < m.conditions + m.goals
    → get_or after k 0 ≡ link_number m (nth_link (clocked m) (schedule_of starts) k)
file_numbers m starts links after p n k h = n.each k h ∙ ap (link_number m) (p.linked.each k h)

pub fill_gaps-requires : goal.fill_gaps-requires
fill_gaps-requires c =
    let p = c.requires.0 in
    let v = p.timed.valid in
    let w = v.form in (
      record {
        form = w;
        known = p.known;
        valid = v.valid;
        linked = p.timed.linked;
        room = omega (arith, p.timed.size, w.condition_count, w.goal_count);
        size = refl;
        empty = zeros;
      },
      c.requires.1,
      v.written,
    )

pub find_limits-requires : goal.find_limits-requires
find_limits-requires c =
    let p = c.requires.0 in
    let v = p.timed.valid in
    let w = v.form in (
      record { form = w; known = p.known; valid = v.valid; clock = v.clock },
      record { linked = p.timed.linked; room = omega (arith, p.timed.size, w.condition_count, w.goal_count) },
      c.requires.1,
      all_are 0,
    )

pub find_latest-requires : goal.find_latest-requires
find_latest-requires c =
    let p = c.requires.0 in
    let v = p.timed.valid in
    let w = v.form in (
      record { form = w; known = p.known; valid = v.valid; clock = v.clock },
      record { linked = p.timed.linked; room = omega (arith, p.timed.size, w.condition_count, w.goal_count) },
      c.requires.1,
      all_are no_latest,
    )

pub number_links-requires : goal.number_links-requires
number_links-requires c =
    let p = c.requires.0.timed in
    let w = p.valid.form in
    record {
      few = (w.effect_count, w.timed_count);
      room = omega (arith, p.size, w.condition_count, w.goal_count);
      each = λ k h. rw (p.linked.each k h) (nth_known _ _ (clocked_form _ w) p.valid.valid k h);
    }

pub file_found-requires : goal.file_found-requires
file_found-requires c =
    let p = c.requires.0.timed in
    let w = p.valid.form in
    record {
      step_count = w.step_count;
      link_count = omega (arith, w.condition_count, w.goal_count);
      bounded = c.find_limits.ensures.bounded;
      late = c.find_latest.ensures.size;
      linked = (c.number_links.ensures []).size ∙ p.size;
      table = c.fill_gaps.ensures.whole;
      rows = c.fill_gaps.ensures.rest;
    }

pub returns : goal.returns
returns c =
    let s = c.args.timeline.job.bytes.now in
    c.file_found.ensures s _ c.find_limits.ensures c.find_latest.ensures
    (file_numbers (view c.args.timeline.job.head s) c.args.timeline.starts.now _ _ c.requires.0.timed (c.number_links.ensures s))
    c.fill_gaps.ensures

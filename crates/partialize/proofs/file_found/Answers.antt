-- What is found holds what is filed: the length is the file's, and where it fits the file is written.
use Prim.Native.Nat.{ℕ, ◌+◌, ◌<◌}
use mathlib.Core.Path.{◌≡◌, ap, ◌∙◌}
use mathlib.Core.List.{List}
use lib.ListN.{length, get_or}
use native.Mathlib.Omega.{arith}
use Rattle.job.specs.Model.{Model, view}
use Rattle.job.specs.Clocked.{clocked}
use Rattle.order_file.specs.Layout.{file_length}
use Rattle.order_file.specs.Encode.{encode}
use Rattle.orders.specs.Links.{nth_link}
use Rattle.orders.specs.Gaps.{gap_of}
use Rattle.orders.specs.File.{link_number, file_with, file_of}
use Rattle.gaps.specs.Table.{TableOf}
use Rattle.partialize.specs.Found.{LimitsFound, LatestFound}
use Rattle.partialize.specs.Holds.{Holds}
use Rattle.partialize.proofs.Found.{found_holds, found_length, written_short, written_file}
use Rattle.partialize.proofs.file_found.Goals as goal
use Rattle.partialize.proofs.file_found.Goals.{After-link_at-length}

module _ (c : After-link_at-length) where
  abbrev limits : List ℕ
  limits = c.args.limits.now

  abbrev latest : List ℕ
  latest = c.args.latest.now

  abbrev early : List ℕ
  early = c.earliest_starts-rounds.new.at

  abbrev gaps : List ℕ
  gaps = c.args.gaps.now

  abbrev links : List ℕ
  links = c.args.links.now

  -- whatever job and schedule they belong to
  module _ (s : List ℕ) (x : ℕ → ℕ) where
    abbrev number : ℕ → ℕ
    number = link_number (view c.args.job s)

    abbrev model : Model
    model = clocked (view c.args.job s)

    module _ (f : LimitsFound (view c.args.job s) x limits) (w : LatestFound (view c.args.job s) x latest)
        (l : (k : ℕ) → k < model.conditions + model.goals → get_or links k 0 ≡ number (nth_link model x k))
        (t : TableOf model.steps (gap_of model x) gaps) where
      held : Holds number model x c.earliest_starts-rounds.result limits latest early gaps links
      held =
          found_holds number model x _ limits latest early gaps links l t f.each w.each
          c.earliest_starts-rounds.ensures.value c.earliest_starts-rounds.ensures.filled

      fits : c.link_at-length.result ≡ length (encode (file_with number model x))
      fits =
          c.link_at-length.ensures.0
          ∙ ap (λ o. file_length model.steps o (model.conditions + model.goals)) c.count_orders-orders.ensures.0
          ∙ found_length number model x _ limits latest early gaps links held

pub earliest_starts-rounds-requires : goal.earliest_starts-rounds-requires
unfolding file_of
earliest_starts-rounds-requires c = let p = c.requires in (p.table, p.bounded, p.step_count)

pub count_orders-orders-requires : goal.count_orders-orders-requires
unfolding file_of
count_orders-orders-requires c = let p = c.requires in (p.table.size, p.step_count, p.rows)

pub link_at-length-requires : goal.link_at-length-requires
unfolding file_of
link_at-length-requires c =
    let p = c.requires in
    (omega (arith, p.step_count), omega (arith, c.count_orders-orders.ensures.1), omega (arith, p.link_count))

pub returns-then-out-length : goal.returns-then-out-length
unfolding file_of
returns-then-out-length c =
    let d = (goal.at.returns-then-out-length c).After-link_at-length in
    λ s x f w l t.
    written_short (number d s x) (model d s x) x _ (limits d) (latest d) (early d) (gaps d) (links d) (held d s x f w l t) _ _ (fits d s x f w l t)
    c.if-out-length.true

pub write_file-requires : goal.write_file-requires
unfolding file_of
write_file-requires c =
    let p = c.requires in
    let o = c.count_orders-orders.ensures in
    let e = c.earliest_starts-rounds.ensures.filled.size in
    record {
      step_count = p.step_count;
      link_count = p.link_count;
      order_count = o.0;
      limit_count = omega (arith, p.bounded.size, p.step_count);
      latest_count = omega (arith, p.late, p.step_count);
      earliest_count = omega (arith, e, p.bounded.size, p.step_count);
      gap_count = p.table.size;
      gap_rows = p.rows;
      linked_count = omega (arith, p.linked, p.link_count);
      file_fits = omega (arith, c.link_at-length.ensures.0, c.if-out-length.false);
    }

pub overflow_cast-result : goal.overflow_cast-result
unfolding file_of
overflow_cast-result c = omega (arith, c.link_at-length.ensures.1)

pub returns : goal.returns
unfolding file_of
returns c =
    let d = (goal.at.returns c).After-link_at-length in
    λ s x f w l t.
    written_file (number d s x) (model d s x) x _ (limits d) (latest d) (early d) (gaps d) (links d) (held d s x f w l t) _ _ _ (fits d s x f w l t)
    c.if-out-length.false c.write_file.ensures

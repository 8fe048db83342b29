-- The six tests, chained as in `header_check`.
use borrow.Author.Tests.{lt-ltb, le-ltb}
use Rattle.std.proofs.Common.{sym}
use Rattle.verdict.specs.Verdict.{◌then◌, refuse_if}
use Rattle.header_check.specs.Header.{header_check}
use Rattle.header_check.proofs.check_header.Goals as goal

pub returns-then-s-lt-SHORTEST_HEADER : goal.returns-then-s-lt-SHORTEST_HEADER
unfolding header_check ◌then◌ refuse_if
returns-then-s-lt-SHORTEST_HEADER c = rw (lt-ltb _ _ c.if-s-lt-SHORTEST_HEADER.true)

pub returns-then-not-edition_known : goal.returns-then-not-edition_known
unfolding header_check ◌then◌ refuse_if
returns-then-not-edition_known c =
    rw (
      sym c.requires,
      le-ltb _ _ c.if-s-lt-SHORTEST_HEADER.false,
      sym c.edition_known.ensures,
      c.if-not-edition_known.true,
    )

pub returns-then-s-width : goal.returns-then-s-width
unfolding header_check ◌then◌ refuse_if
returns-then-s-width c =
    rw (
      sym c.requires,
      le-ltb _ _ c.if-s-lt-SHORTEST_HEADER.false,
      sym c.edition_known.ensures,
      c.if-not-edition_known.false,
      sym c.header_width-width.ensures.0,
      lt-ltb _ _ c.if-s-width.true,
    )

pub returns-then-marks_wrong : goal.returns-then-marks_wrong
unfolding header_check ◌then◌ refuse_if
returns-then-marks_wrong c =
    rw (
      sym c.requires,
      le-ltb _ _ c.if-s-lt-SHORTEST_HEADER.false,
      sym c.edition_known.ensures,
      c.if-not-edition_known.false,
      sym c.header_width-width.ensures.0,
      le-ltb _ _ c.if-s-width.false,
      sym c.marks_wrong.ensures,
      c.if-marks_wrong.true,
    )

pub returns-then-high : goal.returns-then-high
unfolding header_check ◌then◌ refuse_if
returns-then-high c =
    rw (
      sym c.requires,
      le-ltb _ _ c.if-s-lt-SHORTEST_HEADER.false,
      sym c.edition_known.ensures,
      c.if-not-edition_known.false,
      sym c.header_width-width.ensures.0,
      le-ltb _ _ c.if-s-width.false,
      sym c.marks_wrong.ensures,
      c.if-marks_wrong.false,
      sym c.count_too_high-high.ensures,
      c.if-high.true,
    )

pub returns-then-not-agrees : goal.returns-then-not-agrees
unfolding header_check ◌then◌ refuse_if
returns-then-not-agrees c =
    rw (
      sym c.requires,
      le-ltb _ _ c.if-s-lt-SHORTEST_HEADER.false,
      sym c.edition_known.ensures,
      c.if-not-edition_known.false,
      sym c.header_width-width.ensures.0,
      le-ltb _ _ c.if-s-width.false,
      sym c.marks_wrong.ensures,
      c.if-marks_wrong.false,
      sym c.count_too_high-high.ensures,
      c.if-high.false,
      sym c.layout_agrees-agrees.ensures,
      c.if-not-agrees.true,
    )

pub returns : goal.returns
unfolding header_check ◌then◌ refuse_if
returns c =
    rw (
      sym c.requires,
      le-ltb _ _ c.if-s-lt-SHORTEST_HEADER.false,
      sym c.edition_known.ensures,
      c.if-not-edition_known.false,
      sym c.header_width-width.ensures.0,
      le-ltb _ _ c.if-s-width.false,
      sym c.marks_wrong.ensures,
      c.if-marks_wrong.false,
      sym c.count_too_high-high.ensures,
      c.if-high.false,
      sym c.layout_agrees-agrees.ensures,
      c.if-not-agrees.false,
    )

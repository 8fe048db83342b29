use mathlib.Core.Path.{sym, ◌∙◌}
use Rattle.order_answers.specs.Answers.{header_of, header_read}
use Rattle.order_answers.proofs.Answers.{header_promise}
use Rattle.order_reader.proofs.read_header.Goals as goal

pub returns-then-well_formed : goal.returns-then-well_formed
unfolding header_read header_of
returns-then-well_formed c =
    header_promise _ _
    (simp (
      sym c.well_formed-2.ensures ∙ c.if-well_formed.true,
      c.u16_at.ensures.0,
      c.u16_at-then-well_formed.ensures.0,
      c.u16_at-then-well_formed-2.ensures.0,
      c.u16_at-then-well_formed-3.ensures.0,
      c.u32_at.ensures.0,
      c.u32_at-then-well_formed.ensures.0,
      c.u32_at-then-well_formed-2.ensures.0,
      c.u32_at-then-well_formed-3.ensures.0,
    ))

pub returns-else-well_formed : goal.returns-else-well_formed
unfolding header_read header_of
returns-else-well_formed c = header_promise _ _ (simp (sym c.well_formed-2.ensures ∙ c.if-well_formed.false))

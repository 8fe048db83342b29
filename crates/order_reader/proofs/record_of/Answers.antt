use mathlib.Core.Path.{◌∙◌}
use mir.Syntax.{w32}
use mir.Facts.{to_z-of_z}
use Rattle.order_answers.specs.Answers.{record_of}
use Rattle.order_reader.proofs.record_of.Goals as goal

pub returns-in-Windows : goal.returns-in-Windows
unfolding record_of
returns-in-Windows c = simp (c.in-Windows.is, c.limit.ensures.0, c.latest.ensures.0, c.earliest.ensures.0)

pub returns-in-Orders : goal.returns-in-Orders
unfolding record_of
returns-in-Orders c =
    simp (
      c.in-Orders.is,
      c.first.ensures.0,
      c.second.ensures.0,
      to_z-of_z {w = w32} {z = c.signed_gap.result} (record { sfits = c.signed_gap.type_inv }) ∙ c.signed_gap.ensures,
      c.gap.ensures.0,
    )

pub returns-in-Links : goal.returns-in-Links
unfolding record_of
returns-in-Links c = simp (c.in-Links.is, c.link.ensures.0)

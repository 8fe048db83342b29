-- The text of an order file, or the line of the refusal.
use mathlib.Core.Path.{sym, ◌∙◌}
use Rattle.text.proofs.Writing.{put_written}
use Rattle.order_text.proofs.Forms.{text_accepted, text_refused}
use Rattle.order_text.proofs.Fits.{most_within}
use native.Mathlib.Omega.{arith}
use Rattle.order_text.proofs.write_text.Goals as goal

pub returns-then-well_formed : goal.returns-then-well_formed
returns-then-well_formed c =
    let e = sym c.well_formed-2.ensures ∙ c.if-well_formed.true in
    let p = c.put_file.ensures in
    record { written = rw (text_accepted _ e) (put_written p.put); upper_bound = omega (arith, p.upper_bound, most_within _ e) }

pub returns-else-well_formed : goal.returns-else-well_formed
returns-else-well_formed c =
    let e = sym c.well_formed-2.ensures ∙ c.if-well_formed.false in
    let w = rw (c.number.ensures, c.place.ensures) at c.write_refused.ensures.written in
    record { written = rw (text_refused _ e) w; upper_bound = omega arith }

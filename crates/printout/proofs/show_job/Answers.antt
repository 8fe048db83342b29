-- Loosening, then the text of its answer.
use mathlib.Core.Path.{sym, ◌∙◌}
use native.Mathlib.Omega.{arith}
use lib.Seq.{length-take-le}
use borrow.Author.Rules.{rules}
use Rattle.text.proofs.Writing.{put_then, put_written}
use Rattle.printout.proofs.Printed.{filed_length, sheet_shown, shown_short, refused_written}
use Rattle.printout.proofs.show_job.Goals as goal

pub returns-then-number-ne0 : goal.returns-then-number-ne0
returns-then-number-ne0 c =
    let w = c.write_refused.ensures in
    let p = c.partialize-a.ensures in record {
      written = refused_written _ _ _ _ p (search rules) (λ z. c.if-number-ne0.true (c.number-number.ensures ∙ z)) c.number-number.ensures
          c.place.ensures w.written;
      upper_bound = omega arith;
    }

pub slice_bounds-file-end : goal.slice_bounds-file-end
slice_bounds-file-end c =
    let p = c.partialize-a.ensures in
    let l = filed_length _ _ _ _ p (search rules) (sym c.number-number.ensures ∙ c.if-number-ne0.false) in
    omega (arith, l, c.length-length.ensures)

pub slice_bounds-put_sheet-end : goal.slice_bounds-put_sheet-end
slice_bounds-put_sheet-end c =
    let p = c.partialize-a.ensures in
    let l = filed_length _ _ _ _ p (search rules) (sym c.number-number.ensures ∙ c.if-number-ne0.false) in
    sym (length-take-le _ _ (omega (arith, l, c.length-length.ensures)))

pub returns : goal.returns
returns c =
    let p = c.partialize-a.ensures in
    let z = sym c.number-number.ensures ∙ c.if-number-ne0.false in
    let e = sheet_shown _ _ _ _ p (search rules) z in
    let short = shown_short _ _ _ _ p (search rules) z in
    let w = put_written (put_then c.put_mark-at.ensures.0 c.put_sheet.ensures.put) in
    let t = rw (c.length-length.ensures, e) at w in
    record { written = t; upper_bound = omega (arith, t.counted, short) }

-- Refusals 7 and 17, then the others.
use mathlib.Core.Path.{sym, ap, ◌∙◌}
use Rattle.verdict.specs.Verdict.{number}
use Rattle.verdict.proofs.Chain.{handed, err_then, ok_then}
use Rattle.schedule.proofs.Reading.{read_in_range, read_lies, read_formed}
use Rattle.schedule.proofs.check_named.Goals as goal

pub check_against-requires : goal.check_against-requires
check_against-requires c = let r = c.requires.read in (read_lies r, read_in_range r)

pub returns-in_err-check_against : goal.returns-in_err-check_against
returns-in_err-check_against c = handed _ c.from_residual.ensures.1 ∙ err_then _ c.in_err-check_against.ensures

pub check_formed-requires : goal.check_formed-requires
check_formed-requires c =
    let p = c.requires in
    (record { form = read_formed p.read (sym (ap number c.in_ok-check_against.ensures)); known = p.known }, read_lies p.read)

pub returns : goal.returns
returns c = ok_then c.in_ok-check_against.ensures c.check_formed.ensures

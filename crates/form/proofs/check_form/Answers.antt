-- The verdict of the form that was read, and what it says.
use Rattle.form.proofs.Refused.{form_refusal}
use Rattle.verdict.proofs.Chain.{handed}
use Rattle.form.proofs.check_form.Goals as goal

pub returns-in_err-read_form : goal.returns-in_err-read_form
returns-in_err-read_form c =
    let f = c.in_err-read_form.ensures in
    rw (handed _ c.from_residual.ensures.1) (record { value = f.verdict; well_formed = f.well_formed; form_refusal = form_refusal _ f.verdict })

pub returns : goal.returns
returns c =
    let f = c.in_ok-read_form.ensures in record { value = f.verdict; well_formed = f.well_formed; form_refusal = form_refusal _ f.verdict }

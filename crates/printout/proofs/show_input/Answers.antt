-- What was read decides.
use mathlib.Core.Path.{sym}
use lib.Seq.{length-take-le}
use Rattle.printout.proofs.Beginning.{input_shown}
use Rattle.printout.proofs.show_input.Goals as goal

pub slice_bounds-show_job-end : goal.slice_bounds-show_job-end
slice_bounds-show_job-end c = sym (length-take-le _ _ c.requires.1)

pub returns : goal.returns
returns c =
    let e = c.show_job.ensures in
    record { shows_input = input_shown c.args.buffer.now c.args.n c.requires.0 e.written; upper_bound = e.upper_bound }

-- What the notes from k on say is stored.
use native.Mathlib.Omega.{arith}
use Rattle.job_from_notes.proofs.Stated.{stated_start, stated_more}
use Rattle.job_from_notes.proofs.opening.find_stated.Goals as goal

pub loop-k-init : goal.loop-k-init
loop-k-init c = stated_start _ _ _ _ c.requires

pub loop-k-preserved : goal.loop-k-preserved
loop-k-preserved c =
    stated_more _ _ _ _ _ c.loop-k-test.true (omega arith) c.args.noted.enough c.loop-k.invariant c.store_stated.ensures

-- A store past the end changes nothing.
use mathlib.Core.Path.{sym}
use lib.Seq.{set_out}
use Rattle.plan_check.proofs.keep.Goals as goal

pub returns-else-s-acts : goal.returns-else-s-acts
returns-else-s-acts c = sym (set_out _ _ _ c.if-s-acts.false)

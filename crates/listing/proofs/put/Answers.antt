use mathlib.Core.Path.{sym}
use lib.Seq.{set_out}
use Rattle.listing.proofs.put.Goals as goal

pub returns-else-at-list : goal.returns-else-at-list
returns-else-at-list c = sym (set_out c.args.list.now c.args.at c.args.n c.if-at-list.false)

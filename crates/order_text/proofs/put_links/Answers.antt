-- The lines of the links, one behind the other.
use Rattle.sheet.proofs.LineByLine.{lines_start, lines_more, lines_length, lines_end}
use native.Mathlib.Omega.{arith}
use Rattle.order_text.proofs.put_links.Goals as goal

pub loop-k-init : goal.loop-k-init
loop-k-init c = lines_start _ _ _ _ _

pub loop-k-preserved : goal.loop-k-preserved
loop-k-preserved c = lines_more c.loop-k.invariant (omega arith) c.put_link-next.ensures.0 (omega arith)

pub shape_of-out : goal.shape_of-out
shape_of-out c = lines_length c.loop-k.invariant

pub returns : goal.returns
returns c = lines_end c.loop-k.invariant (omega arith)

-- The initial state, an effect or a timed fact.
use Rattle.order_text.proofs.Forms.{target_initial, target_effect, target_timed}
use native.Mathlib.Omega.{arith}
use Rattle.order_text.proofs.lines.put_target.Goals as goal

pub returns-then-link : goal.returns-then-link
returns-then-link c = (rw (target_initial _ c.if-link.true) c.put_word.ensures, omega arith)

pub returns-then-link-2 : goal.returns-then-link-2
returns-then-link-2 c = (rw (target_effect _ c.if-link.false c.if-link-2.true) c.put_field.ensures.0, omega arith)

pub returns-else-link-2 : goal.returns-else-link-2
returns-else-link-2 c = (rw (target_timed _ c.if-link.false c.if-link-2.false) c.put_field-else-link-2.ensures.0, omega arith)

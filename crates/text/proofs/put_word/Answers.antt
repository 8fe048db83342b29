-- The first k bytes of the word stand.
use mathlib.Core.Path.{refl}
use Rattle.text.proofs.Writing.{put_length, word_more, word_end}
use native.Mathlib.Omega.{arith}
use Rattle.text.proofs.put_word.Goals as goal

pub loop-k-init : goal.loop-k-init
loop-k-init c = record { bytes = refl; ends = refl }

pub loop-k-preserved : goal.loop-k-preserved
loop-k-preserved c = word_more _ _ _ _ c.loop-k.invariant (omega arith) c.put_byte.ensures

pub shape_of-out : goal.shape_of-out
shape_of-out c = put_length c.loop-k.invariant

pub returns : goal.returns
returns c = word_end _ _ _ c.loop-k.invariant (omega arith) (omega arith)

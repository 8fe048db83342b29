-- The number stands behind the words.
use Rattle.text.proofs.Writing.{put_then}
use Rattle.telling.specs.Told.{of_record}
use borrow.Author.Rules.{rules}
use native.Mathlib.Omega.{arith}
use Rattle.telling.proofs.put_of_record.Goals as goal

pub returns : goal.returns
unfolding of_record
returns c = (put_then c.put_word-after.ensures c.put_field.ensures.0, omega (arith, c.put_word-after.ensures.ends))

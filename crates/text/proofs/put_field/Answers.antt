-- The number stands behind the word.
use Rattle.text.proofs.Writing.{put_then}
use native.Mathlib.Omega.{arith}
use Rattle.text.proofs.put_field.Goals as goal

pub returns : goal.returns
returns c =
    let number = c in
    let word = number in
    (put_then word.put_word-after.ensures number.put_decimal.ensures.0, omega arith)

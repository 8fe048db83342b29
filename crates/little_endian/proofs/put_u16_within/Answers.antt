use native.Mathlib.Numerals.{add-one}
use lib.ListN.{length-set}
use Rattle.little_endian.specs.Bytes.{u16_bytes}
use borrow.Author.Rules.{rules}
use native.Mathlib.Omega.{arith}
use Rattle.little_endian.proofs.put_u16_within.Goals as goal

pub overflow_cast-s : goal.overflow_cast-s
unfolding u16_bytes
overflow_cast-s c = search rules

pub bounds-s-at : goal.bounds-s-at
unfolding u16_bytes
bounds-s-at c = search rules

pub overflow_cast-s-2 : goal.overflow_cast-s-2
unfolding u16_bytes
overflow_cast-s-2 c = search rules

pub overflow_add-s : goal.overflow_add-s
unfolding u16_bytes
overflow_add-s c = search rules

pub bounds-s-at-2 : goal.bounds-s-at-2
unfolding u16_bytes
bounds-s-at-2 c = rw length-set (omega arith)

pub shape_of-s : goal.shape_of-s
unfolding u16_bytes
shape_of-s c = search rules

pub returns : goal.returns
unfolding u16_bytes
returns c = cc (add-one c.args.at)

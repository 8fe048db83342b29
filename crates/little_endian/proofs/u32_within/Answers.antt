use Rattle.little_endian.specs.Bytes.{u32_at}
use borrow.Author.Rules.{rules}
use native.Mathlib.Omega.{arith}
use Rattle.little_endian.proofs.u32_within.Goals as goal

pub u16_within-requires : goal.u16_within-requires
unfolding u32_at
u16_within-requires c = search rules

pub overflow_add-at : goal.overflow_add-at
unfolding u32_at
overflow_add-at c = search rules

pub u16_within-requires-2 : goal.u16_within-requires-2
unfolding u32_at
u16_within-requires-2 c = search rules

pub overflow_mul-result : goal.overflow_mul-result
unfolding u32_at
overflow_mul-result c = search rules

pub overflow_add-result : goal.overflow_add-result
unfolding u32_at
overflow_add-result c = search rules

pub returns : goal.returns
unfolding u32_at
returns c = omega (arith, c.u16_within.ensures)

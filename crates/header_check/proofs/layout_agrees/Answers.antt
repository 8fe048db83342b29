-- The ten tests are those of `layout_agrees`.
use native.Mathlib.Omega.{arith}
use Rattle.header_check.specs.Header.{layout_agrees}
use borrow.Author.Rules.{rules}
use Rattle.header_check.proofs.layout_agrees.Goals as goal

pub u32_at-requires : goal.u32_at-requires
unfolding layout_agrees
u32_at-requires c = tt

pub u32_at-requires-2 : goal.u32_at-requires-2
unfolding layout_agrees
u32_at-requires-2 c = tt

pub u32_at-requires-3 : goal.u32_at-requires-3
unfolding layout_agrees
u32_at-requires-3 c = tt

pub u32_at-requires-4 : goal.u32_at-requires-4
unfolding layout_agrees
u32_at-requires-4 c = tt

pub u32_at-requires-5 : goal.u32_at-requires-5
unfolding layout_agrees
u32_at-requires-5 c = tt

pub u32_at-requires-6 : goal.u32_at-requires-6
unfolding layout_agrees
u32_at-requires-6 c = tt

pub u32_at-requires-7 : goal.u32_at-requires-7
unfolding layout_agrees
u32_at-requires-7 c = tt

pub u32_at-requires-8 : goal.u32_at-requires-8
unfolding layout_agrees
u32_at-requires-8 c = tt

pub u32_at-requires-9 : goal.u32_at-requires-9
unfolding layout_agrees
u32_at-requires-9 c = tt

pub overflow_cast-result-10 : goal.overflow_cast-result-10
unfolding layout_agrees
overflow_cast-result-10 c = omega (arith, c.struct_known-12-1.given)

pub returns : goal.returns
unfolding layout_agrees
returns c =
    let b = c in
    let d = b in
    rw (c.u32_at-9.ensures.0, b.u32_at-8.ensures.0, d.u32_at-7.ensures.0)
    (rw (d.u32_at-6.ensures.0, d.u32_at-5.ensures.0)
    (rw (
      d.u32_at-4.ensures.0,
      d.u32_at-3.ensures.0,
      d.u32_at-2.ensures.0,
      d.u32_at.ensures.0,
    )))

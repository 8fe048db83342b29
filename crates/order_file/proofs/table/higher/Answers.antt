-- Below the bias a number is the same with a sign.
use Prim.Native.Nat.{ℕ, ◌<◌}
use mathlib.Core.Path.{◌≡◌, sym, ap₂, ◌∙◌}
use native.Mathlib.Omega.{arith}
use borrow.Author.Tests.{ltb-true, ltb-false}
use lib.Dec.{ltb}
use lib.IntN.{pos}
use lib.Signed.{lt_z}
use mir.Syntax.{w32}
use mir.Val.{to_z, of_z}
use mir.Facts.{to_z-of_z}
use Rattle.little_endian.specs.Bytes.{sign_bias}
use Rattle.order_file.proofs.table.higher.Goals as goal

as_signed : (a b : ℕ) → a < sign_bias → b < sign_bias → lt_z (to_z w32 (of_z w32 (pos a))) (to_z w32 (of_z w32 (pos b))) ≡ ltb a b
as_signed a b h l = ap₂ lt_z {y = pos a} {v = pos b} (same a h) (same b l)
  where
    same : (n : ℕ) → n < sign_bias → to_z w32 (of_z w32 (pos n)) ≡ pos n
    same n low = to_z-of_z {w = w32} (record { sfits = low })

pub overflow_cast-a : goal.overflow_cast-a
overflow_cast-a c = record { sfits = c.requires.0 }

pub overflow_cast-b : goal.overflow_cast-b
overflow_cast-b c = record { sfits = c.requires.1 }

pub returns-then-a-b : goal.returns-then-a-b
returns-then-a-b c =
    let d = c in
    let a = d.args.a in
    let b = d.args.b in
    omega (arith, ltb-true a b (sym (as_signed a b d.requires.0 d.requires.1) ∙ c.if-a-b.true))

pub returns-else-a-b : goal.returns-else-a-b
returns-else-a-b c =
    let d = c in
    let a = d.args.a in
    let b = d.args.b in
    omega (arith, ltb-false a b (sym (as_signed a b d.requires.0 d.requires.1) ∙ c.if-a-b.false))

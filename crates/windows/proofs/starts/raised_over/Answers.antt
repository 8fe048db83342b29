-- A demand without its bias, with a sign.
use Prim.{tt}
use Prim.Native.Nat.{ℕ, ◌-◌, ◌≤◌, ◌<◌, max}
use mathlib.Core.Bool.{true}
use mathlib.Core.Path.{◌≡◌, refl, sym, ap, ap₂, subst, ◌∙◌}
use native.Mathlib.Decide.{dec_lt}
use native.Mathlib.Omega.{arith}
use borrow.Author.Tests.{lt-ltb, le-ltb, ltb-true, ltb-false}
use lib.Dec.{ltb, T}
use lib.IntN.{pos, negsuc, ◌-ℤ◌, nat_abs}
use lib.Signed.{lt_z, non_neg}
use mir.Syntax.{w32}
use mir.Val.{to_z, of_z, Fits, SFits}
use mir.Facts.{to_z-of_z, to_z_pos}
use Rattle.little_endian.specs.Bytes.{sign_bias}
use Rattle.order_file.specs.Table.{entry_bias}
use Rattle.windows.proofs.starts.raised_over.Goals as goal

-- for no order it is below 0
due_low : (d : ℕ) → d < entry_bias → to_z w32 d -ℤ to_z w32 entry_bias ≡ negsuc (entry_bias - 1 - d)
due_low d h = simp (lt-ltb d sign_bias (omega arith), lt-ltb d entry_bias h) (ap negsuc (omega arith))

due_high : (d : ℕ) → d < sign_bias → entry_bias ≤ d → to_z w32 d -ℤ to_z w32 entry_bias ≡ pos (d - entry_bias)
due_high d l h = simp (lt-ltb d sign_bias l, le-ltb d entry_bias h) refl

due_fits : (d : ℕ) → d < sign_bias → SFits w32 (to_z w32 d -ℤ to_z w32 entry_bias)
due_fits d l =
    elim (dec_lt d entry_bias) [
      | yes h ↦ rw (due_low d h) record { sfits = omega arith }
      | no h ↦ rw (due_high d l (omega arith)) record { sfits = omega arith }
    ]

-- otherwise it is compared as it is
due_test :
    (s d : ℕ) → s < sign_bias → d < sign_bias
    → lt_z (to_z w32 s) (to_z w32 (of_z w32 (to_z w32 d -ℤ to_z w32 entry_bias))) ≡ ltb s (d - entry_bias)
due_test s d g l =
    ap₂ lt_z (to_z_pos w32 g) (to_z-of_z (due_fits d l))
    ∙ elim (dec_lt d entry_bias) [
      | yes h ↦ ap (lt_z (pos s)) (due_low d h) ∙ sym (le-ltb s (d - entry_bias) (omega arith))
      | no h ↦ ap (lt_z (pos s)) (due_high d l (omega arith))
    ]

due_over : (s d : ℕ) → d < sign_bias → s < d - entry_bias → to_z w32 (of_z w32 (to_z w32 d -ℤ to_z w32 entry_bias)) ≡ pos (d - entry_bias)
due_over s d l h = to_z-of_z (due_fits d l) ∙ due_high d l (omega arith)

over :
    (s d : ℕ) → s < sign_bias → d < sign_bias
    → lt_z (to_z w32 s) (to_z w32 (of_z w32 (to_z w32 d -ℤ to_z w32 entry_bias))) ≡ true
    → s < d - entry_bias
over s d g l e = ltb-true _ _ (sym (due_test s d g l) ∙ e)

pub overflow_cast-due : goal.overflow_cast-due
overflow_cast-due c = record { sfits = c.requires.1 }

pub overflow_sub-due : goal.overflow_sub-due
overflow_sub-due c = due_fits _ c.requires.1

pub overflow_cast-start : goal.overflow_cast-start
overflow_cast-start c = record { sfits = c.requires.0 }

pub overflow_cast-result : goal.overflow_cast-result
overflow_cast-result c =
    let d = c.args.demand in
    let e = due_over _ d c.requires.1 (over _ d c.requires.0 c.requires.1 c.if-start-due.true) in
    (subst (λ z. T (non_neg z)) (sym e) tt, subst (λ z. Fits w32 (nat_abs z)) (sym e) record { fits = omega (arith, c.requires.1) })

pub returns-then-start-due : goal.returns-then-start-due
returns-then-start-due c =
    let s = c.args.start in
    let d = c.args.demand in
    let m : d - entry_bias ≡ max s (d - entry_bias) = omega (arith, over s d c.requires.0 c.requires.1 c.if-start-due.true) in
    ap nat_abs (due_over s d c.requires.1 (over _ d c.requires.0 c.requires.1 c.if-start-due.true)) ∙ m

pub returns-else-start-due : goal.returns-else-start-due
returns-else-start-due c =
    let s = c.args.start in
    let d = c.args.demand in
    let p = c.requires in
    omega (arith, ltb-false s (d - entry_bias) (sym (due_test s d p.0 p.1) ∙ c.if-start-due.false))

use Prim.Native.Nat.{ℕ}
use mathlib.Core.Path.{◌≡◌, refl, sym, ap, ◌∙◌}
use lib.IntN.{ℤ, pos, negsuc}
use mir.Syntax.{w32}
use mir.Facts.{to_z-of_z}
use mir.Val.{SFits, to_z, of_z}
use borrow.Author.Rules.{rules}
use Rattle.listing.specs.Listed.{filled, bits, record_list}
use Rattle.listing.proofs.Filling.{filled_none}
use Rattle.listing.proofs.list_record.Goals as goal

-- the bits of a number
cast_bits : (x : ℤ) → of_z w32 x ≡ bits x
cast_bits (pos n) = refl
cast_bits (negsuc n) = refl

told_bits : (x : ℤ) (r : ℕ) → SFits w32 x → r ≡ of_z w32 (to_z w32 (of_z w32 x)) → r ≡ bits x
told_bits x r f e = e ∙ ap (of_z w32) (to_z-of_z f) ∙ cast_bits x

pub returns-in-Ok-Order : goal.returns-in-Ok-Order
returns-in-Ok-Order c =
    let o = c.in-Ok-Order in
    let f : SFits w32 o.gap = search rules in
    let last = told_bits o.gap c.cast_unsigned.result f c.cast_unsigned.ensures in
    search (rules, last)

pub returns-in-Err : goal.returns-in-Err
returns-in-Err c =
    let l = c.args.list.now in
    sym (ap (λ r. filled l (record_list r)) c.in-Err.is ∙ filled_none l)

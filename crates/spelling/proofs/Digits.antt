-- The bytes that are digits.
use Prim.Native.Nat.{ℕ, ◌≤◌}
use mathlib.Core.Path.{◌≡◌}
use mathlib.Core.Bool.{true}
use lib.Dec.{leb}
use borrow.Author.Tests.{leb-true}
use Rattle.laws.proofs.Search.{and_both}
use Rattle.spelling.specs.Names.{is_digit}

pub digit_range : {b : ℕ} → is_digit b ≡ true → (48 ≤ b) × (b ≤ 57)
unfolding is_digit
digit_range {b} e = let p = and_both (leb 48 b) (leb b 57) e in (leb-true 48 b p.0, leb-true b 57 p.1)

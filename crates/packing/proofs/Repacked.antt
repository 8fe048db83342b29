-- The parts of an answer pack into the same number.
use Prim.Native.Nat.{ℕ}
use mathlib.Core.Path.{◌≡◌, ◌∙◌, ap}
use Rattle.packing.specs.Packed.{packed}

pub repacked : {r a b n m p q : ℕ} → r ≡ packed a n p → a ≡ b → n ≡ m → p ≡ q → r ≡ packed b m q
repacked {r} {a} {b} {n} {m} {p} {q} e x y z =
    e ∙ ap (λ (k : ℕ). packed k n p) x ∙ ap (λ (k : ℕ). packed b k p) y ∙ ap (λ (k : ℕ). packed b m k) z

-- Packing loses nothing: of two numbers of 16 bits and any answer, each is got back.
use Prim.Native.Nat.{ℕ, ◌/◌, ◌%◌, ◌^◌, ◌<◌}
use mathlib.Core.Path.{◌≡◌}
use native.Mathlib.Omega.{arith}
use Rattle.packing.specs.Packed.{packed}

module _ (answer number place : ℕ) (n : number < 2 ^ 16) (p : place < 2 ^ 16) where
  pub answer_back : packed answer number place / 2 ^ 32 ≡ answer
  answer_back = omega arith

  pub number_back : packed answer number place / 2 ^ 16 % 2 ^ 16 ≡ number
  number_back = omega arith

  pub place_back : packed answer number place % 2 ^ 16 ≡ place
  place_back = omega arith

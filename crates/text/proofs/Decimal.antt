-- Laws of decimal numbers: their last digit, how long they are, and how they are put.
use Prim.Native.Nat.{ℕ, zero, suc, ◌+◌, ◌*◌, ◌/◌, ◌%◌, ◌<◌, ◌≤◌}
use mathlib.Core.Path.{◌≡◌, ap}
use mathlib.Core.List.{List, [], ◌∷◌, ◌++◌}
use native.Mathlib.Nat.{not-suc-le-zero}
use native.Mathlib.Decide.{dec_lt}
use native.Mathlib.Omega.{arith}
use borrow.Author.Tests.{lt-ltb, le-ltb}
use lib.ListN.{length, length-append}
use Rattle.text.specs.Decimal.{digits, decimal}
use Rattle.text.specs.Put.{Put}
use Rattle.text.proofs.Writing.{put_then}

-- every fuel above the number gives the same digits
digits_fuel : (f g n : ℕ) → n < f → n < g → digits f n ≡ digits g n
unfolding digits
digits_fuel zero g n h k = absurd (not-suc-le-zero h)
digits_fuel (suc f) zero n h k = absurd (not-suc-le-zero k)
digits_fuel (suc f) (suc g) n h k =
    elim (dec_lt n 10) [
      | yes l ↦ simp (lt-ltb n 10 l)
      | no l ↦
          simp (le-ltb n 10 (omega arith))
          (ap (λ (s : List ℕ). s ++ ((48 + n % 10) ∷ [])) (digits_fuel f g (n / 10) (omega arith) (omega arith)))
    ]

-- a number of one digit
decimal_one : (n : ℕ) → n < 10 → decimal n ≡ (48 + n) ∷ []
unfolding decimal digits
decimal_one n h = simp (lt-ltb n 10 h)

-- a longer number: what stands before the last digit, and the last digit
decimal_more : (n : ℕ) → 10 ≤ n → decimal n ≡ decimal (n / 10) ++ ((48 + n % 10) ∷ [])
unfolding decimal digits
decimal_more n h =
    simp (le-ltb n 10 h) (ap (λ (s : List ℕ). s ++ ((48 + n % 10) ∷ [])) (digits_fuel n (suc (n / 10)) (n / 10) (omega arith) (omega arith)))

-- ten times as many numbers take one digit more
longer : (most w : ℕ) → ((n : ℕ) → n < most → length (decimal n) ≤ w + 1) → (n : ℕ) → n < most * 10 → length (decimal n) ≤ w + 2
longer most w h n l =
    elim (dec_lt n 10) [
      | yes s ↦ rw (decimal_one n s) (omega arith)
      | no s ↦
          rw (decimal_more n (omega arith), length-append (decimal (n / 10)) ((48 + n % 10) ∷ []))
          (omega (arith, h (n / 10) (omega arith)))
    ]

-- a u32 takes ten digits at most
pub length_decimal : (n : ℕ) → n < 4294967296 → length (decimal n) ≤ 10
length_decimal n h =
    let one : (m : ℕ) → m < 10 → length (decimal m) ≤ 0 + 1 = λ m l. rw (decimal_one m l) (omega arith) in
    let four = longer 1000 2 (longer 100 1 (longer 10 0 one)) in
    let seven = longer 1000000 5 (longer 100000 4 (longer 10000 3 four)) in
    longer 1000000000 8 (longer 100000000 7 (longer 10000000 6 seven)) n (omega arith)

-- a number put: its one digit, or what stands before the last digit and then that digit
module _ {l m : List ℕ} {at r : ℕ} (n : ℕ) where
  pub put_one : n < 10 → Put l at ((48 + n) ∷ []) m r → Put l at (decimal n) m r × (r ≤ at + 10)
  put_one h p = (rw (decimal_one n h) p, omega (arith, p.ends))

  pub put_more :
      {k : List ℕ} {i : ℕ} → 10 ≤ n → n < 4294967296 → Put l at (decimal (n / 10)) k i → Put k i ((48 + n % 10) ∷ []) m r
      → Put l at (decimal n) m r × (r ≤ at + 10)
  put_more h b p q =
      let w : Put l at (decimal n) m r = rw (decimal_more n h) (put_then p q) in
      (w, omega (arith, w.ends, length_decimal n b))

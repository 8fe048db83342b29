-- Laws of little-endian numbers: what lies past the end, and a u32 written as two u16.
use Prim.Native.Nat.{ℕ, suc, ◌+◌, ◌*◌, ◌/◌, ◌%◌, ◌≤◌, ◌<◌}
use mathlib.Core.Path.{◌≡◌, sym, ap, ◌∙◌}
use mathlib.Core.Bool.{Bool, true, false}
use mathlib.Core.List.{List, [], ◌∷◌}
use native.Mathlib.Omega.{arith}
use native.Mathlib.Numerals.{add-two}
use borrow.Author.Tests.{leb-true, leb-false}
use lib.Dec.{leb}
use lib.ListN.{length, set, length-set, get_or-eq_default}
use lib.Seq.{sets}
use Rattle.little_endian.proofs.Sets.{sets_out}
use Rattle.little_endian.specs.Bytes.{sign_bias, u32_values, byte_at, u16_at, u32_at, biased_at, u16_bytes, u32_bytes}

-- What a test for room says: that it passed, and that it failed.
pub room : (end size : ℕ) {r : Bool} → r ≡ leb end size → r ≡ true → end ≤ size
room end size e t = leb-true end size (sym e ∙ t)

pub no_room : (end size : ℕ) {r : Bool} → r ≡ leb end size → r ≡ false → size < end
no_room end size e f = leb-false end size (sym e ∙ f)

-- the bits of an i32 read without a sign
pub biased :
    (s : List ℕ) (at : ℕ) {n : ℕ} → n ≡ u32_at s at
    → ((n + sign_bias) % u32_values ≡ biased_at s at) × ((n + sign_bias) % u32_values < u32_values)
unfolding biased_at
biased s at {n} e = (ap (λ k. (k + sign_bias) % u32_values) e, omega arith)

-- past the end every number reads as 0
pub byte_out : (s : List ℕ) (at : ℕ) → length s ≤ at → byte_at s at ≡ 0
byte_out s at h = get_or-eq_default s 0 h

pub u16_out : (s : List ℕ) (at : ℕ) → length s ≤ at → u16_at s at ≡ 0
unfolding u16_at
u16_out s at h =
    let a : byte_at s at ≡ 0 = byte_out s at h in
    let b : byte_at s (at + 1) ≡ 0 = byte_out s (at + 1) (omega arith) in
    omega arith

-- a u16 whose upper byte lies past the end is its lower byte
pub u16_cut : (s : List ℕ) (at : ℕ) → length s < at + 2 → byte_at s at ≡ u16_at s at
unfolding u16_at
u16_cut s at h = let b : byte_at s (at + 1) ≡ 0 = byte_out s (at + 1) (omega arith) in omega arith

-- a u32 whose last byte lies past the end is its lower half with one byte of the upper, or its lowest byte
pub u32_cut : (s : List ℕ) (at : ℕ) → length s < at + 4 → u16_at s at + 65536 * byte_at s (at + 2) ≡ u32_at s at
unfolding u32_at
u32_cut s at h = let b : byte_at s (at + 2) ≡ u16_at s (at + 2) = u16_cut s (at + 2) (omega arith) in omega arith

pub u32_low : (s : List ℕ) (at : ℕ) → length s < at + 2 → byte_at s at ≡ u32_at s at
unfolding u32_at
u32_low s at h =
    let a : byte_at s at ≡ u16_at s at = u16_cut s at h in
    let b : u16_at s (at + 2) ≡ 0 = u16_out s (at + 2) (omega arith) in
    omega arith

-- of a u16 whose upper byte lies past the end only the lower is stored
pub sets_cut : (l : List ℕ) (at n : ℕ) → length l < at + 2 → set l at (n % 256) ≡ sets l at (u16_bytes n)
unfolding u16_bytes
sets_cut l at n h =
    let e : length (set l at (n % 256)) ≡ length l = length-set l at (n % 256) in
    sym (sets_out (set l at (n % 256)) (suc at) (n / 256 % 256 ∷ []) (omega arith))

-- a u32 is its lower and its upper half, each a u16
u32_halves : (l : List ℕ) (at n : ℕ) → sets l at (u32_bytes n) ≡ sets (sets l at (u16_bytes n)) (at + 2) (u16_bytes (n / 65536))
unfolding u32_bytes u16_bytes
u32_halves l at n = rw add-two

pub put_halves :
    (l : List ℕ) (at n : ℕ) {a b : List ℕ} → a ≡ sets l at (u16_bytes n) → b ≡ sets a (at + 2) (u16_bytes (n / 65536))
    → b ≡ sets l at (u32_bytes n)
put_halves l at n e f =
    f ∙ ap (λ (k : List ℕ). sets k (at + 2) (u16_bytes (n / 65536))) e ∙ sym (u32_halves l at n)

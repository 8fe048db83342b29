-- A part that stands in a list from a position on, and the numbers that are read in it.
use Prim.Native.Nat.{ℕ, zero, suc, ◌+◌, ◌*◌, ◌≤◌, ◌<◌}
use mathlib.Core.Path.{◌≡◌, sym, ap, ap₂, ◌∙◌, subst}
use mathlib.Core.List.{List, ◌++◌}
use mathlib.Core.Logic.{⊎_elim}
use native.Mathlib.Nat.{not-suc-le-zero, add_assoc, mul-zero, mul-suc, mul-le-mul_left}
use native.Mathlib.Omega.{arith}
use lib.ListN.{length, get_or, length-append, get_or-append}
use lib.Seq.{get_or-append-add}
use Rattle.laws.specs.Listed.{concatenate}
use Rattle.little_endian.specs.Bytes.{u16_at, u32_at}
use Rattle.laws.proofs.Search.{last_or_below}

-- each byte of the part is there
abbrev pub Stands : List ℕ → ℕ → List ℕ → Type 0
Stands s at part = (j : ℕ) → j < length part → get_or s (at + j) 0 ≡ get_or part j 0

-- the second of two lists stands behind the first
pub stands_behind : (s t : List ℕ) (n : ℕ) → length s ≡ n → Stands (s ++ t) n t
stands_behind s t n e j h = ap (λ k. get_or (s ++ t) (k + j) 0) (sym e) ∙ get_or-append-add s t j 0

-- what stands in a list stands there with more behind it
pub stands_longer : (s t part : List ℕ) (at : ℕ) → Stands s at part → at + length part ≤ length s → Stands (s ++ t) at part
stands_longer s t part at p h j l = get_or-append s t 0 (at + j) (omega arith) ∙ p j l

-- a part of a part
pub stands_within : (s t part : List ℕ) (at i : ℕ) → Stands s at t → Stands t i part → i + length part ≤ length t → Stands s (at + i) part
stands_within s t part at i p q h j l =
    ap (λ k. get_or s k 0) (add_assoc at i j) ∙ p (i + j) (omega arith) ∙ q j l

module _ (f : ℕ → List ℕ) (w : ℕ) (each : (k : ℕ) → length (f k) ≡ w) where
  pub length_parts : (n : ℕ) → length (concatenate n f) ≡ w * n
  unfolding concatenate
  length_parts zero = sym (mul-zero w)
  length_parts (suc n) = length-append (concatenate n f) (f n) ∙ ap₂ ◌+◌ (length_parts n) (each n) ∙ sym (mul-suc w n)

  -- the parts of one width stand one after the other
  pub stands_part : (n k : ℕ) → k < n → Stands (concatenate n f) (w * k) (f k)
  unfolding concatenate
  stands_part zero k h = absurd (not-suc-le-zero h)
  stands_part (suc n) k h =
      ⊎_elim
      (λ (q : k ≡ n).
      subst (λ (m : ℕ). Stands (concatenate n f ++ f n) (w * m) (f m)) (sym q)
      (stands_behind (concatenate n f) (f n) (w * n) (length_parts n)))
      (λ (l : k < n).
      stands_longer (concatenate n f) (f n) (f k) (w * k) (stands_part n k l)
      (omega (arith, each k, length_parts n, mul-suc w k, mul-le-mul_left w l)))
      (last_or_below h)

-- the numbers read in a part
module _ (s : List ℕ) (at : ℕ) (part : List ℕ) (p : Stands s at part) where
  pub stands_u16 : (i : ℕ) → i + 1 < length part → u16_at s (at + i) ≡ u16_at part i
  unfolding u16_at
  stands_u16 i h =
      let a = p i (omega arith) in
      let b = ap (λ k. get_or s k 0) (add_assoc at i 1) ∙ p (i + 1) h in
      ap₂ (λ x y. x + 256 * y) a b

  pub stands_u32 : (i : ℕ) → i + 3 < length part → u32_at s (at + i) ≡ u32_at part i
  unfolding u32_at
  stands_u32 i h =
      let a = stands_u16 i (omega arith) in
      let b = ap (λ k. u16_at s k) (add_assoc at i 2) ∙ stands_u16 (i + 2) (omega arith) in
      ap₂ (λ x y. x + 65536 * y) a b

-- Laws of putting lines, one behind the other: none yet, one line more, all of them.
use Prim.Native.Nat.{ℕ, ◌+◌, ◌*◌, ◌<◌, ◌≤◌}
use mathlib.Core.Path.{◌≡◌, refl}
use mathlib.Core.List.{List}
use native.Mathlib.Nat.{mul-suc}
use native.Mathlib.Numerals.{add-one}
use native.Mathlib.Omega.{arith}
use lib.ListN.{length}
use Rattle.laws.specs.Listed.{concatenate}
use Rattle.laws.proofs.Listed.{concatenate_more}
use Rattle.text.specs.Put.{Put}
use Rattle.text.proofs.Writing.{put_then, put_length}

-- A loop that puts n lines one behind the other, each of at most w bytes, has put those below k.
pub record LinesPut (line : ℕ → List ℕ) (w n : ℕ) (before : List ℕ) (at k : ℕ) (after : List ℕ) (end : ℕ) : Type 0 where
  pub counted : k ≤ n
  pub lines : Put before at (concatenate k line) after end
  pub short : end ≤ at + w * k

pub lines_start : (line : ℕ → List ℕ) (w n : ℕ) (l : List ℕ) (at : ℕ) → LinesPut line w n l at 0 l at
unfolding concatenate
lines_start line w n l at =
    record { counted = omega arith; lines = record { bytes = refl; ends = omega arith }; short = omega arith }

module _ {line : ℕ → List ℕ} {w n at k i : ℕ} {l m : List ℕ} (p : LinesPut line w n l at k m i) where
  pub lines_more : {o : List ℕ} {j : ℕ} → k < n → Put m i (line k) o j → j ≤ i + w → LinesPut line w n l at (k + 1) o j
  lines_more h q s =
      record {
        counted = omega arith;
        lines = rw (concatenate_more line k) (put_then p.lines q);
        short = rw (add-one k, mul-suc w k) (omega (arith, p.short));
      }

  pub lines_length : length m ≡ length l
  lines_length = put_length p.lines

  pub lines_end : n ≤ k → Put l at (concatenate n line) m i × (i ≤ at + w * n)
  lines_end h = let e : n ≡ k = omega (arith, p.counted) in rw e (p.lines, p.short)

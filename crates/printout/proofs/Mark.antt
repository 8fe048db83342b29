-- The line before an accepted job's first line: with the mark, without it, and how long it is at most.
use Prim.Native.Nat.{ℕ, ◌≤◌}
use mathlib.Core.Path.{◌≡◌}
use mathlib.Core.List.{List, []}
use native.Mathlib.Decide.{ℕ_discrete}
use native.Mathlib.Omega.{arith}
use borrow.Author.Tests.{eq-eqb, ne_eqb}
use lib.ListN.{length}
use Rattle.job.specs.Layout.{serial_mark}
use Rattle.sheet.specs.Text.{ignored_line, ignored_most}
use Rattle.printout.specs.Shown.{mark_line}

module _ (s : List ℕ) where
  pub marked_line : serial_mark s ≡ 1 → mark_line s ≡ ignored_line
  unfolding mark_line
  marked_line e = rw (eq-eqb _ 1 e)

  pub unmarked_line : (serial_mark s ≡ 1 → ⊥) → mark_line s ≡ []
  unfolding mark_line
  unmarked_line n = rw (ne_eqb _ 1 n)

  pub mark_short : length (mark_line s) ≤ ignored_most
  mark_short =
      elim (ℕ_discrete (serial_mark s) 1) [
        | yes e ↦ rw (marked_line e) (omega arith)
        | no n ↦ rw (unmarked_line n) (omega arith)
      ]

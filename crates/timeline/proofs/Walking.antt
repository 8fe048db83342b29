-- A walk along a group of nothing.
use Prim.Native.Nat.{ℕ, ◌≤◌}
use mathlib.Core.Path.{◌≡◌}
use mathlib.Core.List.{List}
use native.Mathlib.Omega.{arith}
use Rattle.timeline.specs.Placed.{Run}

-- it has no run
module _ {points : List ℕ} {low at run : ℕ} where
  pub run_none : low ≤ at → at ≤ low → run ≡ at → Run points low at run
  run_none h l e =
      record {
        from = omega arith;
        to = omega arith;
        some = λ g. omega arith;
        alike = λ p g i. absurd (omega arith);
        turned = λ g _. omega arith;
      }

-- Both ways, or, where a group is empty, neither.
use Prim.Native.Nat.{ℕ, ◌≤◌, ◌<◌}
use mathlib.Core.Path.{◌≡◌, ap₂}
use mathlib.Core.Bool.{false, ◌&&◌}
use mathlib.Core.List.{List}
use mathlib.Core.Logic.{⊎_elim}
use native.Mathlib.Omega.{arith}
use borrow.Author.Tests.{lt-ltb}
use lib.Dec.{ltb}
use Rattle.laws.proofs.Search.{contrary}
use Rattle.origins.specs.declared.Span.{Span}
use Rattle.origins.specs.declared.Turn.TheVariants.{Same}
use Rattle.origins.specs.Points.{Reached, FromTo, Between}
use Rattle.origins.proofs.Reached.{reached_none, reached_either}
use Rattle.rows.proofs.raise_between.Goals as goal

between_none :
    (n : ℕ) (x : ℕ → ℕ) (points : List ℕ) (first second : Span) (gaps : List ℕ)
    → (ltb first.low first.high && ltb second.low second.high) ≡ false
    → Reached n (Between x points first second) gaps gaps
between_none n x points first second gaps e =
    reached_none n (Between x points first second) gaps
    (λ i k gap o.
    ⊎_elim
    (λ (s : FromTo x points first second Same i k gap). both s.0 s.3.0 s.1 s.2 s.3.1 s.3.2)
    (λ (s : FromTo x points second first Same i k gap). both s.3.0 s.0 s.3.1 s.3.2 s.1 s.2)
    o)
  where
    both : (p q : ℕ) → first.low ≤ p → p < first.high → second.low ≤ q → q < second.high → ⊥
    both p q a b c d =
        contrary (ap₂ ◌&&◌ (lt-ltb first.low first.high (omega arith)) (lt-ltb second.low second.high (omega arith))) e

pub returns-then-first-second : goal.returns-then-first-second
returns-then-first-second c = reached_either _ _ _ _ _ _ c.row_points.ensures c.row_points-then-first-second.ensures

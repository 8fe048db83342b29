-- The starts so far are those of the first k steps.
use Prim.Native.Nat.{ℕ}
use mathlib.Core.Path.{◌≡◌, refl, ap₂, ◌∙◌}
use mathlib.Core.List.{List, [], ◌∷◌, ◌++◌}
use native.Mathlib.Numerals.{add-one}
use lib.ListN.{length-set}
use lib.Seq.{take-suc-set}
use Rattle.laws.specs.Listed.{tabulate}
use native.Mathlib.Omega.{arith}
use Rattle.ticks.proofs.planned_starts.Goals as goal

pub loop-k-init : goal.loop-k-init
unfolding tabulate
loop-k-init c = (refl, refl)

pub bounds-starts-k : goal.bounds-starts-k
bounds-starts-k c = omega (arith, c.requires)

pub loop-k-preserved : goal.loop-k-preserved
unfolding tabulate
loop-k-preserved c =
    let h = c.loop-k in
    let p = c.requires in (
      length-set h.starts h.k c.step_start.result ∙ h.invariant.0,
      rw add-one
          (take-suc-set h.starts h.k c.step_start.result (omega (arith, p)) ∙ ap₂ (λ (l : List ℕ) (v : ℕ). l ++ (v ∷ [])) h.invariant.1
          c.step_start.ensures.0),
    )

pub returns : goal.returns
returns c = let h = c.loop-k in let q : h.k ≡ c.args.n = omega arith in (h.invariant.0, rw q at h.invariant.1)

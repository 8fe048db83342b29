-- Refusal 7's search for a fact set both ways, and how many pairs it compares: step by step, through all pairs of a step's effects by the
-- lower, then the higher, up to and with the first pair found.
use Rattle.std.specs.Prelude.{ℕ, zero, suc, ◌+◌, Bool, true, false, cond, List, [], ◌∷◌, ◌++◌, map, eqb}
use Rattle.job.specs.Model.{Model}
use Rattle.against.specs.declared.Search.{Search}
use Rattle.against.specs.declared.StepSearch.{StepSearch}
use Rattle.against.specs.Against.{both_ways}

pub record Pair : Type 0 where
  pub lower : ℕ
  pub higher : ℕ

-- all pairs of a list in its order, by the lower, then the higher
unfoldable pub pairs_of : List ℕ → List Pair
pairs_of [] = []
pairs_of (e ∷ es) = map (λ f. record { lower = e; higher = f }) es ++ pairs_of es

-- how many pairs are compared, up to and with the first that passes a test or all, and whether one passes
unfoldable pub up_to_first : (ℕ → ℕ → Bool) → List Pair → Search
up_to_first test [] = record { compared = 0; found = false }
up_to_first test (p ∷ ps) =
    cond (test p.lower p.higher) (record { compared = 1; found = true })
    (record { compared = 1 + (up_to_first test ps).compared; found = (up_to_first test ps).found })

-- the effects of step s among the n from k on, in their order
unfoldable pub effects_from : Model → ℕ → ℕ → ℕ → List ℕ
effects_from m s k zero = []
effects_from m s k (suc n) =
    cond (eqb (m.effect_step k) s) (k ∷ effects_from m s (suc k) n) (effects_from m s (suc k) n)

-- through all pairs of the effects of step s
unfoldable pub through_step : Model → ℕ → Search
through_step m s = up_to_first (both_ways m) (pairs_of (effects_from m s 0 m.effects))

-- through the n steps from s on, up to the first in which a pair is found; where none is, the step is the one behind them
unfoldable pub through_steps : Model → ℕ → ℕ → StepSearch
through_steps m s zero = record { compared = 0; step = s }
through_steps m s (suc n) =
    let a = through_step m s in
    let b = through_steps m (suc s) n in
    cond a.found (record { compared = a.compared; step = s }) (record { compared = a.compared + b.compared; step = b.step })

-- the whole search
unfoldable pub pair_search : Model → StepSearch
pair_search m = through_steps m 0 m.steps

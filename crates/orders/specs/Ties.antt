-- Between crates: cases of ties, one a sentence, each a job with what is filed of it. Any of the tied effects would do for the promise of
-- the written starts, so beside the plain statement of a supporter only these pin whom a tie goes to.
use Rattle.std.specs.Prelude.{ℕ, List, [], ◌∷◌}
use Rattle.order_file.specs.Contents.{no_latest}
use Rattle.orders.specs.Starred.{fact, step, condition, effect, goal, timed_fact, job_bytes}
use Rattle.orders.specs.Starred.{Window, window, order, plus, minus, accepted, Case}

-- three steps on one fact, which is 0 at first: at 1 for 9 ticks, at 3 for 2 and at 9 for 2. So tick 5 is point 4 of step 0 and point 2
-- of step 1
unfoldable pub given_at_five : List (List ℕ) → List (List ℕ) → List (List ℕ) → List (List ℕ) → List ℕ
given_at_five conditions effects goals timed =
    job_bytes
    (record {
      serial = 0;
      facts = fact 0 ∷ [];
      levels = [];
      steps = step 1 9 0 ∷ step 3 2 0 ∷ step 9 2 0 ∷ [];
      conditions = conditions;
      effects = effects;
      uses = [];
      goals = goals;
      timed = timed;
    })

-- what step 0 wants from tick 7 on, and what gives it at tick 5
unfoldable pub wants : List (List ℕ)
wants = condition 0 0 6 7 1 ∷ []

unfoldable pub gives_own : List ℕ
gives_own = effect 0 0 4 1

unfoldable pub gives_other : List ℕ
gives_other = effect 1 0 2 1

unfoldable pub gives_clock : List ℕ
gives_clock = timed_fact 0 5 1

-- a step that may start at any time
unfoldable pub free : Window
free = window 0 no_latest 0

unfoldable pub tie_cases : List Case
tie_cases =
    -- "first to the condition's own step": not to the lower number, and then nothing is ordered
    record { job = given_at_five wants (gives_other ∷ gives_own ∷ []) [] []; expected = accepted 1 (free ∷ free ∷ free ∷ []) [] (1 ∷ []) }
    -- of two effects of the own step to the lower number
    ∷ record {
      job = given_at_five wants (gives_other ∷ gives_own ∷ gives_own ∷ []) [] [];
      expected = accepted 1 (free ∷ free ∷ free ∷ []) [] (1 ∷ []);
    }
    -- the own step before a timed fact, alone and with another step
    ∷ record { job = given_at_five wants (gives_own ∷ []) [] (gives_clock ∷ []); expected = accepted 1 (free ∷ free ∷ free ∷ []) [] (0 ∷ []) }
    ∷ record {
      job = given_at_five wants (gives_other ∷ gives_own ∷ []) [] (gives_clock ∷ []);
      expected = accepted 1 (free ∷ free ∷ free ∷ []) [] (1 ∷ []);
    }
    -- "then to the lower effect number": step 2 gives nothing itself
    ∷ record {
      job = given_at_five (condition 2 0 0 1 1 ∷ []) (gives_other ∷ gives_own ∷ []) [] (gives_clock ∷ []);
      expected = accepted 2 (free ∷ free ∷ window 0 no_latest 3 ∷ []) (order 1 2 (plus 3) ∷ []) (0 ∷ []);
    }
    -- only a tie goes so: an earlier effect of another step supports
    ∷ record {
      job = given_at_five wants (effect 1 0 1 1 ∷ gives_own ∷ []) [] [];
      expected = accepted 1 (free ∷ free ∷ free ∷ []) (order 1 0 (minus 4) ∷ []) (0 ∷ []);
    }
    -- "Goals keep the old tie": the lower number, though goal 0 is not step 0's, and an effect before a timed fact
    ∷ record {
      job = given_at_five [] (gives_other ∷ gives_own ∷ []) (goal 0 1 5 ∷ []) (gives_clock ∷ []);
      expected = accepted 1 (free ∷ window 0 3 0 ∷ free ∷ []) [] (0 ∷ []);
    }
    ∷ []

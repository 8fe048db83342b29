-- Refusal 17, the clock against itself.
use Rattle.std.specs.Prelude.{ℕ, Bool, ◌&&◌, not, eqb}
use Rattle.laws.specs.Search.{any}
use Rattle.verdict.specs.declared.Refusal.TheVariants.{TimedFactsConflict}
use Rattle.verdict.specs.Verdict.{Verdict, refuse_lowest}
use Rattle.job.specs.Model.{Model}

-- two timed facts set one fact both ways at one tick
unfoldable pub timed_both_ways : Model → ℕ → ℕ → Bool
timed_both_ways m j k =
    eqb (m.timed_fact j) (m.timed_fact k) && eqb (m.timed_tick j) (m.timed_tick k)
    && not (eqb (m.timed_value j) (m.timed_value k))

-- a timed fact has another against it
unfoldable pub timed_conflicts : Model → ℕ → Bool
timed_conflicts m j = any m.timed (timed_both_ways m j)

-- refusal 17: the lowest such timed fact is the lower of its two
unfoldable pub timed_check : Model → Verdict
timed_check m = refuse_lowest m.timed (timed_conflicts m) TimedFactsConflict

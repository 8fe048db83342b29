-- Refusal 7, a step against itself, in three parts.
use Rattle.std.specs.Prelude.{ℕ, min, Bool, ◌&&◌, not, ltb, leb, eqb}
use Rattle.laws.specs.Search.{any, lowest_owner}
use Rattle.verdict.specs.declared.Refusal.TheVariants.{StepAgainstItself}
use Rattle.verdict.specs.Verdict.{Verdict, refuse_if}
use Rattle.job.specs.Model.{Model}

-- two effects of one step set a fact both ways at one tick
unfoldable pub both_ways : Model → ℕ → ℕ → Bool
both_ways m e f =
    eqb (m.effect_step e) (m.effect_step f) && eqb (m.effect_fact e) (m.effect_fact f)
    && eqb (m.effect_at e) (m.effect_at f)
    && not (eqb (m.effect_value e) (m.effect_value f))

-- two uses of one step use one level at one tick
unfoldable pub uses_twice : Model → ℕ → ℕ → Bool
uses_twice m u v =
    eqb (m.use_step u) (m.use_step v) && eqb (m.use_level u) (m.use_level v) && eqb (m.use_at u) (m.use_at v)

-- a step opposes its own condition from its first tick to before its last
unfoldable pub opposes_own : Model → ℕ → ℕ → Bool
opposes_own m e c =
    eqb (m.effect_step e) (m.condition_step c) && eqb (m.effect_fact e) (m.condition_fact c)
    && not (eqb (m.effect_value e) (m.condition_value c))
    && leb (m.condition_from c) (m.effect_at e)
    && ltb (m.effect_at e) (m.condition_to c)

-- an earlier effect sets e's fact the other way, in e's step at e's tick
unfoldable pub set_before : Model → ℕ → Bool
set_before m e = any e (both_ways m e)

-- an earlier use uses u's level in u's step at u's tick
unfoldable pub used_before : Model → ℕ → Bool
used_before m u = any u (uses_twice m u)

-- e opposes some condition of its own step
unfoldable pub opposes_any : Model → ℕ → Bool
opposes_any m e = any m.conditions (opposes_own m e)

-- the lowest step that sets a fact both ways, or their count where none does
unfoldable pub both_ways_step : Model → ℕ
both_ways_step m = lowest_owner m.steps m.effects m.effect_step (set_before m)

-- the lowest step that uses a level twice, or their count
unfoldable pub uses_twice_step : Model → ℕ
uses_twice_step m = lowest_owner m.steps m.uses m.use_step (used_before m)

-- the lowest step that opposes its own condition, or their count
unfoldable pub opposes_own_step : Model → ℕ
opposes_own_step m = lowest_owner m.steps m.effects m.effect_step (opposes_any m)

-- the lowest step against itself in any of the three parts, or the count of steps
unfoldable pub against_step : Model → ℕ
against_step m = min (min (both_ways_step m) (uses_twice_step m)) (opposes_own_step m)

-- refusal 7
unfoldable pub step_check : Model → Verdict
step_check m = refuse_if (ltb (against_step m) m.steps) (StepAgainstItself (against_step m))

-- "The value seen at a tick counts all effects at earlier ticks and none at that tick."
use Rattle.std.specs.Prelude.{ℕ, suc, ◌&&◌, cond, ltb}
use Rattle.laws.specs.Fold.{largest}
use Rattle.job.specs.Model.{Model}
use Rattle.validity.specs.Ticks.{effect_tick, gives}

-- one more than the tick of effect e, where it gives the fact that value before tick t; else 0
unfoldable pub given_at : Model → (ℕ → ℕ) → ℕ → ℕ → ℕ → ℕ → ℕ
given_at m x fact value t e = cond (gives m e fact value && ltb (effect_tick m x e) t) (suc (effect_tick m x e)) 0

-- one more than the latest tick before t at which an effect gives the fact that value; 0 for none
unfoldable pub last_given : Model → (ℕ → ℕ) → ℕ → ℕ → ℕ → ℕ
last_given m x fact value t = largest m.effects (given_at m x fact value t)

-- the later of the last 1 and the last 0, else the initial value. Where opposing effects tie at the latest earlier tick, which only
-- schedules do that 7 or 10 refuse, the papers leave the value free: here it is the initial one
unfoldable pub seen : Model → (ℕ → ℕ) → ℕ → ℕ → ℕ
seen m x fact t =
    cond (ltb (last_given m x fact 0 t) (last_given m x fact 1 t)) 1
    (cond (ltb (last_given m x fact 1 t) (last_given m x fact 0 t)) 0 (m.initial fact))

-- a tick after all effects
unfoldable pub after_all : Model → (ℕ → ℕ) → ℕ
after_all m x = largest m.effects (λ e. suc (effect_tick m x e))

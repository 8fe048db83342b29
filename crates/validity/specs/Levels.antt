-- Levels: the rises and falls of a level before a tick, the rule of "At each tick, the level from earlier ticks", and when a need is met.
use Rattle.std.specs.Prelude.{ℕ, suc, ◌+◌, ◌-◌, Bool, ◌&&◌, ◌||◌, not, cond, eqb, leb, ltb}
use Rattle.laws.specs.Fold.{largest, sum}
use Rattle.little_endian.specs.Bytes.{sign_bias}
use Rattle.job.specs.Model.{Model}
use Rattle.validity.specs.Ticks.{use_tick, need_tick}

-- a use raises its level by this much, or lowers it by this much; the other is 0
abbrev pub rise : Model → ℕ → ℕ
rise m u = m.use_amount u - sign_bias

abbrev pub fall : Model → ℕ → ℕ
fall m u = sign_bias - m.use_amount u

-- whether a use is of the level and before tick t
abbrev pub used_by : Model → (ℕ → ℕ) → ℕ → ℕ → ℕ → Bool
used_by m x level t u = eqb (m.use_level u) level && ltb (use_tick m x u) t

-- all rises, and all falls, of a level before tick t
unfoldable pub rises_before : Model → (ℕ → ℕ) → ℕ → ℕ → ℕ
rises_before m x level t = sum m.uses (λ u. cond (used_by m x level t u) (rise m u) 0)

unfoldable pub falls_before : Model → (ℕ → ℕ) → ℕ → ℕ → ℕ
falls_before m x level t = sum m.uses (λ u. cond (used_by m x level t u) (fall m u) 0)

-- the level from earlier ticks plus all that tick's falls is at least the least
abbrev pub above_least : Model → (ℕ → ℕ) → ℕ → ℕ → Bool
above_least m x level t =
    leb (m.level_least level + falls_before m x level (suc t)) (m.level_initial level + rises_before m x level t)

-- that level plus all that tick's rises is at most the most
abbrev pub below_most : Model → (ℕ → ℕ) → ℕ → ℕ → Bool
below_most m x level t =
    leb (m.level_initial level + rises_before m x level (suc t)) (m.level_most level + falls_before m x level t)

-- whether a use counts against need n: it is of the need's level and at an earlier tick, or another step's at the need's tick
abbrev pub counts_against : Model → (ℕ → ℕ) → ℕ → ℕ → Bool
counts_against m x n u =
    eqb (m.use_level u) (m.need_level n)
    && (ltb (use_tick m x u) (need_tick m x n) || (eqb (use_tick m x u) (need_tick m x n) && not (eqb (m.use_step u) (m.need_step n))))

-- all falls that count against it
unfoldable pub falls_against : Model → (ℕ → ℕ) → ℕ → ℕ
falls_against m x n = sum m.uses (λ u. cond (counts_against m x n u) (fall m u) 0)

-- what the level of need n has risen to before its tick
abbrev pub risen_to : Model → (ℕ → ℕ) → ℕ → ℕ
risen_to m x n = m.level_initial (m.need_level n) + rises_before m x (m.need_level n) (need_tick m x n)

-- refusal 21: "A need is met if the level from earlier ticks, plus all other steps' falls at its tick, reaches its least"
unfoldable pub unmet : Model → (ℕ → ℕ) → ℕ → Bool
unmet m x n = ltb (risen_to m x n) (m.need_least n + falls_against m x n)

-- a tick after all uses
unfoldable pub after_uses : Model → (ℕ → ℕ) → ℕ
after_uses m x = largest m.uses (λ u. suc (use_tick m x u))

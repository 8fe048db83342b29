-- Orders from a sound job, rules 1 to 4: each rule's gap from step i to step k by itself, then the largest. A gap is stored plus
-- `gap_bias`, and 0 stands for none; x is the schedule by whose ticks the orders are found.
use Rattle.std.specs.Prelude.{ℕ, ◌+◌, ◌-◌, max, ◌&&◌, not, cond, ltb, eqb}
use Rattle.laws.specs.Fold.{largest}
use Rattle.job.specs.Model.{Model}
use Rattle.validity.specs.Ticks.{effect_tick, first_tick, last_tick, use_tick, need_tick, opposes}
use Rattle.order_file.specs.Contents.{initial_state, gap_bias}
use Rattle.orders.specs.Links.{condition_link}

-- "Point p strictly before point q" gives gap p − q + 1; nothing is cut off, since q is at most a step's length or a timed fact's tick,
-- and these at most gap_bias
abbrev pub strictly : ℕ → ℕ → ℕ
strictly p q = p + gap_bias + 1 - q

-- rule 1: the link of condition c orders its effect's step i before the condition's step k
unfoldable pub support_order : Model → (ℕ → ℕ) → ℕ → ℕ → ℕ → ℕ
support_order m x i k c =
    cond
    (not (eqb (condition_link m x c) initial_state) && eqb (m.effect_step (condition_link m x c)) i && eqb (m.condition_step c) k)
    (strictly (m.effect_at (condition_link m x c)) (m.condition_from c))
    0

unfoldable pub support_gap : Model → (ℕ → ℕ) → ℕ → ℕ → ℕ
support_gap m x i k = largest m.conditions (support_order m x i k)

-- rule 2: opposing effects e of step i and f of step k, as they lie
unfoldable pub opposing_order : Model → (ℕ → ℕ) → ℕ → ℕ → ℕ → ℕ → ℕ
opposing_order m x i k e f =
    cond
    (eqb (m.effect_step e) i && eqb (m.effect_step f) k && opposes m e (m.effect_fact f) (m.effect_value f)
    && ltb (effect_tick m x e) (effect_tick m x f))
    (strictly (m.effect_at e) (m.effect_at f))
    0

unfoldable pub opposing_gap : Model → (ℕ → ℕ) → ℕ → ℕ → ℕ
opposing_gap m x i k = largest m.effects (λ e. largest m.effects (opposing_order m x i k e))

-- rule 3: an opposing effect e of step i before the first tick of condition c of step k
unfoldable pub before_order : Model → (ℕ → ℕ) → ℕ → ℕ → ℕ → ℕ → ℕ
before_order m x i k c e =
    cond
    (eqb (m.effect_step e) i && eqb (m.condition_step c) k && opposes m e (m.condition_fact c) (m.condition_value c)
    && ltb (effect_tick m x e) (first_tick m x c))
    (strictly (m.effect_at e) (m.condition_from c))
    0

-- rule 3: the last tick of condition c of step i before an opposing effect e of step k
unfoldable pub after_order : Model → (ℕ → ℕ) → ℕ → ℕ → ℕ → ℕ → ℕ
after_order m x i k c e =
    cond
    (eqb (m.condition_step c) i && eqb (m.effect_step e) k && opposes m e (m.condition_fact c) (m.condition_value c)
    && ltb (last_tick m x c) (effect_tick m x e))
    (strictly (m.condition_to c) (m.effect_at e))
    0

unfoldable pub condition_gap : Model → (ℕ → ℕ) → ℕ → ℕ → ℕ
condition_gap m x i k =
    largest m.conditions
    (λ c. max (largest m.effects (before_order m x i k c)) (largest m.effects (after_order m x i k c)))

-- rule 4: uses u of step i and v of step k of one level at different ticks, as they lie
unfoldable pub level_order : Model → (ℕ → ℕ) → ℕ → ℕ → ℕ → ℕ → ℕ
level_order m x i k u v =
    cond
    (eqb (m.use_step u) i && eqb (m.use_step v) k && eqb (m.use_level u) (m.use_level v)
    && ltb (use_tick m x u) (use_tick m x v))
    (strictly (m.use_at u) (m.use_at v))
    0

unfoldable pub level_gap : Model → (ℕ → ℕ) → ℕ → ℕ → ℕ
level_gap m x i k = largest m.uses (λ u. largest m.uses (level_order m x i k u))

-- "A need and another step's use of that level at different ticks are ordered as they lie", which counts with rule 4: need n of step i
-- before use u of step k
unfoldable pub need_order : Model → (ℕ → ℕ) → ℕ → ℕ → ℕ → ℕ → ℕ
need_order m x i k n u =
    cond
    (eqb (m.need_step n) i && eqb (m.use_step u) k && eqb (m.use_level u) (m.need_level n)
    && ltb (need_tick m x n) (use_tick m x u))
    (strictly (m.need_at n) (m.use_at u))
    0

-- use u of step i before need n of step k
unfoldable pub use_order : Model → (ℕ → ℕ) → ℕ → ℕ → ℕ → ℕ → ℕ
use_order m x i k n u =
    cond
    (eqb (m.use_step u) i && eqb (m.need_step n) k && eqb (m.use_level u) (m.need_level n)
    && ltb (use_tick m x u) (need_tick m x n))
    (strictly (m.use_at u) (m.need_at n))
    0

unfoldable pub need_gap : Model → (ℕ → ℕ) → ℕ → ℕ → ℕ
need_gap m x i k =
    largest m.needs (λ n. max (largest m.uses (need_order m x i k n)) (largest m.uses (use_order m x i k n)))

-- "Of several orders from one step to the same other, the largest gap stays"; "Only different steps are ordered"
unfoldable pub gap_of : Model → (ℕ → ℕ) → ℕ → ℕ → ℕ
gap_of m x i k =
    cond (eqb i k) 0
    (max (max (max (max (support_gap m x i k) (opposing_gap m x i k)) (condition_gap m x i k)) (level_gap m x i k)) (need_gap m x i k))

-- Words that one loop puts into a list, and the list that five such loops leave.
use Prim.Native.Nat.{ℕ, ◌+◌, ◌-◌, ◌<◌}
use mathlib.Core.Path.{◌≡◌, ap, subst, ◌∙◌}
use mathlib.Core.List.{List}
use native.Mathlib.Decide.{dec_lt}
use native.Mathlib.Nat.{zero-add}
use native.Mathlib.Omega.{arith}
use lib.ListN.{get_or}
use borrow.Author.Tests.{lt-ltb}
use Rattle.job.specs.Model.{Model}
use Rattle.job.specs.Clocked.{clocked}
use Rattle.point_words.specs.Words.{effect_word}
use Rattle.points.specs.Words.{PutBy, WordsPut, ConditionsPut, EffectsPut, TimedPut, UsesPut, NeedsPut, WordsListed}
use Rattle.timeline.specs.Words.{tick_span}
use Rattle.validity.specs.Ticks.{effect_tick}

-- what the calls of a closure returned are the words of records, by what is known of each call
pub words_put :
    {returns : ℕ → ℕ → Type 0} {from at n : ℕ} {before list : List ℕ} → PutBy returns from n before list → (word tick : ℕ → ℕ) → from ≡ at
    → ((k v : ℕ) → k < n → returns k v → (v ≡ word k) × (tick k < tick_span)) → WordsPut at n word tick before list
words_put {from = from} {n = n} {before = before} {list = list} put word tick e known =
    let so : WordsPut from n word tick before list =
    record { size = put.size; each = λ k h. known k (get_or list (from + k) 0) h (put.each k h); kept = put.kept }
    in
    rw e at so

-- Conditions, then effects, then timed facts, then uses, then needs: each loop leaves alone what those before it put.
module _ (m : Model) (x : ℕ → ℕ) {list₀ list₁ list₂ list₃ list₄ list₅ : List ℕ} (conditions : ConditionsPut m x list₀ list₁)
    (effects : EffectsPut m x list₁ list₂) (timed : TimedPut m x list₂ list₃) (uses : UsesPut (clocked m) x list₃ list₄)
    (needs : NeedsPut (clocked m) x list₄ list₅) where
  -- what stands before the uses stays from then on
  later_kept : (p : ℕ) → p < m.conditions + (m.effects + m.timed) → get_or list₅ p 0 ≡ get_or list₃ p 0
  later_kept p h = needs.kept p (omega arith) ∙ uses.kept p h

  own_listed :
      (e : ℕ) → e < m.effects
      → (get_or list₅ (m.conditions + e) 0 ≡ effect_word (clocked m) x e) × (effect_tick (clocked m) x e < tick_span)
  own_listed e h =
      let put = effects.each e h in
      rw (lt-ltb e m.effects h)
      (later_kept (m.conditions + e) (omega arith) ∙ timed.kept (m.conditions + e) (omega arith) ∙ put.0, put.1)

  timed_listed :
      (j : ℕ) → j < m.timed
      → (get_or list₅ (m.conditions + (m.effects + j)) 0 ≡ effect_word (clocked m) x (m.effects + j))
      × (effect_tick (clocked m) x (m.effects + j) < tick_span)
  timed_listed j h =
      let put = timed.each j h in
      let at : m.conditions + (m.effects + j) ≡ m.conditions + m.effects + j = omega arith in
      (later_kept (m.conditions + (m.effects + j)) (omega arith) ∙ ap (λ p. get_or list₃ p 0) at ∙ put.0, put.1)

  pub words_listed : WordsListed (clocked m) x list₅
  words_listed =
      record {
        conditions = λ c h.
            let put = rw zero-add at (conditions.each c h) in
            (later_kept c (omega arith) ∙ timed.kept c (omega arith) ∙ effects.kept c h ∙ put.0, put.1);
        effects = λ e h.
            elim (dec_lt e m.effects) [
              | yes l ↦ own_listed e l
              | no l ↦
                  subst (λ k. (get_or list₅ (m.conditions + k) 0 ≡ effect_word (clocked m) x k) × (effect_tick (clocked m) x k < tick_span))
                  (let back : m.effects + (e - m.effects) ≡ e = omega arith in back)
                  (timed_listed (e - m.effects) (omega arith))
            ];
        uses = λ u h. let put = uses.each u h in (needs.kept (m.conditions + (m.effects + m.timed) + u) (omega arith) ∙ put.0, put.1);
        needs = λ n h. needs.each n h;
      }

-- The words of each table stand behind those of the last, and stay.
use Prim.Native.Nat.{◌+◌}
use mathlib.Core.Path.{◌∙◌}
use native.Mathlib.Omega.{arith}
use borrow.Author.Rules.{rules}
use Rattle.job.specs.Clocked.{clocked}
use Rattle.job.specs.Model.{view}
use Rattle.point_words.specs.Words.{condition_word, effect_word, use_word, need_word}
use Rattle.validity.specs.Ticks.{schedule_of, first_tick, effect_tick, use_tick, need_tick}
use Rattle.points.specs.Words.{ConditionsPut, EffectsPut, TimedPut, UsesPut, NeedsPut}
use Rattle.points.proofs.Putting.{words_put, words_listed}
use Rattle.points.proofs.words.put_words.Goals as goal

pub returns : goal.returns
returns c =
    let a = c.args in
    let m = view a.job.head a.job.bytes.now in
    let x = schedule_of a.starts.now in
    let conditions : ConditionsPut m x a.points.now c.put_words_of.new.points =
    words_put c.put_words_of.ensures (condition_word m x) (first_tick m x) (omega arith) (λ k v h r. search rules)
    in
    let effects : EffectsPut m x c.put_words_of.new.points c.put_words_of-2.new.points =
    words_put c.put_words_of-2.ensures (effect_word m x) (effect_tick m x) (omega arith) (λ k v h r. search rules)
    in
    let timed : TimedPut m x c.put_words_of-2.new.points c.put_words_of-3.new.points =
    words_put c.put_words_of-3.ensures (λ j. effect_word (clocked m) x (m.effects + j)) (λ j. effect_tick (clocked m) x (m.effects + j))
    (omega arith) (λ k v h r. search rules)
    in
    let uses : UsesPut (clocked m) x c.put_words_of-3.new.points c.put_words_of-4.new.points =
    words_put c.put_words_of-4.ensures (use_word m x) (use_tick m x) (omega arith) (λ k v h r. search rules)
    in
    let needs : NeedsPut (clocked m) x c.put_words_of-4.new.points c.put_words_of-5.new.points =
    words_put c.put_words_of-5.ensures (need_word m x) (need_tick m x) (omega arith) (λ k v h r. search rules)
    in
    (words_listed m x conditions effects timed uses needs, needs.size ∙ uses.size ∙ timed.size ∙ effects.size ∙ conditions.size)

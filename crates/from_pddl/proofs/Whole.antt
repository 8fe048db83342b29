-- The answer to both texts: a refusal of the actions, or what the plan is answered.
use Prim.Native.Nat.{ℕ}
use mathlib.Core.Path.{◌≡◌, refl, sym, ap, ◌∙◌}
use mathlib.Core.List.{List}
use native.Mathlib.Omega.{arith}
use borrow.Author.Tests.{eq-eqb, ne_eqb}
use lib.ListN.{length, take}
use lib.Seq.{length-take-le}
use Rattle.std.specs.Prelude.{Err}
use Rattle.grammar.specs.Reading.{plan_reading}
use Rattle.notes.specs.Notes.{items_in}
use Rattle.texts_answer.specs.Answer.{TextsAnswer}
use Rattle.texts_answer.specs.declared.TextsRefusal.TheVariants.{ActionsOutside, ActionsTooDeep}
use Rattle.texts_answer.specs.FromTexts.{actions_read, texts_answer, answer_to, bytes_of, written, buffer_after}
use Rattle.texts_answer.specs.Promise.{TextsPromise}
use Rattle.texts_answer.proofs.Promised.{texts_promise}
use Rattle.from_pddl.specs.declared.actions.Actions.{Actions}
use Rattle.from_pddl.specs.Understood.{met_by, Understood}
use Rattle.from_pddl.specs.Answered.{Answered}

module _ (text plan out : List ℕ) where
  -- an answer of the definition, with the buffer that goes with it
  promised :
      (a : TextsAnswer) (after : List ℕ) → a ≡ answer_to text plan (length out)
      → after ≡ written a (bytes_of (actions_read text) (plan_reading plan)) out → TextsPromise text plan out after a
  unfolding buffer_after
  promised a after e f =
      texts_promise text plan out after a e (f ∙ ap (λ b. written b (bytes_of (actions_read text) (plan_reading plan)) out) e)

  module _ (said numbers index : List ℕ) (r : Actions) (u : Understood text said numbers index r) where
    pub actions_length : length (take r.count said) ≡ r.count
    actions_length = length-take-le r.count said (omega (arith, u.few, u.size))

    pub too_deep : (line : ℕ) → met_by r ≡ 19 → line ≡ r.line → TextsPromise text plan out out (Err (ActionsTooDeep line))
    unfolding answer_to texts_answer written
    too_deep line z e =
        let refuses = (u.refuses (λ y. omega (arith, y, z))).1 in
        promised (Err (ActionsTooDeep line)) out (sym (ap (λ o. texts_answer o (plan_reading plan) (length out)) refuses ∙ rw (eq-eqb (met_by r) 19 z, e))) refl

    pub outside :
        (line : ℕ) → (met_by r ≡ 19 → ⊥) → (met_by r ≡ 0 → ⊥) → line ≡ r.line → TextsPromise text plan out out (Err (ActionsOutside line))
    unfolding answer_to texts_answer written
    outside line y z e =
        promised (Err (ActionsOutside line)) out
        (sym (ap (λ o. texts_answer o (plan_reading plan) (length out)) (u.refuses z).1 ∙ rw (ne_eqb (met_by r) 19 y, e)))
        refl

    pub answered :
        {a : TextsAnswer} {after : List ℕ} → met_by r ≡ 0 → Answered (items_in text (take r.count said)) plan out a after
        → TextsPromise text plan out after a
    unfolding answer_to texts_answer
    answered {a} {after} z p =
        promised a after (p.answer ∙ sym (ap (λ o. texts_answer o (plan_reading plan) (length out)) (u.reads z)))
        (p.buffer ∙ sym (ap (λ o. written a (bytes_of o (plan_reading plan)) out) (u.reads z)))

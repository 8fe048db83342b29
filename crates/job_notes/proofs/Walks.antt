-- Along the notes of an action, and along all notes: what they bring.
use Prim.Native.Nat.{ℕ}
use mathlib.Core.Path.{◌≡◌, refl, ap, ap₂, ◌∙◌}
use mathlib.Core.Bool.{true, false}
use mathlib.Core.List.{List, [], ◌∷◌, ◌++◌}
use mathlib.Core.Logic.{⊎_elim}
use native.Mathlib.Nat.{not-suc-le-zero}
use Rattle.laws.proofs.Search.{either, contrary}
use Rattle.grammar.specs.Said.{Said, name, number, Item}
use Rattle.grammar.specs.Tree.{Word}
use Rattle.notes.specs.Notes.{item_in, items_in}
use Rattle.supplied.specs.Names.{Kind, facts, levels}
use Rattle.supplied.specs.Plan.{number_in, leading}
use Rattle.supplied.specs.Records.{in_action, body, conditions_in, effects_in, uses_in, goals_in}
use Rattle.job_notes.specs.Tables.{leading_noted, in_action_noted, conditions_noted, effects_noted, use_noted, uses_noted, goals_noted}
use Rattle.job_notes.proofs.Fitting.{Matched, matched_first, matched_rest}
use Rattle.job_notes.proofs.Roles.{number_noted_lem, in_action_lem, condition_noted_lem, effect_noted_lem, use_noted_lem, goal_noted_lem}

-- what does not belong to an action is no number
outside : (s : Said) → in_action s ≡ false → number_in s ≡ 0
unfolding in_action number_in
outside (number n) e = contrary refl e
outside (name r w) e = refl

leading_body : (is : List Item) → leading (body is) ≡ leading is
unfolding leading body
leading_body [] = refl
leading_body (i ∷ is) =
    ⊎_elim
    (λ (q : in_action i.said ≡ true). rw q refl)
    (λ (q : in_action i.said ≡ false). rw (q, outside i.said q) refl)
    (either (in_action i.said))

pub leading_noted_lem : (text ws : List ℕ) → leading (items_in text ws) ≡ leading_noted ws
unfolding leading leading_noted item_in
leading_noted_lem text [] = refl
leading_noted_lem text (w ∷ ws) = number_noted_lem text w

module _ (text : List ℕ) (names : Kind → List Word) where
  module _ (s d : ℕ) where
    pub conditions_noted_lem :
        (ws ns : List ℕ) → Matched text names ws ns → conditions_in (names facts) s d (body (items_in text ws)) ≡ conditions_noted s d ws ns
    unfolding body item_in conditions_in conditions_noted
    conditions_noted_lem [] ns m = refl
    conditions_noted_lem (w ∷ ws) [] m = absurd (not-suc-le-zero m.enough)
    conditions_noted_lem (w ∷ ws) (n ∷ ns) m =
        let f = matched_first text names m in
        ⊎_elim
        (λ (q : in_action_noted w ≡ true).
        rw (in_action_lem text names w n f, q)
        (ap₂ ◌++◌ (condition_noted_lem text names s d w n f) (conditions_noted_lem ws ns (matched_rest text names m))))
        (λ (q : in_action_noted w ≡ false). rw (in_action_lem text names w n f, q) refl)
        (either (in_action_noted w))

    pub effects_noted_lem :
        (ws ns : List ℕ) → Matched text names ws ns → effects_in (names facts) s d (body (items_in text ws)) ≡ effects_noted s d ws ns
    unfolding body item_in effects_in effects_noted
    effects_noted_lem [] ns m = refl
    effects_noted_lem (w ∷ ws) [] m = absurd (not-suc-le-zero m.enough)
    effects_noted_lem (w ∷ ws) (n ∷ ns) m =
        let f = matched_first text names m in
        ⊎_elim
        (λ (q : in_action_noted w ≡ true).
        rw (in_action_lem text names w n f, q) (ap₂ ◌++◌ (effect_noted_lem text names s d w n f) (effects_noted_lem ws ns (matched_rest text names m))))
        (λ (q : in_action_noted w ≡ false). rw (in_action_lem text names w n f, q) refl)
        (either (in_action_noted w))

    pub uses_noted_lem : (ws ns : List ℕ) → Matched text names ws ns → uses_in (names levels) s d (body (items_in text ws)) ≡ uses_noted s d ws ns
    unfolding body item_in uses_in uses_noted
    uses_noted_lem [] ns m = refl
    uses_noted_lem (w ∷ ws) [] m = absurd (not-suc-le-zero m.enough)
    uses_noted_lem (w ∷ ws) (n ∷ ns) m =
        let f = matched_first text names m in
        let a = leading_body (items_in text ws) ∙ leading_noted_lem text ws in
        let u = use_noted_lem text names s d (leading (body (items_in text ws))) w n f ∙ ap (use_noted s d w n) a in
        ⊎_elim
        (λ (q : in_action_noted w ≡ true).
        rw (in_action_lem text names w n f, q) (ap₂ ◌++◌ u (uses_noted_lem ws ns (matched_rest text names m))))
        (λ (q : in_action_noted w ≡ false). rw (in_action_lem text names w n f, q) refl)
        (either (in_action_noted w))

  pub goals_noted_lem : (ws ns : List ℕ) → Matched text names ws ns → goals_in (names facts) (items_in text ws) ≡ goals_noted ws ns
  unfolding item_in goals_in goals_noted
  goals_noted_lem [] ns m = refl
  goals_noted_lem (w ∷ ws) [] m = absurd (not-suc-le-zero m.enough)
  goals_noted_lem (w ∷ ws) (n ∷ ns) m =
      ap₂ ◌++◌ (goal_noted_lem text names w n (matched_first text names m)) (goals_noted_lem ws ns (matched_rest text names m))

-- What a note says and what its role's number says are the same, role by role.
use Prim.Native.Nat.{ℕ}
use mathlib.Core.Path.{◌≡◌, refl, sym, subst}
use mathlib.Core.List.{List}
use native.Mathlib.Decide.{ℕ_discrete}
use borrow.Author.Tests.{eq-eqb, ne_eqb}
use Rattle.grammar.specs.Tree.{Word}
use Rattle.notes.specs.Notes.{role_in, role_of, said_in}
use Rattle.notes.proofs.Notes.{by_role}
use Rattle.supplied.specs.Names.{Kind, facts, levels, kind_of}
use Rattle.supplied.specs.Plan.{number_in}
use Rattle.supplied.specs.Records.{in_action, condition_at, condition_in, effect_in, use_in, goal_in}
use Rattle.job_notes.specs.Tables.{number_noted, in_action_noted, condition_noted, effect_noted, use_noted, goal_noted}
use Rattle.job_notes.proofs.Fitting.{count, Fits}

-- the number that a note holds
pub number_noted_lem : (text : List ℕ) (w : ℕ) → number_in (said_in text w) ≡ number_noted w
unfolding said_in number_in number_noted
number_noted_lem text w =
    elim (ℕ_discrete (role_in w) 0) [
      | yes e ↦ rw (eq-eqb (role_in w) 0 e) refl
      | no f ↦ rw (ne_eqb (role_in w) 0 f) refl
    ]

module _ (text : List ℕ) (names : Kind → List Word) where
  module _ (w n : ℕ) (fits : Fits text names w n) (P : ℕ → Type 0) where
    abbrev Q : ℕ → Type 0
    Q c = role_in w ≡ c → P (count text names w)

    -- what holds with the number of a name, whatever its role, holds with the number beside the note
    by_note :
        (role_in w ≡ 0 → P n) → Q 1 → Q 2 → Q 3 → Q 4 → Q 5 → Q 6 → Q 7 → Q 8 → Q 9 → Q 10 → Q 11 → Q 12 → Q 13 → Q 14 → Q 15
        → Q 16 → Q 17 → Q 18 → Q 19 → Q 20 → Q 21 → P n
    by_note z a b c d e f g h i j k l m n' o p q r s t u =
        elim (ℕ_discrete (role_in w) 0) [
          | yes e ↦ z e
          | no x ↦
              subst P (sym (fits.counted x))
              (by_role Q (λ e. absurd (x e)) a b c d e f g h i j k l m n' o p q r s t u (role_in w) fits.known refl)
        ]

  pub in_action_lem : (w n : ℕ) → Fits text names w n → in_action (said_in text w) ≡ in_action_noted w
  unfolding said_in role_of in_action in_action_noted
  in_action_lem w n fits =
      by_note w n fits (λ m. in_action (said_in text w) ≡ in_action_noted w)
      (λ e. rw e refl) (λ e. rw e refl) (λ e. rw e refl) (λ e. rw e refl) (λ e. rw e refl) (λ e. rw e refl) (λ e. rw e refl) (λ e. rw e refl)
      (λ e. rw e refl) (λ e. rw e refl) (λ e. rw e refl) (λ e. rw e refl) (λ e. rw e refl) (λ e. rw e refl) (λ e. rw e refl) (λ e. rw e refl)
      (λ e. rw e refl) (λ e. rw e refl) (λ e. rw e refl) (λ e. rw e refl) (λ e. rw e refl) (λ e. rw e refl)

  pub condition_noted_lem : (s d : ℕ) (w n : ℕ) → Fits text names w n → condition_in (names facts) s d (said_in text w) ≡ condition_noted s d w n
  unfolding said_in role_of kind_of condition_at condition_in condition_noted
  condition_noted_lem s d w n fits =
      by_note w n fits (λ m. condition_in (names facts) s d (said_in text w) ≡ condition_noted s d w m)
      (λ e. rw e refl) (λ e. rw e refl) (λ e. rw e refl) (λ e. rw e refl) (λ e. rw e refl) (λ e. rw e refl) (λ e. rw e refl) (λ e. rw e refl)
      (λ e. rw e refl) (λ e. rw e refl) (λ e. rw e refl) (λ e. rw e refl) (λ e. rw e refl) (λ e. rw e refl) (λ e. rw e refl) (λ e. rw e refl)
      (λ e. rw e refl) (λ e. rw e refl) (λ e. rw e refl) (λ e. rw e refl) (λ e. rw e refl) (λ e. rw e refl)

  pub effect_noted_lem : (s d : ℕ) (w n : ℕ) → Fits text names w n → effect_in (names facts) s d (said_in text w) ≡ effect_noted s d w n
  unfolding said_in role_of kind_of effect_in effect_noted
  effect_noted_lem s d w n fits =
      by_note w n fits (λ m. effect_in (names facts) s d (said_in text w) ≡ effect_noted s d w m)
      (λ e. rw e refl) (λ e. rw e refl) (λ e. rw e refl) (λ e. rw e refl) (λ e. rw e refl) (λ e. rw e refl) (λ e. rw e refl) (λ e. rw e refl)
      (λ e. rw e refl) (λ e. rw e refl) (λ e. rw e refl) (λ e. rw e refl) (λ e. rw e refl) (λ e. rw e refl) (λ e. rw e refl) (λ e. rw e refl)
      (λ e. rw e refl) (λ e. rw e refl) (λ e. rw e refl) (λ e. rw e refl) (λ e. rw e refl) (λ e. rw e refl)

  pub use_noted_lem : (s d a : ℕ) (w n : ℕ) → Fits text names w n → use_in (names levels) s d (said_in text w) a ≡ use_noted s d w n a
  unfolding said_in role_of kind_of use_in use_noted
  use_noted_lem s d a w n fits =
      by_note w n fits (λ m. use_in (names levels) s d (said_in text w) a ≡ use_noted s d w m a)
      (λ e. rw e refl) (λ e. rw e refl) (λ e. rw e refl) (λ e. rw e refl) (λ e. rw e refl) (λ e. rw e refl) (λ e. rw e refl) (λ e. rw e refl)
      (λ e. rw e refl) (λ e. rw e refl) (λ e. rw e refl) (λ e. rw e refl) (λ e. rw e refl) (λ e. rw e refl) (λ e. rw e refl) (λ e. rw e refl)
      (λ e. rw e refl) (λ e. rw e refl) (λ e. rw e refl) (λ e. rw e refl) (λ e. rw e refl) (λ e. rw e refl)

  pub goal_noted_lem : (w n : ℕ) → Fits text names w n → goal_in (names facts) (said_in text w) ≡ goal_noted w n
  unfolding said_in role_of kind_of goal_in goal_noted
  goal_noted_lem w n fits =
      by_note w n fits (λ m. goal_in (names facts) (said_in text w) ≡ goal_noted w m)
      (λ e. rw e refl) (λ e. rw e refl) (λ e. rw e refl) (λ e. rw e refl) (λ e. rw e refl) (λ e. rw e refl) (λ e. rw e refl) (λ e. rw e refl)
      (λ e. rw e refl) (λ e. rw e refl) (λ e. rw e refl) (λ e. rw e refl) (λ e. rw e refl) (λ e. rw e refl) (λ e. rw e refl) (λ e. rw e refl)
      (λ e. rw e refl) (λ e. rw e refl) (λ e. rw e refl) (λ e. rw e refl) (λ e. rw e refl) (λ e. rw e refl)

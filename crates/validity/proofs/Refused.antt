-- A chain of checks names the first violation: its number is the rule's, its place the lowest record that violates it.
use Prim.Native.Nat.{ℕ, suc, ◌+◌, ◌≤◌, ◌<◌}
use mathlib.Core.Path.{◌≡◌, refl, sym, ap, subst, ◌∙◌}
use mathlib.Core.Bool.{true, false, cond}
use mathlib.Core.List.{List}
use mathlib.Core.Logic.{◌⊎◌, inl, inr, ⊎_elim}
use native.Mathlib.Decide.{ℕ_discrete, dec_le}
use native.Mathlib.Omega.{arith}
use lib.Dec.{ltb, eqb}
use Rattle.laws.specs.Search.{lowest}
use Rattle.std.specs.Prelude.{Err}
use Rattle.verdict.specs.Verdict.{Verdict, Accepted, number, place, refusal_number, refusal_place, ◌then◌, refuse_lowest}
use Rattle.verdict.proofs.Chain.{then_refused, then_accepted, then_either, refuse_either, lowest_outcome}
use Rattle.job.specs.Model.{Model}
use Rattle.job.specs.Clocked.{ClockedForm}
use Rattle.validity.specs.declared.Rule.{Rule}
use Rattle.validity.specs.declared.Rule.TheVariants.{FixedSteps, Effects, Conditions, Levels, Needs, Goals}
use Rattle.validity.specs.Ticks.{schedule_of}
use Rattle.validity.specs.Checks.{broken, count_under, refusal_of, rule_check, timing_check, count_check, starts_check}
use Rattle.validity.specs.Refused.{Kept, rule_number, turn, FirstViolation}
use Rattle.validity.proofs.Kept.{unbroken_keeps, broken_violates}

-- a rule refuses with its number at the record's place
numbered : (rule : Rule) (k : ℕ) → refusal_number (refusal_of rule k) ≡ rule_number rule
numbered FixedSteps k = refl
numbered Effects k = refl
numbered Conditions k = refl
numbered Levels k = refl
numbered Needs k = refl
numbered Goals k = refl

placed : (rule : Rule) (k : ℕ) → refusal_place (refusal_of rule k) ≡ k
placed FixedSteps k = refl
placed Effects k = refl
placed Conditions k = refl
placed Levels k = refl
placed Needs k = refl
placed Goals k = refl

-- from 9 to 13, or 21
pub from_nine : (rule : Rule) → (8 < rule_number rule) × ((rule_number rule ≤ 13) ⊎ (rule_number rule ≡ 21))
from_nine FixedSteps = (omega arith, inl (omega arith))
from_nine Effects = (omega arith, inl (omega arith))
from_nine Conditions = (omega arith, inl (omega arith))
from_nine Levels = (omega arith, inl (omega arith))
from_nine Needs = (omega arith, inr refl)
from_nine Goals = (omega arith, inl (omega arith))

-- the form check's 17 is no rule's
pub not_timed : (rule : Rule) → rule_number rule ≡ 17 → ⊥
not_timed rule e =
    ⊎_elim (λ (l : rule_number rule ≤ 13). omega arith) (λ (q : rule_number rule ≡ 21). omega arith) (from_nine rule).1

-- the rule of a number, so that no two rules share one
abbrev rule_of : ℕ → Rule
rule_of n =
    cond (eqb n 9) FixedSteps
    (cond (eqb n 10) Effects (cond (eqb n 11) Conditions (cond (eqb n 12) Levels (cond (eqb n 21) Needs Goals))))

rule_back : (rule : Rule) → rule_of (rule_number rule) ≡ rule
rule_back FixedSteps = refl
rule_back Effects = refl
rule_back Conditions = refl
rule_back Levels = refl
rule_back Needs = refl
rule_back Goals = refl

same_rule : (a b : Rule) → rule_number a ≡ rule_number b → a ≡ b
same_rule a b e = sym (rule_back a) ∙ ap rule_of e ∙ rule_back b

-- a rule's number by its turn, so that no two rules share one
abbrev number_at : ℕ → ℕ
number_at t = cond (ltb t 4) (9 + t) (cond (eqb t 4) 21 (8 + t))

number_back : (rule : Rule) → number_at (turn rule) ≡ rule_number rule
number_back FixedSteps = refl
number_back Effects = refl
number_back Conditions = refl
number_back Levels = refl
number_back Needs = refl
number_back Goals = refl

same_turn : (a b : Rule) → turn a ≡ turn b → a ≡ b
same_turn a b e = same_rule a b (sym (number_back a) ∙ ap number_at e ∙ number_back b)

-- how many rules there are
abbrev pub rules : ℕ
rules = 6

pub turn_below : (rule : Rule) → turn rule < rules
turn_below FixedSteps = omega arith
turn_below Effects = omega arith
turn_below Conditions = omega arith
turn_below Levels = omega arith
turn_below Needs = omega arith
turn_below Goals = omega arith

-- a verdict after the first n rules: it refuses by a rule or with 8 or less, it has passed those rules where it accepts, and where it
-- refuses by a rule it names the first violation
pub record CheckedTo (m : Model) (x : ℕ → ℕ) (n : ℕ) (v : Verdict) : Type 0 where
  pub only : (number v ≤ 8) ⊎ ((rule : Rule) × (number v ≡ rule_number rule))
  pub kept : number v ≡ 0 → (rule : Rule) → turn rule < n → Kept m x rule
  pub named : (rule : Rule) → number v ≡ rule_number rule → FirstViolation m x rule (place v)

module _ (m : Model) (x : ℕ → ℕ) where
  -- checks below every rule
  pub below_rules : (v : Verdict) → number v ≤ 8 → CheckedTo m x 0 v
  below_rules v l =
      record {
        only = inl l;
        kept = λ z rule h. absurd (omega arith);
        named = λ rule e. absurd (omega (arith, (from_nine rule).0));
      }

  -- a check and the next one
  pub then_checked : (n n' : ℕ) (v w : Verdict) → CheckedTo m x n v → (number v ≡ 0 → CheckedTo m x n' w) → CheckedTo m x n' (v then w)
  then_checked n n' v w a b =
      elim (ℕ_discrete (number v) 0) [
        | yes z ↦ subst (CheckedTo m x n') (then_accepted v w z) (b z)
        | no z ↦ subst (CheckedTo m x n') (then_refused v w z)
            (record { only = a.only; kept = λ e. absurd (z e); named = a.named })
      ]

  -- one rule, where those before it are kept
  pub rule_checked :
      ClockedForm m → (rule : Rule) (n : ℕ) → n ≡ turn rule → ((earlier : Rule) → turn earlier < n → Kept m x earlier)
      → CheckedTo m x (suc n) (rule_check m x rule)
  unfolding rule_check
  rule_checked w rule n q before =
      let before' : (earlier : Rule) → turn earlier < turn rule → Kept m x earlier = λ r h. before r (omega arith) in
      ⊎_elim
      (λ (a : (rule_check m x rule ≡ Accepted) × ((k : ℕ) → k < count_under m rule → broken m x rule k ≡ false)).
      subst (CheckedTo m x (suc n)) (sym a.0)
      (record {
        only = inl (omega arith);
        kept = λ _ other h.
            elim (dec_le n (turn other)) [
              | yes l ↦
                  subst (Kept m x) (same_turn rule other (omega arith)) (λ k g. unbroken_keeps m x w rule k g (a.1 k g))
              | no l ↦ before other (omega arith)
            ];
        named = λ other e. absurd (omega (arith, (from_nine other).0));
      }))
      (λ (a : (k : ℕ) × (k < count_under m rule) × (broken m x rule k ≡ true) × ((j : ℕ) → j < k → broken m x rule j ≡ false)
      × (rule_check m x rule ≡ Err (refusal_of rule k))).
      subst (CheckedTo m x (suc n)) (sym a.4)
      (record {
        only = inr (rule, numbered rule a.0);
        kept = λ z. absurd (omega (arith, numbered rule a.0, (from_nine rule).0));
        named = λ other e.
            subst (λ (r : Rule). FirstViolation m x r (refusal_place (refusal_of rule a.0))) (same_rule rule other (sym (numbered rule a.0) ∙ e))
            (subst (FirstViolation m x rule) (sym (placed rule a.0))
            (record {
              counted = a.1;
              violates = broken_violates m x w rule before' a.0 a.1 a.2;
              lower_keep = λ j h. unbroken_keeps m x w rule j (omega (arith, a.1)) (a.3 j h);
              earlier_kept = before';
            }));
      }))
      (lowest_outcome (count_under m rule) (broken m x rule) (refusal_of rule))

  -- one more rule
  next_checked :
      ClockedForm m → (rule : Rule) (n : ℕ) (v : Verdict) → n ≡ turn rule → CheckedTo m x n v
      → CheckedTo m x (suc n) (v then rule_check m x rule)
  next_checked w rule n v q a =
      then_checked n (suc n) v (rule_check m x rule) a (λ z. rule_checked w rule n q (λ r h. a.kept z r h))

  -- refusals 10 to 13 and 21
  pub timing_checked : ClockedForm m → Kept m x FixedSteps → CheckedTo m x rules (timing_check m x)
  unfolding timing_check
  timing_checked w fixed =
      next_checked w Goals 5 _ refl
      (next_checked w Needs 4 _ refl
      (next_checked w Levels 3 _ refl
      (next_checked w Conditions 2 _ refl
      (rule_checked w Effects 1 refl
      (λ r h. subst (Kept m x) (same_turn FixedSteps r (omega arith)) fixed)))))

-- refusals 8 to 13 and 21
pub starts_checked : (m : Model) → ClockedForm m → (starts : List ℕ) → CheckedTo m (schedule_of starts) rules (starts_check m starts)
unfolding starts_check count_check
starts_checked m w starts =
    let x : ℕ → ℕ = schedule_of starts in
    let counted = below_rules m x (count_check m starts) (refuse_either (λ (v : Verdict). number v ≤ 8) _ _ (omega arith) (omega arith)) in
    let first = next_checked m x w FixedSteps 0 _ refl counted in
    then_checked m x 1 rules _ (timing_check m x) first (λ z. timing_checked m x w (first.kept z FixedSteps (omega arith)))

-- and no refusal of the timing has a lower number
abbrev pub From : ℕ → Verdict → Type 0
From n v = (number v ≡ 0 → ⊥) → n ≤ number v

module _ (m : Model) (x : ℕ → ℕ) where
  rule_from : (rule : Rule) (n : ℕ) → n ≤ rule_number rule → From n (rule_check m x rule)
  unfolding rule_check refuse_lowest
  rule_from rule n h = refuse_either (From n) _ _ (λ _. omega (arith, numbered rule (lowest (count_under m rule) (broken m x rule)))) (λ z. absurd (z refl))

  pub timing_from : From 10 (timing_check m x)
  unfolding timing_check
  timing_from =
      then_either (From 10) _ _
      (then_either (From 10) _ _
      (then_either (From 10) _ _
      (then_either (From 10) _ _ (rule_from Effects 10 (omega arith)) (rule_from Conditions 10 (omega arith)))
      (rule_from Levels 10 (omega arith)))
      (rule_from Needs 10 (omega arith)))
      (rule_from Goals 10 (omega arith))

module _ (m : Model) (starts : List ℕ) where
  pub count_from : From 8 (count_check m starts)
  unfolding count_check
  count_from = refuse_either (From 8) _ _ (λ _. omega arith) (λ z. absurd (z refl))

  pub starts_from : (n : ℕ) → n ≤ 9 → From n (count_check m starts) → From n (starts_check m starts)
  unfolding starts_check
  starts_from n h counted =
      then_either (From n) _ _
      (then_either (From n) _ _ counted (rule_from m (schedule_of starts) FixedSteps n h))
      (λ z. omega (arith, timing_from m (schedule_of starts) z))

-- What the searches found, as the chain of checks has it, and what a timing without conflicts is.
use Prim.Native.Nat.{ℕ, ◌≤◌, ◌<◌}
use mathlib.Core.Path.{◌≡◌, refl, sym, ap, ◌∙◌}
use mathlib.Core.Bool.{Bool, true, false, cond}
use native.Mathlib.Omega.{arith}
use lib.Dec.{ltb}
use borrow.Author.Tests.{ltb-false}
use Rattle.std.specs.Prelude.{Option, Some, None, Err}
use Rattle.laws.specs.Search.{lowest, first_where}
use Rattle.laws.proofs.Search.{lowest_facts, none_is}
use Rattle.verdict.specs.declared.Refusal.{Refusal}
use Rattle.verdict.specs.Verdict.{Accepted, ◌then◌}
use Rattle.verdict.proofs.Chain.{err_then, ok_then, some_refused, none_refused}
use Rattle.job.specs.Model.{Model}
use Rattle.job.specs.Clocked.{ClockedForm}
use Rattle.validity.specs.declared.Rule.{Rule}
use Rattle.validity.specs.declared.Rule.TheVariants.{Effects, Conditions}
use Rattle.validity.specs.Checks.{conflicts, broken, count_under, refusal_of, rule_check, timing_check}
use Rattle.validity.proofs.Tested.{conflicts_none}
use Rattle.points.specs.Points.{OneValue}
use Rattle.points.proofs.Placed.{one_value_lem}
use Rattle.schedule.specs.Timed.{settled_check}

-- a search that finds none has passed them all
pub none_below : (n : ℕ) (p : ℕ → Bool) → None ≡ first_where n p → n ≡ lowest n p
unfolding first_where
none_below n p e = go (ltb (lowest n p) n) refl e
  where
    go : (b : Bool) → ltb (lowest n p) n ≡ b → None ≡ cond b (Some (lowest n p)) None → n ≡ lowest n p
    go true q e = absurd (none_some e)
      where
        none_some : {k : ℕ} → None ≡ Some k → ⊥
        none_some e = let z : ◌≡◌ {A = ℕ} 0 1 = cc in omega arith
    go false q e = let f = (lowest_facts p n).0 in let g = ltb-false (lowest n p) n q in omega arith

-- searches whose lowest is the same find the same
pub same_where : (n : ℕ) (p q : ℕ → Bool) → lowest n p ≡ lowest n q → first_where n p ≡ first_where n q
unfolding first_where
same_where n p q e = ap (λ k. cond (ltb k n) (Some k) None) e

module _ (m : Model) (x : ℕ → ℕ) where
  -- a rule refuses the lowest that was found to break it
  pub rule_refused : (rule : Rule) {k : ℕ} → Some k ≡ first_where (count_under m rule) (broken m x rule) → Err (refusal_of rule k) ≡ rule_check m x rule
  unfolding rule_check
  rule_refused rule e = some_refused (count_under m rule) (broken m x rule) (refusal_of rule) e

  pub rule_passed : (rule : Rule) → None ≡ first_where (count_under m rule) (broken m x rule) → Accepted ≡ rule_check m x rule
  unfolding rule_check
  rule_passed rule e = none_refused (count_under m rule) (broken m x rule) (refusal_of rule) e

  -- the same of a search that ended at the count
  pub rule_ended : (rule : Rule) → count_under m rule ≡ lowest (count_under m rule) (broken m x rule) → Accepted ≡ rule_check m x rule
  rule_ended rule e = rule_passed rule (none_is (broken m x rule) (count_under m rule) (count_under m rule) e (omega arith))

  -- a conflict of effects is refused, and without one a condition that fails
  pub conflict_refused : {r : Refusal} → Err r ≡ rule_check m x Effects → Err r ≡ timing_check m x
  unfolding timing_check
  conflict_refused e = err_then _ (err_then _ (err_then _ (err_then _ e)))

  pub condition_refused : {r : Refusal} → Accepted ≡ rule_check m x Effects → Err r ≡ rule_check m x Conditions → Err r ≡ timing_check m x
  unfolding timing_check
  condition_refused e f = err_then _ (err_then _ (err_then _ (ok_then e f)))

  -- without either, the other rules decide
  pub others_decide : Accepted ≡ rule_check m x Effects → Accepted ≡ rule_check m x Conditions → settled_check m x ≡ timing_check m x
  unfolding timing_check ◌then◌
  others_decide e f = rw (sym e, sym f) refl

  -- and no two effects give a fact different values at one tick
  pub none_conflict : ClockedForm m → m.effects ≡ lowest m.effects (conflicts m x) → OneValue m x
  none_conflict form found =
      one_value_lem x form
      (λ e f i j steps same tick.
      conflicts_none m x e f j ((lowest_facts (conflicts m x) m.effects).1 e (omega (arith, found))) steps same tick)

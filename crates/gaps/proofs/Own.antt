-- Between two steps the timed facts order nothing: rules 2 to 4 give the gaps of the steps' own points.
use Prim.Native.Nat.{ℕ, ◌<◌, max}
use mathlib.Core.Path.{◌≡◌, refl}
use mathlib.Core.List.{List}
use native.Mathlib.Omega.{arith}
use borrow.Author.Tests.{lt-ltb}
use Rattle.job.specs.Model.{Model}
use Rattle.job.specs.Clocked.{clocked}
use Rattle.job.proofs.Clocked.{clocked_form}
use Rattle.points.proofs.Placed.{valid_one_value}
use Rattle.orders.specs.Gaps.{support_gap, opposing_gap, condition_gap, level_order, level_gap, need_order, use_order, need_gap}
use Rattle.orders.proofs.Own.{own_opposing, own_condition}
use Rattle.gaps.specs.Table.{Fillable}
use Rattle.gaps.specs.Rules.{ValidPoints}

-- what is valid with the timed facts is so of the steps' effects
pub own_points :
    {m : Model} {x : ℕ → ℕ} {points begins links gaps : List ℕ} → Fillable m x points begins links gaps → ValidPoints m x points begins
own_points {m} w =
    record {
      form = w.form;
      known = w.known;
      one = λ e f h g.
          rw (lt-ltb e m.effects h, lt-ltb f m.effects g) at
          (valid_one_value (clocked_form m w.form) w.valid e f (omega arith) (omega arith));
      kept = λ c e h l. rw (lt-ltb e m.effects l) at (w.valid.condition_kept c e h (omega arith));
    }

module _ (m : Model) (x : ℕ → ℕ) where
  abbrev M : Model
  M = clocked m

  own_level : (i k : ℕ) → level_gap M x i k ≡ level_gap m x i k
  unfolding level_gap level_order
  own_level i k = refl

  own_need : (i k : ℕ) → need_gap M x i k ≡ need_gap m x i k
  unfolding need_gap need_order use_order
  own_need i k = refl

  -- all rules together
  pub own_gaps :
      (i k : ℕ) → i < m.steps → k < m.steps
      → max (max (max (max (support_gap M x i k) (opposing_gap m x i k)) (condition_gap m x i k)) (level_gap m x i k)) (need_gap m x i k)
      ≡ max (max (max (max (support_gap M x i k) (opposing_gap M x i k)) (condition_gap M x i k)) (level_gap M x i k)) (need_gap M x i k)
  own_gaps i k h l = rw (own_opposing m x i k h l, own_condition m x i k h l, own_level i k, own_need i k) refl

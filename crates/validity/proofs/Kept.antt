-- Each rule's test against what the rule asks of one record: it keeps the rule, or it violates it.
use Prim.Native.Nat.{ℕ, suc, ◌+◌, ◌<◌}
use mathlib.Core.Path.{◌≡◌, ap₂}
use mathlib.Core.Bool.{true, false, not, ◌&&◌}
use mathlib.Core.Logic.{inl, inr, ⊎_elim}
use native.Mathlib.Decide.{dec_le}
use native.Mathlib.Omega.{arith}
use borrow.Author.Tests.{ltb-true, leb-true, eqb-true, eqb-false, not-true, le-leb}
use lib.Dec.{leb, eqb}
use Rattle.laws.specs.Search.{any}
use Rattle.laws.proofs.Search.{contrary, and_both, or_out, any_elim}
use Rattle.job.specs.Model.{Model}
use Rattle.job.specs.Clocked.{ClockedForm}
use Rattle.validity.specs.declared.Rule.{Rule}
use Rattle.validity.specs.declared.Rule.TheVariants.{FixedSteps, Effects, Conditions, Levels, Needs, Goals}
use Rattle.validity.specs.Ticks.{effect_tick, first_tick, use_tick}
use Rattle.validity.specs.Seen.{seen, after_all}
use Rattle.validity.specs.Levels.{rises_before, falls_before, unmet}
use Rattle.validity.specs.Valid.{Valid}
use Rattle.validity.specs.Checks.{moved, meets, conflicts, breaks, condition_fails, passes, level_fails, undoes, late, goal_fails}
use Rattle.validity.specs.Checks.{broken, count_under}
use Rattle.validity.specs.Refused.{Keeps, Kept, Violates, turn}
use Rattle.validity.specs.Refused.{Moved, ConflictsWith, UnseenAt, OpposedBy, OutOfBounds, Unmet, LateAt}
use Rattle.validity.proofs.Tested.{opposes_out, moved_none, none_moved, conflicts_none, none_conflicts, breaks_none, low_everywhere}
use Rattle.validity.proofs.Tested.{high_everywhere, none_passes, unmet_none, none_unmet, condition_holds, condition_seen_lem}
use Rattle.validity.proofs.Tested.{none_condition_fails, goal_holds, goal_in_time_lem, undone, none_goal_fails}

-- a test of order that fails
above : (a b : ℕ) → (leb a b ≡ true → ⊥) → b < a
above a b h = elim (dec_le a b) [ yes l ↦ absurd (h (le-leb _ _ l)) | no l ↦ omega arith ]

module _ (m : Model) (x : ℕ → ℕ) where
  -- a sound timing is one that keeps every rule
  pub kept_valid : ((rule : Rule) → Kept m x rule) → Valid m x
  kept_valid kept =
      record {
        effects_apart = λ e f h g. kept Effects e h f g;
        condition_seen = λ c t h. (kept Conditions c h).seen_throughout t;
        condition_kept = λ c e h. (kept Conditions c h).unopposed e;
        level_low = λ l t h. (kept Levels l h).low t;
        level_high = λ l t h. (kept Levels l h).high t;
        need_met = kept Needs;
        goal_reached = λ g h. (kept Goals g h).reached;
        goal_in_time = λ g t h. (kept Goals g h).in_time t;
        fixed_kept = kept FixedSteps;
      }

  pub valid_kept : Valid m x → (rule : Rule) → Kept m x rule
  valid_kept v FixedSteps k h = v.fixed_kept k h
  valid_kept v Effects e h = λ f g. v.effects_apart e f h g
  valid_kept v Conditions c h = record { seen_throughout = λ t. v.condition_seen c t h; unopposed = λ e. v.condition_kept c e h }
  valid_kept v Levels l h = record { low = λ t. v.level_low l t h; high = λ t. v.level_high l t h }
  valid_kept v Needs n h = v.need_met n h
  valid_kept v Goals g h = record { reached = v.goal_reached g h; in_time = λ t. v.goal_in_time g t h }

  -- no record does both
  pub not_both : (rule : Rule) (k : ℕ) → Violates m x rule k → Keeps m x rule k → ⊥
  not_both FixedSteps k v h = v.other_start (h v.fixed)
  not_both Effects e v h =
      let c = v.1 in c.other_value (h v.0 c.known c.other_step c.same_fact c.same_tick)
  not_both Conditions c v h =
      ⊎_elim
      (λ (u : (t : ℕ) × UnseenAt m x c t). u.1.other_value (h.seen_throughout u.0 u.1.from_first u.1.to_last))
      (λ (u : (e : ℕ) × OpposedBy m x c e).
      let o = u.1 in o.other_value (h.unopposed u.0 o.known o.other_step o.same_fact o.from_first o.to_last))
      v
  not_both Levels l v h =
      ⊎_elim
      (λ (a : m.level_initial l + rises_before m x l v.0 < m.level_least l + falls_before m x l (suc v.0)). omega (arith, h.low v.0))
      (λ (a : m.level_most l + falls_before m x l v.0 < m.level_initial l + rises_before m x l (suc v.0)). omega (arith, h.high v.0))
      v.1
  not_both Needs n v h = omega arith
  not_both Goals g v h =
      ⊎_elim
      (λ (a : seen m x (m.goal_fact g) (after_all m x) ≡ m.goal_value g → ⊥). a h.reached)
      (λ (u : (t : ℕ) × LateAt m x g t). u.1.other_value (h.in_time u.0 u.1.deadline u.1.after))
      v

module _ (m : Model) (x : ℕ → ℕ) (w : ClockedForm m) where
  -- what a test does not name keeps the rule
  pub unbroken_keeps : (rule : Rule) (k : ℕ) → k < count_under m rule → broken m x rule k ≡ false → Keeps m x rule k
  unbroken_keeps FixedSteps k h n = moved_none m x k n
  unbroken_keeps Effects e h n = λ f g. conflicts_none m x e f g n
  unbroken_keeps Conditions c h n =
      record {
        seen_throughout = λ t. condition_seen_lem m x w c t h n;
        unopposed = λ e g. breaks_none m x c e g (condition_holds m x c n).1;
      }
  unbroken_keeps Levels l h n =
      record { low = λ t. low_everywhere m x l t (w.level_low l h) n; high = λ t. high_everywhere m x l t (w.level_high l h) n }
  unbroken_keeps Needs k h n = unmet_none m x k n
  unbroken_keeps Goals g h n =
      let b = goal_holds m x g n in record { reached = b.0; in_time = λ t. goal_in_time_lem m x w g t h b.1 }

  -- and what keeps it is not named
  pub keeps_unbroken :
      Kept m x Effects → (rule : Rule) (k : ℕ) → k < count_under m rule → Keeps m x rule k → broken m x rule k ≡ false
  keeps_unbroken a FixedSteps k h v = none_moved m x k v
  keeps_unbroken a Effects e h v = none_conflicts m x e v
  keeps_unbroken a Conditions c h v = none_condition_fails m x w c h v
  keeps_unbroken a Levels l h v = none_passes m x l v
  keeps_unbroken a Needs n h v = none_unmet m x n v
  keeps_unbroken a Goals g h v = none_goal_fails m x w a g h v

  -- what a test names violates the rule, where the rules before it are kept
  moved_violates : (k : ℕ) → moved m x k ≡ true → Moved m x k
  unfolding moved
  moved_violates k e =
      let b = and_both _ _ e in record { fixed = eqb-true _ _ b.0; other_start = eqb-false _ _ (not-true _ b.1) }

  conflicts_violates : (e : ℕ) → conflicts m x e ≡ true → (f : ℕ) × ConflictsWith m x e f
  unfolding conflicts meets
  conflicts_violates e h =
      let f = any_elim (meets m x e) m.effects h in
      let b = and_both _ _ f.2 in
      let a = and_both _ _ b.0 in
      let o = opposes_out m x e (m.effect_fact f.0) (m.effect_value f.0) a.1 in (
        f.0,
        record {
          known = f.1;
          other_step = eqb-false _ _ (not-true _ a.0);
          same_fact = o.0;
          same_tick = eqb-true _ _ b.1;
          other_value = o.1;
        },
      )

  breaks_violates : (c : ℕ) → any m.effects (breaks m x c) ≡ true → (e : ℕ) × OpposedBy m x c e
  unfolding breaks
  breaks_violates c h =
      let f = any_elim (breaks m x c) m.effects h in
      let d = and_both _ _ f.2 in
      let b = and_both _ _ d.0 in
      let a = and_both _ _ b.0 in
      let o = opposes_out m x f.0 (m.condition_fact c) (m.condition_value c) a.1 in (
        f.0,
        record {
          known = f.1;
          other_step = eqb-false _ _ (not-true _ a.0);
          same_fact = o.0;
          from_first = leb-true _ _ b.1;
          to_last = leb-true _ _ d.1;
          other_value = o.1;
        },
      )

  condition_violates : (c : ℕ) → c < m.conditions → condition_fails m x c ≡ true → Violates m x Conditions c
  unfolding condition_fails
  condition_violates c h e =
      ⊎_elim
      (λ (a : not (eqb (seen m x (m.condition_fact c) (first_tick m x c)) (m.condition_value c)) ≡ true).
      inl (
        first_tick m x c,
        record {
          from_first = omega arith;
          to_last = omega (arith, w.condition_span c h);
          other_value = eqb-false _ _ (not-true _ a);
        },
      ))
      (λ (a : any m.effects (breaks m x c) ≡ true). inr (breaks_violates c a))
      (or_out _ _ e)

  level_violates : (l : ℕ) → level_fails m x l ≡ true → (t : ℕ) × OutOfBounds m x l t
  unfolding level_fails passes
  level_violates l e =
      let f = any_elim (passes m x l) m.uses e in
      let t = use_tick m x f.0 in
      let b = and_both (eqb (m.use_level f.0) l) _ f.2 in (
        t,
        elim (dec_le (m.level_least l + falls_before m x l (suc t)) (m.level_initial l + rises_before m x l t)) [
          | yes a ↦ inr (above _ _ (λ c. contrary (ap₂ ◌&&◌ (le-leb _ _ a) c) (not-true _ b.1)))
          | no a ↦ inl (omega arith)
        ],
      )

  unmet_violates : (n : ℕ) → unmet m x n ≡ true → Unmet m x n
  unfolding unmet
  unmet_violates n e = ltb-true _ _ e

  late_violates : Kept m x Effects → (g : ℕ) → g < m.goals → late m x g ≡ true → (t : ℕ) × LateAt m x g t
  unfolding late undoes
  late_violates apart g h e =
      let b = and_both _ _ e in
      let d = eqb-false _ _ (not-true _ b.0) in
      ⊎_elim
      (λ (a : not (eqb (seen m x (m.goal_fact g) (suc (m.goal_deadline g))) (m.goal_value g)) ≡ true).
      (suc (m.goal_deadline g), record { deadline = d; after = omega arith; other_value = eqb-false _ _ (not-true _ a) }))
      (λ (a : any m.effects (undoes m x g) ≡ true).
      let f = any_elim (undoes m x g) m.effects a in
      let c = and_both _ _ f.2 in
      let l : m.goal_deadline g < effect_tick m x f.0 = ltb-true _ _ c.1 in
      (suc (effect_tick m x f.0), record { deadline = d; after = omega arith; other_value = undone m x w apart g f.0 h f.1 c.0 }))
      (or_out _ _ b.1)

  goal_violates : Kept m x Effects → (g : ℕ) → g < m.goals → goal_fails m x g ≡ true → Violates m x Goals g
  unfolding goal_fails
  goal_violates apart g h e =
      ⊎_elim
      (λ (a : not (eqb (seen m x (m.goal_fact g) (after_all m x)) (m.goal_value g)) ≡ true). inl (eqb-false _ _ (not-true _ a)))
      (λ (a : late m x g ≡ true). inr (late_violates apart g h a))
      (or_out _ _ e)

  pub broken_violates :
      (rule : Rule) → ((earlier : Rule) → turn earlier < turn rule → Kept m x earlier) → (k : ℕ) → k < count_under m rule
      → broken m x rule k ≡ true
      → Violates m x rule k
  broken_violates FixedSteps earlier k h e = moved_violates k e
  broken_violates Effects earlier k h e = conflicts_violates k e
  broken_violates Conditions earlier k h e = condition_violates k h e
  broken_violates Levels earlier k h e = level_violates k e
  broken_violates Needs earlier k h e = unmet_violates k e
  broken_violates Goals earlier k h e = goal_violates (earlier Effects (omega arith)) k h e

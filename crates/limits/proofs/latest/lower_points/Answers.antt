-- Each point in turn.
use Prim.Native.Nat.{◌≤◌}
use mathlib.Core.Path.{◌≡◌, refl}
use native.Mathlib.Omega.{arith}
use lib.ListN.{get_or}
use Rattle.timeline.specs.Words.{tick_at}
use Rattle.moves.specs.Moved.{Down}
use Rattle.moves.proofs.Moved.{down_same, down_on, moved_none, moved_empty, moved_more, moved_all}
use Rattle.limits.proofs.Walked.{next_later, next_place, next_timed, sooner_all}
use Rattle.limits.proofs.latest.lower_points.Goals as goal
use Rattle.limits.proofs.latest.lower_points.Goals.{then-value_of-eq0, else-value_of-eq0}

pub returns-then-span : goal.returns-then-span
returns-then-span g c = λ offset answered. moved_none Down down_same down_on _ _ (λ k v o. absurd (omega (arith, o.3.1, o.3.2, c.if-span.true)))

pub loop-p-init : goal.loop-p-init
loop-p-init g c = (
  omega arith,
  c.requires.1.begins,
  omega arith,
  c.requires.1.begins,
  λ q a b. (λ p e f g h. absurd (omega arith), λ p e f g h. absurd (omega arith)),
  λ offset answered. moved_empty Down down_same down_on _ _ _,
)

pub lower_start-requires : goal.lower_start-requires
lower_start-requires g c =
    let i = c.loop-p.invariant in
    let t = c.loop-p-test.true in
    let low = c.loop-p.auto.p in
    let p = c.loop-p.p in
    let points = c.args.points.now in
    let none = i.4 p (omega arith) t in
    let off = rw c.tick_of-tick.ensures.0 at c.next_other-off.ensures in
    let on = rw c.tick_of-tick.ensures.0 at c.next_other-on.ensures in
    let chosen : (c.value_of.result ≡ 0 → c.if-value_of-eq0.place ≡ c.next_other-off.result)
    × ((c.value_of.result ≡ 0 → ⊥) → c.if-value_of-eq0.place ≡ c.next_other-on.result) =
    elim c.if-value_of-eq0.branch [
      | then-value_of-eq0 w ↦ (λ _. w.place-is, λ d. absurd (d w.if-value_of-eq0.true))
      | else-value_of-eq0 w ↦ (λ e. absurd (w.if-value_of-eq0.false e), λ _. w.place-is)
    ]
    in
    let is = next_place c.value_of.ensures.1 chosen i.0 none.0 off i.2 none.1 on in (
      omega (arith, c.step_of.ensures.0, c.requires.0.step _ low t, c.loop-p.auto.latest),
      next_timed c.requires.1 is c.next_tick-next.ensures,
    )

pub loop-p-preserved : goal.loop-p-preserved
loop-p-preserved g c =
    let i = c.loop-p.invariant in
    let t = c.loop-p-test.true in
    let low = c.loop-p.auto.p in
    let p = c.loop-p.p in
    let points = c.args.points.now in
    let none = i.4 p (omega arith) t in
    let off = rw c.tick_of-tick.ensures.0 at c.next_other-off.ensures in
    let on = rw c.tick_of-tick.ensures.0 at c.next_other-on.ensures in
    let chosen : (c.value_of.result ≡ 0 → c.if-value_of-eq0.place ≡ c.next_other-off.result)
    × ((c.value_of.result ≡ 0 → ⊥) → c.if-value_of-eq0.place ≡ c.next_other-on.result) =
    elim c.if-value_of-eq0.branch [
      | then-value_of-eq0 w ↦ (λ _. w.place-is, λ d. absurd (d w.if-value_of-eq0.true))
      | else-value_of-eq0 w ↦ (λ e. absurd (w.if-value_of-eq0.false e), λ _. w.place-is)
    ]
    in
    let is = next_place c.value_of.ensures.1 chosen i.0 none.0 off i.2 none.1 on in (
      omega (arith, i.0, off.begins),
      off.ends,
      omega (arith, i.2, on.begins),
      on.ends,
      λ q a b.
          let later : tick_at points p ≤ tick_at points q = c.requires.0.rises p q low (omega arith) b in
          (next_later none.0 off later, next_later none.1 on later),
      λ offset answered.
          moved_more Down down_same down_on _ _ _ _ _ _ low (i.5 offset answered)
          (sooner_all c.requires.1 is c.next_tick-next.ensures offset (get_or points p 0) _ _
          refl c.value_of.ensures.0 c.step_of.ensures.0 (answered p _ low t c.at.ensures) c.lower_start.ensures),
    )

pub returns : goal.returns
returns g c = λ offset answered.
    let high = c.loop-p.auto.p-end c.requires.0.begins in
    moved_all Down down_same down_on _ _ _ _ _ _ high (omega (arith, c.loop-p-test.false)) (c.loop-p.invariant.5 offset answered)

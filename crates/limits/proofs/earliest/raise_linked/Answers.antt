-- The link read from the list decides.
use Prim.Native.Nat.{◌-◌}
use mathlib.Core.Path.{ap, ap₂}
use native.Mathlib.Omega.{arith}
use lib.ListN.{get_or}
use Rattle.job.specs.declared.records.Condition.{Condition}
use Rattle.job.specs.declared.records.TimedFact.{TimedFact}
use Rattle.order_file.specs.Contents.{initial_state}
use Rattle.moves.specs.Moved.{Up, start_after}
use Rattle.moves.proofs.Moved.{up_same, up_on, allowed_one, allowed_none}
use Rattle.limits.proofs.Tested.{is_timed, no_timed}
use Rattle.limits.proofs.earliest.raise_linked.Goals as goal

pub bounds-links-c : goal.bounds-links-c
bounds-links-c c = omega (arith, c.requires.1.room, c.requires.2)

pub returns-then-link-job : goal.returns-then-link-job
returns-then-link-job c = allowed_none Up up_same up_on _ _ _ _ _ (no_timed _ _ _ c.if-link-job.true)

pub condition-condition-requires : goal.condition-condition-requires
condition-condition-requires c = (c.requires.3, c.requires.2)

pub overflow_sub-link : goal.overflow_sub-link
overflow_sub-link c =
    let a = c.args in
    omega (arith, (is_timed (get_or a.links.now a.c 0) a.job.head.count.effects initial_state c.if-link-job.false).0)

pub timed-timed-requires : goal.timed-timed-requires
timed-timed-requires c =
    let a = c.args in
    let t = is_timed (get_or a.links.now a.c 0) a.job.head.count.effects initial_state c.if-link-job.false in
    (c.requires.3, omega (arith, t.0, c.requires.1.named _ c.requires.2 t.1))

pub overflow_add-timed : goal.overflow_add-timed
overflow_add-timed c =
    let a = c.args in
    let t = is_timed (get_or a.links.now a.c 0) a.job.head.count.effects initial_state c.if-link-job.false in
    omega (
      arith,
      ap (λ (q : TimedFact). q.tick) c.timed-timed.ensures,
      c.requires.0.timed_tick (get_or a.links.now a.c 0 - a.job.head.count.effects) (omega (arith, t.0, c.requires.1.named _ c.requires.2 t.1)),
    )

pub raise_limit-requires : goal.raise_limit-requires
raise_limit-requires c =
    let a = c.args in
    let t = is_timed (get_or a.links.now a.c 0) a.job.head.count.effects initial_state c.if-link-job.false in
    rw (c.timed-timed.ensures, c.condition-condition.ensures) (
      omega (arith, c.requires.4, c.requires.0.step_count, c.requires.0.condition_step _ c.requires.2),
      omega (
        arith,
        c.requires.0.timed_tick (get_or a.links.now a.c 0 - a.job.head.count.effects) (omega (arith, t.0, c.requires.1.named _ c.requires.2 t.1)),
      ),
    )

pub returns : goal.returns
returns c =
    let t = is_timed _ _ initial_state c.if-link-job.false in
    let second = c.condition-condition.ensures in
    allowed_one Up up_same up_on _ _ _ _ _ _ t.0 t.1 (ap (λ (q : Condition). q.step) second)
    (ap₂ start_after (ap (λ (q : TimedFact). q.tick) c.timed-timed.ensures) (ap (λ (q : Condition). q.from) second))
    c.raise_limit.ensures

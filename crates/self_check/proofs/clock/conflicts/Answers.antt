-- A search for a timed fact against this one.
use Prim.Native.Nat.{ℕ, ◌≤◌, ◌-◌}
use mathlib.Core.Path.{◌≡◌, sym, ap₂, ◌∙◌}
use mathlib.Core.Bool.{Bool, false, not, ◌&&◌}
use lib.Dec.{eqb}
use native.Mathlib.Omega.{arith}
use Rattle.laws.specs.Search.{any, lowest}
use Rattle.laws.proofs.Search.{any_none, any_found, lowest_facts, lowest_start, lowest_more}
use Rattle.job.specs.declared.records.TimedFact.{TimedFact}
use Rattle.job.specs.Model.{Model, timed_of}
use Rattle.against.specs.Clock.{timed_both_ways, timed_conflicts}
use borrow.Author.Rules.{rules}
use Rattle.self_check.proofs.clock.conflicts.Goals as goal

abbrev differ : TimedFact → TimedFact → Bool
differ a b = eqb a.fact b.fact && eqb a.tick b.tick && not (eqb a.value b.value)

-- what is said of two records is said of the timed facts that they hold
of_records : (m : Model) (j k : ℕ) {a b : TimedFact} {r : Bool} → a ≡ timed_of m j → b ≡ timed_of m k → r ≡ differ a b → r ≡ timed_both_ways m j k
unfolding timed_both_ways
of_records m j k e f q = q ∙ ap₂ differ e f

-- the loop has ended, and none was found
none_found : (p : ℕ → Bool) (n k : ℕ) → lowest k p ≡ k → n ≤ k → false ≡ any n p
none_found p n k e g = sym (any_none p n (λ i l. (lowest_facts p k).1 i (omega (arith, e))))

pub loop-k-init : goal.loop-k-init
unfolding timed_conflicts
loop-k-init c = lowest_start _

pub timed-other-requires : goal.timed-other-requires
unfolding timed_conflicts
timed-other-requires c = (c.requires.0, c.loop-k-test.true)

pub returns-then-both_ways : goal.returns-then-both_ways
unfolding timed_conflicts
returns-then-both_ways c =
    any_found _ _ _ c.loop-k-test.true
    (of_records _ _ _ c.timed-own.ensures c.timed-other.ensures c.both_ways.ensures)
    c.if-both_ways.true

pub loop-k-preserved : goal.loop-k-preserved
unfolding timed_conflicts
loop-k-preserved c =
    lowest_more _ _ c.loop-k.invariant
    (of_records _ _ _ c.timed-own.ensures c.timed-other.ensures c.both_ways.ensures)
    c.if-both_ways.false

pub returns : goal.returns
unfolding timed_conflicts
returns c = none_found _ _ _ c.loop-k.invariant c.loop-k-test.false

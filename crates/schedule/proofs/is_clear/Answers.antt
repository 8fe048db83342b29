-- No fact mixed, no level used twice at one tick by a step, no condition contested.
use Prim.Native.Nat.{ℕ}
use mathlib.Core.Path.{refl, ap, ◌∙◌}
use mathlib.Core.Bool.{Bool, true, not}
use Rattle.std.specs.Prelude.{◌≡◌, Option, Some, None, is_some}
use Rattle.laws.proofs.Search.{contrary}
use Rattle.points.proofs.ClockedRange.{clocked_range}
use Rattle.values.proofs.Conflicts.{facts_listed, unmixed_one}
use Rattle.levels.proofs.UsesApart.{levels_listed, apart_one_use}
use Rattle.values.proofs.Contested.{contested_lowest, own_kept}
use Rattle.schedule.proofs.Chained.{none_below}
use Rattle.schedule.proofs.is_clear.Goals as goal

-- a search that is said to find none
found_none : (o : Option ℕ) {r : Bool} → is_some o ≡ not r → r ≡ true → None ≡ o
found_none None e t = refl
found_none (Some k) e t = contrary refl (e ∙ ap not t)

pub any_mixed-requires : goal.any_mixed-requires
any_mixed-requires c = facts_listed c.requires.1

pub returns-then-any_mixed : goal.returns-then-any_mixed
returns-then-any_mixed c t = contrary t refl

pub any_twice-requires : goal.any_twice-requires
any_twice-requires c = levels_listed c.requires.1

pub returns-then-any_twice : goal.returns-then-any_twice
returns-then-any_twice c t = contrary t refl

pub first_contested-requires : goal.first_contested-requires
first_contested-requires c =
    let p = c.requires in
    let unmixed = c.any_mixed.ensures c.if-any_mixed.false in
    let range = clocked_range _ p.0 in
    record { form = range; known = p.1; one_value = unmixed_one p.1 range.effect_fact unmixed }

pub returns : goal.returns
returns c t =
    let p = c.requires in
    let none = none_below _ _ (found_none _ c.is_none.ensures t ∙ c.first_contested.ensures) in
    let keeps = own_kept _ _ none in
    let unmixed = c.any_mixed.ensures c.if-any_mixed.false in
    record {
      one_value = unmixed_one p.1 (clocked_range _ p.0).effect_fact unmixed;
      one_use = apart_one_use p.1 p.0.use_level (c.any_twice.ensures c.if-any_twice.false);
      keeps_own = keeps;
      none_fails = contested_lowest _ _ keeps none;
    }

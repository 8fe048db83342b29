-- A walk along a fact's setters, beside its conditions.
use Prim.Native.Nat.{ℕ, min, max, ◌+◌, ◌≤◌, ◌<◌}
use mathlib.Core.Path.{◌≡◌, refl, sym, ap, ◌∙◌}
use mathlib.Core.Bool.{Bool, cond}
use mathlib.Core.Logic.{inl, inr}
use mathlib.Core.List.{List}
use native.Mathlib.Decide.{dec_lt}
use native.Mathlib.Omega.{arith}
use lib.ListN.{length, get_or}
use Rattle.job.specs.Model.{Model}
use Rattle.timeline.specs.Words.{tick_at, number_at}
use Rattle.timeline.specs.Placed.{Parted, Run}
use Rattle.timeline.specs.Walking.{Walking}
use Rattle.timeline.proofs.Walking.{run_none}
use Rattle.points.specs.Points.{wanted_group, Wanting}
use Rattle.values.specs.declared.conditions.Setters.{Setters}
use Rattle.values.specs.declared.conditions.Walk.{Walk}
use Rattle.values.specs.Contested.{contested}
use Rattle.laws.specs.Noted.{Noted}
use Rattle.opposing.specs.Against.{OfValue}
use Rattle.values.specs.Conditions.{ConditionsKnown, SettersOf, Stands, NotPast, Come, ConditionAt}
use Rattle.laws.proofs.Noted.{noted_start, noted_more, noted_when, noted_both}

-- the conditions at the places of a fact's group up to q
abbrev pub Met : Model → List ℕ → List ℕ → ℕ → ℕ → ℕ → Type 0
Met m points begins fact q c =
    (p : ℕ) × (get_or begins (wanted_group m fact) 0 ≤ p) × (p < q) × (number_at points p ≡ c)

-- the walk has met the conditions up to place q, and is past the first tick of none from there up to the group's end
pub record Walked (m : Model) (x : ℕ → ℕ) (points begins : List ℕ) (fact : ℕ) (setters : Setters) (end : ℕ) (walk : Walk)
    (best q : ℕ) : Type 0 where
  pub all : ConditionsKnown m x points begins
  pub counted : fact < m.facts
  pub ends : end ≡ get_or begins (wanted_group m fact + 1) 0
  pub placed : SettersOf m begins fact setters
  pub from : get_or begins (wanted_group m fact) 0 ≤ q
  pub to : walk.place ≤ setters.high
  pub early : (p k : ℕ) → setters.low ≤ p → p < walk.place → q ≤ k → k < end → tick_at points p < tick_at points k
  pub stands : Stands points setters.low walk
  pub noted : Noted m.conditions (contested m x) (Met m points begins fact q) best

-- A walk goes on to tick t.
module _ {points : List ℕ} {setters : Setters} {t : ℕ} {walk : Walk} (so : NotPast points setters t walk) where
  pub before_walking : {tick : ℕ} → tick ≡ t → Walking points setters.low setters.high tick (record { place = walk.place; run = walk.run })
  before_walking e =
      record {
        ends = so.ends;
        rises = so.rises;
        from = omega (arith, so.stands.run.from, so.stands.run.to);
        to = so.to;
        before = λ p l g. let early : tick_at points p < t = so.before p l g in omega arith;
        run = so.stands.run;
      }

  module _ {tick place run : ℕ} (e : tick ≡ t) (parts : Parted points setters.low setters.high tick place)
      (runs : Run points setters.low place run) where
    -- it does not go back
    forth : walk.place ≤ place
    forth =
        elim (dec_lt place walk.place) [
          | yes l ↦
              let late : tick ≤ tick_at points place = parts.after place (omega arith) (omega (arith, so.to)) in
              let early : tick_at points place < t = so.before place parts.from l in
              absurd (omega arith)
          | no l ↦ omega arith
        ]

    kept :
        {ahead from to value : ℕ} → OfValue points walk.place ahead value → from ≡ max place ahead → OfValue points from to value
        → OfValue points place to value
    kept {ahead} {from} {to} known begins more p l g =
        elim (dec_lt p from) [ yes i ↦ known p (omega (arith, forth)) (omega arith) | no i ↦ more p (omega arith) g ]

    pub come_there :
        {off₀ on₀ off on : ℕ} → off₀ ≡ max place walk.off → on₀ ≡ max place walk.on → (off₀ ≤ off) × OfValue points off₀ off 0
        → (on₀ ≤ on) × OfValue points on₀ on 1
        → Come points setters t (record { place = place; run = run; off = off; on = on })
    come_there {off₀} {on₀} {off} {on} a b up down =
        record {
          parts =
              record {
                from = parts.from;
                to = parts.to;
                before = λ p l g. let early : tick_at points p < tick = parts.before p l g in omega arith;
                after = λ p l g. let late : tick ≤ tick_at points p = parts.after p l g in omega arith;
              };
          stands = record { run = runs; off = kept so.stands.off a up.1; on = kept so.stands.on b down.1 };
          off_from = omega (arith, up.0);
          on_from = omega (arith, down.0);
        }

-- The conditions of a fact, one by one.
module _ {m : Model} {x : ℕ → ℕ} {points begins : List ℕ} {fact : ℕ} {setters : Setters} {end : ℕ} where
  pub walked_start :
      {q : ℕ} → ConditionsKnown m x points begins → fact < m.facts → end ≡ get_or begins (wanted_group m fact + 1) 0 → SettersOf m begins fact setters
      → q ≡ get_or begins (wanted_group m fact) 0
      → Walked m x points begins fact setters end (record { place = setters.low; run = setters.low; off = setters.low; on = setters.low })
      m.conditions q
  walked_start {q} all h ends placed e =
      record {
        all = all;
        counted = h;
        ends = ends;
        placed = placed;
        from = omega arith;
        to = omega (arith, placed.low, placed.high, (all.known.setters fact h).begins);
        early = λ p k l g _ _. absurd (omega arith);
        stands =
            record {
              run = run_none (omega arith) (omega arith) refl;
              off = λ p l g. absurd (omega arith);
              on = λ p l g. absurd (omega arith);
            };
        noted = noted_start (Met m points begins fact q) (λ c met. omega (arith, e, met.1, met.2));
      }

  module _ {walk : Walk} {best q : ℕ} (so : Walked m x points begins fact setters end walk best q) where
    module _ (h : q < end) where
      within : q < get_or begins (wanted_group m fact + 1) 0
      within = omega (arith, so.ends)

      pub walked_listed : q < length points
      walked_listed = omega (arith, within, (so.all.known.wanted fact so.counted).ends)

      pub walked_before : NotPast points setters (tick_at points q) walk
      walked_before =
          let group = so.all.known.setters fact so.counted in
          record {
            ends = omega (arith, so.placed.high, group.ends);
            rises = λ p k l g i. group.rises p k (omega (arith, so.placed.low)) g (omega (arith, so.placed.high));
            to = so.to;
            before = λ p l g. so.early p q l g (omega arith) h;
            stands = so.stands;
          }

      module _ {next : Walk} (come : Come points setters (tick_at points q) next) where
        pub walked_at : ConditionAt m x points setters next (get_or points q 0)
        walked_at =
            let group = so.all.known.wanted fact so.counted in
            record {
              begins = begins;
              fact = fact;
              all = so.all;
              counted = so.counted;
              placed = so.placed;
              condition =
                  record {
                    counted = (group.holds q so.from within).0;
                    of_fact = (group.holds q so.from within).1;
                    tick = group.ticks q so.from within;
                    value = group.values q so.from within;
                    step = group.steps q so.from within;
                  };
              come = come;
            }

        pub walked_more :
            {number new : ℕ} {r : Bool} → number ≡ number_at points q → r ≡ contested m x (number_at points q) → new ≡ cond r
            (min best number) best
            → Walked m x points begins fact setters end next new (q + 1)
        walked_more {number} {new} {r} e test took =
            let group = so.all.known.wanted fact so.counted in
            let from : get_or begins (wanted_group m fact) 0 ≤ q = so.from in
            record {
              all = so.all;
              counted = so.counted;
              ends = so.ends;
              placed = so.placed;
              from = omega arith;
              to = come.parts.to;
              early = λ p k l g i j.
                  let early : tick_at points p < tick_at points q = come.parts.before p l g in
                  let up : tick_at points q ≤ tick_at points k = group.rises q k from (omega arith) (omega (arith, so.ends)) in
                  omega arith;
              stands = come.stands;
              noted =
                  noted_more took (test ∙ ap (contested m x) (sym e)) (omega (arith, e, (group.holds q from within).0)) so.noted
                  (λ k l met.
                  elim (dec_lt met.0 q) [
                    | yes i ↦ inl (met.0, met.1, i, met.3)
                    | no i ↦ inr (sym met.3 ∙ ap (number_at points) (let z : met.0 ≡ q = omega (arith, met.2) in z) ∙ sym e)
                  ]);
            }

    pub walked_end : end ≤ q → Noted m.conditions (contested m x) (Wanting m fact) best
    walked_end past =
        noted_when so.noted
        (λ k l want.
        let place = (so.all.known.wanted fact so.counted).found k want in
        (place.0, place.1, omega (arith, place.2, so.ends), place.3))

-- the conditions on one more fact
pub fact_more :
    (m : Model) {test : ℕ → Bool} {fact best found next : ℕ} → next ≡ min best found
    → Noted m.conditions test (λ c. m.condition_fact c < fact) best
    → Noted m.conditions test (Wanting m fact) found
    → Noted m.conditions test (λ c. m.condition_fact c < fact + 1) next
fact_more m {test} {fact} e so more =
    noted_both e so more
    (λ k l h. elim (dec_lt (m.condition_fact k) fact) [ yes i ↦ inl i | no i ↦ inr (l, let q : m.condition_fact k ≡ fact = omega arith in q) ])

-- What a scan along the setters of a fact finds is what all effects say.
use Prim.Native.Nat.{ℕ, ◌+◌, ◌≤◌, ◌<◌}
use mathlib.Core.Path.{◌≡◌, refl, sym, ap, ◌∙◌}
use mathlib.Core.Bool.{Bool, true, false}
use mathlib.Core.Logic.{⊎_elim}
use mathlib.Core.List.{List}
use native.Mathlib.Decide.{dec_lt}
use native.Mathlib.Omega.{arith}
use lib.ListN.{get_or}
use Rattle.laws.specs.Search.{any}
use Rattle.laws.proofs.Search.{either, contrary, any_intro, any_none}
use Rattle.job.specs.Model.{Model}
use Rattle.timeline.specs.Words.{number_at, tick_at, value_at}
use Rattle.timeline.specs.Placed.{Parted}
use Rattle.validity.specs.Ticks.{effect_tick}
use Rattle.points.specs.Points.{PointsKnown}
use Rattle.opposing.specs.Against.{OfValue, Scanned, Past}
use Rattle.opposing.proofs.Scanned.{against_out, against_in, passed_start, scan_ends}
use Rattle.values.specs.Contested.{Opposed}

-- effect e gives the fact another value, is of another step, and lies from the first tick to the last
pub record Opposing (m : Model) (x : ℕ → ℕ) (fact value step first last e : ℕ) : Type 0 where
  pub of_fact : m.effect_fact e ≡ fact
  pub differs : m.effect_value e ≡ value → ⊥
  pub another : m.effect_step e ≡ step → ⊥
  pub late : first ≤ effect_tick m x e
  pub early : effect_tick m x e ≤ last

-- A scan of a fact's setters, from the first tick to the last, finds whether an effect opposes.
module _ {m : Model} {x : ℕ → ℕ} {points begins : List ℕ} (known : PointsKnown m x points begins) {f : ℕ} (h : f < m.facts)
    {low high first last place from value step : ℕ} {r : Bool} (begin : low ≡ get_or begins f 0) (end : high ≡ get_or begins (f + 1) 0)
    (parts : Parted points low high first place) (goes : place ≤ from) (same : OfValue points place from value)
    (scan : Scanned points from high last value step r) (test : ℕ → Bool) where
  scan_hit : ((e : ℕ) → Opposing m x f value step first last e → test e ≡ true) → r ≡ true → any m.effects test ≡ true
  scan_hit into t =
      let group = known.setters f h in
      let found = scan.hit t in
      let p : ℕ = found.0 in
      let a : get_or begins f 0 ≤ p = omega (arith, parts.from, found.1) in
      let b : p < get_or begins (f + 1) 0 = omega (arith, found.2) in
      let at : tick_at points p ≡ effect_tick m x (number_at points p) = group.ticks p a b in
      let late : first ≤ tick_at points p = parts.after p (omega (arith, found.1)) found.2 in
      let o = against_out (get_or points p 0) value step found.4 in
      any_intro test m.effects (number_at points p) (group.holds p a b).0
      (into (number_at points p)
      (record {
        of_fact = (group.holds p a b).1;
        differs = λ q. o.1 (group.values p a b ∙ q);
        another = λ q. o.0 (group.steps p a b ∙ q);
        late = omega arith;
        early = omega (arith, found.3);
      }))

  scan_none : ((e : ℕ) → e < m.effects → test e ≡ true → Opposing m x f value step first last e) → r ≡ false → any m.effects test ≡ false
  scan_none out n =
      any_none test m.effects
      (λ e l.
      ⊎_elim
      (λ (t : test e ≡ true).
      let o = out e l t in
      let group = known.setters f h in
      let found = group.found e (l, o.of_fact) in
      let p : ℕ = found.0 in
      let is : number_at points p ≡ e = found.3 in
      let at : tick_at points p ≡ effect_tick m x e = group.ticks p found.1 found.2 ∙ ap (effect_tick m x) is in
      let value_there : value_at points p ≡ value → ⊥ = λ q. o.differs (sym (group.values p found.1 found.2 ∙ ap m.effect_value is) ∙ q) in
      let late : first ≤ effect_tick m x e = o.late in
      let early : effect_tick m x e ≤ last = o.early in
      let to : p < high = omega (arith, found.2) in
      elim (dec_lt p from) [
        | yes i ↦
            elim (dec_lt p place) [
              | yes j ↦ let before : tick_at points p < first = parts.before p (omega (arith, found.1)) j in absurd (omega arith)
              | no j ↦ absurd (value_there (same p (omega arith) i))
            ]
        | no i ↦
            contrary
            (against_in (get_or points p 0) value step
            (λ q. o.another (sym (group.steps p found.1 found.2 ∙ ap m.effect_step is) ∙ q)) value_there)
            (scan.none n p (omega arith) to (omega arith))
      ])
      (λ (k : test e ≡ false). k)
      (either (test e)))

  pub scan_any :
      ((e : ℕ) → e < m.effects → test e ≡ true → Opposing m x f value step first last e)
      → ((e : ℕ) → Opposing m x f value step first last e → test e ≡ true)
      → r ≡ any m.effects test
  scan_any out into = ⊎_elim (λ (t : r ≡ true). t ∙ sym (scan_hit into t)) (λ (n : r ≡ false). n ∙ sym (scan_none out n)) (either r)

-- where all points lie after the last tick nothing is opposed
pub past_unopposed :
    (points : List ℕ) (from high last value step : ℕ) → Past points from high last → Opposed points from high last value step false
past_unopposed points from high last value step past =
    record {
      broken = false;
      early = false;
      scan = scan_ends (passed_start refl) past;
      scanned = record {
        never = λ _. refl;
        scan = λ _. scan_ends (passed_start refl) (λ p l g. let k : last < tick_at points p = past p l g in omega arith);
      };
      either = refl;
    }

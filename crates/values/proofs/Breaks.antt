-- What breaks a condition stands among its fact's setters, from the place where a walk along them comes to its first tick.
use Prim.Native.Nat.{ℕ, ◌+◌, ◌-◌, ◌≤◌, ◌<◌}
use mathlib.Core.Path.{◌≡◌, refl, sym, ap, ap₂, subst, ◌∙◌}
use mathlib.Core.Bool.{Bool, true, false, not, cond, ◌&&◌, ◌||◌}
use mathlib.Core.Logic.{⊎_elim}
use mathlib.Core.List.{List}
use native.Mathlib.Decide.{dec_lt, ℕ_discrete}
use native.Mathlib.Omega.{arith}
use borrow.Author.Tests.{eqb-true, eqb-false, not-true, eq-eqb, ne_eqb, leb-true, le-leb, ltb-true, lt-ltb, le-ltb}
use lib.Dec.{leb, ltb, eqb}
use lib.ListN.{length, get_or}
use Rattle.laws.specs.Search.{any}
use Rattle.laws.proofs.Search.{either, and_both, any_none}
use Rattle.job.specs.Model.{Model}
use Rattle.timeline.specs.Words.{word_number, word_step, word_tick, word_value, value_at}
use Rattle.timeline.specs.Placed.{Parted}
use Rattle.validity.specs.Ticks.{effect_tick, first_tick, last_tick, opposes}
use Rattle.validity.specs.Seen.{seen}
use Rattle.validity.specs.Checks.{breaks, condition_fails}
use Rattle.points.proofs.Placed.{seen_first, seen_before}
use Rattle.values.specs.declared.conditions.Setters.{Setters}
use Rattle.values.specs.declared.conditions.Walk.{Walk}
use Rattle.opposing.specs.Against.{Rising, OfValue, Scanned}
use Rattle.values.specs.Conditions.{ConditionAt}
use Rattle.values.specs.Contested.{opposes_early, contested, no_step, ScannedBefore, Opposed}
use Rattle.values.proofs.Against.{Opposing, scan_any}

-- A condition, at whose first tick a walk along its fact's setters stands.
module _ {m : Model} {x : ℕ → ℕ} {points : List ℕ} {setters : Setters} {walk : Walk} {word : ℕ}
    (at : ConditionAt m x points setters walk word) where
  -- whoever breaks it opposes it from its first tick to its last, and the other way round
  abbrev Against : ℕ → Type 0
  Against = Opposing m x at.fact (word_value word) (word_step word) (word_tick word) (last_tick m x (word_number word))

  breaks_out : (e : ℕ) → breaks m x (word_number word) e ≡ true → Against e
  unfolding breaks
  breaks_out e t =
      let d = and_both _ _ t in
      let b = and_both _ _ d.0 in
      let a = and_both _ _ b.0 in
      let o = and_both _ _ a.1 in
      let of = at.condition in
      let late : first_tick m x (word_number word) ≤ effect_tick m x e = leb-true _ _ b.1 in
      record {
        of_fact = eqb-true _ _ o.0 ∙ of.of_fact;
        differs = λ q. eqb-false _ _ (not-true _ o.1) (q ∙ of.value);
        another = λ q. eqb-false _ _ (not-true _ a.0) (q ∙ of.step);
        late = omega (arith, of.tick);
        early = leb-true _ _ d.1;
      }

  breaks_in : (e : ℕ) → Against e → breaks m x (word_number word) e ≡ true
  unfolding breaks
  breaks_in e o =
      let of = at.condition in
      ap₂ ◌&&◌
      (ap₂ ◌&&◌
      (ap₂ ◌&&◌ (ap not (ne_eqb _ _ (λ q. o.another (q ∙ sym of.step))))
      (ap₂ ◌&&◌ (eq-eqb _ _ (o.of_fact ∙ sym of.of_fact)) (ap not (ne_eqb _ _ (λ q. o.differs (q ∙ sym of.value))))))
      (le-leb (first_tick m x (word_number word)) (effect_tick m x e) (omega (arith, of.tick, o.late))))
      (le-leb _ _ o.early)

  -- the value seen is that of the point before the walk's place
  parts_there : Parted points (get_or at.begins at.fact 0) (get_or at.begins (at.fact + 1) 0) (word_tick word) walk.place
  parts_there =
      let low : setters.low ≡ get_or at.begins at.fact 0 = at.placed.low in
      let high : setters.high ≡ get_or at.begins (at.fact + 1) 0 = at.placed.high in
      let parts = at.come.parts in
      record {
        from = omega (arith, parts.from);
        to = omega (arith, parts.to);
        before = λ p l g. parts.before p (omega arith) g;
        after = λ p l g. parts.after p l (omega arith);
      }

  seen_there :
      {v : ℕ} → v ≡ cond (ltb setters.low walk.place) (value_at points (walk.place - 1)) setters.initial → v ≡ seen m x at.fact
      (word_tick word)
  seen_there {v} e =
      let low : setters.low ≡ get_or at.begins at.fact 0 = at.placed.low in
      elim (dec_lt setters.low walk.place) [
        | yes l ↦
            e
            ∙ ap (λ b. cond b (value_at points (walk.place - 1)) setters.initial) (lt-ltb _ _ l)
            ∙ sym (seen_before at.all.known at.fact at.counted at.all.form parts_there at.all.one_value (omega arith))
        | no l ↦
            e
            ∙ ap (λ b. cond b (value_at points (walk.place - 1)) setters.initial) (le-ltb setters.low walk.place (omega arith))
            ∙ at.placed.initial
            ∙ sym (seen_first at.all.known at.fact at.counted at.all.form parts_there (omega arith))
      ]

  -- the scan begins at the walk's place or later, past points of the condition's value
  opposing_there :
      {from value : ℕ} → value ≡ word_value word → from ≡ cond (eqb value 0) walk.off walk.on
      → (walk.place ≤ from) × OfValue points walk.place from (word_value word)
  opposing_there {from} {value} is begins =
      let few : value ≤ 1 = omega (arith, is, at.condition.value, at.all.form.condition_value (word_number word) at.condition.counted) in
      elim (ℕ_discrete value 0) [
        | yes z ↦
            let e : from ≡ walk.off = begins ∙ ap (λ b. cond b walk.off walk.on) (eq-eqb _ _ z) in
            (omega (arith, at.come.off_from), λ p l g. at.come.stands.off p l (omega arith) ∙ sym z ∙ is)
        | no z ↦
            let e : from ≡ walk.on = begins ∙ ap (λ b. cond b walk.off walk.on) (ne_eqb _ _ z) in
            let one : value ≡ 1 = omega arith in
            (omega (arith, at.come.on_from), λ p l g. at.come.stands.on p l (omega arith) ∙ sym one ∙ is)
      ]

  pub setters_listed : setters.high ≤ length points
  setters_listed = omega (arith, at.placed.high, (at.all.known.setters at.fact at.counted).ends)

  pub scan_rises :
      {from value : ℕ} → value ≡ word_value word → from ≡ cond (eqb value 0) walk.off walk.on → Rising points from setters.high
  scan_rises is begins p q l g k =
      (at.all.known.setters at.fact at.counted).rises p q
      (omega (arith, l, (opposing_there is begins).0, at.come.parts.from, at.placed.low)) g (omega (arith, at.placed.high))

  -- what the code tests is whether the condition fails
  fails_there :
      {from last value step v : ℕ} {r : Bool} → value ≡ word_value word → last ≡ last_tick m x (word_number word)
      → from ≡ cond (eqb value 0) walk.off walk.on
      → step ≡ word_step word
      → Scanned points from setters.high last value step r
      → v ≡ cond (ltb setters.low walk.place) (value_at points (walk.place - 1)) setters.initial
      → (not (eqb v value) || r) ≡ condition_fails m x (word_number word)
  unfolding condition_fails
  fails_there {from} {last} {value} {step} {v} {r} is ends begins by scan sees =
      let ahead = opposing_there is begins in
      let of = at.condition in
      ap₂ (λ a b. not a || b)
      (ap₂ eqb (seen_there sees ∙ ap₂ (seen m x) (sym of.of_fact) of.tick) (is ∙ of.value))
      (scan_any at.all.known at.counted at.placed.low at.placed.high at.come.parts ahead.0 ahead.1
      (subst (λ t. Scanned points from setters.high t (word_value word) (word_step word) r) ends
      (subst (λ s. Scanned points from setters.high last (word_value word) s r) by (subst (λ w. Scanned points from
      setters.high last w step r) is scan)))
      (breaks m x (word_number word)) (λ e _. breaks_out e) breaks_in)

  -- whoever opposes it before its last tick is of some step
  abbrev Early : ℕ → Type 0
  Early = Opposing m x at.fact (word_value word) no_step (word_tick word) (last_tick m x (word_number word) - 1)

  early_out : (e : ℕ) → e < m.effects → opposes_early m x (word_number word) e ≡ true → Early e
  unfolding opposes_early
  early_out e h t =
      let d = and_both _ _ t in
      let b = and_both _ _ d.0 in
      let o = and_both _ _ b.0 in
      let of = at.condition in
      let late : first_tick m x (word_number word) ≤ effect_tick m x e = leb-true _ _ b.1 in
      let early : effect_tick m x e < last_tick m x (word_number word) = ltb-true _ _ d.1 in
      record {
        of_fact = eqb-true _ _ o.0 ∙ of.of_fact;
        differs = λ q. eqb-false _ _ (not-true _ o.1) (q ∙ of.value);
        another = λ q. omega (arith, q, at.all.form.effect_step e h, at.all.form.step_count);
        late = omega (arith, of.tick);
        early = omega arith;
      }

  early_in : 0 < last_tick m x (word_number word) → (e : ℕ) → Early e → opposes_early m x (word_number word) e ≡ true
  unfolding opposes_early
  early_in some e o =
      let of = at.condition in
      ap₂ ◌&&◌
      (ap₂ ◌&&◌ (ap₂ ◌&&◌ (eq-eqb _ _ (o.of_fact ∙ sym of.of_fact)) (ap not (ne_eqb _ _ (λ q. o.differs (q ∙ sym of.value)))))
      (le-leb (first_tick m x (word_number word)) (effect_tick m x e) (omega (arith, of.tick, o.late))))
      (lt-ltb (effect_tick m x e) (last_tick m x (word_number word)) (omega (arith, o.early)))

  early_tick : (e : ℕ) → opposes_early m x (word_number word) e ≡ true → effect_tick m x e < last_tick m x (word_number word)
  unfolding opposes_early
  early_tick e t =
      ltb-true (effect_tick m x e) (last_tick m x (word_number word))
      (and_both
      (opposes m e (m.condition_fact (word_number word)) (m.condition_value (word_number word))
      && leb (first_tick m x (word_number word)) (effect_tick m x e))
      (ltb (effect_tick m x e) (last_tick m x (word_number word))) t).1

  early_there :
      {from last value : ℕ} {r : Bool} → value ≡ word_value word → last ≡ last_tick m x (word_number word)
      → from ≡ cond (eqb value 0) walk.off walk.on
      → ScannedBefore points from setters.high last value r
      → r ≡ any m.effects (opposes_early m x (word_number word))
  early_there {from} {last} {value} {r} is ends begins scanned =
      let ahead = opposing_there is begins in
      elim (ℕ_discrete last 0) [
        | yes z ↦
            scanned.never z
            ∙ sym
            (any_none (opposes_early m x (word_number word)) m.effects
            (λ e h.
            ⊎_elim
            (λ (t : opposes_early m x (word_number word) e ≡ true).
            let o : effect_tick m x e < last_tick m x (word_number word) = early_tick e t in
            absurd (omega arith))
            (λ (n : opposes_early m x (word_number word) e ≡ false). n)
            (either (opposes_early m x (word_number word) e))))
        | no z ↦
            let some : 0 < last = omega arith in
            scan_any at.all.known at.counted at.placed.low at.placed.high at.come.parts ahead.0 ahead.1
            (subst (λ t. Scanned points from setters.high (t - 1) (word_value word) no_step r) ends
            (subst (λ w. Scanned points from setters.high (last - 1) w no_step r) is (scanned.scan some)))
            (opposes_early m x (word_number word)) early_out (early_in (omega (arith, ends)))
      ]

  -- what the code tests is whether the condition is contested
  pub contested_there :
      {from last value step v : ℕ} {r : Bool} → value ≡ word_value word → last ≡ last_tick m x (word_number word)
      → from ≡ cond (eqb value 0) walk.off walk.on
      → step ≡ word_step word
      → Opposed points from setters.high last value step r
      → v ≡ cond (ltb setters.low walk.place) (value_at points (walk.place - 1)) setters.initial
      → (not (eqb v value) || r) ≡ contested m x (word_number word)
  unfolding contested
  contested_there {value = value} {v = v} is ends begins by opposed sees =
      ap (◌||◌ (not (eqb v value))) opposed.either ∙ or_or (not (eqb v value)) opposed.broken opposed.early
      ∙ ap₂ ◌||◌ (fails_there is ends begins by opposed.scan sees) (early_there is ends begins opposed.scanned)
    where
      or_or : (a b c : Bool) → (a || (b || c)) ≡ (a || b || c)
      or_or a b c = elim a as (λ k. (k || (b || c)) ≡ (k || b || c)) [ true ↦ refl | false ↦ refl ]

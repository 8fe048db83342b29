-- Words of a job's points: no two are the same, and once sorted they stand as searches want them.
use Prim.Native.Nat.{ℕ, ◌+◌, ◌-◌, ◌≤◌, ◌<◌}
use mathlib.Core.Path.{◌≡◌, refl, sym, ap, subst, ◌∙◌}
use mathlib.Core.List.{List}
use native.Mathlib.Decide.{dec_lt}
use native.Mathlib.Omega.{arith}
use lib.ListN.{length, get_or}
use Rattle.job.specs.Model.{Model}
use Rattle.points.specs.Points.{ClockedRange, Setter, Wanting, Using, Needing, PointsKnown}
use Rattle.points.specs.Points.{wanted_group, used_group, needed_group, group_count}
use Rattle.point_words.specs.Words.{condition_word, effect_word, use_word, need_word}
use Rattle.points.specs.Words.{point_count, WordsListed}
use Rattle.timeline.proofs.Words.{step_back, value_back, number_back, tick_back, group_back}
use Rattle.timeline.specs.Placed.{Placed}
use Rattle.insertion.specs.Arranged.{Distinct, Rearranged}
use Rattle.sort.specs.Sorted.{Grouped}
use Rattle.timeline.specs.Words.{word_of, word_step, word_value, word_number, word_tick, word_group, number_at, tick_at, group_at}
use Rattle.timeline.specs.Words.{step_span, value_span, number_span, tick_span}
use Rattle.validity.specs.Ticks.{effect_tick, first_tick, use_tick, need_tick}

-- A word and what it is made of, within the spans.
pub record Made (w g t k v s : ℕ) : Type 0 where
  pub is : w ≡ word_of g t k v s
  pub tick : t < tick_span
  pub number : k < number_span
  pub value : v < value_span
  pub step : s < step_span

module _ {w g t k v s : ℕ} (a : Made w g t k v s) where
  group_is : word_group w ≡ g
  group_is = ap word_group a.is ∙ group_back g t k v s a.tick a.number a.value a.step

  tick_is : word_tick w ≡ t
  tick_is = ap word_tick a.is ∙ tick_back g t k v s a.tick a.number a.value a.step

  number_is : word_number w ≡ k
  number_is = ap word_number a.is ∙ number_back g t k v s a.tick a.number a.value a.step

  value_is : word_value w ≡ v
  value_is = ap word_value a.is ∙ value_back g t k v s a.tick a.number a.value a.step

  step_is : word_step w ≡ s
  step_is = ap word_step a.is ∙ step_back g t k v s a.tick a.number a.value a.step

  -- words of one group in order stand in the order of their ticks, at one tick in that of their numbers
  module _ {w' t' k' v' s' : ℕ} (b : Made w' g t' k' v' s') (le : w ≤ w') where
    ticks_rise : t ≤ t'
    unfolding word_of
    ticks_rise = omega arith

    numbers_rise : t ≡ t' → k ≤ k'
    unfolding word_of
    numbers_rise q = omega arith

-- What a list of n words holds in group g: the words of the records of which P is true.
pub record Held (P : ℕ → Type 0) (g : ℕ) (tick value step : ℕ → ℕ) (n : ℕ) (list : List ℕ) : Type 0 where
  pub given : (j : ℕ) → j < n → group_at list j ≡ g → (k : ℕ) × P k × Made (get_or list j 0) g (tick k) k (value k) (step k)
  pub listed : (k : ℕ) → P k → (j : ℕ) × (j < n) × Made (get_or list j 0) g (tick k) k (value k) (step k)

module _ {P : ℕ → Type 0} {g : ℕ} {tick value step : ℕ → ℕ} {n groups : ℕ} {list points begins : List ℕ}
    (held : Held P g tick value step n list)
    (distinct : Distinct n list) (same : Rearranged n list points) (grouped : Grouped n groups points begins) (counted : g < groups)
    (room : n ≤ length points) where
  -- the record at a place of the group
  record At (p : ℕ) : Type 0 where
    k : ℕ
    true : P k
    made : Made (get_or points p 0) g (tick k) k (value k) (step k)

  module _ (p : ℕ) (from : get_or begins g 0 ≤ p) (to : p < get_or begins (g + 1) 0) where
    below : p < n
    below = omega (arith, grouped.within (g + 1) (omega arith))

    at : At p
    at =
        let origin = same.holds p below in
        let after = grouped.after g p (omega arith) from below in
        let before = grouped.before (g + 1) p (omega arith) to in
        let here : group_at points p ≡ g = omega arith in
        let it = held.given origin.0 origin.1 (sym (ap word_group origin.2) ∙ here) in
        let k = it.0 in
        record { k = k; true = it.1; made = subst (λ w. Made w g (tick k) k (value k) (step k)) (sym origin.2) it.2 }

    number_at_lem : number_at points p ≡ at.k
    number_at_lem = number_is at.made

  begins_before : get_or begins g 0 ≤ get_or begins (g + 1) 0
  begins_before =
      elim (dec_lt (get_or begins (g + 1) 0) (get_or begins g 0)) [
        | yes h ↦ (
            let p = get_or begins (g + 1) 0 in
            let before = grouped.before g p (omega arith) h in
            let after = grouped.after (g + 1) p (omega arith) (omega arith) (omega (arith, grouped.within g (omega arith))) in
            absurd (omega arith)
            )
        | no h ↦ omega arith
      ]

  found_at : (k : ℕ) → P k → (p : ℕ) × (get_or begins g 0 ≤ p) × (p < get_or begins (g + 1) 0) × (number_at points p ≡ k)
  found_at k true =
      let j = held.listed k true in
      let p = same.found j.0 j.1 in
      let here : group_at points p.0 ≡ g = ap word_group p.2 ∙ group_is j.2 in
      let from : get_or begins g 0 ≤ p.0 =
      elim (dec_lt p.0 (get_or begins g 0)) [
        | yes h ↦ absurd (let l = grouped.before g p.0 (omega arith) h in omega arith)
        | no h ↦ omega arith
      ]
      in
      let to : p.0 < get_or begins (g + 1) 0 =
      elim (dec_lt p.0 (get_or begins (g + 1) 0)) [
        | yes h ↦ h
        | no h ↦ absurd (let l = grouped.after (g + 1) p.0 (omega arith) (omega arith) p.1 in omega arith)
      ]
      in
      (p.0, from, to, ap word_number p.2 ∙ number_is j.2)

  module _ (p q : ℕ) (from : get_or begins g 0 ≤ p) (less : p < q) (to : q < get_or begins (g + 1) 0) where
    first : At p
    first = at p from (omega arith)

    second : At q
    second = at q (omega arith) to

    last : q < n
    last = below q (omega arith) to

    ticks_order : tick_at points p ≤ tick_at points q
    ticks_order =
        omega (arith, ticks_rise first.made second.made (grouped.rises p q less last), tick_is first.made, tick_is second.made)

    numbers_order : tick_at points p ≡ tick_at points q → number_at points p < number_at points q
    numbers_order t =
        let a = first in
        let b = second in
        let le = numbers_rise a.made b.made (grouped.rises p q less last) (sym (tick_is a.made) ∙ t ∙ tick_is b.made) in
        let differ : a.k ≡ b.k → ⊥ =
        λ (e : a.k ≡ b.k).
        same.distinct distinct p q less last (a.made.is ∙ ap (λ k. word_of g (tick k) k (value k) (step k)) e ∙ sym b.made.is)
        in
        let one = number_is a.made in
        let other = number_is b.made in
        omega arith

  pub placed : Placed P tick value step points (get_or begins g 0) (get_or begins (g + 1) 0)
  placed =
      record {
        begins = begins_before;
        ends = omega (arith, grouped.within (g + 1) (omega arith));
        holds = λ p from to. subst P (sym (number_at_lem p from to)) (at p from to).true;
        found = found_at;
        ticks = λ p from to. tick_is (at p from to).made ∙ ap tick (sym (number_at_lem p from to));
        values = λ p from to. value_is (at p from to).made ∙ ap value (sym (number_at_lem p from to));
        steps = λ p from to. step_is (at p from to).made ∙ ap step (sym (number_at_lem p from to));
        rises = ticks_order;
        ordered = numbers_order;
      }

-- The words of a job, its timed facts among its effects.
module _ {m : Model} {x : ℕ → ℕ} {list : List ℕ} (form : ClockedRange m) (known : WordsListed m x list) where
  condition_made : (c : ℕ) → c < m.conditions
      → Made (condition_word m x c) (wanted_group m (m.condition_fact c)) (first_tick m x c) c (m.condition_value c) (m.condition_step c)
  condition_made c h =
      record {
        is = refl;
        tick = (known.conditions c h).1;
        number = omega (arith, form.condition_count);
        value = omega (arith, form.condition_value c h);
        step = omega (arith, form.condition_step c h, form.step_count);
      }

  effect_made : (e : ℕ) → e < m.effects → Made (effect_word m x e) (m.effect_fact e) (effect_tick m x e) e (m.effect_value e) (m.effect_step e)
  effect_made e h =
      record {
        is = refl;
        tick = (known.effects e h).1;
        number = omega (arith, form.effect_count);
        value = omega (arith, form.effect_value e h);
        step = omega (arith, form.effect_step e h, form.step_count);
      }

  use_made : (u : ℕ) → u < m.uses → Made (use_word m x u) (used_group m (m.use_level u)) (use_tick m x u) u 0 (m.use_step u)
  use_made u h =
      record {
        is = refl;
        tick = (known.uses u h).1;
        number = omega (arith, form.use_count);
        value = omega arith;
        step = omega (arith, form.use_step u h, form.step_count);
      }

  need_made : (n : ℕ) → n < m.needs → Made (need_word m x n) (needed_group m (m.need_level n)) (need_tick m x n) n 0 (m.need_step n)
  need_made n h =
      record {
        is = refl;
        tick = (known.needs n h).1;
        number = omega (arith, form.need_count);
        value = omega arith;
        step = omega (arith, form.need_step n h, form.step_count);
      }

  -- what holds of every place and word holds of each kind's
  each : (Q : ℕ → ℕ → Type 0)
      → ((c : ℕ) → c < m.conditions → Q c (condition_word m x c))
      → ((e : ℕ) → e < m.effects → Q (m.conditions + e) (effect_word m x e))
      → ((u : ℕ) → u < m.uses → Q (m.conditions + m.effects + u) (use_word m x u))
      → ((n : ℕ) → n < m.needs → Q (m.conditions + m.effects + m.uses + n) (need_word m x n))
      → (j : ℕ) → j < point_count m → Q j (get_or list j 0)
  each Q conditions effects uses needs j h =
      elim (dec_lt j m.conditions) [
        | yes l ↦ subst (Q j) (sym (known.conditions j l).0) (conditions j l)
        | no l ↦
            elim (dec_lt j (m.conditions + m.effects)) [
              | yes r ↦ (
                  let e = j - m.conditions in
                  let i = m.conditions + e in
                  let q : i ≡ j = omega arith in
                  subst (λ i. Q i (get_or list i 0)) q (subst (Q i) (sym (known.effects e (omega arith)).0) (effects e (omega arith)))
                  )
              | no r ↦
                  elim (dec_lt j (m.conditions + m.effects + m.uses)) [
                    | yes b ↦ (
                        let u = j - (m.conditions + m.effects) in
                        let i = m.conditions + m.effects + u in
                        let q : i ≡ j = omega arith in
                        subst (λ i. Q i (get_or list i 0)) q (subst (Q i) (sym (known.uses u (omega arith)).0) (uses u (omega arith)))
                        )
                    | no b ↦ (
                        let n = j - (m.conditions + m.effects + m.uses) in
                        let i = m.conditions + m.effects + m.uses + n in
                        let q : i ≡ j = omega arith in
                        subst (λ i. Q i (get_or list i 0)) q (subst (Q i) (sym (known.needs n (omega arith)).0) (needs n (omega arith)))
                        )
                  ]
            ]
      ]

  pub groups_low : (j : ℕ) → j < point_count m → group_at list j < group_count m
  groups_low =
      each (λ j w. word_group w < group_count m) (λ c h. omega (arith, group_is (condition_made c h), form.condition_fact c h))
      (λ e h. omega (arith, group_is (effect_made e h), form.effect_fact e h)) (λ u h. omega (arith, group_is (use_made u h), form.use_level u h))
      (λ n h. omega (arith, group_is (need_made n h), form.need_level n h))

  -- the place of a word, by its group and number
  Home : ℕ → ℕ → Type 0
  Home j w =
      (word_group w < m.facts → j ≡ m.conditions + word_number w) × (m.facts ≤ word_group w → word_group w < m.facts + m.facts → j ≡ word_number w)
      × (m.facts + m.facts ≤ word_group w → word_group w < m.facts + m.facts + m.levels → j ≡ m.conditions + m.effects + word_number w)
      × (m.facts + m.facts + m.levels ≤ word_group w → j ≡ m.conditions + m.effects + m.uses + word_number w)

  home : (j : ℕ) → j < point_count m → Home j (get_or list j 0)
  unfolding Home
  home =
      each Home
      (λ c h.
      let g = group_is (condition_made c h) in let n = number_is (condition_made c h) in let f = form.condition_fact c h in (
        λ l. omega arith,
        λ l r. omega arith,
        λ l r. omega arith,
        λ l. omega arith,
      ))
      (λ e h.
      let g = group_is (effect_made e h) in let n = number_is (effect_made e h) in let f = form.effect_fact e h in (
        λ l. omega arith,
        λ l r. omega arith,
        λ l r. omega arith,
        λ l. omega arith,
      ))
      (λ u h.
      let g = group_is (use_made u h) in let n = number_is (use_made u h) in let f = form.use_level u h in (
        λ l. omega arith,
        λ l r. omega arith,
        λ l r. omega arith,
        λ l. omega arith,
      ))
      (λ k h.
      let g = group_is (need_made k h) in let n = number_is (need_made k h) in (
        λ l. omega arith,
        λ l r. omega arith,
        λ l r. omega arith,
        λ l. omega arith,
      ))

  distinct_words : Distinct (point_count m) list
  unfolding Home
  distinct_words p q less h e =
      let a = home p (omega arith) in
      let b = home q h in
      let g = ap word_group e in
      let n = ap word_number e in
      elim (dec_lt (group_at list p) m.facts) [
        | yes l ↦ omega (arith, a.0 l, b.0 (omega arith))
        | no l ↦
            elim (dec_lt (group_at list p) (m.facts + m.facts)) [
              | yes r ↦ omega (arith, a.1 (omega arith) r, b.1 (omega arith) (omega arith))
              | no r ↦
                  elim (dec_lt (group_at list p) (m.facts + m.facts + m.levels)) [
                    | yes u ↦ omega (arith, a.2 (omega arith) u, b.2 (omega arith) (omega arith))
                    | no u ↦ omega (arith, a.3 (omega arith), b.3 (omega arith))
                  ]
            ]
      ]

  -- the words of a fact's setters, of its conditions, of a level's uses, and of its needs
  module _ (f : ℕ) (low : f < m.facts) where
    MadeSetter : ℕ → ℕ → Type 0
    MadeSetter e w = Made w f (effect_tick m x e) e (m.effect_value e) (m.effect_step e)

    setter_made : (e : ℕ) → Setter m f e → MadeSetter e (effect_word m x e)
    unfolding MadeSetter
    setter_made e t = subst (λ f. Made (effect_word m x e) f (effect_tick m x e) e (m.effect_value e) (m.effect_step e)) t.1 (effect_made e t.0)

    setters_held : Held (Setter m f) f (effect_tick m x) m.effect_value m.effect_step (point_count m) list
    unfolding MadeSetter
    setters_held =
        record {
          given =
              each (λ j w. word_group w ≡ f → (e : ℕ) × Setter m f e × MadeSetter e w)
              (λ c h g. absurd (omega (arith, group_is (condition_made c h))))
              (λ e h g. let t : Setter m f e = (h, sym (group_is (effect_made e h)) ∙ g) in (e, t, setter_made e t))
              (λ u h g. absurd (omega (arith, group_is (use_made u h)))) (λ n h g. absurd (omega (arith, group_is (need_made n h))));
          listed = λ e t. (m.conditions + e, omega arith, subst (MadeSetter e) (sym (known.effects e t.0).0) (setter_made e t));
        }

    MadeWanting : ℕ → ℕ → Type 0
    MadeWanting c w = Made w (wanted_group m f) (first_tick m x c) c (m.condition_value c) (m.condition_step c)

    wanting_made : (c : ℕ) → Wanting m f c → MadeWanting c (condition_word m x c)
    unfolding MadeWanting
    wanting_made c t =
        subst (λ f. Made (condition_word m x c) (wanted_group m f) (first_tick m x c) c (m.condition_value c) (m.condition_step c)) t.1
        (condition_made c t.0)

    wanted_held : Held (Wanting m f) (wanted_group m f) (first_tick m x) m.condition_value m.condition_step (point_count m) list
    unfolding MadeWanting
    wanted_held =
        record {
          given =
              each (λ j w. word_group w ≡ wanted_group m f → (c : ℕ) × Wanting m f c × MadeWanting c w)
              (λ c h g.
              let q = group_is (condition_made c h) in let t : Wanting m f c = (h, omega arith) in (c, t, wanting_made c t))
              (λ e h g. absurd (omega (arith, group_is (effect_made e h), form.effect_fact e h)))
              (λ u h g. absurd (omega (arith, group_is (use_made u h)))) (λ n h g. absurd (omega (arith, group_is (need_made n h))));
          listed = λ c t. (c, omega arith, subst (MadeWanting c) (sym (known.conditions c t.0).0) (wanting_made c t));
        }

  module _ (l : ℕ) (low : l < m.levels) where
    MadeUsing : ℕ → ℕ → Type 0
    MadeUsing u w = Made w (used_group m l) (use_tick m x u) u 0 (m.use_step u)

    using_made : (u : ℕ) → Using m l u → MadeUsing u (use_word m x u)
    unfolding MadeUsing
    using_made u t = subst (λ l. Made (use_word m x u) (used_group m l) (use_tick m x u) u 0 (m.use_step u)) t.1 (use_made u t.0)

    used_held : Held (Using m l) (used_group m l) (use_tick m x) (λ _. 0) m.use_step (point_count m) list
    unfolding MadeUsing
    used_held =
        record {
          given =
              each (λ j w. word_group w ≡ used_group m l → (u : ℕ) × Using m l u × MadeUsing u w)
              (λ c h g. absurd (omega (arith, group_is (condition_made c h), form.condition_fact c h)))
              (λ e h g. absurd (omega (arith, group_is (effect_made e h), form.effect_fact e h)))
              (λ u h g. let q = group_is (use_made u h) in let t : Using m l u = (h, omega arith) in (u, t, using_made u t))
              (λ n h g. absurd (omega (arith, group_is (need_made n h))));
          listed = λ u t. (m.conditions + m.effects + u, omega arith, subst (MadeUsing u) (sym (known.uses u t.0).0) (using_made u t));
        }

    MadeNeeding : ℕ → ℕ → Type 0
    MadeNeeding n w = Made w (needed_group m l) (need_tick m x n) n 0 (m.need_step n)

    needing_made : (n : ℕ) → Needing m l n → MadeNeeding n (need_word m x n)
    unfolding MadeNeeding
    needing_made n t = subst (λ l. Made (need_word m x n) (needed_group m l) (need_tick m x n) n 0 (m.need_step n)) t.1 (need_made n t.0)

    needed_held : Held (Needing m l) (needed_group m l) (need_tick m x) (λ _. 0) m.need_step (point_count m) list
    unfolding MadeNeeding
    needed_held =
        record {
          given =
              each (λ j w. word_group w ≡ needed_group m l → (n : ℕ) × Needing m l n × MadeNeeding n w)
              (λ c h g. absurd (omega (arith, group_is (condition_made c h), form.condition_fact c h)))
              (λ e h g. absurd (omega (arith, group_is (effect_made e h), form.effect_fact e h)))
              (λ u h g. absurd (omega (arith, group_is (use_made u h), form.use_level u h)))
              (λ n h g. let q = group_is (need_made n h) in let t : Needing m l n = (h, omega arith) in (n, t, needing_made n t));
          listed = λ n t.
              (m.conditions + m.effects + m.uses + n, omega arith, subst (MadeNeeding n) (sym (known.needs n t.0).0) (needing_made n t));
        }

  pub points_known : {points begins : List ℕ} → Rearranged (point_count m) list points → Grouped (point_count m) (group_count m) points begins
      → point_count m ≤ length points
      → group_count m < length begins
      → PointsKnown m x points begins
  points_known same grouped fits room =
      record {
        room = room;
        setters = λ f low. placed (setters_held f low) distinct_words same grouped (omega arith) fits;
        wanted = λ f low. placed (wanted_held f low) distinct_words same grouped (omega arith) fits;
        used = λ l low. placed (used_held l low) distinct_words same grouped (omega arith) fits;
        needed = λ l low. placed (needed_held l low) distinct_words same grouped (omega arith) fits;
      }

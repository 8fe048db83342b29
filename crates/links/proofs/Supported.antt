-- The link by the run of a value: what gives it after all that opposes it is, in the order of ticks, the run that ends where it is seen, and
-- the supporter is the point to which the tie goes with which the run begins.
use Prim.Native.Nat.{ℕ, ◌+◌, ◌-◌, ◌≤◌, ◌<◌}
use mathlib.Core.Path.{◌≡◌, refl, sym, ap, ap₂, subst, ◌∙◌}
use mathlib.Core.Bool.{true, false, ◌&&◌, cond}
use mathlib.Core.List.{List}
use mathlib.Core.Logic.{⊎_elim}
use native.Mathlib.Decide.{dec_lt}
use native.Mathlib.Omega.{arith}
use borrow.Author.Tests.{leb-true, le-leb, eqb-true, eq-eqb, ne_eqb, lt-ltb, le-ltb}
use lib.Dec.{eqb}
use lib.ListN.{length, get_or}
use Rattle.laws.proofs.Search.{either, contrary, and_both}
use Rattle.laws.proofs.Fold.{least_le, least_ge}
use Rattle.job.specs.Model.{Model}
use Rattle.job.specs.Clocked.{ClockedForm}
use Rattle.timeline.specs.Words.{step_at, number_at, tick_at, value_at}
use Rattle.timeline.specs.Placed.{Parted, Run}
use Rattle.validity.specs.Ticks.{effect_tick, first_tick}
use Rattle.validity.specs.Seen.{seen, after_all}
use Rattle.validity.specs.Valid.{Valid}
use Rattle.validity.proofs.Seen.{Giver, last_given_ge, last_given_le, after_all_ge}
use Rattle.points.specs.Points.{PointsKnown, OneValue, wanted_group}
use Rattle.points.proofs.ClockedRange.{form_range}
use Rattle.points.proofs.Placed.{valid_one_value, placed_giver, giver_placed, placed_apart, seen_first, seen_before}
use Rattle.order_file.specs.Contents.{initial_state}
use Rattle.orders.specs.Links.{last_opposing, producer, earliest_produced, tied, Favoured, nobody, the_step, supporter, link_of, condition_link}
use Rattle.orders.specs.Links.{goal_link, nth_link}
use Rattle.orders.specs.Supporter.{TieTo, own_step, lower_number}
use Rattle.orders.proofs.Supporter.{Own, supporter_is}
use Rattle.links.specs.Tied.{Tied, OwnPlace}
use Rattle.links.specs.Linking.{run_link}

-- the point at place `at`, of those below high the one to which the tie of the point at place `run` goes
pub record TakenAt (points : List ℕ) (own : ℕ → Type 0) (high run at : ℕ) : Type 0 where
  begins : run ≤ at
  ends : at < high
  tick : tick_at points at ≡ tick_at points run
  first :
      (p : ℕ) → run ≤ p → p < high → tick_at points p ≡ tick_at points run → TieTo own (number_at points at) (number_at points p)

-- Of the setters of fact f.
module _ {m : Model} {x : ℕ → ℕ} {points begins : List ℕ} (known : PointsKnown m x points begins) (f : ℕ) (h : f < m.facts) {run : ℕ}
    (from : get_or begins f 0 ≤ run) where
  -- at one tick they stand by number
  numbered :
      (p q : ℕ) → run ≤ p → p ≤ q → q < get_or begins (f + 1) 0 → tick_at points p ≡ tick_at points q → number_at points p ≤ number_at points q
  numbered p q l i j e =
      elim (dec_lt p q) [
        | yes k ↦ omega (arith, (known.setters f h).ordered p q (omega arith) k j e)
        | no k ↦ omega (arith, ap (number_at points) (let same : p ≡ q = omega arith in same))
      ]

  -- where nobody comes first the tie goes to the first of them
  taken_first : run < get_or begins (f + 1) 0 → TakenAt points (Own m nobody) (get_or begins (f + 1) 0) run run
  taken_first some =
      record {
        begins = omega arith;
        ends = some;
        tick = refl;
        first = λ p l i e. lower_number (λ o. o) (numbered run p (omega arith) l i (sym e));
      }

  module _ {end step at : ℕ} (tie : Tied points run (get_or begins (f + 1) 0) end) (goes : OwnPlace points run end step at) where
    -- what has the tick of a tie belongs to it
    together : (p : ℕ) → p < get_or begins (f + 1) 0 → tick_at points p ≡ tick_at points run → p < end
    together p i e =
        elim (dec_lt p end) [
          | yes j ↦ j
          | no j ↦
              let group = known.setters f h in
              let up : tick_at points run ≤ tick_at points end = group.rises run end from tie.some (omega arith) in
              absurd (tie.other (omega arith) (omega (arith, on p (omega arith) i)))
        ]
      where
        on : (p : ℕ) → end ≤ p → p < get_or begins (f + 1) 0 → tick_at points end ≤ tick_at points p
        on p l i =
            elim (dec_lt end p) [
              | yes j ↦ (known.setters f h).rises end p (omega (arith, tie.some)) j i
              | no j ↦ omega (arith, ap (tick_at points) (let same : p ≡ end = omega arith in same))
            ]

    -- a tie by places and steps is one by numbers
    by_number :
        (p : ℕ) → run ≤ p → p < get_or begins (f + 1) 0 → tick_at points p ≡ tick_at points run → TieTo (λ q. step_at points q ≡ step) at p
        → TieTo (λ e. m.effect_step e ≡ step) (number_at points at) (number_at points p)
    by_number p l i e w = go w
      where
        steps : (q : ℕ) → run ≤ q → q < get_or begins (f + 1) 0 → step_at points q ≡ m.effect_step (number_at points q)
        steps q j k = (known.setters f h).steps q (omega arith) k

        here : step_at points at ≡ m.effect_step (number_at points at)
        here = steps at goes.begins (omega (arith, goes.ends tie.some, tie.to))

        go : TieTo (λ q. step_at points q ≡ step) at p → TieTo (λ e. m.effect_step e ≡ step) (number_at points at) (number_at points p)
        go (own_step o n) = own_step (sym here ∙ o) (λ k. n (steps p l i ∙ k))
        go (lower_number o n) =
            lower_number (λ k. sym here ∙ o (steps p l i ∙ k))
            (numbered at p goes.begins n i (tie.alike.same at goes.begins (goes.ends tie.some) ∙ sym e))

    -- the place that a condition takes
    pub taken_own : TakenAt points (λ e. m.effect_step e ≡ step) (get_or begins (f + 1) 0) run at
    taken_own =
        let within : at < end = goes.ends tie.some in
        record {
          begins = goes.begins;
          ends = omega (arith, tie.to);
          tick = tie.alike.same at goes.begins within;
          first = λ p l i e. by_number p l i e (goes.first p l (together p i e));
        }

module _ {m : Model} {x : ℕ → ℕ} {points begins : List ℕ} (known : PointsKnown m x points begins) (form : ClockedForm m) (valid : Valid m x)
    (f : ℕ) (h : f < m.facts) {t place run : ℕ} (parts : Parted points (get_or begins f 0) (get_or begins (f + 1) 0) t place)
    (so : Run points (get_or begins f 0) place run) (v : ℕ) (b : v ≤ 1) (sees : seen m x f t ≡ v) where
  abbrev low : ℕ
  low = get_or begins f 0

  abbrev high : ℕ
  high = get_or begins (f + 1) 0

  one : OneValue m x
  one = valid_one_value form valid

  -- the value seen at t is that of the point before
  last_is : low < place → value_at points (place - 1) ≡ v
  last_is l = sym (seen_before known f h (form_range form) parts one l) ∙ sees

  -- nothing opposes before t but what stands before the run
  opposed :
      (e : ℕ) → Giver m f (1 - v) e → effect_tick m x e < t
      → (p : ℕ) × (low ≤ p) × (p < run) × (tick_at points p ≡ effect_tick m x e) × (value_at points p ≡ 1 - v)
  opposed e g early =
      let at = giver_placed known f h (1 - v) e g in
      let p : ℕ = at.0 in
      let from : low ≤ p = at.1 in
      let tick : tick_at points p ≡ effect_tick m x e = at.4 in
      let value : value_at points p ≡ 1 - v = at.5 in
      elim (dec_lt p place) [
        | yes i ↦
            let last : value_at points (place - 1) ≡ v = last_is (omega arith) in
            elim (dec_lt p run) [
              | yes j ↦ (p, from, j, tick, value)
              | no j ↦ let same : value_at points p ≡ value_at points (place - 1) = so.alike p (omega arith) i in absurd (omega arith)
            ]
        | no i ↦ let late : t ≤ tick_at points p = parts.after p (omega arith) at.2 in absurd (omega arith)
      ]

  -- what stands right before the run opposes
  turned : low < run → tick_at points (run - 1) < last_opposing m x f v t
  turned l =
      let to : run ≤ place = so.to in
      let end : place ≤ high = parts.to in
      let last : value_at points (place - 1) ≡ v = last_is (omega arith) in
      let g = placed_giver known f h (run - 1) (omega arith) (omega arith) in
      let bit : m.effect_value (number_at points (run - 1)) ≤ 1 = form.effect_value (number_at points (run - 1)) g.known in
      let was : m.effect_value (number_at points (run - 1)) ≡ value_at points (run - 1) = g.of_value in
      let differs : value_at points (run - 1) ≡ v → ⊥ = λ e. so.turned l (e ∙ sym last) in
      let opposes : m.effect_value (number_at points (run - 1)) ≡ 1 - v = omega arith in
      let tick : tick_at points (run - 1) ≡ effect_tick m x (number_at points (run - 1)) =
      (known.setters f h).ticks (run - 1) (omega arith) (omega arith) in
      let early : tick_at points (run - 1) < t = parts.before (run - 1) (omega arith) (omega arith) in
      rw tick
      (last_given_ge m x f (1 - v) t (number_at points (run - 1)) (record { known = g.known; of_fact = g.of_fact; of_value = opposes })
      (omega arith))

  -- so the run is the first exactly where nothing opposes
  unopposed : eqb (last_opposing m x f v t) 0 ≡ eqb run low
  unopposed =
      let from : low ≤ run = so.from in
      elim (dec_lt low run) [
        | yes l ↦
            let some : tick_at points (run - 1) < last_opposing m x f v t = turned l in
            ne_eqb (last_opposing m x f v t) 0 (λ e. omega arith) ∙ sym (ne_eqb run low (λ e. omega arith))
        | no l ↦
            let none : last_opposing m x f v t ≤ 0 =
            last_given_le m x f (1 - v) t 0 (λ e g early. let p = opposed e g early in absurd (omega (arith, p.1, p.2))) in
            eq-eqb (last_opposing m x f v t) 0 (omega arith) ∙ sym (eq-eqb run low (omega arith))
      ]

  -- where the run has a point, the one at place `at`, to which the tie of its first goes, supports
  module _ (own : Favoured) (at : ℕ) (takes : TakenAt points (Own m own) high run at) (some : run < place) where
    -- it belongs to the run
    inside : at < place
    inside =
        let early : tick_at points run < t = parts.before run so.from some in
        let tick : tick_at points at ≡ tick_at points run = takes.tick in
        elim (dec_lt at place) [
          | yes i ↦ i
          | no i ↦ let late : t ≤ tick_at points at = parts.after at (omega arith) takes.ends in absurd (omega arith)
        ]

    gives_it : Giver m f v (number_at points at)
    gives_it =
        let from : low ≤ run = so.from in
        let begins : run ≤ at = takes.begins in
        let last : value_at points (place - 1) ≡ v = last_is (omega arith) in
        let g = placed_giver known f h at (omega arith) takes.ends in
        record { known = g.known; of_fact = g.of_fact; of_value = g.of_value ∙ so.alike at begins inside ∙ last }

    tick_first : tick_at points run ≡ effect_tick m x (number_at points at)
    tick_first =
        let from : low ≤ run = so.from in
        let begins : run ≤ at = takes.begins in
        sym takes.tick ∙ (known.setters f h).ticks at (omega arith) takes.ends

    late : last_opposing m x f v t ≤ tick_at points run
    late =
        let from : low ≤ run = so.from in
        let end : place ≤ high = parts.to in
        let value : value_at points run ≡ v = so.alike run (omega arith) some ∙ last_is (omega arith) in
        last_given_le m x f (1 - v) t (tick_at points run)
        (λ e g early.
        let p = opposed e g early in
        let tick : tick_at points p.0 ≡ effect_tick m x e = p.3 in
        let other : value_at points p.0 ≡ 1 - v = p.4 in
        rw (sym tick) (placed_apart known f h one p.0 run p.1 p.2 (omega arith) (λ e. omega arith)))

    produces : producer m x f v t (number_at points at) ≡ true
    unfolding producer
    produces =
        ap₂ ◌&&◌ (ap₂ ◌&&◌ (eq-eqb _ _ gives_it.of_fact) (eq-eqb _ _ gives_it.of_value))
        (le-leb (last_opposing m x f v t) (effect_tick m x (number_at points at)) (omega (arith, late, tick_first)))

    none_before :
        (k : ℕ) → k < m.effects → producer m x f v t k ≡ true
        → (tick_at points run ≤ effect_tick m x k) × (tick_at points run ≡ effect_tick m x k → TieTo (Own m own) (number_at points at) k)
    unfolding producer
    none_before k l q =
        let both = and_both _ _ q in
        let is = and_both _ _ both.0 in
        let after : last_opposing m x f v t ≤ effect_tick m x k = leb-true _ _ both.1 in
        let found = giver_placed known f h v k (record { known = l; of_fact = eqb-true _ _ is.0; of_value = eqb-true _ _ is.1 }) in
        let p : ℕ = found.0 in
        let tick : tick_at points p ≡ effect_tick m x k = found.4 in
        elim (dec_lt p run) [
          | yes i ↦ absurd (omega (arith, turned (omega (arith, found.1)), up p found.1 i))
          | no i ↦ (
            omega (arith, later p (omega arith) found.2),
            λ e. subst (TieTo (Own m own) (number_at points at)) found.3 (takes.first p (omega arith) found.2 (tick ∙ sym e)),
          )
        ]
      where
        later : (p : ℕ) → run ≤ p → p < high → tick_at points run ≤ tick_at points p
        later p l i =
            elim (dec_lt run p) [
              | yes j ↦ (known.setters f h).rises run p so.from j i
              | no j ↦ let same : p ≡ run = omega arith in omega (arith, ap (tick_at points) same)
            ]

        up : (p : ℕ) → low ≤ p → p < run → tick_at points p ≤ tick_at points (run - 1)
        up p from i =
            let end : place ≤ high = parts.to in
            elim (dec_lt p (run - 1)) [
              | yes j ↦ (known.setters f h).rises p (run - 1) from j (omega arith)
              | no j ↦ let same : p ≡ run - 1 = omega arith in omega (arith, ap (tick_at points) same)
            ]

    earliest : earliest_produced m x f v t ≡ tick_at points run
    unfolding earliest_produced
    earliest =
        let tick : ℕ → ℕ = λ e. cond (producer m x f v t e) (effect_tick m x e) (after_all m x) in
        let le = least_le tick m.effects (after_all m x) (number_at points at) gives_it.known in
        let here : tick (number_at points at) ≡ effect_tick m x (number_at points at) =
        ap (λ c. cond c (effect_tick m x (number_at points at)) (after_all m x)) produces in
        let ends : effect_tick m x (number_at points at) < after_all m x = after_all_ge m x (number_at points at) gives_it.known in
        let ge = least_ge tick m.effects (after_all m x) (tick_at points run) (omega (arith, tick_first))
        (λ k l.
        ⊎_elim
        (λ (q : producer m x f v t k ≡ true).
        let e : tick k ≡ effect_tick m x k = ap (λ c. cond c (effect_tick m x k) (after_all m x)) q in
        omega (arith, (none_before k l q).0))
        (λ (q : producer m x f v t k ≡ false).
        let e : tick k ≡ after_all m x = ap (λ c. cond c (effect_tick m x k) (after_all m x)) q in
        omega (arith, tick_first))
        (either (producer m x f v t k))) in
        omega (arith, le, ge, tick_first)

    supports : supporter m x own f v t ≡ number_at points at
    unfolding tied
    supports =
        supporter_is m x f v t own (number_at points at) gives_it.known (ap₂ ◌&&◌ produces (eq-eqb _ _ (sym tick_first ∙ sym earliest)))
        (λ k l q.
        let both = and_both _ _ q in
        (none_before k l both.0).1 (sym (eqb-true _ _ both.1 ∙ earliest)))

  -- where the initial state does not support, the run has a point
  run_some : (eqb run low && eqb (m.initial f) v) ≡ false → run < place
  run_some no-initial =
      elim (dec_lt low place) [
        | yes l ↦ so.some l
        | no l ↦
            let from : low ≤ run = so.from in
            let to : run ≤ place = so.to in
            contrary
            (ap₂ ◌&&◌ (eq-eqb run low (omega arith)) (eq-eqb _ _ (sym (seen_first known f h (form_range form) parts (omega arith)) ∙ sees)))
            no-initial
      ]

  run_linked :
      (own : Favoured) (at : ℕ) → (run < high → TakenAt points (Own m own) high run at)
      → run_link points (m.initial f) v low run at ≡ link_of m x own f v t
  unfolding run_link link_of
  run_linked own at takes =
      let initially = eqb run low && eqb (m.initial f) v in
      ⊎_elim
      (λ (q : initially ≡ true).
      ap (λ c. cond c initial_state (number_at points at)) q ∙ sym (ap (λ c. cond c initial_state (supporter m x own f v t)) q))
      (λ (q : initially ≡ false).
      ap (λ c. cond c initial_state (number_at points at)) q
      ∙ sym (supports own at (takes (omega (arith, run_some q, parts.to))) (run_some q))
      ∙ sym (ap (λ c. cond c initial_state (supporter m x own f v t)) q))
      (either initially)
      ∙ ap (λ c. cond (c && eqb (m.initial f) v) initial_state (supporter m x own f v t)) (sym unopposed)

module _ {m : Model} {x : ℕ → ℕ} {points begins : List ℕ} (known : PointsKnown m x points begins) (form : ClockedForm m) (valid : Valid m x) where
  -- The condition at place p among those of fact f.
  module _ (f p : ℕ) (h : f < m.facts) (from : get_or begins (wanted_group m f) 0 ≤ p) (to : p < get_or begins (wanted_group m f + 1) 0) where
    condition_sees : seen m x f (tick_at points p) ≡ value_at points p
    condition_sees =
        let group = known.wanted f h in
        let c = number_at points p in
        let is = group.holds p from to in
        let span : m.condition_from c ≤ m.condition_to c = form.condition_span c is.0 in
        ap₂ (seen m x) (sym is.1) (group.ticks p from to)
        ∙ valid.condition_seen c (first_tick m x c) is.0 (omega arith) (omega arith)
        ∙ sym (group.values p from to)

    condition_bit : value_at points p ≤ 1
    condition_bit =
        let group = known.wanted f h in
        rw (group.values p from to) (form.condition_value (number_at points p) (group.holds p from to).0)

    module _ {place run at : ℕ} (parts : Parted points (get_or begins f 0) (get_or begins (f + 1) 0) (tick_at points p) place)
        (so : Run points (get_or begins f 0) place run)
        (takes : run < get_or begins (f + 1) 0
        → TakenAt points (λ e. m.effect_step e ≡ step_at points p) (get_or begins (f + 1) 0) run at) where
      pub condition_some : (eqb run (get_or begins f 0) && eqb (m.initial f) (value_at points p)) ≡ false → at < get_or begins (f + 1) 0
      condition_some q =
          (takes (omega (arith, run_some known form valid f h parts so (value_at points p) condition_bit condition_sees q, parts.to))).ends

      pub condition_is :
          run_link points (m.initial f) (value_at points p) (get_or begins f 0) run at ≡ nth_link m x (number_at points p)
      unfolding nth_link condition_link
      condition_is =
          let group = known.wanted f h in
          let c = number_at points p in
          let is = group.holds p from to in
          run_linked known form valid f h parts so (value_at points p) condition_bit condition_sees (the_step (step_at points p)) at takes
          ∙ ap (λ k. link_of m x (the_step k) f (value_at points p) (tick_at points p)) (group.steps p from to)
          ∙ ap (λ n. link_of m x (the_step (m.condition_step c)) n (value_at points p) (tick_at points p)) (sym is.1)
          ∙ ap₂ (link_of m x (the_step (m.condition_step c)) (m.condition_fact c)) (group.values p from to) (group.ticks p from to)
          ∙ ap (λ b. cond b (condition_link m x c) (goal_link m x (c - m.conditions))) (sym (lt-ltb c m.conditions is.0))

  -- Goal g: all setters of its fact lie before the tick after all.
  module _ (g : ℕ) (h : g < m.goals) {f v low high run : ℕ} (of_fact : f ≡ m.goal_fact g) (of_value : v ≡ m.goal_value g)
      {initial : ℕ} (initially : initial ≡ m.initial f) (begin : low ≡ get_or begins f 0) (next : high ≡ get_or begins (f + 1) 0)
      (so : Run points low high run) where
    there : f < m.facts
    there = rw of_fact (form.goal_fact g h)

    all_before : Parted points (get_or begins f 0) (get_or begins (f + 1) 0) (after_all m x) high
    all_before =
        let group = known.setters f there in
        record {
          from = omega (arith, group.begins);
          to = omega arith;
          before = λ p l i.
              rw (group.ticks p l (omega arith)) (after_all_ge m x (number_at points p) (group.holds p l (omega arith)).0);
          after = λ p l i. absurd (omega arith);
        }

    goal_bit : v ≤ 1
    goal_bit = rw of_value (form.goal_value g h)

    goal_sees : seen m x f (after_all m x) ≡ v
    goal_sees = rw (of_fact, of_value) (valid.goal_reached g h)

    pub goal_some : (eqb run low && eqb initial v) ≡ false → run < length points
    goal_some q =
        let l : run < high = run_some known form valid f there all_before (rw begin at so) v goal_bit goal_sees (rw (begin, initially) at q) in
        omega (arith, (known.setters f there).ends)

    pub goal_is : run_link points initial v low run run ≡ nth_link m x (m.conditions + g)
    unfolding nth_link goal_link
    goal_is =
        let k = m.conditions + g in
        let e : k - m.conditions ≡ g = omega arith in
        let from : get_or begins f 0 ≤ run = omega (arith, so.from) in
        ap₂ (λ i n. run_link points i v n run run) initially begin
        ∙ run_linked known form valid f there all_before (rw begin at so) v goal_bit goal_sees nobody run (taken_first known f there from)
        ∙ ap₂ (λ n u. link_of m x nobody n u (after_all m x)) of_fact of_value
        ∙ sym (ap (goal_link m x) e)
        ∙ ap (λ b. cond b (condition_link m x k) (goal_link m x (k - m.conditions))) (sym (le-ltb k m.conditions (omega arith)))

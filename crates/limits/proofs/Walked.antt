-- A walk along points beside the timed facts of their fact.
use Prim.Native.Nat.{ℕ, ◌+◌, ◌-◌, ◌≤◌, ◌<◌}
use mathlib.Core.Path.{◌≡◌, refl, sym, ap, subst, ◌∙◌}
use mathlib.Core.List.{List}
use mathlib.Core.Logic.{◌⊎◌, inl, inr, ⊎_elim}
use native.Mathlib.Decide.{dec_lt, ℕ_discrete}
use native.Mathlib.Omega.{arith}
use lib.ListN.{get_or}
use Rattle.std.specs.Prelude.{Option, Some, None}
use Rattle.timeline.specs.Words.{word_step, word_tick, word_value, tick_at, value_at, number_at}
use Rattle.timeline.specs.Placed.{Parted, Run}
use Rattle.timeline.specs.Walking.{Walking}
use Rattle.timeline.specs.declared.walk.Cursor.{Cursor}
use Rattle.job.specs.Model.{Model}
use Rattle.job.specs.WellFormed.{WellFormed}
use Rattle.points.specs.Points.{wanted_group}
use Rattle.moves.specs.Moved.{Up, Down, Moved, Among, After, Before, start_after, start_before}
use Rattle.moves.specs.Others.{Row, Passed, LastOther, InTime, NoOther, NextOther}
use Rattle.moves.proofs.Moved.{moved_is, moved_either}
use Rattle.limits.specs.Beside.{LaterThan, SoonerAt, OfWords, OfSetters, OfWanted, OfTimed, OfFact}
use Rattle.limits.specs.Known.{TimedKnown}

-- a cursor before all timed facts, one that has come to a tick, and one that goes on to a later one
pub walking_first :
    {order : List ℕ} {from until : ℕ} (t : ℕ) → Row order from until
    → Walking order from until t (record { place = from; run = from })
walking_first t w =
    record {
      ends = w.ends;
      rises = w.rises;
      from = omega arith;
      to = w.begins;
      before = λ p a b. absurd (omega arith);
      run = record {
        from = omega arith;
        to = omega arith;
        some = λ l. absurd (omega arith);
        alike = λ p a b. absurd (omega arith);
        turned = λ l. absurd (omega arith);
      };
    }

module _ {order : List ℕ} {from until : ℕ} (w : Row order from until) {t : ℕ} {cursor : Cursor} (a : Parted order from until t cursor.place)
    (b : Run order from cursor.place cursor.run) where
  pub walking_later : {t' : ℕ} → t ≤ t' → Walking order from until t' cursor
  walking_later l =
      record {
        ends = w.ends;
        rises = w.rises;
        from = a.from;
        to = a.to;
        before = λ p c d. omega (arith, a.before p c d);
        run = b;
      }

  pub walking_passed : Passed order from cursor
  walking_passed =
      record {
        row = record {
          begins = a.from;
          ends = omega (arith, a.to, w.ends);
          rises = λ p q c d e. w.rises p q c d (omega (arith, a.to));
          late = λ p c d. w.late p c (omega (arith, a.to));
        };
        run = b;
      }

  module _ {value : ℕ} {last : Option ℕ} (o : LastOther order from cursor.place value last) where
    pub other_timed : InTime last
    other_timed tick e = let f = o.one tick e in omega (arith, f.4, w.late f.0 f.1 (omega (arith, f.2, a.to)))

    -- raised by the last is raised by all
    pub later_all :
        (x : ℕ → ℕ) (word : ℕ) (before after : List ℕ) → t ≡ word_tick word → value ≡ word_value word
        → Moved Up (After last (word_step word) (word_tick word - x (word_step word))) before after
        → Moved Up (OfTimed order from until (LaterThan x) word) before after
    later_all x word before after here same m =
        record {
          size = m.size;
          moves = m.moves;
          reaches = λ k v u.
              let near : u.0 < cursor.place =
              elim (dec_lt u.0 cursor.place) [
                | yes l ↦ l
                | no l ↦ absurd (omega (arith, a.after u.0 (omega arith) u.2, u.3.1, here))
              ]
              in
              let f = o.above u.0 u.1 near (λ q. u.3.0 (sym same ∙ q)) in
              omega (
                arith,
                u.3.3,
                f.2,
                m.reaches k (start_after f.0 (word_tick word - x (word_step word))) (f.0, f.1, u.3.2, refl),
              );
          least = λ k bound g all.
              m.least k bound g
              (λ v u.
              let f = o.one u.0 u.1 in
              omega (
                arith,
                u.3,
                f.4,
                all (start_after (tick_at order f.0) (word_tick word - x (word_step word))) (
                  f.0,
                  f.1,
                  omega (arith, f.2, a.to),
                  (λ q. f.3 (same ∙ q), omega (arith, here, a.before f.0 f.1 f.2), u.2, refl),
                ),
              ));
        }

-- the places up to which no timed fact has another value after the points' ticks
pub next_later :
    {order : List ℕ} {from old until value t place t' : ℕ} → NoOther order from old value t → NextOther order old until value t place → t ≤ t'
    → NoOther order from place value t'
next_later {old = old} a b l p c d e g =
    elim (dec_lt p old) [
      | yes h ↦ a p c h e (omega arith)
      | no h ↦ b.before p (omega arith) d e (omega arith)
    ]

next_whole :
    {order : List ℕ} {from old until value t place : ℕ} → from ≤ old → NoOther order from old value t → NextOther order old until value t place
    → NextOther order from until value t place
next_whole h a b =
    record { begins = omega (arith, b.begins); ends = b.ends; before = next_later a b (omega arith); here = b.here }

-- the place for a point's value
pub next_place :
    {order : List ℕ} {from until value t place off on off' on' : ℕ} → value < 2
    → (value ≡ 0 → place ≡ off') × ((value ≡ 0 → ⊥) → place ≡ on')
    → from ≤ off
    → NoOther order from off 0 t
    → NextOther order off until 0 t off'
    → from ≤ on
    → NoOther order from on 1 t
    → NextOther order on until 1 t on'
    → NextOther order from until value t place
next_place {value = value} few is h a b i c d =
    elim (ℕ_discrete value 0) [
      | yes e ↦ rw (is.0 e, e) (next_whole h a b)
      | no e ↦ let one : value ≡ 1 = omega arith in rw (is.1 e, one) (next_whole i c d)
    ]

module _ {order : List ℕ} {from until : ℕ} (w : Row order from until) {value t place : ℕ} {next : Option ℕ}
    (n : NextOther order from until value t place) (is : (until ≤ place → next ≡ None) × (place < until → next ≡ Some (tick_at order place)))
  where
    pub next_timed : InTime next
    next_timed tick e =
        elim (dec_lt place until) [
          | yes l ↦ let q : tick ≡ tick_at order place = cc (is.1 l, e) in omega (arith, q, w.late place n.begins l)
          | no l ↦ absurd (cc (is.0 (omega arith), e))
        ]

    -- lowered by the first is lowered by all
    pub sooner_all :
        (offset : ℕ → ℕ) (word : ℕ) {step at : ℕ} (before after : List ℕ) → t ≡ word_tick word → value ≡ word_value word → step ≡ word_step word
        → at ≡ offset word
        → Moved Down (Before next step at) before after
        → Moved Down (OfTimed order from until (SoonerAt offset) word) before after
    sooner_all offset word {step} {at} before after here same own far m =
        record {
          size = m.size;
          moves = m.moves;
          reaches = λ k v u.
              let q = u.0 in
              let behind : place ≤ q =
              elim (dec_lt q place) [
                | yes l ↦ absurd (n.before q u.1 l (λ e. u.3.0 (sym same ∙ e)) (omega (arith, here, u.3.1)))
                | no l ↦ omega arith
              ]
              in
              let l : place < until = omega (arith, u.2) in
              let low : tick_at order place ≤ tick_at order q =
              elim (dec_lt place q) [
                | yes i ↦ w.rises place q n.begins i u.2
                | no i ↦ omega (arith, ap (tick_at order) (let e : place ≡ q = omega arith in e))
              ]
              in
              omega (
                arith,
                u.3.3,
                low,
                far,
                m.reaches k (start_before (tick_at order place) at) (tick_at order place, is.1 l, own ∙ u.3.2, refl),
              );
          least = λ k bound g all.
              m.least k bound g
              (λ v u.
              elim (dec_lt place until) [
                | yes l ↦
                    let q : u.0 ≡ tick_at order place = cc (is.1 l, u.1) in
                    omega (
                      arith,
                      u.3,
                      q,
                      far,
                      all (start_before (tick_at order place) (offset word)) (
                        place,
                        n.begins,
                        l,
                        (λ e. (n.here l).0 (same ∙ e), omega (arith, here, (n.here l).1), sym own ∙ u.2, refl),
                      ),
                    )
                | no l ↦ absurd (cc (is.0 (omega arith), u.1))
              ]);
        }

-- the orders of each fact are those of each timed fact
module _ (To : ℕ → ℕ → Type 0) (same : (a : ℕ) → To a a) (on : (a b c : ℕ) → To a b → To b c → To a c) (m : Model)
    (points begins order marks : List ℕ) (By With : ℕ → ℕ → ℕ → ℕ → ℕ → Type 0) where
  abbrev ByTimed : ℕ → ℕ → ℕ → Type 0
  ByTimed j k v =
      OfSetters points begins (m.timed_fact j) (By (m.timed_tick j) (m.timed_value j)) k v
      ⊎ OfWanted m points begins (m.timed_fact j) (With (m.timed_tick j) (m.timed_value j)) k v

  module _ (w : WellFormed m) (known : TimedKnown m order marks) where
    -- those of its setters, then those of its conditions
    pub moved_points :
        (before mid after : List ℕ) (f : ℕ) {low high from until low' high' from' until' : ℕ}
        → low ≡ get_or begins f 0
        → high ≡ get_or begins (f + 1) 0
        → from ≡ get_or marks f 0
        → until ≡ get_or marks (f + 1) 0
        → low' ≡ get_or begins (wanted_group m f) 0
        → high' ≡ get_or begins (wanted_group m f + 1) 0
        → from' ≡ get_or marks f 0
        → until' ≡ get_or marks (f + 1) 0
        → Moved To (OfWords points low high (OfTimed order from until By)) before mid
        → Moved To (OfWords points low' high' (OfTimed order from' until' With)) mid after
        → Moved To (OfFact m.facts points begins order marks By With f) before after
    moved_points before mid after f a b c d a' b' c' d' v w =
        moved_either To same on (OfSetters points begins f (OfTimed order (get_or marks f 0) (get_or marks (f + 1) 0) By))
        (OfWanted m points begins f (OfTimed order (get_or marks f 0) (get_or marks (f + 1) 0) With)) before mid after
        (rw (a, b, c, d) at v) (rw (a', b', c', d') at w)

    -- a timed fact has a place
    to_place :
        (Order : ℕ → ℕ → ℕ → ℕ → ℕ → Type 0) (j : ℕ) → j < m.timed → (word k v : ℕ)
        → Order (m.timed_tick j) (m.timed_value j) word k v
        → OfTimed order (get_or marks (m.timed_fact j) 0) (get_or marks (m.timed_fact j + 1) 0) Order word k v
    to_place Order j h word k v o =
        let g = known.placed (m.timed_fact j) (w.timed_fact j h) in
        let f = g.found j (h, refl) in
        let p = f.0 in
        let t : tick_at order p ≡ m.timed_tick j = g.ticks p f.1 f.2 ∙ ap m.timed_tick f.3 in
        let u : value_at order p ≡ m.timed_value j = g.values p f.1 f.2 ∙ ap m.timed_value f.3 in
        (p, f.1, f.2, rw (t, u) o)

    of_place :
        (Order : ℕ → ℕ → ℕ → ℕ → ℕ → Type 0) (f : ℕ) (h : f < m.facts) (word k v : ℕ)
        (o : OfTimed order (get_or marks f 0) (get_or marks (f + 1) 0) Order word k v)
        → Order (m.timed_tick (number_at order o.0)) (m.timed_value (number_at order o.0)) word k v
    of_place Order f h word k v o =
        let g = known.placed f h in
        rw (g.ticks o.0 o.1 o.2, g.values o.0 o.1 o.2) at o.3

    to_timed : (k v : ℕ) → Among 0 m.facts (OfFact m.facts points begins order marks By With) k v → Among 0 m.timed ByTimed k v
    to_timed k v o =
        let f = o.0 in
        let g = known.placed f o.2 in
        ⊎_elim
        (λ (u : OfSetters points begins f (OfTimed order (get_or marks f 0) (get_or marks (f + 1) 0) By) k v).
        let i = u.3 in
        let is = g.holds i.0 i.1 i.2 in
        let j = number_at order i.0 in
        let r : Among 0 m.timed ByTimed k v = (
          j,
          omega arith,
          is.0,
          inl (subst (λ f. OfSetters points begins f (By (m.timed_tick j) (m.timed_value j)) k v) (sym is.1)
              (u.0, u.1, u.2, of_place By f o.2 (get_or points u.0 0) k v i)),
        )
        in r)
        (λ (u : OfWanted m points begins f (OfTimed order (get_or marks f 0) (get_or marks (f + 1) 0) With) k v).
        let i = u.3 in
        let is = g.holds i.0 i.1 i.2 in
        let j = number_at order i.0 in
        let r : Among 0 m.timed ByTimed k v = (
          j,
          omega arith,
          is.0,
          inr (subst (λ f. OfWanted m points begins f (With (m.timed_tick j) (m.timed_value j)) k v) (sym is.1)
              (u.0, u.1, u.2, of_place With f o.2 (get_or points u.0 0) k v i)),
        )
        in r)
        o.3

    to_fact : (k v : ℕ) → Among 0 m.timed ByTimed k v → Among 0 m.facts (OfFact m.facts points begins order marks By With) k v
    to_fact k v o =
        let j = o.0 in
        let h = o.2 in
        ⊎_elim
        (λ (u : OfSetters points begins (m.timed_fact j) (By (m.timed_tick j) (m.timed_value j)) k v).
        let r : Among 0 m.facts (OfFact m.facts points begins order marks By With) k v = (
          m.timed_fact j,
          omega arith,
          w.timed_fact j h,
          inl (u.0, u.1, u.2, to_place By j h (get_or points u.0 0) k v u.3),
        )
        in r)
        (λ (u : OfWanted m points begins (m.timed_fact j) (With (m.timed_tick j) (m.timed_value j)) k v).
        let r : Among 0 m.facts (OfFact m.facts points begins order marks By With) k v = (
          m.timed_fact j,
          omega arith,
          w.timed_fact j h,
          inr (u.0, u.1, u.2, to_place With j h (get_or points u.0 0) k v u.3),
        )
        in r)
        o.3

    pub moved_timed :
        (before after : List ℕ) → Moved To (Among 0 m.facts (OfFact m.facts points begins order marks By With)) before after
        → Moved To (Among 0 m.timed ByTimed) before after
    moved_timed before after d =
        moved_is To same on (Among 0 m.facts (OfFact m.facts points begins order marks By With)) (Among 0 m.timed ByTimed)
        before after d to_timed to_fact

-- The needs of a level in the order of their ticks, beside its uses: the sums before a need's tick, the falls that count against it, and the
-- lowest that is unmet.
use Prim.Native.Nat.{ℕ, min, ◌+◌, ◌*◌, ◌≤◌, ◌<◌}
use mathlib.Core.Path.{◌≡◌, refl, sym, ap, ap₂, subst, ◌∙◌}
use mathlib.Core.Bool.{Bool, true, false, cond, not, ◌&&◌, ◌||◌}
use mathlib.Core.List.{List}
use mathlib.Core.Logic.{◌⊎◌, inl, inr, ⊎_elim}
use native.Mathlib.Decide.{dec_lt}
use native.Mathlib.Numerals.{add-one}
use native.Mathlib.Omega.{arith}
use borrow.Author.Tests.{eq-eqb, ne_eqb, lt-ltb, le-ltb, le-leb, lt-leb}
use lib.Dec.{ltb, leb, eqb}
use lib.ListN.{length, get_or}
use Rattle.laws.specs.Fold.{sum}
use Rattle.laws.proofs.Fold.{sum_cong}
use Rattle.laws.proofs.Search.{by_order}
use Rattle.little_endian.specs.Bytes.{sign_bias, u32_values, biased_at}
use Rattle.little_endian.proofs.Bytes.{biased}
use Rattle.job.specs.Layout.{need_width}
use Rattle.job.specs.declared.layout.Job.{Job}
use Rattle.job.specs.declared.records.Need.{Need}
use Rattle.job.specs.Model.{Model, view, need_of}
use Rattle.timeline.specs.Words.{word_step, word_tick, word_number, step_at, number_at, tick_at}
use Rattle.timeline.specs.Placed.{Parted, place_limit}
use Rattle.validity.specs.Ticks.{use_tick, need_tick}
use Rattle.validity.specs.Levels.{fall, used_by, counts_against, falls_against, unmet}
use Rattle.points.specs.Points.{used_group, needed_group, PointsKnown}
use Rattle.levels.specs.declared.bounds.Sums.{Sums}
use Rattle.levels.specs.LevelSums.{sum_limit, sum_from, Summed, Added}
use Rattle.laws.specs.Noted.{Noted}
use Rattle.needs.specs.LevelNeeds.{Behind, NeedAt, NeedsOfLevels}
use Rattle.levels.proofs.LevelSweeps.{summed_start, summed_more, total, sums_before}
use Rattle.laws.proofs.Noted.{noted_more, noted_when}

-- the least of a need is read from four bytes
pub need_low : (j : Job) (s : List ℕ) (k : ℕ) {n : Need} → n ≡ need_of (view j s) k → n.least < u32_values
unfolding biased_at
need_low j s k e = rw e (biased s (j.at.needs + need_width * k + 8) refl).1

-- Use by use, up to tick t.
module _ {m : Model} {points : List ℕ} {low high t : ℕ} {sums : Sums} (so : Behind m points low high t sums) where
  pub behind_more :
      {next : Sums} {u : ℕ} → u ≡ number_at points sums.place → sums.place < high → tick_at points sums.place < t → Added m u sums next
      → Behind m points low high t next
  behind_more {next} here within early added =
      let place : next.place ≡ sums.place + 1 = added.place in
      record {
        stretch = so.stretch;
        rises = so.rises;
        summed = summed_more so.summed here within added;
        early = λ p a b.
            elim (dec_lt p sums.place) [
              | yes d ↦ so.early p a d
              | no d ↦ let e : tick_at points p ≡ tick_at points sums.place = ap (tick_at points)
                  (let f : p ≡ sums.place = omega arith in f) in omega arith
            ];
      }

  pub behind_ends :
      (sums.place < high → t ≤ tick_at points sums.place) → Summed m points low high sums × Parted points low high t sums.place
  behind_ends late = (
    so.summed,
    record {
      from = so.summed.begins;
      to = so.summed.ends;
      before = so.early;
      after = λ p a b.
          let here : t ≤ tick_at points sums.place = late (omega arith) in
          elim (dec_lt sums.place p) [
            | yes d ↦ let up : tick_at points sums.place ≤ tick_at points p = so.rises sums.place p so.summed.begins d b in omega arith
            | no d ↦ let e : tick_at points p ≡ tick_at points sums.place = ap (tick_at points)
                (let f : p ≡ sums.place = omega arith in f) in omega arith
          ];
    },
  )

-- what the use at place p takes, if it counts: it stands before the place where the tick begins, or is another step's
abbrev pub fall_at : Model → List ℕ → ℕ → ℕ → ℕ → ℕ
fall_at m points place step p = cond (ltb p place || not (eqb (step_at points p) step)) (fall m (number_at points p)) 0

-- The falls that count against the need in a word, among the uses before place q: those held are before its tick, which begins at place first.
pub record Counting (m : Model) (points : List ℕ) (high word held first falls q : ℕ) : Type 0 where
  pub from : first ≤ q
  pub to : q ≤ high
  pub few : falls ≤ sign_bias * q
  pub same : (p : ℕ) → first ≤ p → p < q → tick_at points p ≤ word_tick word
  pub counted :
      (low : ℕ) → low ≤ first → held ≡ sum_from low (fall m) points first
      → falls ≡ sum q (λ p. cond (leb low p) (fall_at m points first (word_step word) p) 0)

module _ {m : Model} {points : List ℕ} {high word : ℕ} where
  pub counting_start :
      {low : ℕ} {before : Sums} → Summed m points low high before
      → Counting m points high word before.falls before.place before.falls before.place
  counting_start {before = before} so =
      record {
        from = omega arith;
        to = so.ends;
        few = so.few.1;
        same = λ p a b. absurd (omega arith);
        counted = λ low _ held.
            held
            ∙ sum_cong (λ p. cond (leb low p) (fall m (number_at points p)) 0)
            (λ p. cond (leb low p) (fall_at m points before.place (word_step word) p) 0) before.place
            (λ p l.
            ap (λ b. cond (leb low p) (cond (b || not (eqb (step_at points p) (word_step word))) (fall m (number_at points p)) 0) 0)
            (sym (lt-ltb p before.place l)));
      }

  module _ {held first falls q : ℕ} (so : Counting m points high word held first falls q) where
    -- one more use, of which the code read number, step and what it takes
    pub counting_more :
        {u by step taken : ℕ} {others : Bool} → q < high → tick_at points q ≤ word_tick word → u ≡ number_at points q → by ≡ step_at points q
        → step ≡ word_step word
        → (taken ≡ cond others (fall m u) 0) × (taken ≤ sign_bias)
        → others ≡ not (eqb by step)
        → Counting m points high word held first (falls + taken) (q + 1)
    unfolding sum
    counting_more {u} {by} {step} {taken} {others} within early number steps own fell other =
        let from : first ≤ q = so.from in
        record {
          from = omega arith;
          to = omega arith;
          few = omega (arith, so.few, fell.1);
          same = λ p a b.
              elim (dec_lt p q) [
                | yes d ↦ so.same p a d
                | no d ↦ let e : tick_at points p ≡ tick_at points q = ap (tick_at points) (let f : p ≡ q = omega arith in f) in omega arith
              ];
          counted = λ low begins held.
              ap₂ ◌+◌ (so.counted low begins held) (here low (omega arith))
              ∙ ap (λ k. sum k (λ p. cond (leb low p) (fall_at m points first (word_step word) p) 0)) (sym (add-one q));
        }
      where
        here : (low : ℕ) → low ≤ q → taken ≡ cond (leb low q) (fall_at m points first (word_step word) q) 0
        here low l =
            fell.0
            ∙ ap₂ (λ b k. cond b (fall m k) 0) (other ∙ ap₂ (λ a b. not (eqb a b)) steps own) number
            ∙ ap (λ b. cond (b || not (eqb (step_at points q) (word_step word))) (fall m (number_at points q)) 0)
            (sym (le-ltb q first so.from))
            ∙ ap (λ b. cond b (fall_at m points first (word_step word) q) 0) (sym (le-leb low q l))

    pub counting_low : high < place_limit → falls ≤ sum_limit
    counting_low h = omega (arith, so.few, so.to)

-- a tick before the next one is before this one, or this one
ltb_next : (k t : ℕ) → ltb k (t + 1) ≡ (ltb k t || eqb k t)
ltb_next k t =
    by_order k t
    (λ l. lt-ltb k (t + 1) (omega arith) ∙ sym (ap (λ b. b || eqb k t) (lt-ltb k t l)))
    (λ l. le-ltb k (t + 1) (omega arith) ∙ sym (ap₂ ◌||◌ (le-ltb k t (omega arith)) (ne_eqb k t (omega arith))))
    (λ e. lt-ltb k (t + 1) (omega arith) ∙ sym (ap₂ ◌||◌ (le-ltb k t (omega arith)) (eq-eqb k t e)))

-- of a level's uses up to a tick, those before it or of another step: the level's before it, and those at it of another step
counts_twice : (a b e o : Bool) (f : ℕ) → cond (a && (b || e)) (cond (b || o) f 0) 0 ≡ cond (a && (b || (e && o))) f 0
counts_twice false b e o f = refl
counts_twice true true e o f = refl
counts_twice true false true o f = refl
counts_twice true false false o f = refl

module _ {m : Model} {x : ℕ → ℕ} {points : List ℕ} {high : ℕ} {before : Sums} {word : ℕ} (at : NeedAt m x points high before word) where
  -- what a use takes, if it is before the need's tick or another step's
  counts : ℕ → ℕ
  counts u = cond (ltb (use_tick m x u) (word_tick word) || not (eqb (m.use_step u) (word_step word))) (fall m u) 0

  -- by place and by use
  by_place : (p : ℕ) → at.low ≤ p → p < high → fall_at m points before.place (word_step word) p ≡ counts (number_at points p)
  unfolding counts
  by_place p a b =
      let tick : tick_at points p ≡ use_tick m x (number_at points p) = at.placed.ticks p a b in
      let early : ltb p before.place ≡ ltb (use_tick m x (number_at points p)) (word_tick word) =
      elim (dec_lt p before.place) [
        | yes d ↦
            let e : tick_at points p < word_tick word = at.parts.before p a d in
            lt-ltb p before.place d ∙ sym (lt-ltb (use_tick m x (number_at points p)) (word_tick word) (omega arith))
        | no d ↦
            let e : word_tick word ≤ tick_at points p = at.parts.after p (omega arith) b in
            le-ltb p before.place (omega arith) ∙ sym (le-ltb (use_tick m x (number_at points p)) (word_tick word) (omega arith))
      ] in
      ap₂ (λ b s. cond (b || not (eqb s (word_step word))) (fall m (number_at points p)) 0) early (at.placed.steps p a b)

  by_use : (u : ℕ) → cond (used_by m x (m.need_level (word_number word)) (word_tick word + 1) u) (counts u) 0
      ≡ cond (counts_against m x (word_number word) u) (fall m u) 0
  unfolding counts
  by_use u =
      rw (ltb_next (use_tick m x u) (word_tick word), at.tick, at.step)
      (counts_twice (eqb (m.use_level u) (m.need_level (word_number word))) (ltb (use_tick m x u) (need_tick m x (word_number word)))
      (eqb (use_tick m x u) (need_tick m x (word_number word))) (not (eqb (m.use_step u) (m.need_step (word_number word)))) (fall m u))

  module _ {falls q : ℕ} (so : Counting m points high word before.falls before.place falls q) (late : q < high → word_tick word < tick_at points q) where
    through : Parted points at.low high (word_tick word + 1) q
    through =
        let from : before.place ≤ q = so.from in
        record {
          from = omega (arith, at.summed.begins);
          to = so.to;
          before = λ p a b.
              elim (dec_lt p before.place) [
                | yes d ↦ let e : tick_at points p < word_tick word = at.parts.before p a d in omega arith
                | no d ↦ let e : tick_at points p ≤ word_tick word = so.same p (omega arith) b in omega arith
              ];
          after = λ p a b.
              let here : word_tick word < tick_at points q = late (omega arith) in
              elim (dec_lt q p) [
                | yes d ↦ let up : tick_at points q ≤ tick_at points p = at.placed.rises q p (omega (arith, at.summed.begins)) d b in omega arith
                | no d ↦ let e : tick_at points p ≡ tick_at points q = ap (tick_at points) (let f : p ≡ q = omega arith in f) in omega arith
              ];
        }

    pub counting_ends : falls ≡ falls_against m x (word_number word)
    unfolding falls_against
    counting_ends =
        so.counted at.low at.summed.begins at.summed.falling
        ∙ sum_cong (λ p. cond (leb at.low p) (fall_at m points before.place (word_step word) p) 0)
        (λ p. cond (leb at.low p) (counts (number_at points p)) 0) q
        (λ p l.
        elim (dec_lt p at.low) [
          | yes d ↦
              ap (λ b. cond b (fall_at m points before.place (word_step word) p) 0) (lt-leb at.low p d)
              ∙ sym (ap (λ b. cond b (counts (number_at points p)) 0) (lt-leb at.low p d))
          | no d ↦ ap (λ k. cond (leb at.low p) k 0) (by_place p (omega arith) (omega (arith, so.to)))
        ])
        ∙ total m x at.placed (word_tick word + 1) q through counts
        ∙ sum_cong (λ u. cond (used_by m x (m.need_level (word_number word)) (word_tick word + 1) u) (counts u) 0)
        (λ u. cond (counts_against m x (word_number word) u) (fall m u) 0) m.uses (λ u l. by_use u)

  -- the code's test, of what it read and summed
  pub unmet_there :
      {need : Need} {number initial falls : ℕ} → number ≡ word_number word → need ≡ need_of m number → initial ≡ m.level_initial need.level
      → falls ≡ falls_against m x (word_number word)
      → ltb (initial + before.rises) (need.least + falls) ≡ unmet m x (word_number word)
  unfolding unmet
  unmet_there {need} {number} {initial} which read from fell =
      let own : need ≡ need_of m (word_number word) = read ∙ ap (need_of m) which in
      let level : initial ≡ m.level_initial (m.need_level (word_number word)) = from ∙ ap (λ n. m.level_initial n.level) own in
      let least : need.least ≡ m.need_least (word_number word) = ap (λ n. n.least) own in
      let risen = (sums_before m x at.placed (word_tick word) before.place at.parts at.summed refl).0 in
      rw (level, least, fell, risen, at.tick) refl

-- the needs of the levels below l, and those at the places of its group up to q
abbrev pub Seen : Model → List ℕ → List ℕ → ℕ → ℕ → ℕ → Type 0
Seen m points begins l q n =
    (m.need_level n < l) ⊎ ((p : ℕ) × (get_or begins (needed_group m l) 0 ≤ p) × (p < q) × (number_at points p ≡ n))

-- A visit of the needs of level l has come to place q, and its sums hold no use at the tick of a need from there up to the group's end.
pub record Visited (m : Model) (points begins : List ℕ) (l below high end : ℕ) (sums : Sums) (best q : ℕ) : Type 0 where
  pub known : (x : ℕ → ℕ) × PointsKnown m x points begins
  pub of_levels : l < m.levels
  pub top : high ≡ get_or begins (used_group m l + 1) 0
  pub few : high < place_limit
  pub ends : end ≡ get_or begins (needed_group m l + 1) 0
  pub from : get_or begins (needed_group m l) 0 ≤ q
  pub summed : Summed m points (get_or begins (used_group m l) 0) high sums
  pub early :
      (p k : ℕ) → get_or begins (used_group m l) 0 ≤ p → p < sums.place → q ≤ k → k < end
      → tick_at points p < tick_at points k
  pub noted :
      (x : ℕ → ℕ) → PointsKnown m x points begins → NeedsOfLevels m x l below
      → Noted m.needs (unmet m x) (Seen m points begins l q) best

module _ {m : Model} {points begins : List ℕ} {l below high end : ℕ} where
  pub visited_start :
      {low q : ℕ} → ((x : ℕ → ℕ) × PointsKnown m x points begins) → l < m.levels
      → (high ≡ get_or begins (used_group m l + 1) 0) × (high < place_limit)
      → end ≡ get_or begins (needed_group m l + 1) 0
      → low ≡ get_or begins (used_group m l) 0
      → q ≡ get_or begins (needed_group m l) 0
      → Visited m points begins l below high end (record { place = low; rises = 0; falls = 0 }) below q
  visited_start {low} {q} known h top ends begin from =
      record {
        known = known;
        of_levels = h;
        top = top.0;
        few = top.1;
        ends = ends;
        from = omega arith;
        summed =
            subst (λ a. Summed m points a high (record { place = low; rises = 0; falls = 0 })) begin
            (summed_start (omega (arith, top.0, begin, (known.1.used l h).begins)));
        early = λ p k a b _ _. absurd (omega arith);
        noted = λ x known so.
            noted_when so (λ n i seen. ⊎_elim (λ (g : m.need_level n < l). g)
            (λ (g : (p : ℕ) × (get_or begins (needed_group m l) 0 ≤ p) × (p < q) × (number_at points p ≡ n)). absurd (omega (arith, g.1, g.2))) seen);
      }

  module _ {sums : Sums} {best q : ℕ} (so : Visited m points begins l below high end sums best q) where
    module _ (h : q < end) where
      within : q < get_or begins (needed_group m l + 1) 0
      within = omega (arith, so.ends)

      pub visited_listed : q < length points
      visited_listed = omega (arith, within, (so.known.1.needed l so.of_levels).ends)

      pub visited_behind : Behind m points (get_or begins (used_group m l) 0) high (tick_at points q) sums
      visited_behind =
          let group = so.known.1.used l so.of_levels in
          record {
            stretch =
                record {
                  begins = omega (arith, so.top, group.begins);
                  ends = omega (arith, so.top, group.ends);
                  few = so.few;
                };
            rises = λ p k a b i. group.rises p k a b (omega (arith, so.top));
            summed = so.summed;
            early = λ p a b. so.early p q a b (omega arith) h;
          }

      -- the sums have gone on to the need's tick
      module _ {next : Sums} (gone : (low : ℕ) → Behind m points low high (tick_at points q) sums → Summed m points low high next
          × Parted points low high (tick_at points q) next.place) where
        come : Summed m points (get_or begins (used_group m l) 0) high next
            × Parted points (get_or begins (used_group m l) 0) high (tick_at points q) next.place
        come = gone _ visited_behind

        visited_at : (x : ℕ → ℕ) → PointsKnown m x points begins → NeedAt m x points high next (get_or points q 0)
        visited_at x known =
            let group = known.needed l so.of_levels in
            let here = group.holds q so.from within in
            record {
              counted = here.0;
              tick = group.ticks q so.from within;
              step = group.steps q so.from within;
              low = get_or begins (used_group m l) 0;
              placed = rw (here.1, so.top) (known.used l so.of_levels);
              summed = come.0;
              parts = come.1;
            }

        -- in some schedule
        pub visited_one : (x : ℕ → ℕ) × NeedAt m x points high next (get_or points q 0)
        visited_one = (so.known.0, visited_at so.known.0 so.known.1)

        pub visited_more :
            {number new : ℕ} {r : Bool} → number ≡ number_at points q
            → ((x : ℕ → ℕ) → NeedAt m x points high next (get_or points q 0) → r ≡ unmet m x (number_at points q))
            → new ≡ cond r (min best number) best
            → Visited m points begins l below high end next new (q + 1)
        visited_more {number} {new} {r} e test took =
            let from : get_or begins (needed_group m l) 0 ≤ q = so.from in
            record {
              known = so.known;
              of_levels = so.of_levels;
              top = so.top;
              few = so.few;
              ends = so.ends;
              from = omega arith;
              summed = come.0;
              early = λ p k a b i j.
                  let early : tick_at points p < tick_at points q = come.1.before p a b in
                  let up : tick_at points q ≤ tick_at points k =
                  (so.known.1.needed l so.of_levels).rises q k from (omega arith) (omega (arith, so.ends))
                  in
                  omega arith;
              noted = λ x known lower.
                  noted_more took (test x (visited_at x known) ∙ ap (unmet m x) (sym e))
                  (omega (arith, e, ((known.needed l so.of_levels).holds q from within).0)) (so.noted x known lower)
                  (λ n i seen. split n seen);
            }
          where
            split : (n : ℕ) → Seen m points begins l (q + 1) n → Seen m points begins l q n ⊎ (n ≡ number)
            split n (inl g) = inl (inl g)
            split n (inr g) =
                elim (dec_lt g.0 q) [
                  | yes i ↦ inl (inr (g.0, g.1, i, g.3))
                  | no i ↦ inr (sym g.3 ∙ ap (number_at points) (let z : g.0 ≡ q = omega (arith, g.2) in z) ∙ sym e)
                ]

    pub visited_end :
        end ≤ q → (x : ℕ → ℕ) → PointsKnown m x points begins → NeedsOfLevels m x l below → NeedsOfLevels m x (l + 1) best
    visited_end past x known lower =
        noted_when (so.noted x known lower)
        (λ n i low.
        elim (dec_lt (m.need_level n) l) [
          | yes d ↦ inl d
          | no d ↦
              let place = (known.needed l so.of_levels).found n (i, let e : m.need_level n ≡ l = omega arith in e) in
              inr (place.0, place.1, omega (arith, place.2, so.ends), place.3)
        ])

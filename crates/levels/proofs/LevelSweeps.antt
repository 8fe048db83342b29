-- A sweep along the uses of a level in the order of their ticks: sums over places are sums over uses, tick by tick.
use Prim.Native.Nat.{ℕ, ◌+◌, ◌*◌, ◌≤◌, ◌<◌}
use mathlib.Core.Path.{◌≡◌, refl, sym, ap, ap₂, ◌∙◌}
use mathlib.Core.Bool.{Bool, true, false, cond, not, ◌&&◌}
use mathlib.Core.List.{List}
use mathlib.Core.Logic.{⊎_elim}
use native.Mathlib.Decide.{dec_lt}
use native.Mathlib.Numerals.{add-one}
use native.Mathlib.Omega.{arith}
use borrow.Author.Tests.{eqb-true, eq-eqb, ltb-true, lt-ltb, le-leb, lt-leb}
use lib.Dec.{ltb, leb, eqb}
use lib.ListN.{get_or}
use Rattle.laws.specs.Fold.{sum}
use Rattle.laws.proofs.Search.{and_both, and_l, either, any_found, any_none}
use Rattle.laws.proofs.Fold.{sum_zero}
use Rattle.little_endian.specs.Bytes.{u32_values, biased_at}
use Rattle.little_endian.proofs.Bytes.{biased}
use Rattle.job.specs.Layout.{level_width}
use Rattle.job.specs.declared.layout.Job.{Job}
use Rattle.job.specs.declared.records.Level.{Level}
use Rattle.job.specs.Model.{Model, view, level_of}
use Rattle.timeline.specs.Words.{number_at, tick_at}
use Rattle.timeline.specs.Placed.{Parted, place_limit}
use Rattle.timeline.proofs.PlacedSums.{sum_placed}
use Rattle.validity.specs.Ticks.{use_tick}
use Rattle.validity.specs.Levels.{rise, fall, used_by, rises_before, falls_before, above_least, below_most}
use Rattle.validity.specs.Checks.{passes, level_fails}
use Rattle.points.specs.Points.{used_group, PointsKnown}
use Rattle.levels.specs.declared.bounds.Sums.{Sums}
use Rattle.levels.specs.LevelSums.{sum_limit, sum_from, in_bounds, UsesPlaced, Stretch, Summed, Added, SummedTick}

-- the numbers of a level are read from four bytes each
pub level_low_lem :
    (j : Job) (s : List ℕ) (k : ℕ) {l : Level} → l ≡ level_of (view j s) k
    → (l.initial < u32_values) × (l.least < u32_values) × (l.most < u32_values)
unfolding biased_at
level_low_lem j s k e =
    let at = j.at.levels + level_width * k in
    rw e ((biased s at refl).1, (biased s (at + 4) refl).1, (biased s (at + 8) refl).1)

module _ {m : Model} {points : List ℕ} {low high : ℕ} where
  -- nothing is summed
  pub summed_start : low ≤ high → Summed m points low high (record { place = low; rises = 0; falls = 0 })
  summed_start h =
      record {
        begins = omega arith;
        ends = h;
        rising = sym (nothing (rise m));
        falling = sym (nothing (fall m));
        few = (omega arith, omega arith);
      }
    where
      nothing : (g : ℕ → ℕ) → sum_from low g points low ≡ 0
      nothing g =
          sum_zero (λ q. cond (leb low q) (g (number_at points q)) 0) low
          (λ q b. ap (λ c. cond c (g (number_at points q)) 0) (lt-leb low q b))

  module _ {sums : Sums} (so : Summed m points low high sums) where
    -- one more use is summed
    pub summed_more :
        {next : Sums} {u : ℕ} → u ≡ number_at points sums.place → sums.place < high → Added m u sums next → Summed m points low high next
    unfolding sum
    summed_more {next} {u} here within added =
        let begins : low ≤ sums.place = so.begins in
        let place : next.place ≡ sums.place + 1 = added.place in
        record {
          begins = omega arith;
          ends = omega arith;
          rising = more (rise m) so.rising added.rising;
          falling = more (fall m) so.falling added.falling;
          few = (omega (arith, so.few.0, added.few.0), omega (arith, so.few.1, added.few.1));
        }
      where
        more :
            (g : ℕ → ℕ) {total other : ℕ} → total ≡ sum_from low g points sums.place → other ≡ total + g u
            → other ≡ sum_from low g points next.place
        more g {total} {other} e q =
            let here-too : g u ≡ cond (leb low sums.place) (g (number_at points sums.place)) 0 = ap g here ∙ sym
            (ap (λ b. cond b (g (number_at points sums.place)) 0) (le-leb low sums.place so.begins)) in
            q ∙ ap₂ ◌+◌ e here-too ∙ ap (λ k. sum_from low g points k) (sym (add-one sums.place) ∙ sym added.place)

    pub summed_low : high < place_limit → (sums.rises ≤ sum_limit) × (sums.falls ≤ sum_limit)
    summed_low h = (omega (arith, so.few.0, so.ends), omega (arith, so.few.1, so.ends))

-- The uses at one tick, from the first of them on, come into the sums one by one.
pub record Gathering (m : Model) (points : List ℕ) (high tick : ℕ) (before sums : Sums) : Type 0 where
  pub given : (low : ℕ) × Stretch points low high × Summed m points low high before
  pub summed : (low : ℕ) → Summed m points low high before → Summed m points low high sums
  pub from : before.place ≤ sums.place
  pub some : before.place < high
  pub first : tick ≡ tick_at points before.place
  pub same : (q : ℕ) → before.place ≤ q → q < sums.place → tick_at points q ≤ tick

pub gathering_start :
    {m : Model} {points : List ℕ} {high tick : ℕ} {before : Sums} → before.place < high
    → ((low : ℕ) × Stretch points low high × Summed m points low high before)
    → tick ≡ tick_at points before.place
    → Gathering m points high tick before before
gathering_start some given first =
    record { given = given; summed = λ _ so. so; from = omega arith; some = some; first = first; same = λ q a b. absurd (omega arith) }

module _ {m : Model} {points : List ℕ} {high tick : ℕ} {before sums : Sums} (so : Gathering m points high tick before sums) where
  pub gathering_more :
      {next : Sums} {u : ℕ} → u ≡ number_at points sums.place → sums.place < high → tick_at points sums.place ≤ tick → Added m u sums next
      → Gathering m points high tick before next
  gathering_more {next} here within early added =
      let place : next.place ≡ sums.place + 1 = added.place in
      let from : before.place ≤ sums.place = so.from in
      record {
        given = so.given;
        summed = λ low start. summed_more (so.summed low start) here within added;
        from = omega arith;
        some = so.some;
        first = so.first;
        same = λ q a b.
            elim (dec_lt q sums.place) [
              | yes d ↦ so.same q a d
              | no d ↦ let e : tick_at points q ≡ tick_at points sums.place = ap (tick_at points)
                  (let f : q ≡ sums.place = omega arith in f) in omega arith
            ];
      }

  -- until a later tick, or the level's end
  pub gathering_ends : (sums.place < high → tick < tick_at points sums.place) → SummedTick m points high before sums
  gathering_ends late =
      let first : tick ≡ tick_at points before.place = so.first in
      record {
        summed = so.summed;
        further =
            elim (dec_lt before.place sums.place) [
              | yes d ↦ d
              | no d ↦
                  let from : before.place ≤ sums.place = so.from in
                  let some : before.place < high = so.some in
                  let e : tick_at points sums.place ≡ tick_at points before.place = ap (tick_at points)
                  (let f : sums.place ≡ before.place = omega arith in f) in
                  let l : tick < tick_at points sums.place = late (omega arith) in
                  absurd (omega arith)
            ];
        same = λ q a b. let l : tick_at points q ≤ tick = so.same q a b in omega arith;
        later = λ h. let l : tick < tick_at points sums.place = late h in omega arith;
      }

-- A sweep has come to a place: a new tick begins there, and no use before it passes a bound.
pub record Swept (m : Model) (x : ℕ → ℕ) (l : ℕ) (points : List ℕ) (low high : ℕ) (sums : Sums) : Type 0 where
  pub fresh : (q : ℕ) → low ≤ q → q < sums.place → sums.place < high → tick_at points q < tick_at points sums.place
  pub none : (q : ℕ) → low ≤ q → q < sums.place → passes m x l (number_at points q) ≡ false

-- its sums are those of all uses before, in whatever schedule the points are
pub record Sweeping (m : Model) (l : ℕ) (points : List ℕ) (low high : ℕ) (sums : Sums) : Type 0 where
  pub stretch : Stretch points low high
  pub summed : Summed m points low high sums
  pub swept : (x : ℕ → ℕ) → UsesPlaced m x l points low high → Swept m x l points low high sums

pub sweeping_start :
    {m :
    Model} {l : ℕ} {points : List ℕ} {low high : ℕ} → Stretch points low high
    → Sweeping m l points low high (record { place = low; rises = 0; falls = 0 })
sweeping_start stretch =
    record {
      stretch = stretch;
      summed = summed_start stretch.begins;
      swept = λ x known. record { fresh = λ q a b. absurd (omega arith); none = λ q a b. absurd (omega arith) };
    }

passes_level : (m : Model) (x : ℕ → ℕ) (l u : ℕ) → passes m x l u ≡ true → m.use_level u ≡ l
unfolding passes
passes_level m x l u hit =
    eqb-true (m.use_level u) l (and_l (eqb (m.use_level u) l) (not (above_least m x l (use_tick m x u) && below_most m x l (use_tick m x u))) hit)

module _ (m : Model) (x : ℕ → ℕ) {l : ℕ} {points : List ℕ} {low high : ℕ} (known : UsesPlaced m x l points low high) where
  -- sums over the places before tick t are those of the uses before it
  module _ (t r : ℕ) (parts : Parted points low high t r) where
    pub total : (g : ℕ → ℕ) → sum_from low g points r ≡ sum m.uses (λ u. cond (used_by m x l t u) (g u) 0)
    total g =
        sum_placed known t r parts m.uses g (used_by m x l t)
        (λ u p. p.0)
        (λ u p early. ap₂ ◌&&◌ (eq-eqb (m.use_level u) l p.1) (lt-ltb (use_tick m x u) t early))
        (λ u a e.
        let both = and_both (eqb (m.use_level u) l) (ltb (use_tick m x u) t) e in
        ((a, eqb-true (m.use_level u) l both.0), ltb-true (use_tick m x u) t both.1))

    pub sums_before :
        {sums : Sums} → Summed m points low high sums → sums.place ≡ r → (sums.rises ≡ rises_before m x l t)
        × (sums.falls ≡ falls_before m x l t)
    unfolding rises_before falls_before
    sums_before so e = (
      so.rising ∙ ap (λ k. sum_from low (rise m) points k) e ∙ total (rise m),
      so.falling ∙ ap (λ k. sum_from low (fall m) points k) e ∙ total (fall m),
    )

  module _ {sums next : Sums} (before : Summed m points low high sums) (so : Swept m x l points low high sums) (within : sums.place < high)
      (gone : SummedTick m points high sums next) where
    rises : (p q : ℕ) → low ≤ p → p ≤ q → q < high → tick_at points p ≤ tick_at points q
    rises p q a b c =
        elim (dec_lt p q) [
          | yes d ↦ known.rises p q a d c
          | no d ↦ let e : tick_at points p ≡ tick_at points q = ap (tick_at points) (let f : p ≡ q = omega arith in f) in omega arith
        ]

    -- the tick's uses stand from the sweep's place up to the next
    up_to : Parted points low high (tick_at points sums.place) sums.place
    up_to =
        record {
          from = before.begins;
          to = before.ends;
          before = λ p a b. so.fresh p a b within;
          after = λ p a b. rises sums.place p before.begins a b;
        }

    through : Parted points low high (tick_at points sums.place + 1) next.place
    through =
        record {
          from = (gone.summed low before).begins;
          to = (gone.summed low before).ends;
          before = λ p a b.
              elim (dec_lt p sums.place) [
                | yes d ↦ let e : tick_at points p ≤ tick_at points sums.place = rises p sums.place a (omega arith) within in omega arith
                | no d ↦ let e : tick_at points p ≤ tick_at points sums.place = gone.same p (omega arith) b in omega arith
              ];
          after = λ p a b.
              let e : tick_at points sums.place < tick_at points next.place = gone.later (omega arith) in
              let f : tick_at points next.place ≤ tick_at points p = rises next.place p (gone.summed low before).begins a b in
              omega arith;
        }

    -- so what the code tests at the place is the level's rule at the tick
    at_tick : in_bounds m l sums next ≡ (above_least m x l (tick_at points sums.place) && below_most m x l (tick_at points sums.place))
    at_tick =
        let a = sums_before (tick_at points sums.place) sums.place up_to before refl in
        let b = sums_before (tick_at points sums.place + 1) next.place through (gone.summed low before) refl in
        let c = add-one (tick_at points sums.place) in
        rw (a.0, a.1, b.0, b.1, c) refl

    passes_there :
        (q : ℕ) → sums.place ≤ q → q < next.place → passes m x l (number_at points q) ≡ not
        (above_least m x l (tick_at points sums.place) && below_most m x l (tick_at points sums.place))
    unfolding passes
    passes_there q a b =
        let ends : next.place ≤ high = (gone.summed low before).ends in
        let begins : low ≤ sums.place = before.begins in
        let there = known.holds q (omega arith) (omega arith) in
        let up : tick_at points sums.place ≤ tick_at points q = rises sums.place q begins a (omega arith) in
        let down : tick_at points q ≤ tick_at points sums.place = gone.same q a b in
        let same : tick_at points q ≡ use_tick m x (number_at points q) = known.ticks q (omega arith) (omega arith) in
        let e : use_tick m x (number_at points q) ≡ tick_at points sums.place = omega arith in
        rw (eq-eqb (m.use_level (number_at points q)) l there.1, e) refl

    swept_more : in_bounds m l sums next ≡ true → Swept m x l points low high next
    swept_more inside =
        record {
          fresh = λ q a b c.
              let d : tick_at points q < tick_at points sums.place + 1 = through.before q a b in
              let e : tick_at points sums.place < tick_at points next.place = gone.later c in
              omega arith;
          none = λ q a b.
              elim (dec_lt q sums.place) [
                | yes d ↦ so.none q a d
                | no d ↦ passes_there q (omega arith) b ∙ ap not (sym at_tick ∙ inside)
              ];
        }

    swept_fails : in_bounds m l sums next ≡ false → true ≡ level_fails m x l
    unfolding level_fails
    swept_fails out =
        any_found (passes m x l) m.uses (number_at points sums.place) (known.holds sums.place before.begins within).0 refl
        (passes_there sums.place (omega arith) gone.further ∙ ap not (sym at_tick ∙ out))

  swept_end : {sums : Sums} → Swept m x l points low high sums → high ≤ sums.place → false ≡ level_fails m x l
  unfolding level_fails
  swept_end {sums} so past =
      sym
      (any_none (passes m x l) m.uses
      (λ u a.
      ⊎_elim
      (λ (hit : passes m x l u ≡ true).
      let place = known.found u (a, passes_level m x l u hit) in
      let last : place.0 < high = place.2 in
      ap (passes m x l) (sym place.3) ∙ so.none place.0 place.1 (omega arith))
      (λ (miss : passes m x l u ≡ false). miss)
      (either (passes m x l u))))

module _ {m : Model} {l : ℕ} {points : List ℕ} {low high : ℕ} {sums : Sums} (so : Sweeping m l points low high sums) where
  module _ {next : Sums} (within : sums.place < high) (gone : SummedTick m points high sums next) {r : Bool} (test : r ≡ in_bounds m l sums next) where
    pub sweeping_more : r ≡ true → Sweeping m l points low high next
    sweeping_more inside =
        record {
          stretch = so.stretch;
          summed = gone.summed low so.summed;
          swept = λ x known. swept_more m x known so.summed (so.swept x known) within gone (sym test ∙ inside);
        }

    pub sweeping_fails : r ≡ false → (x : ℕ → ℕ) → UsesPlaced m x l points low high → true ≡ level_fails m x l
    sweeping_fails out x known = swept_fails m x known so.summed (so.swept x known) within gone (sym test ∙ out)

  pub sweeping_end : high ≤ sums.place → (x : ℕ → ℕ) → UsesPlaced m x l points low high → false ≡ level_fails m x l
  sweeping_end past x known = swept_end m x known (so.swept x known) past

-- the uses of level l stand where its group does
module _ {m : Model} {points begins : List ℕ} (l : ℕ) (h : l < m.levels) {low high : ℕ} (from : low ≡ get_or begins (used_group m l) 0)
    (to : high ≡ get_or begins (used_group m l + 1) 0) where
  pub uses_placed : (x : ℕ → ℕ) → PointsKnown m x points begins → UsesPlaced m x l points low high
  uses_placed x known = rw (from, to) (known.used l h)

  pub uses_stretch : ((x : ℕ → ℕ) × PointsKnown m x points begins) → high < place_limit → Stretch points low high
  uses_stretch known few =
      let placed = uses_placed known.0 known.1 in
      record { begins = placed.begins; ends = placed.ends; few = few }

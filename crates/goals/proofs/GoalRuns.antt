-- What the last points of a goal's fact say: the value after all effects is that of the last one, and it came with the run that ends there.
use Prim.Native.Nat.{ℕ, suc, ◌+◌, ◌-◌, ◌≤◌, ◌<◌}
use mathlib.Core.Path.{◌≡◌, sym, ap, ap₂, ◌∙◌}
use mathlib.Core.Bool.{Bool, true, false, not, ◌&&◌, ◌||◌}
use mathlib.Core.List.{List}
use mathlib.Core.Logic.{⊎_elim}
use native.Mathlib.Decide.{dec_lt, ℕ_discrete}
use native.Mathlib.Omega.{arith}
use borrow.Author.Tests.{eqb-true, eqb-false, not-true, eq-eqb, ne_eqb, ltb-true, lt-ltb, le-ltb}
use lib.Dec.{ltb, eqb}
use lib.ListN.{length, get_or}
use Rattle.laws.specs.Search.{any}
use Rattle.laws.proofs.Search.{either, contrary, and_both, any_none}
use Rattle.job.specs.Model.{Model, no_deadline}
use Rattle.job.specs.Clocked.{ClockedForm}
use Rattle.timeline.specs.Words.{number_at, tick_at, value_at}
use Rattle.timeline.specs.Placed.{Parted, Run}
use Rattle.validity.specs.Ticks.{effect_tick, opposes}
use Rattle.validity.specs.Seen.{seen, after_all}
use Rattle.validity.specs.Checks.{undoes, late, goal_fails}
use Rattle.validity.proofs.Seen.{Giver, seen_by_effect, seen_by_initial, after_all_ge}
use Rattle.validity.proofs.Tested.{goal_holds, goal_in_time_lem}
use Rattle.points.specs.Points.{PointsKnown, OneValue}
use Rattle.points.proofs.ClockedRange.{form_range}
use Rattle.points.proofs.Placed.{placed_giver, giver_placed, placed_apart, seen_first, seen_before}
use Rattle.goals.specs.GoalRuns.{GoalsKnown, LateRun}

-- a test that cannot fail passes
passed : (b : Bool) → (b ≡ false → ⊥) → b ≡ true
passed b h = ⊎_elim (λ (t : b ≡ true). t) (λ (f : b ≡ false). absurd (h f)) (either b)

module _ (m : Model) (x : ℕ → ℕ) (form : ClockedForm m) (g : ℕ) (h : g < m.goals) where
  -- a goal fails that is not seen after all effects, or at a tick after its deadline
  missed_last : (seen m x (m.goal_fact g) (after_all m x) ≡ m.goal_value g → ⊥) → true ≡ goal_fails m x g
  missed_last other = sym (passed (goal_fails m x g) (λ f. other (goal_holds m x g f).0))

  missed_after :
      (m.goal_deadline g ≡ no_deadline → ⊥) → (t : ℕ) → m.goal_deadline g < t → (seen m x (m.goal_fact g) t ≡ m.goal_value g → ⊥)
      → true ≡ goal_fails m x g
  missed_after due t l other = sym (passed (goal_fails m x g) (λ f. other (goal_in_time_lem m x form g t h (goal_holds m x g f).1 due l)))

  -- what undoes it gives its fact the other value after the deadline
  undoer : (e : ℕ) → e < m.effects → undoes m x g e ≡ true → Giver m (m.goal_fact g) (1 - m.goal_value g) e × (m.goal_deadline g < effect_tick m x e)
  unfolding undoes
  undoer e l t =
      let b = and_both (opposes m e (m.goal_fact g) (m.goal_value g)) (ltb (m.goal_deadline g) (effect_tick m x e)) t in
      let o = and_both (eqb (m.effect_fact e) (m.goal_fact g)) (not (eqb (m.effect_value e) (m.goal_value g))) b.0 in
      let differ : m.effect_value e ≡ m.goal_value g → ⊥ = eqb-false _ _ (not-true _ o.1) in (
        record { known = l; of_fact = eqb-true _ _ o.0; of_value = omega (arith, form.effect_value e l, form.goal_value g h) },
        ltb-true _ _ b.1,
      )

  -- it is met where it is seen after all effects, and with a deadline, at the next tick and nothing opposes later
  met :
      seen m x (m.goal_fact g) (after_all m x) ≡ m.goal_value g
      → ((m.goal_deadline g ≡ no_deadline → ⊥) → (seen m x (m.goal_fact g) (suc (m.goal_deadline g)) ≡ m.goal_value g)
      × ((e : ℕ) → Giver m (m.goal_fact g) (1 - m.goal_value g) e → effect_tick m x e ≤ m.goal_deadline g))
      → false ≡ goal_fails m x g
  unfolding goal_fails late
  met last due =
      sym
      (ap₂ ◌||◌ (ap not (eq-eqb _ _ last))
      (elim (ℕ_discrete (m.goal_deadline g) no_deadline) [
        | yes d ↦ ap (λ b. not
            b && (not (eqb (seen m x (m.goal_fact g) (suc (m.goal_deadline g))) (m.goal_value g)) || any m.effects (undoes m x g))) (eq-eqb _ _ d)
        | no d ↦
            ap₂ ◌&&◌ (ap not (ne_eqb _ _ d))
            (ap₂ ◌||◌ (ap not (eq-eqb _ _ (due d).0))
            (any_none (undoes m x g) m.effects
            (λ e l.
            ⊎_elim
            (λ (t : undoes m x g e ≡ true).
            let u = undoer e l t in
            let early : effect_tick m x e ≤ m.goal_deadline g = (due d).1 e u.0 in
            absurd (omega (arith, u.1)))
            (λ (f : undoes m x g e ≡ false). f)
            (either (undoes m x g e)))))
      ]))

  -- where nothing opposes it, the initial value stays
  met_always :
      m.initial (m.goal_fact g) ≡ m.goal_value g → ((e : ℕ) → Giver m (m.goal_fact g) (1 - m.goal_value g) e → ⊥)
      → false ≡ goal_fails m x g
  met_always kept none =
      let stays : (t : ℕ) → seen m x (m.goal_fact g) t ≡ m.goal_value g =
      λ t. seen_by_initial m x (m.goal_fact g) (m.goal_value g) t (form.goal_value g h) kept (λ e o _. none e o)
      in
      met (stays (after_all m x)) (λ _. (stays (suc (m.goal_deadline g)), λ e o. absurd (none e o)))

-- The places from low to high are those of the setters of goal g's fact.
module _ (m : Model) (x : ℕ → ℕ) {points begins : List ℕ} (known : PointsKnown m x points begins) (one : OneValue m x) (form : ClockedForm m) (g : ℕ)
    (h : g < m.goals) {low high value : ℕ} (from : low ≡ get_or begins (m.goal_fact g) 0) (to : high ≡ get_or begins (m.goal_fact g + 1) 0)
    (wanted : value ≡ m.goal_value g) where
  -- all of them are before the tick after all
  all_before : Parted points (get_or begins (m.goal_fact g) 0) (get_or begins (m.goal_fact g + 1) 0) (after_all m x) (get_or begins (m.goal_fact g + 1) 0)
  all_before =
      let group = known.setters (m.goal_fact g) (form.goal_fact g h) in
      record {
        from = group.begins;
        to = omega arith;
        before = λ p a b.
            let e : tick_at points p ≡ effect_tick m x (number_at points p) = group.ticks p a b in
            let l : effect_tick m x (number_at points p) < after_all m x = after_all_ge m x (number_at points p) (group.holds p a b).0 in
            omega arith;
        after = λ p a b. absurd (omega arith);
      }

  -- without setters the initial value decides
  unset : high ≤ low → {kept : Bool} → kept ≡ eqb (m.initial (m.goal_fact g)) value → not kept ≡ goal_fails m x g
  unset none {kept} e =
      elim (ℕ_discrete (m.initial (m.goal_fact g)) value) [
        | yes i ↦
            ap not (e ∙ eq-eqb _ _ i)
            ∙ met_always m x form g h (i ∙ wanted)
            (λ k o.
            let place = giver_placed known (m.goal_fact g) (form.goal_fact g h) (1 - m.goal_value g) k o in
            omega (arith, place.1, place.2))
        | no i ↦
            ap not (e ∙ ne_eqb _ _ i)
            ∙ missed_last m x form g h
            (λ s. i (sym (seen_first known (m.goal_fact g) (form.goal_fact g h) (form_range form) all_before (omega arith)) ∙ s ∙ sym wanted))
      ]

  -- the last of them gives the value after all effects
  last_seen : low < high → seen m x (m.goal_fact g) (after_all m x) ≡ value_at points (high - 1)
  last_seen some =
      seen_before known (m.goal_fact g) (form.goal_fact g h) (form_range form) all_before one (omega arith)
      ∙ ap (λ k. value_at points (k - 1)) (sym to)

  unseen : low < high → (value_at points (high - 1) ≡ value → ⊥) → true ≡ goal_fails m x g
  unseen some other = missed_last m x form g h (λ s. other (sym (last_seen some) ∙ s ∙ sym wanted))

  -- The group ends with a run of the goal's value.
  module _ (some : low < high) (reached : value_at points (high - 1) ≡ value) {run : ℕ} (so : Run points low high run) where
    in_run : (p : ℕ) → run ≤ p → p < high → value_at points p ≡ m.goal_value g
    in_run p a b = so.alike p a b ∙ reached ∙ wanted

    -- what opposes stands before it
    opposed_before :
        (e : ℕ) → Giver m (m.goal_fact g) (1 - m.goal_value g) e
        → (p : ℕ) × (low ≤ p) × (p < run) × (tick_at points p ≡ effect_tick m x e) × (value_at points p ≡ 1 - m.goal_value g)
    opposed_before e o =
        let place = giver_placed known (m.goal_fact g) (form.goal_fact g h) (1 - m.goal_value g) e o in
        let at : ℕ = place.0 in
        let begins_at : get_or begins (m.goal_fact g) 0 ≤ at = place.1 in
        let ends_at : at < get_or begins (m.goal_fact g + 1) 0 = place.2 in
        let other : value_at points at ≡ 1 - m.goal_value g = place.5 in
        let bit : m.goal_value g ≤ 1 = form.goal_value g h in
        elim (dec_lt at run) [
          | yes l ↦ (at, omega arith, l, place.4, other)
          | no l ↦ let same : value_at points at ≡ m.goal_value g = in_run at (omega arith) (omega arith) in absurd (omega arith)
        ]

    before_run : (p : ℕ) → low ≤ p → p < run → value_at points p ≡ 1 - m.goal_value g → tick_at points p < tick_at points run
    before_run p a b other =
        let within : run < high = so.some some in
        let same : value_at points run ≡ m.goal_value g = in_run run (omega arith) within in
        let bit : m.goal_value g ≤ 1 = form.goal_value g h in
        placed_apart known (m.goal_fact g) (form.goal_fact g h) one p run (omega arith) b (omega arith) (λ e. omega arith)

    -- a run that begins by the deadline meets it
    in_time_lem : tick_at points run ≤ m.goal_deadline g → false ≡ goal_fails m x g
    in_time_lem early =
        let within : run < high = so.some some in
        let first : low ≤ run = so.from in
        let same : value_at points run ≡ m.goal_value g = in_run run (omega arith) within in
        let giver = placed_giver known (m.goal_fact g) (form.goal_fact g h) run (omega arith) (omega arith) in
        let tick : tick_at points run ≡ effect_tick m x (number_at points run) = (known.setters (m.goal_fact g) (form.goal_fact g h)).ticks run (omega arith)
        (omega arith) in
        met m x form g h (last_seen some ∙ reached ∙ wanted)
        (λ _. (
          seen_by_effect m x (m.goal_fact g) (m.goal_value g) (suc (m.goal_deadline g)) (number_at points run) (form.goal_value g h)
              (record { known = giver.known; of_fact = giver.of_fact; of_value = giver.of_value ∙ same }) (omega arith)
              (λ e o _.
              let q = opposed_before e o in
              let l : tick_at points q.0 < tick_at points run = before_run q.0 q.1 q.2 q.4 in
              omega (arith, q.3)),
          λ e o.
              let q = opposed_before e o in
              let l : tick_at points q.0 < tick_at points run = before_run q.0 q.1 q.2 q.4 in
              omega (arith, q.3),
        ))

    -- one that begins after it does not, unless it goes on with the initial value
    begins_at_run :
        ((p : ℕ) → low ≤ p → p < run → tick_at points p < tick_at points run)
        → Parted points (get_or begins (m.goal_fact g) 0) (get_or begins (m.goal_fact g + 1) 0) (tick_at points run) run
    begins_at_run earlier =
        let within : run < high = so.some some in
        let first : low ≤ run = so.from in
        record {
          from = omega arith;
          to = omega arith;
          before = λ p a b. earlier p (omega arith) b;
          after = λ p a b.
              elim (dec_lt run p) [
                | yes l ↦ (known.setters (m.goal_fact g) (form.goal_fact g h)).rises run p (omega arith) l b
                | no l ↦ let e : tick_at points p ≡ tick_at points run = ap (tick_at points) (let q : p ≡ run = omega arith in q) in omega arith
              ];
        }

    too_late :
        (m.goal_deadline g ≡ no_deadline → ⊥) → m.goal_deadline g < tick_at points run → (m.initial (m.goal_fact g) ≡ value → run ≡ low → ⊥)
        → true ≡ goal_fails m x g
    too_late due after unkept =
        missed_after m x form g h due (tick_at points run) after
        (elim (dec_lt low run) [ yes l ↦ turned l | no l ↦ kept l ])
      where
        kept : (low < run → ⊥) → seen m x (m.goal_fact g) (tick_at points run) ≡ m.goal_value g → ⊥
        kept l s =
            let first : low ≤ run = so.from in
            unkept
            (sym
            (seen_first known (m.goal_fact g) (form.goal_fact g h) (form_range form) (begins_at_run (λ p a b. absurd (omega arith)))
            (omega arith)) ∙ s ∙ sym wanted)
            (omega arith)

        turned : low < run → seen m x (m.goal_fact g) (tick_at points run) ≡ m.goal_value g → ⊥
        turned l s =
            let within : run < high = so.some some in
            let same : value_at points run ≡ m.goal_value g = in_run run (omega arith) within in
            let differ : value_at points (run - 1) ≡ value_at points (high - 1) → ⊥ = so.turned l in
            let apart : tick_at points (run - 1) < tick_at points run =
            placed_apart known (m.goal_fact g) (form.goal_fact g h) one (run - 1) run (omega arith) (omega arith) (omega arith)
            (λ e. differ (e ∙ same ∙ sym wanted ∙ sym reached))
            in
            differ
            (sym
            (seen_before known (m.goal_fact g) (form.goal_fact g h) (form_range form)
            (begins_at_run
            (λ p a b.
            elim (dec_lt p (run - 1)) [
              | yes i ↦
                  let up : tick_at points p ≤ tick_at points (run - 1) = (known.setters (m.goal_fact g) (form.goal_fact g h)).rises p (run - 1) (omega arith)
                  i (omega arith) in
                  omega arith
              | no i ↦ let e : tick_at points p ≡ tick_at points (run - 1) = ap (tick_at points) (let q : p ≡ run - 1 = omega arith in q) in omega arith
            ])) one (omega arith)) ∙ s ∙ sym wanted ∙ sym reached)

    run_tells :
        {kept : Bool} → kept ≡ eqb (m.initial (m.goal_fact g)) value → (m.goal_deadline g ≡ no_deadline → ⊥)
        → (not (kept && eqb run low) && ltb (m.goal_deadline g) (tick_at points run)) ≡ goal_fails m x g
    run_tells {kept} e due =
        ⊎_elim
        (λ (t : (kept && eqb run low) ≡ true).
        let b = and_both kept (eqb run low) t in
        let start : run ≡ low = eqb-true _ _ b.1 in
        ap (λ c. not c && ltb (m.goal_deadline g) (tick_at points run)) t
        ∙ met_always m x form g h (eqb-true _ _ (sym e ∙ b.0) ∙ wanted) (λ k o. let q = opposed_before k o in omega (arith, q.1, q.2)))
        (λ (f : (kept && eqb run low) ≡ false).
        elim (dec_lt (m.goal_deadline g) (tick_at points run)) [
          | yes l ↦
              ap₂ ◌&&◌ (ap not f) (lt-ltb (m.goal_deadline g) (tick_at points run) l)
              ∙ too_late due l (λ i q. contrary (ap₂ ◌&&◌ (e ∙ eq-eqb _ _ i) (eq-eqb _ _ q)) f)
          | no l ↦ ap₂ ◌&&◌ (ap not f) (le-ltb (m.goal_deadline g) (tick_at points run) (omega arith)) ∙ in_time_lem (omega arith)
        ])
        (either (kept && eqb run low))

  -- so the run and the deadline decide
  by_run :
      low < high → value_at points (high - 1) ≡ value → {kept : Bool} → kept ≡ eqb (m.initial (m.goal_fact g)) value → {deadline : ℕ}
      → deadline ≡ m.goal_deadline g
      → {r : Bool}
      → LateRun points low high kept deadline r
      → r ≡ goal_fails m x g
  by_run some reached {kept} e {deadline} due so =
      elim (ℕ_discrete deadline no_deadline) [
        | yes d ↦ so.never d ∙ met m x form g h (last_seen some ∙ reached ∙ wanted) (λ n. absurd (n (sym due ∙ d)))
        | no d ↦
            let ended = so.ends d in
            ended.2
            ∙ ap (λ k. not (kept && eqb ended.0 low) && ltb k (tick_at points ended.0)) due
            ∙ run_tells some reached ended.1 e (λ n. d (due ∙ n))
      ]

-- what the code reads of a goal and of where its fact's setters stand
pub record GoalRead (m : Model) (begins : List ℕ) (g low high value initial : ℕ) : Type 0 where
  pub from : low ≡ get_or begins (m.goal_fact g) 0
  pub to : high ≡ get_or begins (m.goal_fact g + 1) 0
  pub wanted : value ≡ m.goal_value g
  pub kept : eqb initial value ≡ eqb (m.initial (m.goal_fact g)) value

pub goal_read :
    {m :
    Model} {begins : List ℕ} {g : ℕ} {fact low high value initial : ℕ} → fact ≡ m.goal_fact g → value ≡ m.goal_value g
    → low ≡ get_or begins fact 0
    → high ≡ get_or begins (fact + 1) 0
    → initial ≡ m.initial fact
    → GoalRead m begins g low high value initial
goal_read {m} {begins} {value = value} of wanted from to started =
    record {
      from = from ∙ ap (λ k. get_or begins k 0) of;
      to = to ∙ ap (λ k. get_or begins (k + 1) 0) of;
      wanted = wanted;
      kept = ap (λ k. eqb k value) (started ∙ ap m.initial of);
    }

module _ {m : Model} {points begins : List ℕ} (given : GoalsKnown m points begins) {g : ℕ} (h : g < m.goals) {low high value initial : ℕ}
    (read : GoalRead m begins g low high value initial) where
  pub goal_group_ends : high ≤ length points
  goal_group_ends =
      let ends : get_or begins (m.goal_fact g + 1) 0 ≤ length points = (given.known.1.setters (m.goal_fact g) (given.form.goal_fact g h)).ends in
      omega (arith, read.to)

  pub goal_unset : high ≤ low → (x : ℕ → ℕ) → PointsKnown m x points begins → OneValue m x → not (eqb initial value) ≡ goal_fails m x g
  goal_unset none x known one = unset m x known one given.form g h read.from read.to read.wanted none read.kept

  pub goal_unseen :
      low < high → (value_at points (high - 1) ≡ value → ⊥) → (x : ℕ → ℕ) → PointsKnown m x points begins → OneValue m x
      → true ≡ goal_fails m x g
  goal_unseen some other x known one = unseen m x known one given.form g h read.from read.to read.wanted some other

  pub goal_by_run :
      low < high → value_at points (high - 1) ≡ value → {deadline : ℕ} → deadline ≡ m.goal_deadline g → {r : Bool}
      → LateRun points low high (eqb initial value) deadline r
      → (x : ℕ → ℕ)
      → PointsKnown m x points begins
      → OneValue m x
      → r ≡ goal_fails m x g
  goal_by_run some reached due so x known one =
      by_run m x known one given.form g h read.from read.to read.wanted some reached read.kept due so

-- The link that rule 1 finds is the one of the plain record. A value that is seen has a reason: the initial state with nothing opposing,
-- or an effect after the last opposing one; and where there are such effects, the search takes the earliest, of one tick the own step's,
-- and of these or of all the lowest.
use Prim.Native.Nat.{ℕ, zero, suc, ◌+◌, ◌-◌, ◌≤◌, ◌<◌, min}
use mathlib.Core.Path.{◌≡◌, refl, sym, ap, ap₂, subst, ◌∙◌}
use mathlib.Core.Bool.{Bool, true, false, ◌&&◌, not, cond}
use mathlib.Core.Logic.{◌⊎◌, inl, inr, ⊎_elim}
use native.Mathlib.Decide.{ℕ_discrete, dec_lt, dec_le}
use native.Mathlib.Omega.{arith}
use borrow.Author.Tests.{leb-true, eqb-true, eqb-false, not-true, lt-ltb, le-ltb, le-leb, eq-eqb, ne_eqb}
use lib.Dec.{eqb}
use Rattle.laws.specs.Search.{lowest}
use Rattle.laws.specs.Fold.{least}
use Rattle.laws.proofs.Search.{either, contrary, by_order, and_both, lowest_facts, lowest_lt}
use Rattle.laws.proofs.Fold.{least_le}
use Rattle.job.specs.Model.{Model}
use Rattle.job.specs.Clocked.{ClockedForm}
use Rattle.validity.specs.Ticks.{effect_tick, first_tick, gives, opposes}
use Rattle.validity.specs.Seen.{last_given, seen, after_all}
use Rattle.validity.specs.Valid.{Valid}
use Rattle.validity.proofs.Seen.{Giver, LaterGiver, last_given_ge, last_given_le, seen_why_apart, after_all_ge}
use Rattle.orders.specs.Links.{producer, earliest_produced, tied, Favoured, nobody, the_step, favours, supporter, link_of, condition_link, goal_link, nth_link}
use Rattle.orders.specs.Supporter.{Candidate, TieTo, own_step, lower_number, Supporter, Initially, LinkedTo, by_initial_state, by_effect}
use Rattle.orders.specs.Supporter.{ConditionLinkedTo, GoalLinkedTo, LinksSupported}

-- the least is the number for none or some value
pub least_at : (f : ℕ → ℕ) (none n : ℕ) → (least n none f ≡ none) ⊎ ((k : ℕ) × (k < n) × (f k ≡ least n none f))
unfolding least
least_at f none zero = inl refl
least_at f none (suc n) =
    elim (dec_le (least n none f) (f n)) [
      | yes l ↦
          let e : min (least n none f) (f n) ≡ least n none f = omega arith in
          ⊎_elim
          (λ (z : least n none f ≡ none). inl (e ∙ z))
          (λ (w : (k : ℕ) × (k < n) × (f k ≡ least n none f)). inr (w.0, omega (arith, w.1), w.2 ∙ sym e))
          (least_at f none n)
      | no l ↦ inr (n, omega arith, omega arith)
    ]

-- giving a value and opposing it, as tests and as records
pub giver : (m : Model) (fact v e : ℕ) → e < m.effects → gives m e fact v ≡ true → Giver m fact v e
giver m fact v e h t =
    let b = and_both _ _ t in
    record { known = h; of_fact = eqb-true _ _ b.0; of_value = eqb-true _ _ b.1 }

pub giver_gives : (m : Model) (fact v e : ℕ) → Giver m fact v e → gives m e fact v ≡ true
giver_gives m fact v e g = ap₂ ◌&&◌ (eq-eqb _ _ g.of_fact) (eq-eqb _ _ g.of_value)

pub giver_opposes : (m : Model) (fact v e : ℕ) → Giver m fact (1 - v) e → opposes m e fact v ≡ true
giver_opposes m fact v e g =
    ap₂ ◌&&◌ (eq-eqb _ _ g.of_fact) (ap not (ne_eqb (m.effect_value e) v (λ z. omega (arith, g.of_value))))

pub opposes_giver : (m : Model) (fact v e : ℕ) → ClockedForm m → v ≤ 1 → e < m.effects → opposes m e fact v ≡ true → Giver m fact (1 - v) e
opposes_giver m fact v e w b h t =
    let c = and_both _ _ t in
    let d : m.effect_value e ≡ v → ⊥ = eqb-false _ _ (not-true _ c.1) in
    record { known = h; of_fact = eqb-true _ _ c.0; of_value = omega (arith, w.effect_value e h) }

-- the effects whom a tie goes to first, in words and as a test
abbrev pub Own : Model → Favoured → ℕ → Type 0
Own m nobody e = ⊥
Own m (the_step k) e = m.effect_step e ≡ k

favoured : (m : Model) (own : Favoured) (e : ℕ) → favours m own e ≡ true → Own m own e
unfolding favours
favoured m nobody e h = contrary h refl
favoured m (the_step k) e h = eqb-true _ _ h

is_favoured : (m : Model) (own : Favoured) (e : ℕ) → Own m own e → favours m own e ≡ true
unfolding favours
is_favoured m nobody e h = absurd h
is_favoured m (the_step k) e h = eq-eqb _ _ h

not_favoured : (m : Model) (own : Favoured) (e : ℕ) → favours m own e ≡ false → Own m own e → ⊥
not_favoured m own e h o = contrary (is_favoured m own e o) h

-- a tie goes to one only
tie_once : {own : ℕ → Type 0} {a b : ℕ} → TieTo own a b → TieTo own b a → a ≡ b
tie_once (own_step o n) (own_step p k) = absurd (n p)
tie_once (own_step o n) (lower_number p k) = absurd (n (p o))
tie_once (lower_number o n) (own_step p k) = absurd (k (o p))
tie_once (lower_number o n) (lower_number p k) = omega arith

-- the lowest that passes a test is at most any that does
lowest_below : (p : ℕ → Bool) (n k : ℕ) → p k ≡ true → lowest n p ≤ k
lowest_below p n k h =
    elim (dec_lt k (lowest n p)) [
      | yes l ↦ contrary h ((lowest_facts p n).1 k l)
      | no l ↦ omega arith
    ]

-- the supporter before tick t, where some effect gives the value after the last opposing one
module _ (m : Model) (x : ℕ → ℕ) (fact v t : ℕ) where
  -- no producer lies before the earliest
  earliest_le : (e : ℕ) → e < m.effects → producer m x fact v t e ≡ true → earliest_produced m x fact v t ≤ effect_tick m x e
  unfolding earliest_produced
  earliest_le e h p =
      let f : ℕ → ℕ = λ e. cond (producer m x fact v t e) (effect_tick m x e) (after_all m x) in
      let q : f e ≡ effect_tick m x e = ap (λ b. cond b (effect_tick m x e) (after_all m x)) p in
      omega (arith, q, least_le f m.effects (after_all m x) e h)

  -- and one is the earliest
  earliest_at_lem :
      (e : ℕ) → e < m.effects → producer m x fact v t e ≡ true
      → (k : ℕ) × (k < m.effects) × (producer m x fact v t k ≡ true) × (effect_tick m x k ≡ earliest_produced m x fact v t)
  unfolding earliest_produced
  earliest_at_lem e h p =
      let f : ℕ → ℕ = λ e. cond (producer m x fact v t e) (effect_tick m x e) (after_all m x) in
      let l : earliest_produced m x fact v t < after_all m x = omega (arith, earliest_le e h p, after_all_ge m x e h) in
      ⊎_elim
      (λ (z : earliest_produced m x fact v t ≡ after_all m x). absurd (omega arith))
      (λ (w : (k : ℕ) × (k < m.effects) × (f k ≡ earliest_produced m x fact v t)).
      ⊎_elim
      (λ (a : producer m x fact v t w.0 ≡ true).
      (w.0, w.1, a, sym (ap (λ b. cond b (effect_tick m x w.0) (after_all m x)) a) ∙ w.2))
      (λ (a : producer m x fact v t w.0 ≡ false).
      let q : f w.0 ≡ after_all m x = ap (λ b. cond b (effect_tick m x w.0) (after_all m x)) a in
      absurd (omega (arith, w.2)))
      (either (producer m x fact v t w.0)))
      (least_at f (after_all m x) m.effects)

  -- one of the tied is the earliest producer
  tied_is : (e : ℕ) → tied m x fact v t e ≡ true → (producer m x fact v t e ≡ true) × (effect_tick m x e ≡ earliest_produced m x fact v t)
  unfolding tied
  tied_is e q = let b = and_both _ _ q in (b.0, eqb-true _ _ b.1)

  is_tied_lem : (e : ℕ) → producer m x fact v t e ≡ true → effect_tick m x e ≡ earliest_produced m x fact v t → tied m x fact v t e ≡ true
  unfolding tied
  is_tied_lem e p q = ap₂ ◌&&◌ p (eq-eqb _ _ q)

  some_tied : (e : ℕ) → e < m.effects → producer m x fact v t e ≡ true → (k : ℕ) × (k < m.effects) × (tied m x fact v t k ≡ true)
  some_tied e h p = let k = earliest_at_lem e h p in (k.0, k.1, is_tied_lem k.0 k.2 k.3)

  module _ (own : Favoured) where
    -- an effect to which the tie goes
    record Gets (e : ℕ) : Type 0 where
      known : e < m.effects
      is_tied : tied m x fact v t e ≡ true
      first : (k : ℕ) → k < m.effects → tied m x fact v t k ≡ true → TieTo (Own m own) e k

    own_tied : ℕ → Bool
    own_tied k = tied m x fact v t k && favours m own k

    -- where the own step has a tied effect, the supporter is the lowest of these, and else the lowest of all
    lowest_own : lowest m.effects own_tied < m.effects → supporter m x own fact v t ≡ lowest m.effects own_tied
    unfolding supporter own_tied
    lowest_own l = ap (λ b. cond b (lowest m.effects own_tied) (lowest m.effects (tied m x fact v t))) (lt-ltb _ _ l)

    lowest_tied : m.effects ≤ lowest m.effects own_tied → supporter m x own fact v t ≡ lowest m.effects (tied m x fact v t)
    unfolding supporter own_tied
    lowest_tied l = ap (λ b. cond b (lowest m.effects own_tied) (lowest m.effects (tied m x fact v t))) (le-ltb _ _ l)

    own_gets : lowest m.effects own_tied < m.effects → Gets (lowest m.effects own_tied)
    unfolding own_tied
    own_gets l =
        let b = and_both _ _ ((lowest_facts own_tied m.effects).2 l) in
        let o = favoured m own (lowest m.effects own_tied) b.1 in
        record {
          known = l;
          is_tied = b.0;
          first = λ k i r. ⊎_elim
              (λ (f : favours m own k ≡ true). lower_number (λ _. o) (lowest_below own_tied m.effects k (ap₂ ◌&&◌ r f)))
              (λ (f : favours m own k ≡ false). own_step o (not_favoured m own k f))
              (either (favours m own k));
        }

    lowest_gets :
        (e : ℕ) → e < m.effects → tied m x fact v t e ≡ true → m.effects ≤ lowest m.effects own_tied
        → Gets (lowest m.effects (tied m x fact v t))
    unfolding own_tied
    lowest_gets e h q l =
        let some = lowest_lt (tied m x fact v t) m.effects e h q in
        record {
          known = some;
          is_tied = (lowest_facts (tied m x fact v t) m.effects).2 some;
          first = λ k i r.
              lower_number
              (λ o. contrary (ap₂ ◌&&◌ r (is_favoured m own k o)) ((lowest_facts own_tied m.effects).1 k (omega arith)))
              (lowest_below (tied m x fact v t) m.effects k r);
        }

    module _ (e : ℕ) (h : e < m.effects) (q : tied m x fact v t e ≡ true) where
      -- the tie goes to the supporter
      supporter_gets : Gets (supporter m x own fact v t)
      supporter_gets =
          elim (dec_lt (lowest m.effects own_tied) m.effects) [
            | yes l ↦ subst Gets (sym (lowest_own l)) (own_gets l)
            | no l ↦ let n : m.effects ≤ lowest m.effects own_tied = omega arith in subst Gets (sym (lowest_tied n)) (lowest_gets e h q n)
          ]

      -- and what it goes to is the supporter
      pub supporter_is :
          ((k : ℕ) → k < m.effects → tied m x fact v t k ≡ true → TieTo (Own m own) e k) → supporter m x own fact v t ≡ e
      supporter_is goes =
          let s = supporter_gets in tie_once (s.first e h q) (goes (supporter m x own fact v t) s.known s.is_tied)

-- `before` means before tick t
record Until (m : Model) (x : ℕ → ℕ) (t : ℕ) (before : ℕ → Type 0) : Type 0 where
  into : (e : ℕ) → e < m.effects → before (effect_tick m x e) → effect_tick m x e < t
  out : (e : ℕ) → e < m.effects → effect_tick m x e < t → before (effect_tick m x e)

module _
    (m : Model) (x : ℕ → ℕ) (own : Favoured) (fact v t : ℕ) (before : ℕ → Type 0) (w : ClockedForm m) (b : v ≤ 1) (u : Until m x t before)
  where
    -- the candidates are the producers
    candidate_produces : (e : ℕ) → Candidate m x fact v before e → producer m x fact v t e ≡ true
    unfolding producer
    candidate_produces e c =
        ap₂ ◌&&◌ c.wanted
        (le-leb _ _
        (last_given_le m x fact (1 - v) t (effect_tick m x e)
        (λ f g l. c.after f g.known (giver_opposes m fact v f g) (u.out f g.known l))))

    -- what opposes before t is at most the last that does
    opposed_by_last :
        (f : ℕ) → f < m.effects → opposes m f fact v ≡ true → before (effect_tick m x f) → effect_tick m x f < last_given m x fact (1 - v) t
    opposed_by_last f h o l = last_given_ge m x fact (1 - v) t f (opposes_giver m fact v f w b h o) (u.into f h l)

    producer_candidate : (e : ℕ) → e < m.effects → producer m x fact v t e ≡ true → Candidate m x fact v before e
    unfolding producer
    producer_candidate e h p =
        let c = and_both _ _ p in
        let l : last_given m x fact (1 - v) t ≤ effect_tick m x e = leb-true _ _ c.1 in
        record {
          known = h;
          wanted = c.0;
          after = λ f k o r. omega (arith, opposed_by_last f k o r);
        }

    -- of candidates of which one lies before t, the search finds the supporter
    supporter_found :
        (e : ℕ) → Candidate m x fact v before e → effect_tick m x e < t → Supporter m x fact v before (Own m own) (supporter m x own fact v t)
    supporter_found e c l =
        let some = some_tied m x fact v t e c.known (candidate_produces e c) in
        let s = supporter_gets m x fact v t own some.0 some.1 some.2 in
        let p = tied_is m x fact v t (supporter m x own fact v t) s.is_tied in
        record {
          candidate = producer_candidate (supporter m x own fact v t) s.known p.0;
          earliest = λ f k.
              let q = candidate_produces f k in
              by_order (effect_tick m x (supporter m x own fact v t)) (effect_tick m x f)
              inl
              (λ r. absurd (omega (arith, p.1, earliest_le m x fact v t f k.known q)))
              (λ r. inr (r, s.first f k.known (is_tied_lem m x fact v t f q (sym r ∙ p.1))));
          in_time = u.out (supporter m x own fact v t) s.known
              (omega (arith, p.1, earliest_le m x fact v t e c.known (candidate_produces e c)));
        }

    -- the initial state supports where nothing has opposed
    initially_nothing : Initially m x fact v before → (last_given m x fact (1 - v) t ≡ 0) × (m.initial fact ≡ v)
    initially_nothing i =
        let z : last_given m x fact (1 - v) t ≤ 0 =
        last_given_le m x fact (1 - v) t 0 (λ f g l. absurd (i.unopposed f g.known (giver_opposes m fact v f g) (u.out f g.known l)))
        in
        (omega arith, i.wanted)

    nothing_initially : last_given m x fact (1 - v) t ≡ 0 → m.initial fact ≡ v → Initially m x fact v before
    nothing_initially z i =
        record {
          wanted = i;
          unopposed = λ f k o r. omega (arith, opposed_by_last f k o r);
        }

    -- the link of a value that is seen, where no two opposing effects share a tick
    linked_to :
        ((e f : ℕ) → Giver m fact v e → Giver m fact (1 - v) f → effect_tick m x e ≡ effect_tick m x f → ⊥) → seen m x fact t ≡ v
        → LinkedTo m x fact v before (Own m own) (link_of m x own fact v t)
    unfolding link_of
    linked_to apart h =
        let z = eqb (last_given m x fact (1 - v) t) 0 in
        let i = eqb (m.initial fact) v in
        ⊎_elim
        (λ (a : (z && i) ≡ true).
        let c = and_both z i a in
        rw a (by_initial_state refl (nothing_initially (eqb-true _ _ c.0) (eqb-true _ _ c.1))))
        (λ (a : (z && i) ≡ false).
        let n : Initially m x fact v before → ⊥ = λ j.
        let k = initially_nothing j in contrary (ap₂ ◌&&◌ (eq-eqb _ _ k.0) (eq-eqb _ _ k.1)) a
        in
        rw a
        (⊎_elim
        (λ (e : LaterGiver m x fact v t).
        by_effect n
        (supporter_found e.0
        (record {
          known = e.1.known;
          wanted = giver_gives m fact v e.0 e.1;
          after = λ f k o r. omega (arith, e.3, opposed_by_last f k o r);
        })
        e.2))
        (λ (j : (m.initial fact ≡ v) × (last_given m x fact (1 - v) t ≡ 0)). absurd (n (nothing_initially j.1 j.0)))
        (seen_why_apart m x fact v t b apart h)))
        (either (z && i))

-- the plain record leaves one link
module _ (m : Model) (x : ℕ → ℕ) (fact v : ℕ) (before own : ℕ → Type 0) (a b : ℕ) where
  pub linked_once : LinkedTo m x fact v before own a → LinkedTo m x fact v before own b → a ≡ b
  linked_once (by_initial_state p i) (by_initial_state q j) = p ∙ sym q
  linked_once (by_initial_state p i) (by_effect n s) = absurd (n i)
  linked_once (by_effect n s) (by_initial_state p i) = absurd (n i)
  linked_once (by_effect n s) (by_effect o r) = same (s.earliest b r.candidate) (r.earliest a s.candidate)
    where
      same :
          (effect_tick m x a < effect_tick m x b) ⊎ ((effect_tick m x a ≡ effect_tick m x b) × TieTo own a b)
          → (effect_tick m x b < effect_tick m x a) ⊎ ((effect_tick m x b ≡ effect_tick m x a) × TieTo own b a)
          → a ≡ b
      same (inl k) (inl l) = absurd (omega arith)
      same (inl k) (inr l) = absurd (omega (arith, l.0))
      same (inr k) (inl l) = absurd (omega (arith, k.0))
      same (inr k) (inr l) = tie_once k.1 l.1

-- the links in one list
module _ (m : Model) (x : ℕ → ℕ) where
  pub condition_nth : (c : ℕ) → c < m.conditions → nth_link m x c ≡ condition_link m x c
  unfolding nth_link
  condition_nth c h = rw (lt-ltb _ _ h)

  pub goal_nth : (g : ℕ) → nth_link m x (m.conditions + g) ≡ goal_link m x g
  unfolding nth_link
  goal_nth g =
      let k = m.conditions + g in
      let e : k - m.conditions ≡ g = omega arith in
      rw (le-ltb k m.conditions (omega arith)) (ap (goal_link m x) e)

module _ (m : Model) (x : ℕ → ℕ) (w : ClockedForm m) (s : Valid m x) where
  -- in a valid schedule no two opposing effects share a tick, of one step or of two
  pub apart : (fact v e f : ℕ) → Giver m fact v e → Giver m fact (1 - v) f → effect_tick m x e ≡ effect_tick m x f → ⊥
  apart fact v e f g o q =
      let a : m.effect_fact e ≡ m.effect_fact f = g.of_fact ∙ sym o.of_fact in
      let d : m.effect_value e ≡ m.effect_value f → ⊥ = λ z. omega (arith, g.of_value, o.of_value) in
      elim (ℕ_discrete (m.effect_step e) (m.effect_step f)) [
        | yes i ↦
            let p : x (m.effect_step e) ≡ x (m.effect_step f) = ap x i in
            d (w.one_way e f g.known o.known i a (omega arith))
        | no i ↦ d (s.effects_apart e f g.known o.known i a q)
      ]

  -- the theorem: what rule 1 finds for each condition and each goal of a valid schedule is the plain record's link
  pub condition_supported : (c : ℕ) → c < m.conditions → ConditionLinkedTo m x c (condition_link m x c)
  unfolding condition_link
  condition_supported c h =
      linked_to m x (the_step (m.condition_step c)) (m.condition_fact c) (m.condition_value c) (first_tick m x c)
      (λ tick. tick < first_tick m x c) w (w.condition_value c h)
      (record { into = λ e k l. l; out = λ e k l. l })
      (apart (m.condition_fact c) (m.condition_value c))
      (s.condition_seen c (first_tick m x c) h (omega arith) (omega (arith, w.condition_span c h)))

  pub goal_supported : (g : ℕ) → g < m.goals → GoalLinkedTo m x g (goal_link m x g)
  unfolding goal_link
  goal_supported g h =
      linked_to m x nobody (m.goal_fact g) (m.goal_value g) (after_all m x) (λ tick. Unit {0}) w (w.goal_value g h)
      (record { into = λ e k l. after_all_ge m x e k; out = λ e k l. tt })
      (apart (m.goal_fact g) (m.goal_value g))
      (s.goal_reached g h)

  -- so links that are numbered as rule 1's are these, and only these
  pub links_supported :
      (link : ℕ → ℕ) → ((j : ℕ) → j < m.conditions + m.goals → link j ≡ nth_link m x j) → LinksSupported m x link
  links_supported link same =
      let ofC : (c : ℕ) → c < m.conditions → link c ≡ condition_link m x c = λ c h. same c (omega arith) ∙ condition_nth m x c h in
      let ofG : (g : ℕ) → g < m.goals → link (m.conditions + g) ≡ goal_link m x g = λ g h.
      same (m.conditions + g) (omega arith) ∙ goal_nth m x g
      in
      record {
        condition = λ c h. rw (ofC c h) (condition_supported c h);
        condition_only = λ c e h l. linked_once m x _ _ _ _ e (condition_link m x c) l (condition_supported c h) ∙ sym (ofC c h);
        goal = λ g h. rw (ofG g h) (goal_supported g h);
        goal_only = λ g e h l. linked_once m x _ _ _ _ e (goal_link m x g) l (goal_supported g h) ∙ sym (ofG g h);
      }

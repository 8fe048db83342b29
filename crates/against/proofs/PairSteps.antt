-- The search by pairs finds the lowest step that sets a fact both ways: the one that refusal 7's definition finds.
use Prim.Native.Nat.{ℕ, zero, suc, ◌+◌, ◌≤◌, ◌<◌}
use mathlib.Core.Path.{◌≡◌, refl, sym, ap, subst, ◌∙◌}
use mathlib.Core.Bool.{true, false, not, ◌&&◌}
use mathlib.Core.Logic.{◌⊎◌, inl, inr, ⊎_elim}
use native.Mathlib.Decide.{ℕ_discrete}
use native.Mathlib.Omega.{arith}
use borrow.Author.Tests.{eq-eqb, ne_eqb, eqb-true, eqb-false}
use lib.Dec.{eqb}
use Rattle.laws.specs.Search.{any, lowest_owner}
use Rattle.laws.proofs.Search.{either, contrary, by_order, and_both, any_intro, any_elim, any_none, lowest_is}
use Rattle.job.specs.Model.{Model}
use Rattle.against.specs.declared.Search.{Search}
use Rattle.against.specs.Against.{both_ways, set_before, both_ways_step}
use Rattle.against.proofs.Unopposed.{fails}
use Rattle.against.specs.BothWays.{SetsBothWays, FirstBothWays}
use Rattle.against.specs.Pairs.{effects_from, through_step, through_steps, pair_search}
use Rattle.against.specs.Onward.{◌onward◌, with_higher, through_pairs}
use Rattle.against.proofs.Onward.{through_pairs_lem}

-- a test of equal numbers, and of a pair of effects, is the same either way round
eqb_sym : (a b : ℕ) → eqb a b ≡ eqb b a
eqb_sym a b =
    ⊎_elim
    (λ (t : eqb a b ≡ true). t ∙ sym (eq-eqb b a (sym (eqb-true _ _ t))))
    (λ (t : eqb a b ≡ false). t ∙ sym (ne_eqb b a (λ q. eqb-false _ _ t (sym q))))
    (either (eqb a b))

pub both_ways_sym : (m : Model) (e f : ℕ) → both_ways m e f ≡ both_ways m f e
unfolding both_ways
both_ways_sym m e f =
    rw (
      eqb_sym (m.effect_step e) (m.effect_step f),
      eqb_sym (m.effect_fact e) (m.effect_fact f),
      eqb_sym (m.effect_at e) (m.effect_at f),
      eqb_sym (m.effect_value e) (m.effect_value f),
    )

-- what the test says, and when it passes
pub both_ways_says :
    (m : Model) (e f : ℕ) → both_ways m e f ≡ true
    → (m.effect_step e ≡ m.effect_step f) × (m.effect_fact e ≡ m.effect_fact f) × (m.effect_at e ≡ m.effect_at f)
    × (m.effect_value e ≡ m.effect_value f → ⊥)
unfolding both_ways
both_ways_says m e f t =
    let c = and_both _ _ t in
    let b = and_both _ _ c.0 in
    let a = and_both _ _ b.0 in
    (eqb-true _ _ a.0, eqb-true _ _ a.1, eqb-true _ _ b.1, λ q. contrary c.1 (ap not (eq-eqb _ _ q)))

pub both_ways_passes :
    (m : Model) (e f : ℕ) → m.effect_step e ≡ m.effect_step f → m.effect_fact e ≡ m.effect_fact f → m.effect_at e ≡ m.effect_at f
    → (m.effect_value e ≡ m.effect_value f → ⊥) → both_ways m e f ≡ true
unfolding both_ways
both_ways_passes m e f step fact at value = rw (eq-eqb _ _ step, eq-eqb _ _ fact, eq-eqb _ _ at, ne_eqb _ _ value)

-- a search goes on to what comes behind only if it has found nothing
found_first : (a b : Search) → a.found ≡ true → (a onward b).found ≡ true
unfolding ◌onward◌
found_first a b t = rw t

found_behind : (a b : Search) → a.found ≡ false → (a onward b).found ≡ b.found
unfolding ◌onward◌
found_behind a b t = rw t

module _ (m : Model) (s : ℕ) where
  -- the effects of step s from k on, n of them looked at: one that e sets both ways with, or none
  pub record Higher (e k n : ℕ) : Type 0 where
    pub f : ℕ
    pub from : k ≤ f
    pub below : f < k + n
    pub own : m.effect_step f ≡ s
    pub both : both_ways m e f ≡ true

  abbrev NoHigher : ℕ → ℕ → ℕ → Type 0
  NoHigher e k n = (f : ℕ) → k ≤ f → f < k + n → m.effect_step f ≡ s → both_ways m e f ≡ false

  with_outcome :
      (e n k : ℕ)
      → (((with_higher (both_ways m) e (effects_from m s k n)).found ≡ true) × Higher e k n)
      ⊎ (((with_higher (both_ways m) e (effects_from m s k n)).found ≡ false) × NoHigher e k n)
  unfolding effects_from with_higher
  with_outcome e zero k = inr (refl, λ f a b _. absurd (omega arith))
  with_outcome e (suc n) k =
      ⊎_elim
      (λ (t : eqb (m.effect_step k) s ≡ true).
      ⊎_elim
      (λ (b : both_ways m e k ≡ true).
      inl (
        rw t (found_first _ _ b),
        record { f = k; from = omega arith; below = omega arith; own = eqb-true _ _ t; both = b },
      ))
      (λ (b : both_ways m e k ≡ false).
      ⊎_elim
      (λ (r : ((with_higher (both_ways m) e (effects_from m s (suc k) n)).found ≡ true) × Higher e (suc k) n).
      inl (rw t (found_behind _ _ b ∙ r.0), further r.1))
      (λ (r : ((with_higher (both_ways m) e (effects_from m s (suc k) n)).found ≡ false) × NoHigher e (suc k) n).
      inr (rw t (found_behind _ _ b ∙ r.0), none_further (λ _. b) r.1))
      (with_outcome e n (suc k)))
      (either (both_ways m e k)))
      (λ (t : eqb (m.effect_step k) s ≡ false).
      ⊎_elim
      (λ (r : ((with_higher (both_ways m) e (effects_from m s (suc k) n)).found ≡ true) × Higher e (suc k) n).
      inl (rw t r.0, further r.1))
      (λ (r : ((with_higher (both_ways m) e (effects_from m s (suc k) n)).found ≡ false) × NoHigher e (suc k) n).
      inr (rw t r.0, none_further (λ q. absurd (eqb-false _ _ t q)) r.1))
      (with_outcome e n (suc k)))
      (either (eqb (m.effect_step k) s))
    where
      further : Higher e (suc k) n → Higher e k (suc n)
      further h = record { f = h.f; from = omega arith; below = omega arith; own = h.own; both = h.both }

      none_further : (m.effect_step k ≡ s → both_ways m e k ≡ false) → NoHigher e (suc k) n → NoHigher e k (suc n)
      none_further here h f a b own =
          elim (ℕ_discrete f k) [
            | yes q ↦ subst (λ j. both_ways m e j ≡ false) (sym q) (here (ap m.effect_step (sym q) ∙ own))
            | no q ↦ h f (omega arith) (omega arith) own
          ]

  -- two of them that set a fact both ways, or none
  pub record Two (k n : ℕ) : Type 0 where
    pub e : ℕ
    pub f : ℕ
    pub from : k ≤ e
    pub rising : e < f
    pub below : f < k + n
    pub own : (m.effect_step e ≡ s) × (m.effect_step f ≡ s)
    pub both : both_ways m e f ≡ true

  abbrev NoTwo : ℕ → ℕ → Type 0
  NoTwo k n =
      (e f : ℕ) → k ≤ e → e < f → f < k + n → m.effect_step e ≡ s → m.effect_step f ≡ s → both_ways m e f ≡ false

  pairs_outcome :
      (n k : ℕ)
      → (((through_pairs (both_ways m) (effects_from m s k n)).found ≡ true) × Two k n)
      ⊎ (((through_pairs (both_ways m) (effects_from m s k n)).found ≡ false) × NoTwo k n)
  unfolding effects_from through_pairs
  pairs_outcome zero k = inr (refl, λ e f a b c _ _. absurd (omega arith))
  pairs_outcome (suc n) k =
      ⊎_elim
      (λ (t : eqb (m.effect_step k) s ≡ true).
      let own = eqb-true _ _ t in
      ⊎_elim
      (λ (w : ((with_higher (both_ways m) k (effects_from m s (suc k) n)).found ≡ true) × Higher k (suc k) n).
      let h = w.1 in
      inl (
        rw t (found_first _ _ w.0),
        record { e = k; f = h.f; from = omega arith; rising = omega arith; below = omega arith; own = (own, h.own); both = h.both },
      ))
      (λ (w : ((with_higher (both_ways m) k (effects_from m s (suc k) n)).found ≡ false) × NoHigher k (suc k) n).
      ⊎_elim
      (λ (r : ((through_pairs (both_ways m) (effects_from m s (suc k) n)).found ≡ true) × Two (suc k) n).
      inl (rw t (found_behind _ _ w.0 ∙ r.0), further r.1))
      (λ (r : ((through_pairs (both_ways m) (effects_from m s (suc k) n)).found ≡ false) × NoTwo (suc k) n).
      inr (rw t (found_behind _ _ w.0 ∙ r.0), none_further (λ _. w.1) r.1))
      (pairs_outcome n (suc k)))
      (with_outcome k n (suc k)))
      (λ (t : eqb (m.effect_step k) s ≡ false).
      ⊎_elim
      (λ (r : ((through_pairs (both_ways m) (effects_from m s (suc k) n)).found ≡ true) × Two (suc k) n).
      inl (rw t r.0, further r.1))
      (λ (r : ((through_pairs (both_ways m) (effects_from m s (suc k) n)).found ≡ false) × NoTwo (suc k) n).
      inr (rw t r.0, none_further (λ q. absurd (eqb-false _ _ t q)) r.1))
      (pairs_outcome n (suc k)))
      (either (eqb (m.effect_step k) s))
    where
      further : Two (suc k) n → Two k (suc n)
      further h =
          record { e = h.e; f = h.f; from = omega arith; rising = h.rising; below = omega arith; own = h.own; both = h.both }

      none_further : (m.effect_step k ≡ s → NoHigher k (suc k) n) → NoTwo (suc k) n → NoTwo k (suc n)
      none_further here h e f a b c p q =
          elim (ℕ_discrete e k) [
            | yes r ↦
                subst (λ j. both_ways m j f ≡ false) (sym r)
                (here (ap m.effect_step (sym r) ∙ p) f (omega arith) (omega arith) q)
            | no r ↦ h e f (omega arith) b (omega arith) p q
          ]

  no_earlier_lem :
      NoTwo 0 m.effects → (k : ℕ) → k < m.effects → (eqb (m.effect_step k) s && any k (both_ways m k)) ≡ true → ⊥
  no_earlier_lem h k l t =
      let a = and_both _ _ t in
      let own = eqb-true _ _ a.0 in
      let found = any_elim (both_ways m k) k a.1 in
      let f = found.0 in
      let both = found.2 in
      let same = (both_ways_says m k f both).0 in
      contrary both (both_ways_sym m k f ∙ h f k (omega arith) found.1 (omega arith) (sym same ∙ own) own)

  -- so a step's pairs are found where one of its effects has an earlier one against it
  step_found : (through_step m s).found ≡ any m.effects (λ k. eqb (m.effect_step k) s && set_before m k)
  unfolding through_step set_before
  step_found =
      ap (λ (a : Search). a.found) (through_pairs_lem (both_ways m) _)
      ∙ ⊎_elim
      (λ (r : ((through_pairs (both_ways m) (effects_from m s 0 m.effects)).found ≡ true) × Two 0 m.effects).
      let p = r.1 in
      let b = any_intro (both_ways m p.f) p.f p.e p.rising (both_ways_sym m p.f p.e ∙ p.both) in
      r.0 ∙ sym (any_intro _ m.effects p.f (omega (arith, p.below)) (rw (eq-eqb _ _ p.own.1, b))))
      (λ (r : ((through_pairs (both_ways m) (effects_from m s 0 m.effects)).found ≡ false) × NoTwo 0 m.effects).
      r.0 ∙ sym (any_none _ m.effects (λ k l. fails _ (no_earlier_lem r.1 k l))))
      (pairs_outcome m.effects 0)

  -- in plain words
  found_sets : (through_step m s).found ≡ true → (e : ℕ) × (f : ℕ) × SetsBothWays m s e f
  unfolding through_step
  found_sets t =
      ⊎_elim
      (λ (r : ((through_pairs (both_ways m) (effects_from m s 0 m.effects)).found ≡ true) × Two 0 m.effects).
      let p = r.1 in
      let b = both_ways_says m p.e p.f p.both in (
        p.e,
        p.f,
        record {
          known = (omega (arith, p.rising, p.below), omega (arith, p.below));
          own = p.own;
          same_fact = b.1;
          same_tick = b.2;
          other_value = b.3;
        },
      ))
      (λ (r : ((through_pairs (both_ways m) (effects_from m s 0 m.effects)).found ≡ false) × NoTwo 0 m.effects).
      contrary t (ap (λ (a : Search). a.found) (through_pairs_lem (both_ways m) _) ∙ r.0))
      (pairs_outcome m.effects 0)

  none_sets : (through_step m s).found ≡ false → (e f : ℕ) → SetsBothWays m s e f → ⊥
  unfolding through_step
  none_sets t e f w =
      ⊎_elim
      (λ (r : ((through_pairs (both_ways m) (effects_from m s 0 m.effects)).found ≡ true) × Two 0 m.effects).
      contrary (ap (λ (a : Search). a.found) (through_pairs_lem (both_ways m) _) ∙ r.0) t)
      (λ (r : ((through_pairs (both_ways m) (effects_from m s 0 m.effects)).found ≡ false) × NoTwo 0 m.effects).
      let b = both_ways_passes m e f (w.own.0 ∙ sym w.own.1) w.same_fact w.same_tick w.other_value in
      by_order e f
      (λ l. contrary b (r.1 e f (omega arith) l (omega (arith, w.known.1)) w.own.0 w.own.1))
      (λ l. contrary b (both_ways_sym m e f ∙ r.1 f e (omega arith) l (omega (arith, w.known.0)) w.own.1 w.own.0))
      (λ q. w.other_value (ap m.effect_value q)))
      (pairs_outcome m.effects 0)

-- the step named by the search through n steps from s on: the first whose pairs are found
pub record FirstFound (m : Model) (s n step : ℕ) : Type 0 where
  pub from : s ≤ step
  pub most : step ≤ s + n
  pub lower : (j : ℕ) → s ≤ j → j < step → (through_step m j).found ≡ false
  pub found : step < s + n → (through_step m step).found ≡ true

first_found : (m : Model) (n s : ℕ) → FirstFound m s n (through_steps m s n).step
unfolding through_steps
first_found m zero s =
    record { from = omega arith; most = omega arith; lower = λ j a b. absurd (omega arith); found = λ l. absurd (omega arith) }
first_found m (suc n) s =
    ⊎_elim
    (λ (t : (through_step m s).found ≡ true).
    rw t (record { from = omega arith; most = omega arith; lower = λ j a b. absurd (omega arith); found = λ l. t }))
    (λ (t : (through_step m s).found ≡ false).
    let r = first_found m n (suc s) in
    rw t
    (record {
      from = omega (arith, r.from);
      most = omega (arith, r.most);
      lower = λ j a b.
          elim (ℕ_discrete j s) [
            | yes q ↦ subst (λ i. (through_step m i).found ≡ false) (sym q) t
            | no q ↦ r.lower j (omega arith) b
          ];
      found = λ l. r.found (omega arith);
    }))
    (either (through_step m s).found)

-- refusal 7 names the step that the search finds, as far as it names one for a fact set both ways
pub search_step : (m : Model) → both_ways_step m ≡ (pair_search m).step
unfolding both_ways_step lowest_owner pair_search
search_step m =
    let r = first_found m m.steps 0 in
    lowest_is (λ s. any m.effects (λ k. eqb (m.effect_step k) s && set_before m k)) m.steps (through_steps m 0 m.steps).step
    (omega (arith, r.most))
    (λ s l. sym (step_found m s) ∙ r.lower s (omega arith) l)
    (λ l. sym (step_found m _) ∙ r.found (omega arith))

-- the same in plain words: a pair is found in the step named and in none before it, or in none at all
pub search_found : (m : Model) → (pair_search m).step < m.steps → FirstBothWays m (pair_search m).step
unfolding pair_search
search_found m h =
    let r = first_found m m.steps 0 in
    record {
      counted = h;
      sets = found_sets m _ (r.found (omega arith));
      no_lower = λ lower e f l w. none_sets m lower (r.lower lower (omega arith) l) e f w;
    }

pub search_none : (m : Model) → m.steps ≤ (pair_search m).step → (step e f : ℕ) → step < m.steps → SetsBothWays m step e f → ⊥
unfolding pair_search
search_none m h step e f l w =
    none_sets m step ((first_found m m.steps 0).lower step (omega arith) (omega (arith, h))) e f w

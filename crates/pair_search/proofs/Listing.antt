-- The keys of a step's effects, listed from the last to the first along their links.
use Prim.Native.Nat.{ℕ, zero, suc, ◌+◌, ◌-◌, ◌≤◌, ◌<◌}
use mathlib.Core.Path.{◌≡◌, sym, ap, subst, ◌∙◌}
use mathlib.Core.List.{List, ◌∷◌, map}
use native.Mathlib.Decide.{dec_lt}
use native.Mathlib.Omega.{arith}
use borrow.Author.Tests.{eq-eqb, ne_eqb, lt-ltb, le-ltb}
use lib.ListN.{length, get_or, drop, set, length-set, drop_of_length-le}
use lib.Seq.{drop-cons, drop-set-lt, get_or-set_same}
use Rattle.laws.specs.Linked.{LastBefore}
use Rattle.laws.proofs.Linked.{ahead}
use Rattle.timeline.specs.Indexed.{Growing, key_count, capacity}
use Rattle.job.specs.declared.records.Effect.{Effect}
use Rattle.job.specs.Layout.{most_facts, most_effects}
use Rattle.job.specs.Model.{Model, longest, effect_of}
use Rattle.job.specs.WellFormed.{Ranged}
use Rattle.against.specs.Pairs.{effects_from}
use Rattle.pair_search.specs.Keys.{effect_key}

-- what an effect's key presumes of it
pub in_range :
    {m : Model} {k : ℕ} {e : Effect} → Ranged m → k < m.effects → e ≡ effect_of m k
    → (e.fact < most_facts) × (e.at ≤ longest) × (e.value ≤ 1)
in_range {m} {k} ranged h q =
    subst (λ (e : Effect). (e.fact < most_facts) × (e.at ≤ longest) × (e.value ≤ 1)) (sym q)
    (let a = ranged.effect_fact k h in
    let b = ranged.effect_end k h in
    let c = ranged.length_range (m.effect_step k) (ranged.effect_step k h) in
    (omega (arith, ranged.fact_count), omega arith, ranged.effect_value k h))

module _ (m : Model) (s : ℕ) where
  -- none of step s from a up to a + d
  abbrev NoneOf : ℕ → ℕ → Type 0
  NoneOf a d = (j : ℕ) → a ≤ j → j < a + d → m.effect_step j ≡ s → ⊥

  -- effects of other steps are passed over
  skipped : (d a b n : ℕ) → a + d ≡ b → NoneOf a d → effects_from m s a (d + n) ≡ effects_from m s b n
  unfolding effects_from
  skipped zero a b n e none =
      let p : a ≡ b = omega arith in
      let q : 0 + n ≡ n = omega arith in
      ap (λ (k : ℕ). effects_from m s a k) q ∙ ap (λ (k : ℕ). effects_from m s k n) p
  skipped (suc d) a b n e none =
      let q : suc d + n ≡ suc (d + n) = omega arith in
      ap (λ (k : ℕ). effects_from m s a k) q
      ∙ rw (ne_eqb (m.effect_step a) s (none a (omega arith) (omega arith)))
      (skipped d (suc a) b n (omega arith) (λ j l h. none j (omega arith) (omega arith)))

  -- from one place on to another, between which there is none
  between : (a b n : ℕ) → a ≤ b → b ≤ n → ((j : ℕ) → a ≤ j → j < b → m.effect_step j ≡ s → ⊥) → effects_from m s a (n - a) ≡ effects_from m s b (n - b)
  between a b n h g none =
      let q : n - a ≡ b - a + (n - b) = omega arith in
      ap (λ (k : ℕ). effects_from m s a k) q ∙ skipped (b - a) a b (n - b) (omega arith) (λ j l k. none j l (omega arith))

  -- the next one
  next_one : (k n : ℕ) → k < n → m.effect_step k ≡ s → effects_from m s k (n - k) ≡ k ∷ effects_from m s (suc k) (n - suc k)
  unfolding effects_from
  next_one k n h own =
      let q : n - k ≡ suc (n - suc k) = omega arith in
      ap (λ (i : ℕ). effects_from m s k i) q ∙ rw (eq-eqb (m.effect_step k) s own)

  -- the keys of those behind k stand from low on, and k is the last of the others
  pub record Listing (n : ℕ) (keys : List ℕ) (low k : ℕ) : Type 0 where
    pub size : length keys ≡ most_effects
    pub room : ahead n k ≤ low
    pub most : low ≤ most_effects
    pub own : k < n → m.effect_step k ≡ s
    pub listed : drop low keys ≡ map (effect_key m) (effects_from m s (ahead n k) (n - ahead n k))

  pub listing_room : {n : ℕ} {keys : List ℕ} {low k : ℕ} → Listing n keys low k → k < n → 1 ≤ low
  listing_room {n} {keys} {low} {k} w h = let e : ahead n k ≡ suc k = rw (lt-ltb k n h) in omega (arith, w.room)

  -- none of the step lies between where the last one before i ends and i
  module _ (n i v : ℕ) (few : n ≤ capacity) (h : i ≤ n) (last : LastBefore capacity m.effect_step s i v) where
    ahead_most : ahead n v ≤ i
    ahead_most =
        elim (dec_lt v n) [
          | yes l ↦ rw (lt-ltb v n l) (last.there (omega arith)).0
          | no l ↦ rw (le-ltb v n (omega arith)) (omega arith)
        ]

    none_ahead : (j : ℕ) → ahead n v ≤ j → j < i → m.effect_step j ≡ s → ⊥
    none_ahead j l g own =
        let r = last.last j g own in
        let w = last.there r.1 in
        let e : ahead n v ≡ suc v = rw (lt-ltb v n (omega (arith, w.0))) in
        omega (arith, e, r.0)

    own_ahead : v < n → m.effect_step v ≡ s
    own_ahead l = (last.there (omega arith)).1

  module _ (n : ℕ) (few : n ≤ capacity) (index : List ℕ) (growing : Growing m.effect_step n index) where
    pub listing_start :
        (keys : List ℕ) (v : ℕ) → length keys ≡ most_effects → s < key_count → v ≡ get_or index s 0 → Listing n keys most_effects v
    unfolding effects_from
    listing_start keys v size low e =
        let last = subst (LastBefore capacity m.effect_step s n) (sym e) (growing.linked.lasts s low) in
        let none = between (ahead n v) n n (ahead_most n n v few (omega arith) last) (omega arith) (none_ahead n n v few (omega arith) last) in
        let z : n - n ≡ 0 = omega arith in
        record {
          size = size;
          room = omega (arith, ahead_most n n v few (omega arith) last);
          most = omega arith;
          own = own_ahead n n v few (omega arith) last;
          listed =
              drop_of_length-le keys {i = most_effects} (omega arith)
              ∙ sym (ap (map (effect_key m)) (none ∙ ap (λ (k : ℕ). effects_from m s n k) z));
        }

    pub listing_more :
        (keys : List ℕ) (low k v key : ℕ) → Listing n keys low k → k < n → key ≡ effect_key m k → v ≡ get_or index (key_count + k) 0
        → Listing n (set keys (low - 1) key) (low - 1) v
    listing_more keys low k v key w h e q =
        let own = w.own h in
        let here : ahead n k ≡ suc k = rw (lt-ltb k n h) in
        let last = subst (λ f. LastBefore capacity m.effect_step f k v) own
        (subst (LastBefore capacity m.effect_step (m.effect_step k) k) (sym q) (growing.linked.befores k h)) in
        let room = ahead_most n k v few (omega arith) last in
        let one : suc (low - 1) ≡ low = omega (arith, w.room) in
        let old : drop low keys ≡ map (effect_key m) (effects_from m s (suc k) (n - suc k)) =
        w.listed ∙ ap (λ (i : ℕ). map (effect_key m) (effects_from m s i (n - i))) here in
        let put : drop (low - 1) (set keys (low - 1) key) ≡ effect_key m k ∷ drop low keys =
        drop-cons (set keys (low - 1) key) (low - 1) 0 (omega (arith, length-set keys (low - 1) key, w.size, w.room, w.most))
        ∙ ap (λ (x : ℕ). x ∷ drop (suc (low - 1)) (set keys (low - 1) key))
        (get_or-set_same keys (low - 1) key 0 (omega (arith, w.size, w.room, w.most)) ∙ e)
        ∙ ap (λ (l : List ℕ). effect_key m k ∷ l)
        (drop-set-lt (suc (low - 1)) keys (low - 1) key (omega arith) ∙ ap (λ (i : ℕ). drop i keys) one) in
        record {
          size = length-set keys (low - 1) key ∙ w.size;
          room = omega (arith, w.room);
          most = omega (arith, w.most);
          own = own_ahead n k v few (omega arith) last;
          listed =
              put ∙ ap (λ (l : List ℕ). effect_key m k ∷ l) old
              ∙ sym
              (ap (map (effect_key m))
              (between (ahead n v) k n room (omega arith) (none_ahead n k v few (omega arith) last) ∙ next_one k n h own));
        }

  pub listing_end :
      (n : ℕ) (keys : List ℕ) (low k : ℕ) → Listing n keys low k → n ≤ k → drop low keys ≡ map (effect_key m) (effects_from m s 0 n)
  listing_end n keys low k w h =
      let z : ahead n k ≡ 0 = rw (le-ltb k n h) in
      let q : n - 0 ≡ n = omega arith in
      w.listed ∙ ap (λ (i : ℕ). map (effect_key m) (effects_from m s i (n - i))) z ∙ ap (λ (i : ℕ). map (effect_key m) (effects_from m s 0 i)) q

-- A loop over the pairs of a list: what it has passed, then the rest.
use Prim.Native.Nat.{ℕ, suc, ◌+◌, ◌*◌, ◌-◌, ◌≤◌, ◌<◌}
use mathlib.Core.Path.{◌≡◌, sym, ap, ◌∙◌}
use mathlib.Core.Bool.{true, false}
use mathlib.Core.List.{List}
use native.Mathlib.Numerals.{add-one}
use native.Mathlib.Omega.{arith}
use borrow.Author.Tests.{eq-eqb, ne_eqb}
use lib.ListN.{length, get_or, drop, drop_of_length-le}
use lib.Seq.{drop-cons}
use Rattle.job.specs.Layout.{most_effects}
use Rattle.against.specs.declared.Search.{Search}
use Rattle.against.specs.Onward.{past, ◌onward◌, with_higher, through_pairs}
use Rattle.against.proofs.Onward.{onward_start, onward_more, onward_found, onward_end}
use Rattle.pair_search.specs.Keys.{opposite, opposed}

-- the key at place p with those from q on
abbrev higher : List ℕ → ℕ → ℕ → Search
higher keys p q = with_higher opposed (get_or keys p 0) (drop q keys)

-- those from behind p up to q are passed
pub record Passed (keys : List ℕ) (p q : ℕ) : Type 0 where
  pub from : suc p ≤ q
  pub most : q ≤ length keys
  pub rest : higher keys p (suc p) ≡ past (q - suc p) onward higher keys p q

pub passed_start : {keys : List ℕ} {p : ℕ} → p < length keys → Passed keys p (p + 1)
passed_start {keys} {p} h =
    rw (add-one p)
    (let e : 0 ≡ suc p - suc p = omega arith in
    record {
      from = omega arith;
      most = h;
      rest = onward_start (higher keys p (suc p)) ∙ ap (λ (n : ℕ). past n onward higher keys p (suc p)) e;
    })

-- the key at place q is the next one
one_more :
    (keys : List ℕ) (p q : ℕ) → q < length keys
    → higher keys p q ≡ record { compared = 1; found = opposed (get_or keys p 0) (get_or keys q 0) } onward higher keys p (suc q)
unfolding with_higher
one_more keys p q h = rw (drop-cons keys q 0)

module _ {keys : List ℕ} {p q : ℕ} (w : Passed keys p q) where
  pub passed_more : q < length keys → (get_or keys q 0 ≡ opposite (get_or keys p 0) → ⊥) → Passed keys p (q + 1)
  passed_more h other =
      rw (add-one q)
      (let e : q - suc p + 1 ≡ suc q - suc p = omega (arith, w.from) in
      record {
        from = omega (arith, w.from);
        most = h;
        rest =
            w.rest ∙ ap (λ a. past (q - suc p) onward a) (one_more keys p q h)
            ∙ onward_more (q - suc p) _ (higher keys p (suc q)) (ne_eqb _ _ other)
            ∙ ap (λ (n : ℕ). past n onward higher keys p (suc q)) e;
      })

  pub passed_found :
      q < length keys → get_or keys q 0 ≡ opposite (get_or keys p 0) → record { compared = q - p; found = true } ≡ higher keys p (suc p)
  passed_found h other =
      sym
      (w.rest ∙ ap (λ a. past (q - suc p) onward a) (one_more keys p q h)
      ∙ onward_found (q - suc p) _ (higher keys p (suc q)) (eq-eqb _ _ other)
      ∙ (let e : q - suc p + 1 ≡ q - p = omega (arith, w.from) in ap (λ (n : ℕ). record { compared = n; found = true }) e))

  pub passed_end : length keys ≤ q → past (length keys - p - 1) ≡ higher keys p (suc p)
  unfolding with_higher
  passed_end l =
      sym
      (w.rest ∙ ap (λ (k : List ℕ). past (q - suc p) onward with_higher opposed (get_or keys p 0) k) (drop_of_length-le keys l)
      ∙ onward_end (q - suc p)
      ∙ (let e : q - suc p ≡ length keys - p - 1 = omega (arith, w.most) in ap past e))

-- the keys up to p are passed as the lower ones of their pairs, which are so many
pub record PassedPairs (keys : List ℕ) (p compared : ℕ) : Type 0 where
  pub most : p ≤ length keys
  pub few : compared ≤ most_effects * p
  pub rest : through_pairs opposed keys ≡ past compared onward through_pairs opposed (drop p keys)

pub pairs_start : {keys : List ℕ} → PassedPairs keys 0 0
pairs_start {keys} = record { most = omega arith; few = omega arith; rest = onward_start (through_pairs opposed keys) }

module _ {keys : List ℕ} {p compared : ℕ} (w : PassedPairs keys p compared) where
  next : p < length keys → through_pairs opposed (drop p keys) ≡ higher keys p (suc p) onward through_pairs opposed (drop (suc p) keys)
  unfolding through_pairs
  next h = rw (drop-cons keys p 0)

  module _ (h : p < length keys) {a : Search} (e : a ≡ higher keys p (suc p)) where
    on : through_pairs opposed keys ≡ past compared onward (a onward through_pairs opposed (drop (suc p) keys))
    on =
        w.rest ∙ ap (λ b. past compared onward b) (next h)
        ∙ ap (λ b. past compared onward (b onward through_pairs opposed (drop (suc p) keys))) (sym e)

    pub pairs_more : a.compared ≤ most_effects → a.found ≡ false → PassedPairs keys (p + 1) (compared + a.compared)
    pairs_more few t =
        rw (add-one p) (record { most = h; few = omega (arith, w.few); rest = on ∙ onward_more compared a _ t })

    pub pairs_found : a.found ≡ true → record { compared = compared + a.compared; found = true } ≡ through_pairs opposed keys
    pairs_found t = sym (on ∙ onward_found compared a _ t)

  pub pairs_end : length keys ≤ p → past compared ≡ through_pairs opposed keys
  unfolding through_pairs
  pairs_end l =
      sym
      (w.rest ∙ ap (λ (k : List ℕ). past compared onward through_pairs opposed k) (drop_of_length-le keys l) ∙ onward_end compared)

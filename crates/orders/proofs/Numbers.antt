-- The number of a link, and back; and that what obeys may give the clock its start.
use Prim.Native.Nat.{ℕ, ◌+◌, ◌-◌, ◌≤◌, ◌<◌}
use mathlib.Core.Path.{◌≡◌, refl, sym, ap, ◌∙◌}
use mathlib.Core.Bool.{false}
use mathlib.Core.Logic.{◌⊎◌, ⊎_elim}
use native.Mathlib.Decide.{dec_lt}
use native.Mathlib.Omega.{arith}
use borrow.Author.Tests.{lt-ltb, le-ltb, le-leb, lt-leb, ne_eqb}
use lib.Dec.{eqb}
use Rattle.job.specs.Layout.{most_effects}
use Rattle.job.specs.Model.{Model}
use Rattle.job.specs.WellFormed.{WellFormed}
use Rattle.job.specs.Clocked.{clocked, with_clock}
use Rattle.job.proofs.Clocked.{clock_kept}
use Rattle.order_file.specs.Contents.{initial_state, last_link}
use Rattle.orders.specs.Obeys.{Obeys}
use Rattle.orders.specs.File.{link_number, linked_effect}

module _ (m : Model) where
  pub number_initial : link_number m initial_state ≡ initial_state
  unfolding link_number
  number_initial = refl

  pub number_effect : (e : ℕ) → (e ≡ initial_state → ⊥) → e < m.effects → link_number m e ≡ e
  unfolding link_number
  number_effect e n l = rw (ne_eqb e initial_state n, lt-ltb e m.effects l) refl

  pub number_timed : (e : ℕ) → (e ≡ initial_state → ⊥) → m.effects ≤ e → link_number m e ≡ most_effects + (e - m.effects)
  unfolding link_number
  number_timed e n l = rw (ne_eqb e initial_state n, le-ltb e m.effects l) refl

  module _ (w : WellFormed m) where
    not_initial : (e : ℕ) → e < (clocked m).effects → e ≡ initial_state → ⊥
    not_initial e l z = omega (arith, w.effect_count, w.timed_count)

    pub number_last : (e : ℕ) → e < (clocked m).effects → link_number m e ≤ last_link
    number_last e l =
        elim (dec_lt e m.effects) [
          | yes h ↦ omega (arith, number_effect e (not_initial e l) h, w.effect_count)
          | no h ↦ omega (arith, number_timed e (not_initial e l) (omega arith), w.timed_count)
        ]

    back_effect : (e : ℕ) → e < m.effects → linked_effect m e ≡ e
    unfolding linked_effect
    back_effect e l = rw (lt-leb most_effects e (omega (arith, w.effect_count))) refl

    back_timed : (j : ℕ) → j < m.timed → linked_effect m (most_effects + j) ≡ m.effects + j
    unfolding linked_effect
    back_timed j l =
        let n : eqb (most_effects + j) initial_state ≡ false = ne_eqb _ _ (λ (z : most_effects + j ≡ initial_state). omega (arith, w.timed_count)) in
        let d : most_effects + j - most_effects ≡ j = omega arith in
        rw (le-leb most_effects (most_effects + j) (omega arith), n, d) refl

    back_initial : linked_effect m initial_state ≡ initial_state
    unfolding linked_effect
    back_initial = refl

    -- each link is read back as what it numbers
    pub link_back : (e : ℕ) → (e < (clocked m).effects) ⊎ (e ≡ initial_state) → linked_effect m (link_number m e) ≡ e
    link_back e p =
        ⊎_elim
        (λ (l : e < (clocked m).effects).
        elim (dec_lt e m.effects) [
          | yes h ↦ ap (linked_effect m) (number_effect e (not_initial e l) h) ∙ back_effect e h
          | no h ↦
              let q : m.effects + (e - m.effects) ≡ e = omega arith in
              ap (linked_effect m) (number_timed e (not_initial e l) (omega arith)) ∙ back_timed (e - m.effects) (omega arith) ∙ q
        ])
        (λ (z : e ≡ initial_state). ap (λ k. linked_effect m (link_number m k)) z ∙ ap (linked_effect m) number_initial ∙ back_initial ∙ sym z)
        p

-- starts that obey do so whatever stands where the clock's would
pub obeys_clock : (m : Model) (x y : ℕ → ℕ) → Obeys (clocked m) x y → Obeys (clocked m) x (with_clock m y)
obeys_clock m x y o =
    record {
      from_limit = λ k h. omega (arith, clock_kept m y k h, o.from_limit k h);
      by_latest = λ k h n. omega (arith, clock_kept m y k h, o.by_latest k h n);
      keeps = λ i k h g n. omega (arith, clock_kept m y i h, clock_kept m y k g, o.keeps i k h g n);
    }

-- Links by their numbers in the file: an effect and the initial state keep theirs, and what is left is a timed fact.
use Prim.Native.Nat.{ℕ, ◌+◌, ◌-◌, ◌≤◌, ◌<◌}
use mathlib.Core.Path.{◌≡◌, refl, sym, ap, ◌∙◌}
use mathlib.Core.Bool.{true, false, ◌||◌}
use mathlib.Core.List.{List, ◌++◌}
use mathlib.Core.Logic.{◌⊎◌, ⊎_elim}
use native.Mathlib.Decide.{ℕ_discrete}
use native.Mathlib.Omega.{arith}
use borrow.Author.Tests.{ltb-true, ltb-false, eqb-true, eqb-false}
use lib.ListN.{length, get_or, set, take, drop, length-set, get_or-append}
use lib.Seq.{get_or-set_same, get_or-set_other}
use lib.Dec.{ltb, eqb}
use Rattle.laws.proofs.Search.{or_out, or_both}
use Rattle.std.proofs.lemmas.List.{length-take-le, length-drop, length-append, get_or-take}
use Rattle.job.specs.Layout.{most_effects}
use Rattle.job.specs.Model.{Model}
use Rattle.order_file.specs.Contents.{initial_state}
use Rattle.orders.specs.File.{link_number}
use Rattle.orders.proofs.Numbers.{number_initial, number_effect, number_timed}
use Rattle.links.specs.Numbered.{NumberedTo, Numbered}

module _ (m : Model) (link : ℕ) where
  pub kept_number : m.effects ≤ most_effects → (ltb link m.effects || eqb link initial_state) ≡ true → link ≡ link_number m link
  kept_number few t =
      ⊎_elim
      (λ (l : ltb link m.effects ≡ true).
      let h = ltb-true link m.effects l in
      sym (number_effect m link (λ (z : link ≡ initial_state). omega (arith, h)) h))
      (λ (q : eqb link initial_state ≡ true).
      let e = eqb-true link initial_state q in
      e ∙ sym (number_initial m) ∙ ap (link_number m) (sym e))
      (or_out _ _ t)

  pub left_timed : (ltb link m.effects || eqb link initial_state) ≡ false → (m.effects ≤ link) × (link ≡ initial_state → ⊥)
  left_timed t = let b = or_both _ _ t in (ltb-false link m.effects b.0, eqb-false link initial_state b.1)

  pub timed_number : (ltb link m.effects || eqb link initial_state) ≡ false → link - m.effects + most_effects ≡ link_number m link
  timed_number t = let b = left_timed t in omega (arith, number_timed m link b.1 b.0)

-- the walk over a list
module _ (m : Model) {before list : List ℕ} where
  pub numbered_more :
      (k : ℕ) {number : ℕ} → k < length list → number ≡ link_number m (get_or list k 0) → NumberedTo m k before list
      → NumberedTo m (k + 1) before (set list k number)
  numbered_more k {number} h e w =
      record {
        size = length-set list k number ∙ w.size;
        each = λ j l.
            elim (ℕ_discrete j k) [
              | yes q ↦
                  rw q (get_or-set_same list k number 0 h ∙ e ∙ ap (link_number m) (w.rest k (omega arith)))
              | no q ↦ get_or-set_other list k j number 0 q ∙ w.each j (omega arith)
            ];
        rest = λ j l. get_or-set_other list k j number 0 (λ (z : j ≡ k). omega arith) ∙ w.rest j (omega arith);
      }

-- the walk has come to the end of a list's beginning, where all links are
pub numbered_all :
    (m : Model) {links list : List ℕ} {k : ℕ} → m.conditions + m.goals ≤ length links → length (take (m.conditions + m.goals) links) ≤ k
    → NumberedTo m k (take (m.conditions + m.goals) links) list
    → Numbered m links (list ++ drop (m.conditions + m.goals) links)
numbered_all m {links} {list} room end w =
    record {
      size = omega (arith, length-append list (drop n links), length-drop n links, w.size, size);
      each = λ j h.
          get_or-append list (drop n links) 0 j (omega (arith, w.size, size))
          ∙ w.each j (omega (arith, size, end))
          ∙ ap (link_number m) (get_or-take n links j 0 h);
    }
  where
    n : ℕ
    n = m.conditions + m.goals

    size : length (take n links) ≡ n
    size = length-take-le n links room

-- without timed facts every link has its number
pub untimed_numbered :
    (m : Model) (links : List ℕ) → m.timed ≡ 0 → m.effects ≤ most_effects
    → ((k : ℕ) → k < m.conditions + m.goals → (get_or links k 0 < m.effects + m.timed) ⊎ (get_or links k 0 ≡ initial_state))
    → Numbered m links links
untimed_numbered m links none few known =
    record {
      size = refl;
      each = λ k h.
          let link = get_or links k 0 in
          ⊎_elim
          (λ (l : link < m.effects + m.timed).
          sym (number_effect m link (λ (z : link ≡ initial_state). omega arith) (omega arith)))
          (λ (z : link ≡ initial_state). z ∙ sym (number_initial m) ∙ ap (link_number m) (sym z))
          (known k h);
    }

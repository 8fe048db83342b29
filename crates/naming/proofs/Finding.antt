-- What has been found where an item is refused, and where all are passed.
use Prim.Native.Nat.{ℕ, ◌≤◌, ◌<◌}
use mathlib.Core.Path.{◌≡◌, ap, subst, ◌∙◌}
use mathlib.Core.Bool.{Bool, true}
use mathlib.Core.List.{List}
use native.Mathlib.Omega.{arith}
use lib.ListN.{length, get_or, take, length-map, get_or-eq_default}
use lib.Seq.{take_all}
use native.Mathlib.Decide.{dec_lt}
use Rattle.grammar.specs.Said.{Role, name, Item}
use Rattle.grammar.specs.Tree.{Word}
use Rattle.notes.specs.Notes.{item_in, items_in, nothing}
use Rattle.supplied.specs.Names.{Kind, facts, levels, kind_of, kind_number, names_of, number_of}
use Rattle.naming.specs.Index.{Indexed}
use Rattle.naming.specs.Named.{Standing, Clashing}
use Rattle.naming.specs.Passed.{Passed}
use Rattle.naming.proofs.Clashing.{clashes_at, onward_refused, onward_end}
use Rattle.naming.proofs.Onward.{number_no_name}

module _ (text said : List ℕ) (k : ℕ) {index numbers : List ℕ} {marks : List Bool} {counts : List ℕ} (passed : Passed (items_in text said) k index numbers marks counts) where
  size : length (items_in text said) ≡ length said
  size = length-map said (item_in text)

  pub found_clash : k < length said → clashes_at (items_in text said) k ≡ true → Clashing text said k
  found_clash h t = record { within = h; refuses = onward_refused (items_in text said) k passed.onward (omega (arith, size)) t }

  pub found_all :
      {f v : ℕ} → k ≤ length said → length said ≤ k → f ≡ get_or counts 1 0 → v ≡ get_or counts 2 0
      → Standing text said numbers index (record { facts = f; levels = v })
  found_all {f} {v} h l y z = record {
    stands = onward_end (items_in text said) k passed.onward (omega (arith, size));
    named = record {
      numbered = record { size = passed.numbers_size; each = each };
      facts = y ∙ count facts;
      levels = z ∙ count levels;
      indexed = subst (λ m. Indexed (items_in text said) m index) (let q : k ≡ length said = omega arith in q) passed.indexed;
    };
  }
    where
      whole : take k (items_in text said) ≡ items_in text said
      whole = take_all k (items_in text said) (omega (arith, size))

      count : (κ : Kind) → get_or counts (kind_number κ) 0 ≡ length (names_of κ (items_in text said))
      count κ = passed.counted κ ∙ ap (λ is. length (names_of κ is)) whole

      each :
          (j : ℕ) (r : Role) (w : Word) → (get_or (items_in text said) j nothing).said ≡ name r w
          → get_or numbers j 0 ≡ number_of w (names_of (kind_of r) (items_in text said))
      each j r w e =
          elim (dec_lt j k) [
            | yes g ↦ passed.numbered j r w g e ∙ ap (λ is. number_of w (names_of (kind_of r) is)) whole
            | no g ↦
                absurd
                (number_no_name
                (ap (λ (i : Item). i.said)
                (get_or-eq_default (items_in text said) nothing (let q : length (items_in text said) ≤ j = omega (arith, size) in q)))
                e)
          ]

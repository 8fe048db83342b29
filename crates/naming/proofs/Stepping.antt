-- One item in the code: what a repeated name was told, and what the item's note, the look-up and the stores make of it.
use Prim.Native.Nat.{ℕ, ◌+◌, ◌-◌, ◌≤◌, ◌<◌}
use mathlib.Core.Path.{◌≡◌, refl, sym, ap, subst, ◌∙◌}
use mathlib.Core.Bool.{Bool, true, false, ◌||◌, ◌&&◌}
use mathlib.Core.Logic.{⊎_elim}
use mathlib.Core.List.{List}
use native.Mathlib.Omega.{arith}
use lib.ListN.{length, get_or, set, take, drop, length-map}
use lib.Seq.{slice}
use Rattle.laws.specs.Search.{any}
use Rattle.std.specs.Prelude.{Option, None}
use Rattle.laws.proofs.Search.{either, contrary, and_both}
use Rattle.grammar.specs.Said.{Role, name, Item}
use Rattle.notes.specs.Notes.{role_in, role_of, name_at, name_end, item_in, items_in}
use Rattle.supplied.specs.Names.{Kind, kind_of, kind_number, same_kind, gives}
use Rattle.naming.specs.declared.passing.Kind as code
use Rattle.naming.specs.Index.{key_count, said_at, mixed}
use Rattle.naming.specs.Named.{Readable}
use Rattle.naming.specs.Kinds.{meant}
use Rattle.naming.specs.Passed.{Appears, Looked, gives_name, Passed, Repeated, Stepped}
use Rattle.naming.proofs.Roles.{meant_one}
use Rattle.naming.proofs.Firsts.{number_at_lem, name_at_lem, says_name}
use Rattle.naming.proofs.Looking.{part_slice}
use Rattle.naming.proofs.Acting.{role_at}
use Rattle.naming.proofs.Numbering.{kind_refl, kind_eq, names_few}
use Rattle.naming.proofs.Clashing.{refused_kind, refused_given}
use Rattle.naming.proofs.Onward.{passed_number}
use Rattle.naming.proofs.Again.{passed_again}
use Rattle.naming.proofs.Anew.{passed_new}

abbrev pub kind_of_role : ℕ → ℕ
kind_of_role c = kind_number (kind_of (role_of c))

abbrev kind_in : ℕ → Kind
kind_in note = kind_of (role_of (role_in note))

abbrev given_twice : ℕ → List Bool → ℕ → Bool
given_twice note marks first = gives (role_of (role_in note)) && get_or marks first false

module _ (note earlier k first : ℕ) (numbers : List ℕ) (marks : List Bool) where
  pub again_kind :
      {a b : code.Kind} → meant a ≡ kind_in earlier → meant b ≡ kind_in note → (a ≡ b → ⊥)
      → Repeated note earlier k first numbers marks numbers marks false
  again_kind {a} {b} e f ne = record {
    kind = λ t. contrary t refl;
    once = λ t. contrary t refl;
    numbered = λ t. contrary t refl;
    marked = λ t. contrary t refl;
    refused = λ _ g. absurd (ne (meant_one a b (e ∙ g ∙ sym f)));
  }

  module _ {g : Bool} (gives-is : g ≡ gives (role_of (role_in note))) where
    pub again_given : (g && get_or marks first false) ≡ true → Repeated note earlier k first numbers marks numbers marks false
    again_given t = record {
      kind = λ t. contrary t refl;
      once = λ t. contrary t refl;
      numbered = λ t. contrary t refl;
      marked = λ t. contrary t refl;
      refused = λ _ _. rw gives-is at t;
    }

    pub again_done :
        {a b : code.Kind} → meant a ≡ kind_in earlier → meant b ≡ kind_in note → a ≡ b → (g && get_or marks first false) ≡ false
        → Repeated note earlier k first numbers marks (set numbers k (get_or numbers first 0)) (set marks first (get_or marks first false || g)) true
    again_done e f q t = record {
      kind = λ _. sym e ∙ ap meant q ∙ f;
      once = λ _. rw gives-is at t;
      numbered = λ _. refl;
      marked = λ _. ap (λ b. set marks first (get_or marks first false || b)) gives-is;
      refused = λ f. contrary refl f;
    }

module _ (text said : List ℕ) (k : ℕ) (sound : Readable text said) (h : k < length said) where
  inside : k < length (items_in text said)
  inside = omega (arith, length-map said (item_in text))

  module _ {index numbers : List ℕ} {marks : List Bool} {counts : List ℕ} (passed : Passed (items_in text said) k index numbers marks counts) where
    pub counts_low : (c : ℕ) → get_or counts (kind_number (kind_of (role_of c))) 0 ≤ k
    counts_low c = omega (arith, passed.counted (kind_of (role_of c)), names_few (items_in text said) (kind_of (role_of c)) k (omega (arith, inside)))

    pub step_number : role_in (get_or said k 0) ≡ 0 → Stepped (items_in text said) k index numbers marks counts true
    step_number e =
        record {
          passed = λ _. passed_number passed inside (omega (arith, sound.few)) (number_at_lem text said k e);
          refused = λ f. contrary refl f;
        }

    module _ (ne : role_in (get_or said k 0) ≡ 0 → ⊥) where
      pub step_again :
          (first : ℕ) {numbers' : List ℕ} {marks' : List Bool} {r : Bool}
          → Appears (items_in text said) k (slice (name_at (get_or said k 0)) (name_end (get_or said k 0)) text) first
          → Repeated (get_or said k 0) (get_or said first 0) k first numbers marks numbers' marks' r
          → Stepped (items_in text said) k index numbers' marks' counts r
      step_again first {numbers'} {marks'} {r} looked again = record {
        passed = λ t.
            subst (λ n. Passed (items_in text said) (k + 1) index n marks' counts) (sym (again.numbered t))
            (subst (λ m. Passed (items_in text said) (k + 1) index (set numbers k (get_or numbers first 0)) m counts) (sym (again.marked t))
            (passed_again passed inside (omega (arith, sound.few)) here first looked.within looked.first o.1 (kind_is t) (given t)));
        refused = λ f.
            ⊎_elim
            (λ (t : same_kind (kind_in (get_or said first 0)) (kind_in (get_or said k 0)) ≡ true).
            let g = and_both _ _ (again.refused f (kind_eq _ _ t)) in
            refused_given (items_in text said) k (omega (arith, inside)) here (sym marked ∙ g.1) g.0)
            (λ (n : same_kind (kind_in (get_or said first 0)) (kind_in (get_or said k 0)) ≡ false).
            refused_kind (items_in text said) k (omega (arith, inside)) here first looked.within o.1
            (λ q. contrary (ap (λ κ. same_kind κ (kind_in (get_or said k 0))) (ap kind_of (sym role) ∙ q) ∙ kind_refl _) n))
            (either (same_kind (kind_in (get_or said first 0)) (kind_in (get_or said k 0))));
      }
        where
          here : said_at (items_in text said) k ≡ name (role_of (role_in (get_or said k 0))) (slice (name_at (get_or said k 0)) (name_end (get_or said k 0)) text)
          here = name_at_lem text said k ne

          o : (q : Role) × (said_at (items_in text said) first ≡ name q (slice (name_at (get_or said k 0)) (name_end (get_or said k 0)) text))
          o = says_name (said_at (items_in text said) first) looked.there

          role : o.0 ≡ role_of (role_in (get_or said first 0))
          role = role_at text said first o.1

          kind_is : r ≡ true → kind_of o.0 ≡ kind_of (role_of (role_in (get_or said k 0)))
          kind_is t = ap kind_of role ∙ again.kind t

          marked :
              get_or marks first false
              ≡ any k (λ i. gives_name (slice (name_at (get_or said k 0)) (name_end (get_or said k 0)) text) (said_at (items_in text said) i))
          marked =
              passed.marked first (slice (name_at (get_or said k 0)) (name_end (get_or said k 0)) text) looked.within looked.first looked.there

          given :
              r ≡ true
              → (gives (role_of (role_in (get_or said k 0)))
              && any k (λ i. gives_name (slice (name_at (get_or said k 0)) (name_end (get_or said k 0)) text) (said_at (items_in text said) i))) ≡ false
          given t = ap (λ b. gives (role_of (role_in (get_or said k 0))) && b) (sym marked) ∙ again.once t

      pub step_new :
          {index' numbers' : List ℕ} {marks' : List Bool} {counts' : List ℕ} (m c : ℕ)
          → Looked (items_in text said) k (slice (name_at (get_or said k 0)) (name_end (get_or said k 0)) text) None
          → m ≡ mixed 0 (slice (name_at (get_or said k 0)) (name_end (get_or said k 0)) text) → c ≡ role_in (get_or said k 0)
          → index' ≡ set (set index (key_count + k) (get_or index m 0)) m k
          → numbers' ≡ set numbers k (get_or counts (kind_of_role c) 0)
          → marks' ≡ set marks k (gives (role_of c))
          → counts' ≡ set counts (kind_of_role c) (get_or counts (kind_of_role c) 0 + 1)
          → Stepped (items_in text said) k index' numbers' marks' counts' true
      step_new m c none e q a b d f =
          record {
            passed = λ _.
                rw (a, b, d, f, q)
                (passed_new passed inside (omega (arith, sound.few)) (name_at_lem text said k ne)
                none m (kind_of_role (role_in (get_or said k 0))) e refl);
            refused = λ g. contrary refl g;
          }

-- the name that a note holds, in the code
pub name_part :
    (text : List ℕ) (note : ℕ) {at end : ℕ} → at ≡ name_at note → end ≡ name_end note
    → take (end - at) (drop at text) ≡ slice (name_at note) (name_end note) text
name_part text note {at} {end} e f = part_slice at end text ∙ rw (e, f) refl

pub looked_name :
    (is : List Item) (k : ℕ) (r : Option ℕ) (text : List ℕ) (note : ℕ) {at end : ℕ} → at ≡ name_at note → end ≡ name_end note
    → Looked is k (take (end - at) (drop at text)) r → Looked is k (slice (name_at note) (name_end note) text) r
looked_name is k r text note e f w = subst (λ v. Looked is k v r) (name_part text note e f) w

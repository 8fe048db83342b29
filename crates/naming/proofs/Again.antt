-- One more item is passed: a name that has appeared.
use Prim.Native.Nat.{ℕ, ◌+◌, ◌<◌}
use mathlib.Core.Path.{◌≡◌, sym, ap, subst, ◌∙◌}
use mathlib.Core.Bool.{Bool, true, false, ◌||◌, ◌&&◌}
use mathlib.Core.List.{List}
use mathlib.Core.Logic.{⊎_elim}
use native.Mathlib.Decide.{dec_lt, ℕ_discrete}
use native.Mathlib.Omega.{arith}
use lib.ListN.{length, get_or, set, length-set}
use lib.Seq.{get_or-set_same, get_or-set_other}
use Rattle.laws.specs.Search.{any}
use Rattle.laws.proofs.Search.{either, contrary}
use Rattle.grammar.specs.Said.{Role, name, Item}
use Rattle.grammar.specs.Tree.{Word}
use Rattle.supplied.specs.Names.{Kind, kind_of, same_kind, gives, number_of}
use Rattle.naming.specs.Index.{unlinked, said_at, says, is_first}
use Rattle.naming.specs.Passed.{gives_name, Passed}
use Rattle.naming.proofs.Firsts.{says_own, says_name, name_later}
use Rattle.naming.proofs.Numbering.{names_to, kind_refl, kind_eq}
use Rattle.naming.proofs.Numbering.{other_leaves, again_leaves}
use Rattle.naming.proofs.Clashing.{clashes_at, passes_again, onward_more}
use Rattle.naming.proofs.Marks.{unmarked, marks_own, else_unsaid}
use Rattle.naming.proofs.Onward.{numbers_more, first_one, still}

module _ {is : List Item} {k : ℕ} {index numbers : List ℕ} {marks : List Bool} {counts : List ℕ} (passed : Passed is k index numbers marks counts)
    (h : k < length is) (few : k < unlinked) {r : Role} {w : Word} (e : said_at is k ≡ name r w) where
  module _ (f : ℕ) {q : Role} (l : f < k) (first : is_first is f ≡ true) (p : said_at is f ≡ name q w) (kind : kind_of q ≡ kind_of r) where
    kind_again : (j : ℕ) (r' q' : Role) (u : Word) → j < k → said_at is k ≡ name r' u → said_at is j ≡ name q' u → kind_of q' ≡ kind_of r'
    kind_again j r' q' u g a b =
        let z : r ≡ r' = cc in
        let y : u ≡ w = cc in
        let b' : said_at is j ≡ name q' w = b ∙ ap (name q') y in
        passed.indexed.kinds j f q' q w g l b' p ∙ kind ∙ ap kind_of z

    passes_repeat : (gives r && any k (λ i. gives_name w (said_at is i))) ≡ false → clashes_at is k ≡ false
    passes_repeat = passes_again is k (omega arith) e (λ j q' g b. kind_again j r q' w g e b)

    names_same : (κ : Kind) → names_to is κ (k + 1) ≡ names_to is κ k
    names_same κ =
        ⊎_elim
        (λ (t : same_kind (kind_of r) κ ≡ true).
        subst (λ κ'. names_to is κ' (k + 1) ≡ names_to is κ' k) (kind_eq (kind_of r) κ t) (again_leaves is k h e f l p kind))
        (λ (t : same_kind (kind_of r) κ ≡ false).
        other_leaves is k h e κ (λ z. contrary (ap (λ κ'. same_kind (kind_of r) κ') (sym z) ∙ kind_refl (kind_of r)) t))
        (either (same_kind (kind_of r) κ))

    later : is_first is k ≡ false
    later = name_later is k e f l (says_own p)

    pub passed_again :
        (gives r && any k (λ i. gives_name w (said_at is i))) ≡ false
        → Passed is (k + 1) index (set numbers k (get_or numbers f 0)) (set marks f (get_or marks f false || gives r)) counts
    passed_again g = record {
      indexed = still passed h few later kind_again;
      fresh = λ j m. passed.fresh j (omega arith);
      numbers_size = length-set numbers k (get_or numbers f 0) ∙ passed.numbers_size;
      marks_size = length-set marks f (get_or marks f false || gives r) ∙ passed.marks_size;
      counts_size = passed.counts_size;
      numbered =
          numbers_more is k numbers (get_or numbers f 0) h (omega (arith, passed.numbers_size)) passed.numbered
          (λ r' u a.
          let z : r ≡ r' = cc in
          let y : u ≡ w = cc in
          passed.numbered f q w l p
          ∙ ap (λ κ. number_of w (names_to is κ k)) (kind ∙ ap kind_of z)
          ∙ ap (number_of w) (sym (names_same (kind_of r')))
          ∙ ap (λ v. number_of v (names_to is (kind_of r') (k + 1))) (sym y));
      counted = λ κ. passed.counted κ ∙ sym (ap length (names_same κ));
      marked = λ j u m a b.
          elim (ℕ_discrete j f) [
            | yes z ↦ mark_here j u z b
            | no z ↦
                let j<k : j < k = first_below j m a in
                get_or-set_other marks f j (get_or marks f false || gives r) false z
                ∙ passed.marked j u j<k a b
                ∙ unmarked is k u (else_unsaid is k e u (λ y. z (first_one is j f u a first b (ap (λ v. says v (said_at is f)) y ∙ says_own p))))
          ];
      onward = onward_more is k passed.onward h (passes_repeat g);
    }
      where
        first_below : (j : ℕ) → j < k + 1 → is_first is j ≡ true → j < k
        first_below j m a =
            elim (dec_lt j k) [
              | yes g ↦ g
              | no g ↦ contrary a (ap (is_first is) (let q : j ≡ k = omega arith in q) ∙ later)
            ]

        mark_here :
            (j : ℕ) (u : Word) → j ≡ f → says u (said_at is j) ≡ true
            → get_or (set marks f (get_or marks f false || gives r)) j false ≡ any (k + 1) (λ i. gives_name u (said_at is i))
        mark_here j u z b =
            let b' : says u (said_at is f) ≡ true = ap (λ i. says u (said_at is i)) (sym z) ∙ b in
            let o = (says_name (said_at is f) b').1 in
            let y : w ≡ u = cc in
            subst (λ v. get_or (set marks f (get_or marks f false || gives r)) j false ≡ any (k + 1) (λ i. gives_name v (said_at is i))) y
            (ap (λ i. get_or (set marks f (get_or marks f false || gives r)) i false) z
            ∙ get_or-set_same marks f (get_or marks f false || gives r) false (omega (arith, passed.marks_size))
            ∙ marks_own is k e (get_or marks f false) (passed.marked f w l first (says_own p)))

-- One more item is passed: a new name.
use Prim.Native.Nat.{ℕ, ◌+◌, ◌<◌}
use mathlib.Core.Path.{◌≡◌, sym, ap, ap₂, subst, ◌∙◌}
use mathlib.Core.Bool.{Bool, true, false}
use mathlib.Core.List.{List, [], ◌∷◌}
use mathlib.Core.Logic.{⊎_elim}
use native.Mathlib.Decide.{dec_lt}
use native.Mathlib.Omega.{arith}
use lib.ListN.{length, get_or, set, length-set, length-append}
use lib.Seq.{get_or-set_same, get_or-set_other}
use Rattle.laws.specs.Search.{any}
use Rattle.laws.specs.Linked.{LinkedBack}
use Rattle.laws.proofs.Search.{either, contrary, any_none}
use Rattle.grammar.specs.Said.{Role, name, Item}
use Rattle.grammar.specs.Tree.{Word}
use Rattle.supplied.specs.Names.{Kind, actions, facts, levels, lines, kind_of, kind_number, same_kind, gives, number_of}
use Rattle.naming.specs.Index.{key_count, unlinked, said_at, says, is_first, mixed, key}
use Rattle.naming.specs.Passed.{gives_name, Passed}
use Rattle.naming.proofs.Firsts.{says_own, says_name, first_in}
use Rattle.naming.proofs.Linking.{links_new, mixed_low, key_first}
use Rattle.naming.proofs.Roles.{number_kind}
use Rattle.naming.proofs.Numbering.{names_to, kind_refl, kind_eq, number_new, not_in}
use Rattle.naming.proofs.Numbering.{other_leaves, new_comes}
use Rattle.naming.proofs.Clashing.{passes_new, onward_more}
use Rattle.naming.proofs.Marks.{unmarked, marks_own, else_unsaid, gives_unsaid}
use Rattle.naming.proofs.Onward.{kinds_more, numbers_more}

module _ {is : List Item} {k : ℕ} {index numbers : List ℕ} {marks : List Bool} {counts : List ℕ} (passed : Passed is k index numbers marks counts)
    (h : k < length is) (few : k < unlinked) {r : Role} {w : Word} (e : said_at is k ≡ name r w) where
  module _ (none : (j : ℕ) → j < k → says w (said_at is j) ≡ false) where
    first_here : is_first is k ≡ true
    first_here = first_in is k e none

    pub passed_new :
        (m c : ℕ) → m ≡ mixed 0 w → c ≡ kind_number (kind_of r)
        → Passed is (k + 1) (set (set index (key_count + k) (get_or index m 0)) m k) (set numbers k (get_or counts c 0))
        (set marks k (gives r)) (set counts c (get_or counts c 0 + 1))
    passed_new m c m-is c-is = record {
      indexed = record {
        size =
            length-set (set index (key_count + k) (get_or index m 0)) m k
            ∙ length-set index (key_count + k) (get_or index m 0) ∙ passed.indexed.size;
        linked = linked_here;
        kinds =
            kinds_more is k passed.indexed.kinds
            (λ j r' q u l a b.
            let y : u ≡ w = cc in
            contrary (ap (λ v. says v (said_at is j)) (sym y) ∙ says_own b) (none j l));
      };
      fresh = λ j l b.
          get_or-set_other (set index (key_count + k) (get_or index m 0)) m (key_count + j) k 0 (omega (arith, mixed_low w 0 (omega arith)))
          ∙ get_or-set_other index (key_count + k) (key_count + j) (get_or index m 0) 0 (omega arith)
          ∙ passed.fresh j (omega arith) b;
      numbers_size = length-set numbers k (get_or counts c 0) ∙ passed.numbers_size;
      marks_size = length-set marks k (gives r) ∙ passed.marks_size;
      counts_size = length-set counts c (get_or counts c 0 + 1) ∙ passed.counts_size;
      numbered =
          numbers_more is k numbers (get_or counts c 0) h (omega (arith, passed.numbers_size)) passed.numbered
          (λ r' u a.
          let z : r ≡ r' = cc in
          let y : w ≡ u = cc in
          ap (λ i. get_or counts i 0) c-is
          ∙ passed.counted (kind_of r)
          ∙ sym (number_new w (names_to is (kind_of r) k) (not_in is w (kind_of r) k (omega arith) none))
          ∙ ap (number_of w) (sym (new_comes is k h e none))
          ∙ ap₂ (λ v κ. number_of v (names_to is κ (k + 1))) y (ap kind_of z));
      counted = λ κ.
          ⊎_elim
          (λ (t : same_kind (kind_of r) κ ≡ true). count_here κ (kind_eq (kind_of r) κ t))
          (λ (t : same_kind (kind_of r) κ ≡ false).
          let ne : kind_of r ≡ κ → ⊥ = λ z. contrary (ap (λ κ'. same_kind (kind_of r) κ') (sym z) ∙ kind_refl (kind_of r)) t in
          get_or-set_other counts c (kind_number κ) (get_or counts c 0 + 1) 0 (λ y. ne (number_kind (kind_of r) κ (sym c-is ∙ sym y)))
          ∙ passed.counted κ ∙ sym (ap length (other_leaves is k h e κ ne)))
          (either (same_kind (kind_of r) κ));
      marked = λ j u l a b.
          elim (dec_lt j k) [
            | yes g ↦
                get_or-set_other marks k j (gives r) false (omega arith)
                ∙ passed.marked j u g a b
                ∙ unmarked is k u (else_unsaid is k e u (λ y. contrary (ap (λ v. says v (said_at is j)) (sym y) ∙ b) (none j g)))
            | no g ↦ mark_here j u (omega arith) b
          ];
      onward = onward_more is k passed.onward h (passes_new is k (omega arith) e none);
    }
      where
        key_is : key is k ≡ m
        key_is = key_first is k first_here e ∙ sym m-is

        linked_here :
            LinkedBack unlinked key_count (key is) (k + 1) (λ f. get_or (set (set index (key_count + k) (get_or index m 0)) m k) f 0)
            (λ j. get_or (set (set index (key_count + k) (get_or index m 0)) m k) (key_count + j) 0)
        linked_here =
            subst
            (λ g.
            LinkedBack unlinked key_count (key is) (k + 1) (λ f. get_or (set (set index (key_count + k) (get_or index g 0)) g k) f 0)
            (λ j. get_or (set (set index (key_count + k) (get_or index g 0)) g k) (key_count + j) 0))
            key_is
            (links_new is index k passed.indexed.size few passed.indexed.linked (omega (arith, key_is, mixed_low w 0 (omega arith))))

        low : (κ : Kind) → kind_number κ < 4
        low actions = omega arith
        low facts = omega arith
        low levels = omega arith
        low lines = omega arith

        count_here :
            (κ : Kind) → kind_of r ≡ κ → get_or (set counts c (get_or counts c 0 + 1)) (kind_number κ) 0 ≡ length (names_to is κ (k + 1))
        count_here κ z =
            subst (λ κ'. get_or (set counts c (get_or counts c 0 + 1)) (kind_number κ') 0 ≡ length (names_to is κ' (k + 1))) z
            (subst (λ i. get_or (set counts i (get_or counts i 0 + 1)) (kind_number (kind_of r)) 0 ≡ length (names_to is (kind_of r) (k + 1))) (sym c-is)
            (get_or-set_same counts (kind_number (kind_of r)) (get_or counts (kind_number (kind_of r)) 0 + 1) 0
            (omega (arith, low (kind_of r), passed.counts_size))
            ∙ ap (λ n. n + 1) (passed.counted (kind_of r))
            ∙ sym (ap length (new_comes is k h e none) ∙ length-append (names_to is (kind_of r) k) (w ∷ []))))

        mark_here :
            (j : ℕ) (u : Word) → j ≡ k → says u (said_at is j) ≡ true
            → get_or (set marks k (gives r)) j false ≡ any (k + 1) (λ i. gives_name u (said_at is i))
        mark_here j u z b =
            let b' : says u (said_at is k) ≡ true = ap (λ i. says u (said_at is i)) (sym z) ∙ b in
            let o = (says_name (said_at is k) b').1 in
            let y : w ≡ u = cc in
            subst (λ v. get_or (set marks k (gives r)) j false ≡ any (k + 1) (λ i. gives_name v (said_at is i))) y
            (ap (λ i. get_or (set marks k (gives r)) i false) z
            ∙ get_or-set_same marks k (gives r) false (omega (arith, passed.marks_size))
            ∙ marks_own is k e false
            (sym (any_none (λ i. gives_name w (said_at is i)) k (λ i l. gives_unsaid w (said_at is i) (none i l)))))

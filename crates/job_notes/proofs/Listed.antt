-- Facts and levels that init lists, by their numbers.
use Prim.Native.Nat.{ℕ, ◌<◌}
use mathlib.Core.Path.{◌≡◌, refl, sym, ap, ap₂, ◌∙◌}
use mathlib.Core.Bool.{true, cond, ◌&&◌}
use mathlib.Core.List.{List, [], ◌∷◌}
use native.Mathlib.Nat.{not-suc-le-zero}
use native.Mathlib.Omega.{arith}
use lib.Dec.{eqb, leb}
use lib.ListN.{length, get_or}
use Rattle.spelling.specs.Keywords.{same}
use Rattle.grammar.specs.Tree.{Word}
use Rattle.notes.specs.Notes.{role_in, stock_role, given_role, role_of, said_in, item_in, items_in}
use Rattle.notes.proofs.Notes.{by_role}
use Rattle.supplied.specs.Names.{Kind, facts, levels, kind_of, is_in, number_of}
use Rattle.supplied.specs.Job.{lists_fact, initially, lists_level, amount_of}
use Rattle.job_notes.specs.Tables.{initial_noted, amount_noted}
use Rattle.job_notes.proofs.Numbering.{Distinct, number_at_lem}
use Rattle.job_notes.proofs.Fitting.{word_of, kind_in, Fits, Matched, matched_first, matched_rest}
use Rattle.job_notes.proofs.Walks.{leading_noted_lem}

module _ (text : List ℕ) (names : Kind → List Word) (k : Kind) (d : Distinct (names k)) (f : ℕ) (h : f < length (names k)) where
  -- a name of a kind is the one at an index exactly if its number is the index
  same_number :
      (w n : ℕ) → Fits text names w n → (role_in w ≡ 0 → ⊥) → kind_in w ≡ k → same (word_of text w) (get_or (names k) f []) ≡ eqb n f
  same_number w n fits x e =
      let c : n ≡ number_of (word_of text w) (names k) = rw e at (fits.counted x) in
      let a : is_in (word_of text w) (names k) ≡ true = rw e at (fits.among x) in
      number_at_lem (names k) (word_of text w) f d a h ∙ ap (λ m. eqb m f) (sym c)

module _ (text : List ℕ) (names : Kind → List Word) (d : Distinct (names facts)) (f : ℕ) (h : f < length (names facts)) where
  lists_fact_lem : (w n : ℕ) → Fits text names w n → lists_fact (get_or (names facts) f []) (said_in text w) ≡ (leb given_role (role_in w) && eqb n f)
  unfolding said_in role_of kind_of lists_fact
  lists_fact_lem w n fits =
      by_role (λ c. role_in w ≡ c → lists_fact (get_or (names facts) f []) (said_in text w) ≡ (leb given_role (role_in w) && eqb n f))
      (λ e. rw e refl) (λ e. rw e refl) (λ e. rw e refl) (λ e. rw e refl) (λ e. rw e refl) (λ e. rw e refl) (λ e. rw e refl) (λ e. rw e refl)
      (λ e. rw e refl) (λ e. rw e refl) (λ e. rw e refl) (λ e. rw e refl) (λ e. rw e refl) (λ e. rw e refl) (λ e. rw e refl) (λ e. rw e refl)
      (λ e. rw e refl) (λ e. rw e refl) (λ e. rw e refl) (λ e. rw e refl)
      (λ e. rw e (same_number text names facts d f h w n fits (λ z. omega arith) (ap (λ c. kind_of (role_of c)) e)))
      (λ e. rw e (same_number text names facts d f h w n fits (λ z. omega arith) (ap (λ c. kind_of (role_of c)) e)))
      (role_in w) fits.known refl

  pub initial_noted_lem : (ws ns : List ℕ) → Matched text names ws ns → initial_noted ws ns f ≡ initially (items_in text ws) (get_or (names facts) f [])
  unfolding initial_noted initially item_in
  initial_noted_lem [] ns m = refl
  initial_noted_lem (w ∷ ws) [] m = absurd (not-suc-le-zero m.enough)
  initial_noted_lem (w ∷ ws) (n ∷ ns) m =
      ap₂ (λ b r. cond b 1 r) (sym (lists_fact_lem w n (matched_first text names m))) (initial_noted_lem ws ns (matched_rest text names m))

module _ (text : List ℕ) (names : Kind → List Word) (d : Distinct (names levels)) (l : ℕ) (h : l < length (names levels)) where
  lists_level_lem : (w n : ℕ) → Fits text names w n → lists_level (get_or (names levels) l []) (said_in text w) ≡ (eqb (role_in w) stock_role && eqb n l)
  unfolding said_in role_of kind_of lists_level
  lists_level_lem w n fits =
      by_role (λ c. role_in w ≡ c → lists_level (get_or (names levels) l []) (said_in text w) ≡ (eqb (role_in w) stock_role && eqb n l))
      (λ e. rw e refl) (λ e. rw e refl) (λ e. rw e refl)
      (λ e. rw e (same_number text names levels d l h w n fits (λ z. omega arith) (ap (λ c. kind_of (role_of c)) e)))
      (λ e. rw e refl) (λ e. rw e refl) (λ e. rw e refl) (λ e. rw e refl) (λ e. rw e refl) (λ e. rw e refl) (λ e. rw e refl) (λ e. rw e refl)
      (λ e. rw e refl) (λ e. rw e refl) (λ e. rw e refl) (λ e. rw e refl) (λ e. rw e refl) (λ e. rw e refl) (λ e. rw e refl) (λ e. rw e refl)
      (λ e. rw e refl) (λ e. rw e refl) (role_in w) fits.known refl

  pub amount_noted_lem : (ws ns : List ℕ) → Matched text names ws ns → amount_noted ws ns l ≡ amount_of (items_in text ws) (get_or (names levels) l [])
  unfolding amount_noted amount_of item_in
  amount_noted_lem [] ns m = refl
  amount_noted_lem (w ∷ ws) [] m = absurd (not-suc-le-zero m.enough)
  amount_noted_lem (w ∷ ws) (n ∷ ns) m =
      rw (lists_level_lem w n (matched_first text names m), leading_noted_lem text ws, amount_noted_lem ws ns (matched_rest text names m)) refl

-- What notes say, and the first appearances of names.
use Prim.Native.Nat.{ℕ, ◌<◌}
use mathlib.Core.Path.{◌≡◌, refl, sym, ap, ◌∙◌}
use mathlib.Core.Bool.{Bool, true, false}
use mathlib.Core.List.{List}
use borrow.Author.Tests.{eq-eqb, ne_eqb, not-true}
use lib.ListN.{get_or, get_or-map}
use lib.Seq.{slice}
use Rattle.laws.specs.Search.{lowest}
use Rattle.laws.proofs.Search.{contrary, and_l, and_r, any_intro, any_none, any_false, lowest_facts, lowest_lt}
use Rattle.spelling.proofs.Same.{same_refl, same_eq}
use Rattle.grammar.specs.Said.{Role, Said, name, number, Item}
use Rattle.grammar.specs.Tree.{Word}
use Rattle.notes.specs.Notes.{value_in, line_in, role_in, name_at, name_end, role_of, said_in, item_in, items_in, nothing}
use Rattle.supplied.specs.Plan.{word_in}
use Rattle.naming.specs.Index.{said_at, is_named, says, is_first}

module _ (text said : List ℕ) (k : ℕ) where
  pub item_at : get_or (items_in text said) k nothing ≡ item_in text (get_or said k 0)
  unfolding item_in said_in value_in line_in role_in
  item_at = get_or-map (item_in text) said k 0

  said_at_lem : said_at (items_in text said) k ≡ said_in text (get_or said k 0)
  unfolding item_in
  said_at_lem = ap (λ (i : Item). i.said) item_at

  pub number_at_lem : role_in (get_or said k 0) ≡ 0 → said_at (items_in text said) k ≡ number (value_in (get_or said k 0))
  unfolding said_in
  number_at_lem e = said_at_lem ∙ rw (eq-eqb _ 0 e)

  pub name_at_lem :
      (role_in (get_or said k 0) ≡ 0 → ⊥) → said_at (items_in text said) k
      ≡ name (role_of (role_in (get_or said k 0))) (slice (name_at (get_or said k 0)) (name_end (get_or said k 0)) text)
  unfolding said_in
  name_at_lem f = said_at_lem ∙ rw (ne_eqb _ 0 f)

-- what says a word is a name, which is that word
pub says_own : {s : Said} {r : Role} {w : Word} → s ≡ name r w → says w s ≡ true
unfolding says
says_own {s} {r} {w} e = ap (says w) e ∙ same_refl w

pub says_name : {v : Word} (s : Said) → says v s ≡ true → (r : Role) × (s ≡ name r v)
unfolding says
says_name (name r w) e = (r, ap (name r) (same_eq _ _ e))
says_name (number n) e = contrary e refl

module _ (is : List Item) where
  pub first_name : (k : ℕ) → is_first is k ≡ true → (r : Role) × (w : Word) × (said_at is k ≡ name r w)
  unfolding is_first is_named
  first_name k e = go (said_at is k) refl (and_l (is_named (said_at is k)) _ e)
    where
      go : (s : Said) → said_at is k ≡ s → is_named s ≡ true → (r : Role) × (w : Word) × (said_at is k ≡ name r w)
      go (name r w) q t = (r, w, q)
      go (number n) q t = contrary t refl

  pub first_none : (k : ℕ) {r : Role} {w : Word} → is_first is k ≡ true → said_at is k ≡ name r w → (j : ℕ) → j < k → says w (said_at is j) ≡ false
  unfolding is_first word_in
  first_none k {r} {w} e q j l =
      let n = not-true _ (and_r (is_named (said_at is k)) _ e) in
      ap (λ v. says v (said_at is j)) (sym (ap word_in q)) ∙ any_false (λ i. says (word_in (said_at is k)) (said_at is i)) k n j l

  pub first_in : (k : ℕ) {r : Role} {w : Word} → said_at is k ≡ name r w → ((j : ℕ) → j < k → says w (said_at is j) ≡ false) → is_first is k ≡ true
  unfolding is_first is_named word_in
  first_in k {r} {w} q none =
      rw (q, any_none (λ i. says w (said_at is i)) k none)

  pub number_later : (k : ℕ) {n : ℕ} → said_at is k ≡ number n → is_first is k ≡ false
  unfolding is_first is_named
  number_later k q = rw q

  pub name_later : (k : ℕ) {r : Role} {w : Word} → said_at is k ≡ name r w → (j : ℕ) → j < k → says w (said_at is j) ≡ true → is_first is k ≡ false
  unfolding is_first is_named word_in
  name_later k {r} {w} q j l t = rw (q, any_intro (λ i. says w (said_at is i)) k j l t)

  -- a name that is said has appeared first
  pub has_first :
      (w : Word) (m j : ℕ) → j < m → says w (said_at is j) ≡ true
      → (f : ℕ) × (f < m) × (is_first is f ≡ true) × (says w (said_at is f) ≡ true)
  has_first w m j l t =
      let p : ℕ → Bool = λ i. says w (said_at is i) in
      let h = lowest_lt p m j l t in
      let facts = lowest_facts p m in
      let here = facts.2 h in
      (lowest m p, h, first_in (lowest m p) (says_name (said_at is (lowest m p)) here).1 facts.1, here)

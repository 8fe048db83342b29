-- The action of a name: the first appearance of the name, or none.
use Prim.Native.Nat.{ℕ, zero, suc, ◌+◌, ◌<◌}
use mathlib.Core.Path.{◌≡◌, refl, sym, ap, ◌∙◌}
use mathlib.Core.Bool.{Bool, true, false, ◌||◌}
use mathlib.Core.List.{List, [], ◌∷◌}
use mathlib.Core.Logic.{⊎_elim}
use native.Mathlib.Nat.{not-suc-le-zero}
use native.Mathlib.Numerals.{add-one}
use native.Mathlib.Decide.{ℕ_discrete}
use native.Mathlib.Omega.{arith}
use lib.ListN.{length, get_or, drop, length-map}
use Rattle.std.specs.Prelude.{None}
use Rattle.laws.proofs.Search.{either, contrary}
use Rattle.spelling.proofs.Same.{same_refl, same_eq}
use Rattle.grammar.specs.Said.{Role, action, fact, rise, fall, stock, planned, Said, name, number, Item}
use Rattle.grammar.specs.Tree.{Word}
use Rattle.notes.specs.Notes.{role_in, action_role, role_of, item_in, items_in}
use Rattle.supplied.specs.Names.{actions, kind_of, kind_number}
use Rattle.supplied.specs.Plan.{is_action, has_action, behind}
use Rattle.naming.specs.Index.{said_at, says, Indexed}
use Rattle.naming.specs.Named.{Readable, Acts}
use Rattle.naming.specs.Passed.{Appears, Looked}
use Rattle.naming.proofs.Roles.{role_action}
use Rattle.naming.proofs.Firsts.{number_at_lem, name_at_lem, says_name, first_none}

pub action_name : {v : Word} (s : Said) → is_action v s ≡ true → s ≡ name action v
unfolding is_action
action_name (name action w) e = ap (name action) (same_eq _ _ e)
action_name (name (fact p x) w) e = contrary e refl
action_name (name (rise q) w) e = contrary e refl
action_name (name (fall q) w) e = contrary e refl
action_name (name stock w) e = contrary e refl
action_name (name planned w) e = contrary e refl
action_name (number n) e = contrary e refl

is_own : {s : Said} {v : Word} → s ≡ name action v → is_action v s ≡ true
unfolding is_action
is_own {s} {v} e = ap (is_action v) e ∙ same_refl v

unsaid : (v : Word) (s : Said) → says v s ≡ false → is_action v s ≡ false
unfolding says
unsaid v s f =
    ⊎_elim
    (λ (t : is_action v s ≡ true). contrary (ap (says v) (action_name s t) ∙ same_refl v) f)
    (λ (g : is_action v s ≡ false). g)
    (either (is_action v s))

module _ (v : Word) where
  has_action_lem : (is : List Item) (r : ℕ) → r < length is → said_at is r ≡ name action v → has_action v is ≡ true
  unfolding has_action
  has_action_lem [] r l e = absurd (not-suc-le-zero l)
  has_action_lem (i ∷ is) zero l e = ap (λ b. b || has_action v is) (is_own e)
  has_action_lem (i ∷ is) (suc r) l e = ap (λ b. is_action v i.said || b) (has_action_lem is r (omega arith) e) ∙ last (is_action v i.said)
    where
      last : (b : Bool) → (b || true) ≡ true
      last true = refl
      last false = refl

  behind_suc :
      (is : List Item) (r : ℕ) → r < length is → said_at is r ≡ name action v → ((j : ℕ) → j < r → is_action v (said_at is j) ≡ false)
      → behind v is ≡ drop (suc r) is
  unfolding behind
  behind_suc [] r l e f = absurd (not-suc-le-zero l)
  behind_suc (i ∷ is) zero l e f = rw (is_own e) refl
  behind_suc (i ∷ is) (suc r) l e f = rw (f 0 (omega arith)) (behind_suc is r (omega arith) e (λ j h. f (suc j) (omega arith)))

  behind_first :
      (is : List Item) (r : ℕ) → r < length is → said_at is r ≡ name action v → ((j : ℕ) → j < r → says v (said_at is j) ≡ false)
      → behind v is ≡ drop (r + 1) is
  behind_first is r l e f = behind_suc is r l e (λ j h. unsaid v (said_at is j) (f j h)) ∙ ap (λ n. drop n is) (sym (add-one r))

  pub no_action : (is : List Item) → ((j : ℕ) → j < length is → is_action v (said_at is j) ≡ false) → has_action v is ≡ false
  unfolding has_action
  no_action [] f = refl
  no_action (i ∷ is) f =
      ap (λ b. b || has_action v is) (f 0 (omega arith)) ∙ no_action is (λ j h. f (suc j) (omega arith))

-- a note's role is that of its name
pub role_at : (text said : List ℕ) (j : ℕ) {r : Role} {v : Word} → said_at (items_in text said) j ≡ name r v → r ≡ role_of (role_in (get_or said j 0))
role_at text said j {r} {v} e =
    elim (ℕ_discrete (role_in (get_or said j 0)) 0) [
      | yes z ↦ absurd (let n = number_at_lem text said j z in let q : ◌≡◌ {A = ℕ} 0 1 = cc in omega arith)
      | no z ↦ let n = name_at_lem text said j z in cc
    ]

module _ (text said : List ℕ) (v : Word) where
  absent : ((j : ℕ) → j < length said → is_action v (said_at (items_in text said) j) ≡ false) → has_action v (items_in text said) ≡ false
  absent f = no_action v (items_in text said) (λ j l. f j (omega (arith, length-map said (item_in text), l)))

  pub action_none : Looked (items_in text said) (length said) v None → has_action v (items_in text said) ≡ false
  action_none none = absent (λ j h. unsaid v (said_at (items_in text said) j) (none j h))

  module _ (first : ℕ) (looked : Appears (items_in text said) (length said) v first) where
    pub action_found : role_in (get_or said first 0) ≡ action_role → Acts text said v first
    unfolding role_of
    action_found e =
        let o = says_name (said_at (items_in text said) first) looked.there in
        let r : o.0 ≡ action = role_at text said first o.1 ∙ ap role_of e in
        let here : said_at (items_in text said) first ≡ name action v = o.1 ∙ ap (λ r. name r v) r in
        let l : first < length (items_in text said) = omega (arith, looked.within, length-map said (item_in text)) in
        record {
          within = looked.within;
          has = has_action_lem v (items_in text said) first l here;
          behind = behind_first v (items_in text said) first l here (first_none (items_in text said) first looked.first here);
        }

    pub action_other :
        (index : List ℕ) → Readable text said → Indexed (items_in text said) (length said) index
        → (role_in (get_or said first 0) ≡ action_role → ⊥) → has_action v (items_in text said) ≡ false
    unfolding kind_of
    action_other index sound indexed ne =
        absent
        (λ j h.
        ⊎_elim
        (λ (t : is_action v (said_at (items_in text said) j) ≡ true).
        let o = says_name (said_at (items_in text said) first) looked.there in
        let a = action_name (said_at (items_in text said) j) t in
        let k : kind_of o.0 ≡ actions = indexed.kinds first j o.0 action v looked.within h o.1 a in
        let r = role_at text said first o.1 in
        absurd
        (ne
        (role_action (role_in (get_or said first 0)) (sound.each first looked.within).known
        (ap (λ q. kind_number (kind_of q)) (sym r) ∙ ap kind_number k))))
        (λ (f : is_action v (said_at (items_in text said) j) ≡ false). f)
        (either (is_action v (said_at (items_in text said) j))))

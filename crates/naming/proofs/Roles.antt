-- The kind of a role and whether it gives its name, by the role's number.
use Prim.Native.Nat.{ℕ, zero, suc, ◌≤◌, ◌<◌}
use mathlib.Core.Path.{◌≡◌, refl, sym, ap, ◌∙◌}
use mathlib.Core.Bool.{cond, ◌||◌}
use native.Mathlib.Decide.{dec_lt, ℕ_discrete}
use native.Mathlib.Omega.{arith}
use borrow.Author.Tests.{lt-ltb, le-ltb, ne_eqb}
use lib.Dec.{eqb, ltb, leb}
use Rattle.notes.specs.Notes.{roles, action_role, stock_role, wanted_role, given_role, role_of}
use Rattle.notes.proofs.Notes.{by_role}
use Rattle.supplied.specs.Names.{Kind, actions, facts, levels, lines, kind_of, kind_number, gives}
use Rattle.naming.specs.declared.passing.Kind as code
use Rattle.naming.specs.declared.passing.Kind.TheVariants.{Actions, Facts, Levels, Lines}
use Rattle.naming.specs.Kinds.{meant}

-- a kind by its number
abbrev kind_at : ℕ → Kind
kind_at zero = actions
kind_at (suc zero) = facts
kind_at (suc (suc zero)) = levels
kind_at (suc (suc (suc n))) = lines

kind_back : (κ : Kind) → kind_at (kind_number κ) ≡ κ
kind_back actions = refl
kind_back facts = refl
kind_back levels = refl
kind_back lines = refl

pub number_kind : (a b : Kind) → kind_number a ≡ kind_number b → a ≡ b
number_kind a b e = sym (kind_back a) ∙ ap kind_at e ∙ kind_back b

-- kinds that mean the same are one
abbrev meaning : Kind → code.Kind
meaning actions = Actions
meaning facts = Facts
meaning levels = Levels
meaning lines = Lines

meaning_back : (κ : code.Kind) → meaning (meant κ) ≡ κ
meaning_back Actions = refl
meaning_back Facts = refl
meaning_back Levels = refl
meaning_back Lines = refl

pub meant_one : (a b : code.Kind) → meant a ≡ meant b → a ≡ b
meant_one a b e = sym (meaning_back a) ∙ ap meaning e ∙ meaning_back b

kind_number_lem :
    (c : ℕ) → c < roles
    → kind_number (kind_of (role_of c)) ≡ cond (ltb c stock_role) (cond (eqb c action_role) 0 3) (cond (ltb c wanted_role) 2 1)
unfolding role_of kind_of
kind_number_lem =
    by_role (λ c. kind_number (kind_of (role_of c)) ≡ cond (ltb c stock_role) (cond (eqb c action_role) 0 3) (cond (ltb c wanted_role) 2 1))
    refl refl refl refl refl refl refl refl refl refl refl refl refl refl refl refl refl refl refl refl refl refl

module _ (c : ℕ) (h : c < roles) where
  kind_fact : wanted_role ≤ c → 1 ≡ kind_number (kind_of (role_of c))
  kind_fact l = sym (kind_number_lem c h ∙ rw (le-ltb c stock_role (omega arith), le-ltb c wanted_role l) refl)

  kind_level : c < wanted_role → stock_role ≤ c → 2 ≡ kind_number (kind_of (role_of c))
  kind_level l m = sym (kind_number_lem c h ∙ rw (le-ltb c stock_role m, lt-ltb c wanted_role l) refl)

  kind_action : c ≡ action_role → 0 ≡ kind_number (kind_of (role_of c))
  kind_action e = sym (kind_number_lem c h ∙ rw e refl)

  kind_line : c < stock_role → (c ≡ action_role → ⊥) → 3 ≡ kind_number (kind_of (role_of c))
  kind_line l e = sym (kind_number_lem c h ∙ rw (lt-ltb c stock_role l, ne_eqb c action_role e) refl)

  pub is_fact : wanted_role ≤ c → facts ≡ kind_of (role_of c)
  is_fact l = number_kind _ _ (kind_fact l)

  pub is_level : c < wanted_role → stock_role ≤ c → levels ≡ kind_of (role_of c)
  is_level l m = number_kind _ _ (kind_level l m)

  pub is_action : c ≡ action_role → actions ≡ kind_of (role_of c)
  is_action e = number_kind _ _ (kind_action e)

  pub is_line : c < stock_role → (c ≡ action_role → ⊥) → lines ≡ kind_of (role_of c)
  is_line l e = number_kind _ _ (kind_line l e)

  -- only an action's role is of their kind
  pub role_action : kind_number (kind_of (role_of c)) ≡ 0 → c ≡ action_role
  role_action e =
      elim (dec_lt c wanted_role) [
        | yes l ↦ go l (dec_lt c stock_role) (ℕ_discrete c action_role)
        | no l ↦ absurd (omega (arith, kind_fact (omega arith)))
      ]
    where
      go : c < wanted_role → Dec (c < stock_role) → Dec (c ≡ action_role) → c ≡ action_role
      go l (yes m) (yes d) = d
      go l (yes m) (no d) = absurd (omega (arith, kind_line m d))
      go l (no m) d = absurd (omega (arith, kind_level l (omega arith)))

pub gives_number : (c : ℕ) → c < roles → ((eqb c action_role || eqb c stock_role) || leb given_role c) ≡ gives (role_of c)
unfolding role_of gives
gives_number =
    by_role (λ c. ((eqb c action_role || eqb c stock_role) || leb given_role c) ≡ gives (role_of c))
    refl refl refl refl refl refl refl refl refl refl refl refl refl refl refl refl refl refl refl refl refl refl

-- The roles of names by their numbers, and an (and ..) that is too deep.
use Prim.Native.Nat.{ℕ, ◌+◌, ◌≤◌, ◌<◌}
use mathlib.Core.Path.{◌≡◌, refl}
use mathlib.Core.Logic.{inr}
use mathlib.Core.Bool.{Bool, true, false}
use mathlib.Core.List.{List}
use native.Mathlib.Omega.{arith}
use Rattle.spelling.specs.Keywords.{and_word}
use Rattle.spelling.specs.Cursor.{here, is_word}
use Rattle.grammar.specs.Said.{fact, action, rise, fall, stock, planned}
use Rattle.grammar.specs.Tree.{Kind}
use Rattle.grammar.specs.Reader.{name, literal_body, body, level_symbols}
use Rattle.grammar.specs.Said as say
use Rattle.notes.specs.declared.Place as noted
use Rattle.notes.specs.declared.Place.TheVariants.{WantedAtStart, WantedOverAll, WantedAtEnd, SetAtStart, SetAtEnd, Reached, Given}
use Rattle.notes.specs.Notes.{roles, action_role, planned_role, stock_role, rise_role, fall_role, wanted_role, role_of, place_of, fact_role}
use Rattle.notes.proofs.Notes.{fact_role_is}
use Rattle.token_reader.specs.Reading.{cursor_of, fault_of, faulty, Known, Stands, Takes, Reads, Leads}
use Rattle.token_reader.specs.declared.Fault.TheVariants.{TooDeep}
use Rattle.token_reader.specs.declared.Reader.{Reader}
use Rattle.token_reader.proofs.Steps.{fault, take_passes}
use Rattle.item_reader.specs.Kinds.{kind_of, point_of, set_place, later}
use Rattle.item_reader.specs.declared.nested.Items.{Items}
use Rattle.item_reader.proofs.Likeness.{and_deep}

fact_from : (p : noted.Place) (v : Bool) → wanted_role ≤ fact_role p v
fact_from WantedAtStart v = omega arith
fact_from WantedOverAll v = omega arith
fact_from WantedAtEnd v = omega arith
fact_from SetAtStart v = omega arith
fact_from SetAtEnd v = omega arith
fact_from Reached v = omega arith
fact_from Given v = omega arith

-- the role of a fact
module _ (p : noted.Place) (v : Bool) {role : ℕ} (e : role ≡ fact_role p v) where
  pub fact_some : role ≡ 0 → ⊥
  fact_some z = let h = fact_from p v in omega arith

  pub as_fact :
      {text list list' : List ℕ} {r a : Reader} → Reads false text list r (name (role_of role)) list' a
      → Reads false text list r (name (fact (place_of p) v)) list' a
  as_fact q = rw (← fact_role_is p v, ← e) q

later_from : (first : ℕ) (last : Bool) → (first ≤ later first last) × (later first last ≤ first + 1)
later_from first true = omega arith
later_from first false = omega arith

-- the role of a rise or a fall
module _ (first : ℕ) (last : Bool) {role : ℕ} (e : role ≡ later first last) where
  pub later_some : 0 < first → role ≡ 0 → ⊥
  later_some h z = let k = later_from first last in omega (arith, k.0)

  pub later_low : first < 21 → role < roles
  later_low h = let k = later_from first last in omega (arith, k.1)

rise_role_lem : (last : Bool) → role_of (later rise_role last) ≡ rise (point_of last)
unfolding role_of
rise_role_lem true = refl
rise_role_lem false = refl

fall_role_lem : (last : Bool) → role_of (later fall_role last) ≡ fall (point_of last)
unfolding role_of
fall_role_lem true = refl
fall_role_lem false = refl

module _ (last : Bool) {text list list' : List ℕ} {r a : Reader} where
  pub as_rise :
      {role : ℕ} → role ≡ later rise_role last → Leads false text list r (level_symbols (role_of role)) list' a
      → Leads false text list r (level_symbols (rise (point_of last))) list' a
  as_rise e q = rw (← rise_role_lem last, ← e) q

  pub as_fall :
      {role : ℕ} → role ≡ later fall_role last → Leads false text list r (level_symbols (role_of role)) list' a
      → Leads false text list r (level_symbols (fall (point_of last))) list' a
  as_fall e q = rw (← fall_role_lem last, ← e) q

  pub as_set :
      {place : noted.Place} → place ≡ set_place last → Reads false text list r (literal_body (place_of place)) list' a
      → Reads false text list r (literal_body (say.set (point_of last))) list' a
  as_set e q = placed last (rw e at q)
    where
      placed :
          (last : Bool) → Reads false text list r (literal_body (place_of (set_place last))) list' a
          → Reads false text list r (literal_body (say.set (point_of last))) list' a
      placed true p = p
      placed false p = p

-- the roles that one number has
module _ {plan : Bool} {text list list' : List ℕ} {r a : Reader} where
  pub as_stock : Leads plan text list r (level_symbols (role_of stock_role)) list' a → Leads plan text list r (level_symbols stock) list' a
  unfolding role_of
  as_stock q = q

  pub as_action : Reads plan text list r (name (role_of action_role)) list' a → Reads plan text list r (name action) list' a
  unfolding role_of
  as_action q = q

  pub as_planned : Reads plan text list r (name (role_of planned_role)) list' a → Reads plan text list r (name planned) list' a
  unfolding role_of
  as_planned q = q

-- an item's kind and its depth
module _ {text list list' : List ℕ} {r a : Reader} where
  pub as_kind :
      {k : Items} (q : Items) → k ≡ q → (n : ℕ) → Reads false text list r (body (kind_of q) n) list' a
      → Reads false text list r (body (kind_of k) n) list' a
  as_kind q e n p = rw e p

  pub as_depth : (q : Kind) {n : ℕ} → n ≡ 0 → Reads false text list r (body q 0) list' a → Reads false text list r (body q n) list' a
  as_depth q e p = rw e p

-- an (and ..) that is too deep is refused with 19
module _ (text : List ℕ) {r : Reader} (p : Stands false text r) where
  pub deep_passes : {q : Kind} → (fault_of r ≡ 0 → ⊥) → Takes false text r (body q 0) r
  deep_passes f = take_passes false text p f

  pub deep_fails :
      is_word and_word (here false text (cursor_of r)) ≡ true → fault_of r ≡ 0 → (q : Kind) {a : Reader} → a ≡ faulty r TooDeep
      → Takes false text r (body q 0) a
  deep_fails w e q {a} f =
      let n : Known false 19 = inr (inr (refl, refl)) in
      let there : Stands false text (faulty r TooDeep) = record { short = p.short; standing = p.standing; few = p.few; fault = n } in
      record { stands = rw f there; reads = λ list z. fault false text list r a (body q 0) TooDeep n z e (and_deep _ q w) f }

-- What names stand for: "An action or init name given twice, or one name for two kinds, is outside the grammar. .. Facts and levels are
-- numbered as they first appear in the action text".
use Rattle.std.specs.Prelude.{ℕ, suc, Bool, true, false, cond, not, ◌||◌, ◌&&◌, List, [], ◌∷◌, ◌++◌, eqb}
use Rattle.spelling.specs.Keywords.{same}
use Rattle.grammar.specs.Said.{wanted, set, reached, given, Role, action, fact, rise, fall, stock, planned, Said, name, number, Item}
use Rattle.grammar.specs.Tree.{Word}
use Rattle.grammar.specs.Reader.{Outcome, read, refused}

-- what a name can stand for; a plan's line names what stands elsewhere
pub data Kind : Type 0 where
  actions facts levels lines : Kind

unfoldable pub kind_of : Role → Kind
kind_of action = actions
kind_of (fact p v) = facts
kind_of (rise q) = levels
kind_of (fall q) = levels
kind_of stock = levels
kind_of planned = lines

abbrev pub kind_number : Kind → ℕ
kind_number actions = 0
kind_number facts = 1
kind_number levels = 2
kind_number lines = 3

unfoldable pub same_kind : Kind → Kind → Bool
same_kind a b = eqb (kind_number a) (kind_number b)

-- "An action or init name given"
unfoldable pub gives : Role → Bool
gives action = true
gives stock = true
gives (fact given v) = true
gives (fact (wanted q) v) = false
gives (fact (set q) v) = false
gives (fact reached v) = false
gives (rise q) = false
gives (fall q) = false
gives planned = false

-- whether one may not stand behind the other: the same name, given twice or of two kinds
unfoldable pub clash : Said → Said → Bool
clash (name r w) (name q v) = same w v && (not (same_kind (kind_of r) (kind_of q)) || (gives r && gives q))
clash (name r w) (number n) = false
clash (number n) s = false

-- whether one may not stand behind these
unfoldable pub clashes : List Item → Item → Bool
clashes [] i = false
clashes (j ∷ js) i = clash j.said i.said || clashes js i

-- the first that may not stand behind those before it is refused at its line, ahead of a fault further on
unfoldable pub names_from : List Item → List Item → Outcome → Outcome
names_from passed [] o = o
names_from passed (i ∷ is) o = cond (clashes passed i) (refused 18 i.line passed) (names_from (passed ++ (i ∷ [])) is o)

unfoldable pub with_names : Outcome → Outcome
with_names (read is) = names_from [] is (read is)
with_names (refused n l is) = names_from [] is (refused n l is)

-- whether a word is among others
unfoldable pub is_in : Word → List Word → Bool
is_in w [] = false
is_in w (v ∷ vs) = same v w || is_in w vs

-- names that have appeared, with one more unless it is among them
unfoldable pub with_word : List Word → Word → List Word
with_word vs w = cond (is_in w vs) vs (vs ++ (w ∷ []))

unfoldable pub with_said : Kind → List Word → Said → List Word
with_said k vs (name r w) = cond (same_kind (kind_of r) k) (with_word vs w) vs
with_said k vs (number n) = vs

-- the names of a kind, as they first appear, behind those that have appeared
unfoldable pub appearing : Kind → List Word → List Item → List Word
appearing k vs [] = vs
appearing k vs (i ∷ is) = appearing k (with_said k vs i.said) is

abbrev pub names_of : Kind → List Item → List Word
names_of k is = appearing k [] is

-- the number of a name: how many stand before it
unfoldable pub number_of : Word → List Word → ℕ
number_of w [] = 0
number_of w (v ∷ vs) = cond (same v w) 0 (suc (number_of w vs))

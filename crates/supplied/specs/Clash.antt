-- "An action or init name given twice, or one name for two kinds, is outside the grammar. .. Facts and levels are numbered as they first
-- appear in the action text": what `with_names`, `names_of` and `number_of` promise, in plain words.
use Rattle.std.specs.Prelude.{ℕ, ◌<◌, ◌≡◌, true, ◌⊎◌, List, [], ◌∷◌, ◌++◌, length, get_or}
use Rattle.grammar.specs.Said.{Role, Said, name, Item, said_of}
use Rattle.grammar.specs.Tree.{Word}
use Rattle.grammar.specs.Reader.{Outcome, read, refused}
use Rattle.supplied.specs.Names.{Kind, kind_of, gives, with_names, names_of, number_of}

-- one word that stands for two kinds, or is given twice
pub record Clashing (j i : Said) : Type 0 where
  pub word : Word
  pub earlier : Role
  pub later : Role
  pub first : j ≡ name earlier word
  pub second : i ≡ name later word
  pub why : (kind_of earlier ≡ kind_of later → ⊥) ⊎ ((gives earlier ≡ true) × (gives later ≡ true))

-- one of these clashes with what comes next
pub record ClashIn (before : List Said) (i : Said) : Type 0 where
  pub ahead : List Said
  pub at : Said
  pub behind : List Said
  pub split : before ≡ ahead ++ at ∷ behind
  pub clashing : Clashing at i

-- nothing clashes with anything before it
pub record NoClash (ss : List Said) : Type 0 where
  pub none : (before after : List Said) (i : Said) → ss ≡ before ++ i ∷ after → ClashIn before i → ⊥

-- the first that clashes with something before it stands on this line
pub record FirstClash (is : List Item) (line : ℕ) : Type 0 where
  pub before : List Item
  pub at : Item
  pub after : List Item
  pub split : is ≡ before ++ at ∷ after
  pub here : line ≡ at.line
  pub clash : ClashIn (said_of before) at.said
  pub none : NoClash (said_of before)

-- what a text says up to its end or its fault
abbrev pub items_of : Outcome → List Item
items_of (read is) = is
items_of (refused n l is) = is

pub record NamesPromise (o : Outcome) : Type 0 where
  -- what is read was read before names were looked at, and has no clash
  pub reads : (is : List Item) → with_names o ≡ read is → (o ≡ read is) × NoClash (said_of is)
  -- what has no clash stays read
  pub kept : (is : List Item) → o ≡ read is → NoClash (said_of is) → with_names o ≡ read is
  -- a refusal is that of the reading, and no clash comes before it; or it is 18 at the first clash
  pub refuses :
      (n l : ℕ) (is : List Item) → with_names o ≡ refused n l is
      → ((o ≡ refused n l is) × NoClash (said_of is)) ⊎ ((n ≡ 18) × FirstClash (items_of o) l)

-- a word is said in a role of a kind
pub record SaidIn (k : Kind) (w : Word) (is : List Item) : Type 0 where
  pub before : List Item
  pub at : Item
  pub after : List Item
  pub role : Role
  pub split : is ≡ before ++ at ∷ after
  pub names : at.said ≡ name role w
  pub kind : kind_of role ≡ k

pub record Numbering (is : List Item) (k : Kind) : Type 0 where
  -- no name has two numbers
  pub once :
      (m n : ℕ) → m < length (names_of k is) → n < length (names_of k is) → get_or (names_of k is) m [] ≡ get_or (names_of k is) n [] → m ≡ n
  -- what is said has a number, and only that
  pub every :
      (w : Word) → SaidIn k w is
      → (number_of w (names_of k is) < length (names_of k is)) × (get_or (names_of k is) (number_of w (names_of k is)) [] ≡ w)
  pub only : (n : ℕ) → n < length (names_of k is) → SaidIn k (get_or (names_of k is) n []) is
  -- what is said in a first part of the text has a lower number than what is not said there
  pub order :
      (part rest : List Item) (v w : Word) → is ≡ part ++ rest → SaidIn k v part → (SaidIn k w part → ⊥)
      → number_of v (names_of k is) < number_of w (names_of k is)

-- What is written, as trees: the actions, init and goal of the first text, the lines of the plan. A name or a number is
-- the word that is written.
use Rattle.std.specs.Prelude.{ℕ, List}
use Rattle.grammar.specs.Said.{When, Point}

abbrev pub Word : Type 0
Word = List ℕ

-- "Outside init a fact may stand under not"
pub data Literal : Type 0 where
  plain negated : Word → Literal

-- "(increase (N) W) and (decrease (N) W) are effects"
pub data Change : Type 0 where
  sets : Literal → Change
  increases decreases : Word → Word → Change

-- "Conditions stand under at start, over all or at end"
pub record Condition : Type 0 where
  pub when : When
  pub what : Literal

-- "effects under at start or at end"
pub record Effect : Type 0 where
  pub at : Point
  pub what : Change

-- what C, E and G are made of; "goals bare"
pub data Kind : Type 0 where
  conditions effects goals : Kind

abbrev pub Leaf : Kind → Type 0
Leaf conditions = Condition
Leaf effects = Effect
Leaf goals = Literal

-- "C, E and G are one item or (and ..) of any number. An (and ..) may hold further (and ..)"
mutual
  pub data Tree (k : Kind) : Type 0 where
    one : Leaf k → Tree k
    both : Trees k → Tree k

  pub data Trees (k : Kind) : Type 0 where
    none : Trees k
    more : Tree k → Trees k → Trees k

-- "(:durative-action N :duration (= ?duration T) :condition C :effect E)"
pub record Action : Type 0 where
  pub name : Word
  pub duration : Word
  pub condition : Tree conditions
  pub effect : Tree effects

-- "(:init ..) of (N) and (= (N) W)"
pub data Init : Type 0 where
  holds : Word → Init
  level : Word → Word → Init

-- "any number of actions .., then (:init ..) .., then (:goal G)"
pub record Text : Type 0 where
  pub actions : List Action
  pub init : List Init
  pub goal : Tree goals

-- "T: (N) [T]"
pub record Line : Type 0 where
  pub start : Word
  pub name : Word
  pub duration : Word

-- "each plan line has a line to itself, closed by byte 10 or the text's end"; blank lines are free
pub data Plan : Type 0 where
  nothing : Plan
  last : Line → Plan
  blank : Plan → Plan
  then : Line → Plan → Plan

-- What a text says, in its order: names in their roles and numbers, each on its line.
use Rattle.std.specs.Prelude.{ℕ, Bool, List, [], ◌∷◌}

-- "at start", "over all" or "at end"; effects know the first and the last
pub data When : Type 0 where
  at_start over_all at_end : When

pub data Point : Type 0 where
  start end : Point

abbrev pub when_of : Point → When
when_of start = at_start
when_of end = at_end

-- where a fact stands: in a condition, an effect, the goal or init
pub data Place : Type 0 where
  wanted : When → Place
  set : Point → Place
  reached : Place
  given : Place

-- what a name is used for: an action, a fact with its value, a level that rises, falls or is given, a plan line
pub data Role : Type 0 where
  action : Role
  fact : Place → Bool → Role
  rise : Point → Role
  fall : Point → Role
  stock : Role
  planned : Role

pub data Said : Type 0 where
  name : Role → List ℕ → Said
  number : ℕ → Said

pub record Item : Type 0 where
  pub said : Said
  pub line : ℕ

-- all on one line
unfoldable pub on_line : ℕ → List Said → List Item
on_line l [] = []
on_line l (s ∷ ss) = record { said = s; line = l } ∷ on_line l ss

-- without their lines
unfoldable pub said_of : List Item → List Said
said_of [] = []
said_of (i ∷ is) = i.said ∷ said_of is

-- Between crates: what a note holds, and when a list notes what a text says.
use Rattle.std.specs.Prelude.{ℕ, ◌+◌, ◌-◌, ◌*◌, ◌/◌, ◌%◌, ◌≤◌, ◌<◌, ◌≡◌, Bool, true, false, cond, List, [], ◌∷◌, map, eqb, length, get_or}
use Rattle.std.proofs.Math.Seq.{slice}
use Rattle.grammar.specs.Said.{at_start, over_all, at_end, start, end, Place, wanted, set, reached, given}
use Rattle.grammar.specs.Said.{Role, action, fact, rise, fall, stock, planned, Said, name, number, Item}
use Rattle.notes.specs.declared.Place as noted
use Rattle.notes.specs.declared.Place.TheVariants.{WantedAtStart, WantedOverAll, WantedAtEnd, SetAtStart, SetAtEnd, Reached, Given}

-- the role's number above 48 bits, the line above 32, then a number, or where a name begins and, above 16 bits, its length
unfoldable pub value_in : ℕ → ℕ
value_in w = w % 4294967296

unfoldable pub line_in : ℕ → ℕ
line_in w = w / 4294967296 % 65536

unfoldable pub role_in : ℕ → ℕ
role_in w = w / 281474976710656

unfoldable pub name_at : ℕ → ℕ
name_at w = value_in w % 65536

unfoldable pub name_end : ℕ → ℕ
name_end w = value_in w % 65536 + value_in w / 65536

unfoldable pub numbered : ℕ → ℕ → ℕ
numbered n line = n + 4294967296 * line

unfoldable pub named : ℕ → ℕ → ℕ → ℕ → ℕ
named at to line role = at + 65536 * (to - at) + 4294967296 * line + 281474976710656 * role

-- how many roles there are; 0 is that of a number
abbrev pub roles : ℕ
roles = 22

-- an action, a line of a plan, an amount that is given; a rise and a fall at the start, one more at the end
abbrev pub action_role : ℕ
action_role = 1

abbrev pub planned_role : ℕ
planned_role = 2

abbrev pub stock_role : ℕ
stock_role = 3

abbrev pub rise_role : ℕ
rise_role = 4

abbrev pub fall_role : ℕ
fall_role = 6

-- a fact where it stands as 0, one more as 1
abbrev pub wanted_role : ℕ
wanted_role = 8

abbrev pub over_all_role : ℕ
over_all_role = 10

abbrev pub wanted_at_end_role : ℕ
wanted_at_end_role = 12

abbrev pub set_role : ℕ
set_role = 14

abbrev pub set_at_end_role : ℕ
set_at_end_role = 16

abbrev pub reached_role : ℕ
reached_role = 18

abbrev pub given_role : ℕ
given_role = 20

-- the roles by their numbers
abbrev pub role_list : List Role
role_list =
    planned ∷ action ∷ planned ∷ stock ∷ rise start ∷ rise end ∷ fall start ∷ fall end
    ∷ fact (wanted at_start) false ∷ fact (wanted at_start) true
    ∷ fact (wanted over_all) false ∷ fact (wanted over_all) true
    ∷ fact (wanted at_end) false ∷ fact (wanted at_end) true
    ∷ fact (set start) false ∷ fact (set start) true
    ∷ fact (set end) false ∷ fact (set end) true
    ∷ fact reached false ∷ fact reached true
    ∷ fact given false ∷ fact given true
    ∷ []

unfoldable pub role_of : ℕ → Role
role_of c = get_or role_list c planned

-- where a fact stands, and the number of its role
abbrev pub place_of : noted.Place → Place
place_of WantedAtStart = wanted at_start
place_of WantedOverAll = wanted over_all
place_of WantedAtEnd = wanted at_end
place_of SetAtStart = set start
place_of SetAtEnd = set end
place_of Reached = reached
place_of Given = given

abbrev pub first_role : noted.Place → ℕ
first_role WantedAtStart = wanted_role
first_role WantedOverAll = over_all_role
first_role WantedAtEnd = wanted_at_end_role
first_role SetAtStart = set_role
first_role SetAtEnd = set_at_end_role
first_role Reached = reached_role
first_role Given = given_role

abbrev pub fact_role : noted.Place → Bool → ℕ
fact_role p value = first_role p + cond value 1 0

-- what a note of a text says
unfoldable pub said_in : List ℕ → ℕ → Said
said_in text w = cond (eqb (role_in w) 0) (number (value_in w)) (name (role_of (role_in w)) (slice (name_at w) (name_end w) text))

unfoldable pub item_in : List ℕ → ℕ → Item
item_in text w = record { said = said_in text w; line = line_in w }

-- room for a note of each byte of the longest text, and a 0 behind the last
abbrev pub notes_most : ℕ
notes_most = 65536

-- what notes of a text say
abbrev pub items_in : List ℕ → List ℕ → List Item
items_in text list = map (item_in text) list

-- what stands behind the last item
abbrev pub nothing : Item
nothing = record { said = number 0; line = 0 }

-- a note of a text: of a number, or of a name that lies in it
pub record Sound (text : List ℕ) (w : ℕ) : Type 0 where
  pub known : role_in w < roles
  pub begins : (role_in w ≡ 0 → ⊥) → name_at w < name_end w
  pub inside : (role_in w ≡ 0 → ⊥) → name_end w ≤ length text

-- a list notes items: one number an item, and 0 behind the last
pub record Noted (text list : List ℕ) (is : List Item) : Type 0 where
  pub each : (k : ℕ) → get_or is k nothing ≡ item_in text (get_or list k 0)
  pub sound : (k : ℕ) → Sound text (get_or list k 0)

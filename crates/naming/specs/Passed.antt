-- Inner: what holds of an index and of numbers when some items have been passed, and what a look-up finds.
use Rattle.std.specs.Prelude.{ℕ, ◌+◌, ◌≤◌, ◌<◌, ◌≡◌, Bool, true, false, ◌&&◌, ◌||◌, List, [], Option, Some, None, length, get_or, take, drop, set}
use Rattle.laws.specs.Search.{any}
use Rattle.spelling.specs.Keywords.{same}
use Rattle.grammar.specs.Said.{Role, Said, name, number, Item}
use Rattle.grammar.specs.Tree.{Word}
use Rattle.grammar.specs.Reader.{Outcome}
use Rattle.notes.specs.Notes.{notes_most, role_in, role_of, nothing}
use Rattle.supplied.specs.Names.{Kind, kind_of, kind_number, gives, clashes, names_from, names_of, number_of}
use Rattle.naming.specs.Index.{key_count, unlinked, said_at, says, is_first, Indexed}

-- an item below m is the first appearance of a name
pub record Appears (is : List Item) (m : ℕ) (v : Word) (k : ℕ) : Type 0 where
  pub within : k < m
  pub first : is_first is k ≡ true
  pub there : says v (said_at is k) ≡ true

-- the first appearance of a name below m, or that nobody says it there
abbrev pub Looked : List Item → ℕ → Word → Option ℕ → Type 0
Looked is m v (Some k) = Appears is m v k
Looked is m v None = (j : ℕ) → j < m → says v (said_at is j) ≡ false

-- whether a name is given here
unfoldable pub gives_name : Word → Said → Bool
gives_name v (name r w) = same w v && gives r
gives_name v (number n) = false

-- items that passed below k; the first appearance of a name is marked if some of these gives it
pub record Passed (is : List Item) (k : ℕ) (index numbers : List ℕ) (marks : List Bool) (counts : List ℕ) : Type 0 where
  pub indexed : Indexed is k index
  pub fresh : (j : ℕ) → k ≤ j → j < notes_most → get_or index (key_count + j) 0 ≡ unlinked
  pub numbers_size : length numbers ≡ notes_most
  pub marks_size : length marks ≡ notes_most
  pub counts_size : length counts ≡ 4
  pub numbered :
      (j : ℕ) (r : Role) (w : Word) → j < k → said_at is j ≡ name r w → get_or numbers j 0 ≡ number_of w (names_of (kind_of r) (take k is))
  pub counted : (κ : Kind) → get_or counts (kind_number κ) 0 ≡ length (names_of κ (take k is))
  pub marked :
      (j : ℕ) (w : Word) → j < k → is_first is j ≡ true → says w (said_at is j) ≡ true
      → get_or marks j false ≡ any k (λ i. gives_name w (said_at is i))
  pub onward : (o : Outcome) → names_from [] is o ≡ names_from (take k is) (drop k is) o

-- a name said again behind its first appearance: of the same kind and not given before, it has that one's number
pub record Repeated (note earlier k first : ℕ) (numbers : List ℕ) (marks : List Bool) (numbers' : List ℕ) (marks' : List Bool) (r : Bool) : Type 0 where
  pub kind : r ≡ true → kind_of (role_of (role_in earlier)) ≡ kind_of (role_of (role_in note))
  pub once : r ≡ true → (gives (role_of (role_in note)) && get_or marks first false) ≡ false
  pub numbered : r ≡ true → numbers' ≡ set numbers k (get_or numbers first 0)
  pub marked : r ≡ true → marks' ≡ set marks first (get_or marks first false || gives (role_of (role_in note)))
  pub refused :
      r ≡ false → kind_of (role_of (role_in earlier)) ≡ kind_of (role_of (role_in note))
      → (gives (role_of (role_in note)) && get_or marks first false) ≡ true

-- one more item has passed, or may not stand behind those before it
pub record Stepped (is : List Item) (k : ℕ) (index numbers : List ℕ) (marks : List Bool) (counts : List ℕ) (r : Bool) : Type 0 where
  pub passed : r ≡ true → Passed is (k + 1) index numbers marks counts
  pub refused : r ≡ false → clashes (take k is) (get_or is k nothing) ≡ true

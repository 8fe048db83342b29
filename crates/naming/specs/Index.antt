-- Between crates: an index of the first appearances of names, by a key of their bytes.
use Rattle.std.specs.Prelude.{ℕ, ◌+◌, ◌*◌, ◌%◌, ◌<◌, ◌≡◌, Bool, true, false, cond, not, ◌&&◌, List, [], ◌∷◌, length, get_or}
use Rattle.laws.specs.Search.{any}
use Rattle.laws.specs.Linked.{LinkedBack}
use Rattle.spelling.specs.Keywords.{same}
use Rattle.grammar.specs.Said.{Role, Said, name, number, Item}
use Rattle.grammar.specs.Tree.{Word}
use Rattle.notes.specs.Notes.{notes_most, nothing}
use Rattle.supplied.specs.Names.{kind_of}
use Rattle.supplied.specs.Plan.{word_in}

-- the keys of an index, and what stands in it for none
abbrev pub key_count : ℕ
key_count = 4096

abbrev pub unlinked : ℕ
unlinked = 65535

-- an entry a key, then one an item
abbrev pub index_size : ℕ
index_size = key_count + notes_most

abbrev pub said_at : List Item → ℕ → Said
said_at is k = (get_or is k nothing).said

unfoldable pub is_named : Said → Bool
is_named (name r w) = true
is_named (number n) = false

-- whether a name is said here
unfoldable pub says : Word → Said → Bool
says v (name r w) = same w v
says v (number n) = false

-- whether an item is a name that none before it says
unfoldable pub is_first : List Item → ℕ → Bool
is_first is k = is_named (said_at is k) && not (any k (λ j. says (word_in (said_at is k)) (said_at is j)))

-- a key of a word: any function of its bytes will do
unfoldable pub mixed : ℕ → Word → ℕ
mixed h [] = h
mixed h (b ∷ w) = mixed ((h * 31 + b) % key_count) w

-- what an item is linked by: the key of its name where that appears first, else a number that no other has
unfoldable pub key : List Item → ℕ → ℕ
key is k = cond (is_first is k) (mixed 0 (word_in (said_at is k))) (key_count + k)

-- an index of the first m items, of which no name has two kinds
pub record Indexed (is : List Item) (m : ℕ) (index : List ℕ) : Type 0 where
  pub size : length index ≡ index_size
  pub linked : LinkedBack unlinked key_count (key is) m (λ f. get_or index f 0) (λ k. get_or index (key_count + k) 0)
  pub kinds :
      (i j : ℕ) (r q : Role) (w : Word) → i < m → j < m → said_at is i ≡ name r w → said_at is j ≡ name q w → kind_of r ≡ kind_of q

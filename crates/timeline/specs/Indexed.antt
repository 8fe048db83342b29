-- Between crates: what an index of records says. Keys may be shared by others: the tests of a search decide, and an index only
-- says what to pass over.
use Rattle.std.specs.Prelude.{ℕ, ◌+◌, ◌≡◌, List, length, get_or}
use Rattle.laws.specs.Linked.{LinkedBack}

-- the keys of an index
abbrev pub key_count : ℕ
key_count = 512

-- the records that an index holds at most: a number of its own, since it may grow while the keys do not
abbrev pub capacity : ℕ
capacity = 512

-- an index: an entry a key, then one a record
abbrev pub index_size : ℕ
index_size = key_count + capacity

-- what stands for none in an index that grows
abbrev pub unlinked : ℕ
unlinked = 65535

-- an index of the first m records that grows: first the last of each key, then those before each record
pub record Growing (key : ℕ → ℕ) (m : ℕ) (index : List ℕ) : Type 0 where
  pub size : length index ≡ index_size
  pub linked : LinkedBack capacity key_count key m (λ f. get_or index f 0) (λ k. get_or index (key_count + k) 0)

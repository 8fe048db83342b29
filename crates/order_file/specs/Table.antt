-- The table of gaps as it is stored: one flat list, a row a step, each entry of an order so high that an entry of none needs no test to
-- demand nothing; and the list of starts beside it.
use Rattle.std.specs.Prelude.{ℕ, ◌+◌, ◌*◌, ◌-◌, ◌≤◌, ◌≡◌, List, length, get_or}
use Rattle.order_file.specs.Contents.{step_limit, gap_bias, most_gap}

-- the entries of a row, one for each step, and of the table
abbrev pub row_width : ℕ
row_width = step_limit

abbrev pub table_size : ℕ
table_size = row_width * row_width

-- what the entry of an order has more than the paper's gap
abbrev pub entry_bias : ℕ
entry_bias = 16777216

-- what it has more than the gap plus `gap_bias`; an entry of at most this is no order
abbrev pub table_bias : ℕ
table_bias = entry_bias - gap_bias

-- the highest entry of no order, the largest offset in a step: a row is raised by leads plus an offset, also where there is no lead
abbrev pub empty_limit : ℕ
empty_limit = 100000

-- a gap for no order
abbrev pub no_order : ℕ
no_order = 0

-- the gap plus `gap_bias` of an entry, `no_order` for none
abbrev pub gap_of_entry : ℕ → ℕ
gap_of_entry entry = entry - table_bias

-- that of entry q of the table
abbrev pub gap_at : List ℕ → ℕ → ℕ
gap_at gaps q = gap_of_entry (get_or gaps q 0)

-- that of the order from i to k
abbrev pub gap_in : List ℕ → ℕ → ℕ → ℕ
gap_in gaps i k = gap_at gaps (row_width * i + k)

-- the start of step k
abbrev pub start_in : List ℕ → ℕ → ℕ
start_in starts k = get_or starts k 0

-- a whole table, no gap too high, and no entry between those of no order and those of an order
pub record Gaps (gaps : List ℕ) : Type 0 where
  pub size : length gaps ≡ table_size
  pub most : (p : ℕ) → get_or gaps p 0 ≤ most_gap + table_bias
  pub low : (p : ℕ) → get_or gaps p 0 ≤ table_bias → get_or gaps p 0 ≤ empty_limit

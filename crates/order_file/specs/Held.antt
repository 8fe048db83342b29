-- The contents of an order file as lists hold them: starts by step, gaps by pair of steps, links by number.
use Rattle.std.specs.Prelude.{ℕ, ◌+◌, ◌*◌, ◌/◌, ◌%◌, ◌≤◌, ◌<◌, ◌≡◌, Bool, not, List, ◌++◌, length, drop, get_or, eqb}
use Rattle.little_endian.specs.Bytes.{u16_bytes}
use Rattle.std.proofs.lemmas.List.Edits.{sets}
use Rattle.laws.specs.Listed.{concatenate}
use Rattle.laws.specs.Nth.{count, nth}
use Rattle.order_file.specs.declared.write.Header.{Header}
use Rattle.order_file.specs.Contents.{Contents, step_limit, link_limit}
use Rattle.order_file.specs.Layout.{file_length}
use Rattle.order_file.specs.Encode.{window_with, order_with}
use Rattle.order_file.specs.Table.{row_width, table_size, no_order, gap_of_entry, gap_at, gap_in, start_in}

-- whether an entry of the table of gaps is an order
abbrev pub entered : List ℕ → ℕ → Bool
entered gaps q = not (eqb (gap_at gaps q) no_order)

-- a table without an order from or to step n or a later one
abbrev pub NoneBeyond : ℕ → List ℕ → Type 0
NoneBeyond n gaps = (i k : ℕ) → k < row_width → (i < n → k < n → ⊥) → gap_in gaps i k ≡ no_order

-- the contents that so many steps, links and rounds and the lists of them hold
unfoldable pub held_in : ℕ → ℕ → ℕ → List ℕ → List ℕ → List ℕ → List ℕ → List ℕ → Contents
held_in steps links rounds limits latest earliest gaps linked =
    record {
      steps = steps;
      orders = count table_size (entered gaps);
      links = links;
      rounds = rounds;
      limit = start_in limits;
      latest = start_in latest;
      earliest = start_in earliest;
      first = λ o. nth table_size (entered gaps) o / row_width;
      second = λ o. nth table_size (entered gaps) o % row_width;
      gap = λ o. gap_at gaps (nth table_size (entered gaps) o);
      link = λ j. get_or linked j 0;
    }

-- the bytes of a record of these lists
unfoldable pub window_in : List ℕ → List ℕ → List ℕ → ℕ → List ℕ
window_in limits latest earliest k = window_with (start_in limits k) (start_in latest k) (start_in earliest k)

unfoldable pub entry_bytes : ℕ → ℕ → List ℕ
entry_bytes q entry = order_with (q / row_width) (q % row_width) (gap_of_entry entry)

unfoldable pub order_in : List ℕ → ℕ → List ℕ
order_in gaps o = let q = nth table_size (entered gaps) o in entry_bytes q (get_or gaps q 0)

unfoldable pub link_in : List ℕ → ℕ → List ℕ
link_in linked j = u16_bytes (get_or linked j 0)

-- the orders among the first q entries of the table of gaps are put, from a place on, and the next one comes at another
pub record OrdersPut (gaps before : List ℕ) (from q at : ℕ) (bytes : List ℕ) : Type 0 where
  pub entries : q ≤ table_size
  pub place : at ≡ from + 8 * count q (entered gaps)
  pub put : bytes ≡ sets before from (concatenate (count q (entered gaps)) (order_in gaps))

-- there is room for all of them
pub record OrdersFit (gaps before : List ℕ) (from q at : ℕ) (bytes : List ℕ) : Type 0 where
  pub so_far : OrdersPut gaps before from q at bytes
  pub room : from + 8 * count table_size (entered gaps) ≤ length before

-- a file at the beginning of some bytes: the bytes past its end stay
abbrev pub over : List ℕ → List ℕ → List ℕ
over file buffer = file ++ drop (length file) buffer

-- lists that are long enough for their contents, and bytes that are long enough for the file
pub record Roomy (header : Header) (limits latest earliest gaps linked out : List ℕ) : Type 0 where
  pub step_count : header.steps ≤ step_limit
  pub link_count : header.links ≤ link_limit
  pub order_count : header.orders ≡ count table_size (entered gaps)
  pub limit_count : header.steps ≤ length limits
  pub latest_count : header.steps ≤ length latest
  pub earliest_count : header.steps ≤ length earliest
  pub gap_count : length gaps ≡ table_size
  pub gap_rows : NoneBeyond header.steps gaps
  pub linked_count : header.links ≤ length linked
  pub file_fits : file_length header.steps header.orders header.links ≤ length out

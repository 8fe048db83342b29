-- What the reader and the alike test answer, and the paper's number, place and values of each answer.
use Rattle.std.specs.Prelude.{ℕ, ◌≡◌, Bool, false, cond, ◌&&◌, List, [], ◌∷◌, ltb, eqb, ℤ, pos, Result, Ok, Err}
use Rattle.verdict.specs.Verdict.{nowhere}
use Rattle.little_endian.specs.Bytes.{u16_at, u32_at}
use Rattle.order_file.specs.Contents.{Contents, signed_gap}
use Rattle.order_file.specs.Layout.{contents_of}
use Rattle.order_check.specs.WellFormed.{well_formed}
use Rattle.order_answers.specs.Alike.{alike_contents}
use Rattle.order_answers.specs.declared.Header.{Header}
use Rattle.order_answers.specs.declared.Record.{Record}
use Rattle.order_answers.specs.declared.Record.TheVariants as recorded
use Rattle.order_answers.specs.declared.NotAnOrderFile.{NotAnOrderFile}
use Rattle.order_answers.specs.declared.BrokenFile.{BrokenFile}
use Rattle.order_answers.specs.declared.BrokenFile.TheVariants.{First, Second}
use Rattle.order_answers.specs.declared.tables.OrderTable.{OrderTable}
use Rattle.order_answers.specs.declared.tables.OrderTable.TheVariants.{Windows, Orders, Links}

-- the refusal of a file that is no order file, or of a record that is not there
abbrev pub no_order_file : ℕ
no_order_file = 16

-- the answer about bytes that are no order file, or about a record that is not there
abbrev pub broken : {A : Type 0} → Result A NotAnOrderFile
broken = Err (record {})

-- the header's numbers as they stand in the file
unfoldable pub header_of : List ℕ → Header
header_of b =
    record {
      edition = u16_at b 0;
      steps = u16_at b 2;
      orders = u16_at b 4;
      links = u16_at b 6;
      rounds = u32_at b 8;
      windows_at = u32_at b 12;
      orders_at = u32_at b 16;
      links_at = u32_at b 20;
    }

-- the reader's answer about the header: "The order file", the sentence on the reader
unfoldable pub header_read : List ℕ → Result Header NotAnOrderFile
header_read b = cond (well_formed b) (Ok (header_of b)) broken

-- refusal 16, place 0, of a broken file; every other number is then 0
abbrev pub header_number : Result Header NotAnOrderFile → ℕ
header_number (Ok header) = 0
header_number (Err refusal) = no_order_file

abbrev pub header_place : Result Header NotAnOrderFile → ℕ
header_place (Ok header) = nowhere
header_place (Err refusal) = 0

-- a header's numbers, in the file's order
abbrev pub numbers_of : Header → List ℕ
numbers_of h = h.edition ∷ h.steps ∷ h.orders ∷ h.links ∷ h.rounds ∷ h.windows_at ∷ h.orders_at ∷ h.links_at ∷ []

abbrev pub header_values : Result Header NotAnOrderFile → List ℕ
header_values (Ok header) = numbers_of header
header_values (Err refusal) = 0 ∷ 0 ∷ 0 ∷ 0 ∷ 0 ∷ 0 ∷ 0 ∷ 0 ∷ []

-- the number of each table
abbrev pub table_number : OrderTable → ℕ
table_number Windows = 0
table_number Orders = 1
table_number Links = 2

-- how many records a table has: 0 windows, 1 orders, 2 links, and no other table
unfoldable pub record_count : Contents → ℕ → ℕ
record_count c table =
    cond (eqb table 0) c.steps (cond (eqb table 1) c.orders (cond (eqb table 2) c.links 0))

-- the record of a table and a number
unfoldable pub record_of : Contents → ℕ → ℕ → Record
record_of c table k =
    cond (eqb table 0) (recorded.Window (c.limit k) (c.latest k) (c.earliest k))
    (cond (eqb table 1) (recorded.Order (c.first k) (c.second k) (signed_gap (c.gap k))) (recorded.Link (c.link k)))

-- whether the record named to the reader is there: refusal 16, last clause
unfoldable pub record_there : List ℕ → ℕ → ℕ → Bool
record_there b table k = well_formed b && ltb k (record_count (contents_of b) table)

-- the reader's answer about one record: the same sentence
unfoldable pub record_read : List ℕ → ℕ → ℕ → Result Record NotAnOrderFile
record_read b table k = cond (record_there b table k) (Ok (record_of (contents_of b) table k)) broken

-- refusal 16, place 0, of a broken file or a record that is not there; every other number is then 0
abbrev pub record_number : Result Record NotAnOrderFile → ℕ
record_number (Ok found) = 0
record_number (Err refusal) = no_order_file

abbrev pub record_place : Result Record NotAnOrderFile → ℕ
record_place (Ok found) = nowhere
record_place (Err refusal) = 0

abbrev pub record_values : Result Record NotAnOrderFile → List ℤ
record_values (Ok (recorded.Window limit latest earliest)) = pos limit ∷ pos latest ∷ pos earliest ∷ []
record_values (Ok (recorded.Order first second gap)) = pos first ∷ pos second ∷ gap ∷ []
record_values (Ok (recorded.Link link)) = pos link ∷ pos 0 ∷ pos 0 ∷ []
record_values (Err refusal) = pos 0 ∷ pos 0 ∷ pos 0 ∷ []

-- the alike test's answer: of two broken files the first is named
unfoldable pub alike_answer : List ℕ → List ℕ → Result Bool BrokenFile
alike_answer a b =
    cond (well_formed a) (cond (well_formed b) (Ok (alike_contents (contents_of a) (contents_of b))) (Err Second)) (Err First)

-- refusal 16 with the broken file's place; yes or no is then no
abbrev pub alike_number : Result Bool BrokenFile → ℕ
alike_number (Ok same) = 0
alike_number (Err file) = no_order_file

abbrev pub broken_place : BrokenFile → ℕ
broken_place First = 0
broken_place Second = 1

abbrev pub alike_place : Result Bool BrokenFile → ℕ
alike_place (Ok same) = nowhere
alike_place (Err file) = broken_place file

abbrev pub alike_yes : Result Bool BrokenFile → Bool
alike_yes (Ok same) = same
alike_yes (Err file) = false

-- What each entry point promises: its answer, and the paper's number, place and values of that.
pub record HeaderPromise (b : List ℕ) (r : Result Header NotAnOrderFile) : Type 0 where
  pub answer : r ≡ header_read b
  pub number : header_number r ≡ cond (well_formed b) 0 no_order_file
  pub place : header_place r ≡ cond (well_formed b) nowhere 0
  pub values : header_values r ≡ cond (well_formed b) (header_values (Ok (header_of b))) (header_values broken)

pub record RecordPromise (b : List ℕ) (table k : ℕ) (r : Result Record NotAnOrderFile) : Type 0 where
  pub answer : r ≡ record_read b table k
  pub number : record_number r ≡ cond (record_there b table k) 0 no_order_file
  pub place : record_place r ≡ cond (record_there b table k) nowhere 0
  pub values :
      record_values r ≡ cond (record_there b table k) (record_values (Ok (record_of (contents_of b) table k))) (record_values broken)

pub record AlikePromise (a b : List ℕ) (r : Result Bool BrokenFile) : Type 0 where
  pub answer : r ≡ alike_answer a b
  pub number : alike_number r ≡ cond (well_formed a && well_formed b) 0 no_order_file
  pub place : alike_place r ≡ cond (well_formed a) (cond (well_formed b) nowhere 1) 0
  pub yes : alike_yes r ≡ (well_formed a && well_formed b && alike_contents (contents_of a) (contents_of b))

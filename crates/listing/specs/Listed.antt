-- The numbers that the readers of order files put into a lent list, and the list afterwards.
use Rattle.std.specs.Prelude.{ℕ, suc, ◌-◌, cond, List, [], ◌++◌, map, eqb, ℤ, pos, negsuc, length, take, drop, Result, Ok, Err}
use Rattle.little_endian.specs.Bytes.{u32_values}
use Rattle.order_answers.specs.declared.Header.{Header}
use Rattle.order_answers.specs.declared.NotAnOrderFile.{NotAnOrderFile}
use Rattle.order_answers.specs.Answers.{header_number, header_values, record_values}
use Rattle.order_answers.specs.declared.Record.{Record}
use Rattle.order_answers.specs.declared.Record.TheVariants as recorded

-- the numbers cut to the list's length, followed by the rest of the list
unfoldable pub filled : List ℕ → List ℕ → List ℕ
filled list numbers = take (length list) numbers ++ drop (length numbers) list

-- the 32 bits of an i32, read without a sign
abbrev pub bits : ℤ → ℕ
bits (pos n) = n
bits (negsuc n) = u32_values - suc n

-- a header's numbers; none after a refusal
abbrev pub header_list : Result Header NotAnOrderFile → List ℕ
header_list a = cond (eqb (header_number a) 0) (header_values a) []

-- how many numbers a record has; none after a refusal
abbrev pub record_size : Result Record NotAnOrderFile → ℕ
record_size (Ok (recorded.Window limit latest earliest)) = 3
record_size (Ok (recorded.Order first second gap)) = 3
record_size (Ok (recorded.Link link)) = 1
record_size (Err refusal) = 0

-- a record's numbers
abbrev pub record_list : Result Record NotAnOrderFile → List ℕ
record_list a = take (record_size a) (map bits (record_values a))

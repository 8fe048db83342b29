-- The text that `show` prints: "A small job, and edges". Bytes are ASCII codes, and every line ends with a newline.
use Rattle.std.specs.Prelude.{ℕ, suc, ◌+◌, ◌*◌, cond, List, [], ◌∷◌, ◌++◌, eqb, ℤ, pos, negsuc}
use Rattle.laws.specs.Listed.{concatenate}
use Rattle.order_file.specs.Contents.{Contents, no_latest, signed_gap}
use Rattle.text.specs.Decimal.{decimal, field}

-- `steps `
abbrev pub steps_word : List ℕ
steps_word = 115 ∷ 116 ∷ 101 ∷ 112 ∷ 115 ∷ 32 ∷ []

-- ` rounds `
abbrev pub rounds_word : List ℕ
rounds_word = 32 ∷ 114 ∷ 111 ∷ 117 ∷ 110 ∷ 100 ∷ 115 ∷ 32 ∷ []

-- `step `
abbrev pub step_word : List ℕ
step_word = 115 ∷ 116 ∷ 101 ∷ 112 ∷ 32 ∷ []

-- ` earliest `
abbrev pub earliest_word : List ℕ
earliest_word = 32 ∷ 101 ∷ 97 ∷ 114 ∷ 108 ∷ 105 ∷ 101 ∷ 115 ∷ 116 ∷ 32 ∷ []

-- ` latest `
abbrev pub latest_word : List ℕ
latest_word = 32 ∷ 108 ∷ 97 ∷ 116 ∷ 101 ∷ 115 ∷ 116 ∷ 32 ∷ []

-- `none`
abbrev pub none_word : List ℕ
none_word = 110 ∷ 111 ∷ 110 ∷ 101 ∷ []

-- `order `
abbrev pub order_word : List ℕ
order_word = 111 ∷ 114 ∷ 100 ∷ 101 ∷ 114 ∷ 32 ∷ []

-- `refused `
abbrev pub refused_word : List ℕ
refused_word = 114 ∷ 101 ∷ 102 ∷ 117 ∷ 115 ∷ 101 ∷ 100 ∷ 32 ∷ []

-- ` place `
abbrev pub place_word : List ℕ
place_word = 32 ∷ 112 ∷ 108 ∷ 97 ∷ 99 ∷ 101 ∷ 32 ∷ []

-- `serial mark ignored` and a newline
abbrev pub ignored_line : List ℕ
ignored_line =
    115 ∷ 101 ∷ 114 ∷ 105 ∷ 97 ∷ 108 ∷ 32 ∷ 109 ∷ 97 ∷ 114 ∷ 107 ∷ 32 ∷ 105 ∷ 103 ∷ 110 ∷ 111 ∷ 114 ∷ 101 ∷ 100 ∷ 10 ∷ []

-- a space, a minus sign, a newline
abbrev pub space : List ℕ
space = 32 ∷ []

abbrev pub minus_sign : List ℕ
minus_sign = 45 ∷ []

abbrev pub newline : List ℕ
newline = 10 ∷ []

-- a number with its sign: a minus sign and the amount where it is negative
abbrev pub signed : ℤ → List ℕ
signed (pos n) = decimal n
signed (negsuc n) = minus_sign ++ decimal (suc n)

-- the gap of an order, of the gap plus `gap_bias`
unfoldable pub gap_text : ℕ → List ℕ
gap_text gap = signed (signed_gap gap)

-- a latest start, or `none`
unfoldable pub latest_text : ℕ → List ℕ
latest_text latest = cond (eqb latest no_latest) none_word (decimal latest)

-- `steps N rounds R`
unfoldable pub head_line : Contents → List ℕ
head_line c = field steps_word c.steps ++ field rounds_word c.rounds ++ newline

-- `step K earliest E latest L`
unfoldable pub window_line : Contents → ℕ → List ℕ
window_line c k =
    field step_word k ++ field earliest_word (c.earliest k) ++ latest_word ++ latest_text (c.latest k) ++ newline

-- `order F S G`
unfoldable pub order_line : Contents → ℕ → List ℕ
order_line c k =
    field order_word (c.first k) ++ field space (c.second k) ++ space ++ gap_text (c.gap k) ++ newline

-- the header, then the windows, then the orders
unfoldable pub sheet_text : Contents → List ℕ
sheet_text c = head_line c ++ concatenate c.steps (window_line c) ++ concatenate c.orders (order_line c)

-- a refusal: `refused N place P`
unfoldable pub refused_text : ℕ → ℕ → List ℕ
refused_text number place = field refused_word number ++ field place_word place ++ newline

-- the most bytes of each line, where every number is a u32 or, in a refusal, a u16
abbrev pub head_most : ℕ
head_most = 35

abbrev pub window_most : ℕ
window_most = 54

abbrev pub order_most : ℕ
order_most = 40

abbrev pub refused_most : ℕ
refused_most = 36

abbrev pub ignored_most : ℕ
ignored_most = 20

-- the most bytes of the text of a file with as many steps and orders
abbrev pub sheet_most : ℕ → ℕ → ℕ
sheet_most steps orders = head_most + window_most * steps + order_most * orders

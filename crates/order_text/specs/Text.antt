-- The text of an order file: its header, windows, orders and links, a line each. Bytes are ASCII codes, and every line ends with a newline.
use Rattle.std.specs.Prelude.{ℕ, ◌+◌, ◌*◌, ◌-◌, cond, List, ◌++◌, ltb, eqb}
use Rattle.laws.specs.Listed.{concatenate}
use Rattle.spelling.specs.Keywords.{codes}
use Rattle.job.specs.Layout.{most_effects}
use Rattle.order_file.specs.Contents.{Contents, step_limit, order_limit, link_limit, initial_state}
use Rattle.order_file.specs.Layout.{contents_of}
use Rattle.order_check.specs.WellFormed.{well_formed}
use Rattle.order_answers.specs.Answers.{no_order_file}
use Rattle.text.specs.Decimal.{field}
use Rattle.sheet.specs.Text.{latest_text, order_line, refused_text, order_most}

-- `steps S orders O links L rounds R`
unfoldable pub head_line : Contents → List ℕ
head_line c =
    field (codes "steps ") c.steps ++ field (codes " orders ") c.orders ++ field (codes " links ") c.links
    ++ field (codes " rounds ") c.rounds ++ codes "\n"

-- the times of a window: ` limit A latest B earliest C`, where B is `none` if there is none
unfoldable pub times_text : Contents → ℕ → List ℕ
times_text c k =
    field (codes " limit ") (c.limit k) ++ codes " latest " ++ latest_text (c.latest k) ++ field (codes " earliest ") (c.earliest k)

-- `step K` and the times of its window
unfoldable pub window_line : Contents → ℕ → List ℕ
window_line c k = field (codes "step ") k ++ times_text c k ++ codes "\n"

-- what a link leads to: ` initial state`, ` effect E`, or ` timed fact T` of 512 plus T
unfoldable pub target_text : ℕ → List ℕ
target_text link =
    cond (eqb link initial_state) (codes " initial state")
    (cond (ltb link most_effects) (field (codes " effect ") link) (field (codes " timed fact ") (link - most_effects)))

-- `link K` and what it leads to
unfoldable pub link_line : Contents → ℕ → List ℕ
link_line c k = field (codes "link ") k ++ target_text (c.link k) ++ codes "\n"

-- the header, then the windows, the orders, each as in the sheet, and the links
unfoldable pub file_text : Contents → List ℕ
file_text c =
    head_line c ++ concatenate c.steps (window_line c) ++ concatenate c.orders (order_line c)
    ++ concatenate c.links (link_line c)

-- that of the bytes of an order file, and of any others the refusal
unfoldable pub order_text : List ℕ → List ℕ
order_text b = cond (well_formed b) (file_text (contents_of b)) (refused_text no_order_file 0)

-- the most bytes of each line and its parts, where every number is a u32
abbrev pub head_most : ℕ
head_most = 70

abbrev pub times_most : ℕ
times_most = 55

abbrev pub window_most : ℕ
window_most = 71

abbrev pub target_most : ℕ
target_most = 22

abbrev pub link_most : ℕ
link_most = 38

-- the most bytes of the text of a file with as many steps, orders and links
abbrev pub file_most : ℕ → ℕ → ℕ → ℕ
file_most steps orders links = head_most + window_most * steps + order_most * orders + link_most * links

-- the most bytes of all
abbrev pub text_most : ℕ
text_most = file_most step_limit order_limit link_limit

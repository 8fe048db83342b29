-- When bytes are an order file: each clause of refusal 16, in the paper's order.
use Rattle.std.specs.Prelude.{ℕ, ◌+◌, ◌-◌, Bool, ◌&&◌, ◌||◌, not, List, length, ltb, leb, eqb}
use Rattle.laws.specs.Search.{all}
use Rattle.little_endian.specs.Bytes.{u16_at, u32_at}
use Rattle.order_file.specs.Contents.{Contents, step_limit, order_limit, link_limit, least_gap, most_gap, last_link, initial_state}
use Rattle.order_file.specs.Layout.{file_edition, windows_at, orders_at, links_at, file_length, contents_of}

-- its layout: the edition, and the offsets of tables without gaps
unfoldable pub layout_holds : List ℕ → Bool
layout_holds b =
    let c = contents_of b in
    eqb (u16_at b 0) file_edition
    && eqb (u32_at b 12) windows_at
    && eqb (u32_at b 16) (orders_at c.steps)
    && eqb (u32_at b 20) (links_at c.steps c.orders)

-- neither longer nor shorter than its tables
unfoldable pub length_holds : List ℕ → Bool
length_holds b = let c = contents_of b in eqb (length b) (file_length c.steps c.orders c.links)

-- no count too high
unfoldable pub counts_hold : Contents → Bool
counts_hold c = leb c.steps step_limit && leb c.orders order_limit && leb c.links link_limit

-- an order: its steps counted, first not equal to second, the gap in its range
unfoldable pub order_holds : Contents → ℕ → Bool
order_holds c k =
    ltb (c.first k) c.steps
    && ltb (c.second k) c.steps
    && not (eqb (c.first k) (c.second k))
    && leb least_gap (c.gap k)
    && leb (c.gap k) most_gap

-- an order and the next one: ascending by first, then second, and no pair twice
unfoldable pub ascends : Contents → ℕ → Bool
ascends c k =
    ltb (c.first k) (c.first (k + 1)) || (eqb (c.first k) (c.first (k + 1)) && ltb (c.second k) (c.second (k + 1)))

-- a link: an effect, a timed fact, or the initial state
unfoldable pub link_holds : Contents → ℕ → Bool
link_holds c k = leb (c.link k) last_link || eqb (c.link k) initial_state

-- rounds: at most the steps
unfoldable pub rounds_hold : Contents → Bool
rounds_hold c = leb c.rounds c.steps

-- a window: the earliest time at least its limit and at most its latest start
unfoldable pub window_holds : Contents → ℕ → Bool
window_holds c k = leb (c.limit k) (c.earliest k) && leb (c.earliest k) (c.latest k)

-- refusal 16: all of it
unfoldable pub well_formed : List ℕ → Bool
well_formed b =
    let c = contents_of b in
    layout_holds b
    && length_holds b
    && counts_hold c
    && all c.orders (order_holds c)
    && all (c.orders - 1) (ascends c)
    && all c.links (link_holds c)
    && rounds_hold c
    && all c.steps (window_holds c)

-- What is encoded reads back: every count, and every field of every record.
use Prim.Native.Nat.{ℕ, ◌+◌, ◌*◌, ◌/◌, ◌%◌, ◌≤◌, ◌<◌}
use mathlib.Core.Path.{◌≡◌, sym, ap, ap₂, ◌∙◌}
use mathlib.Core.List.{List}
use mathlib.Core.Logic.{⊎_elim}
use native.Mathlib.Nat.{zero-add, add-zero}
use native.Mathlib.Omega.{arith}
use lib.ListN.{length, get_or}
use Rattle.laws.specs.Listed.{concatenate}
use Rattle.little_endian.specs.Bytes.{u16_values, u32_values, u16_at, u32_at, biased_at, u16_bytes, u32_bytes}
use Rattle.little_endian.proofs.Stands.{Stands, stands_behind, stands_longer, stands_within, stands_part, length_parts, stands_u16, stands_u32}
use Rattle.order_file.specs.Contents.{Contents, last_link, initial_state}
use Rattle.order_file.specs.Layout.{windows_at, window_at, orders_at, order_at, links_at, link_at, gap_read, contents_of}
use Rattle.order_file.specs.Encode.{header_bytes, window_bytes, order_bytes, link_bytes, gap_bits, up_to_window, up_to_order, up_to_link, encode}
use Rattle.order_file.specs.Within.{Within}
use Rattle.order_file.specs.Agree.{Agree}
use Rattle.order_file.proofs.Encode.{length_header, length_window, length_order, length_link, length_up_to_window, length_up_to_order}

-- the bytes of a number give the number
u16_back : (n : ℕ) → n < u16_values → n % 256 + 256 * (n / 256 % 256) ≡ n
u16_back n h = omega arith

u32_back : (n : ℕ) → n < u32_values → n % 256 + 256 * (n / 256 % 256) + 65536 * (n / 65536 % 256 + 256 * (n / 65536 / 256 % 256)) ≡ n
u32_back n h = omega arith

module _ (c : Contents) where
  -- what stands before the links, or before the orders, stands in the file
  before_links :
      (part : List ℕ) (at : ℕ) → Stands (up_to_order c c.orders) at part → at + length part ≤ order_at c.steps c.orders
      → Stands (encode c) at part
  unfolding up_to_link
  before_links part at p h =
      stands_longer (up_to_order c c.orders) (concatenate c.links (link_bytes c)) part at p
      (omega (arith, length_up_to_order c c.orders))

  before_orders :
      (part : List ℕ) (at : ℕ) → Stands (up_to_window c c.steps) at part → at + length part ≤ window_at c.steps → Stands (encode c) at part
  unfolding up_to_order
  before_orders part at p h =
      before_links part at
      (stands_longer (up_to_window c c.steps) (concatenate c.orders (order_bytes c)) part at p
      (omega (arith, length_up_to_window c c.steps)))
      (omega arith)

  -- the header and each record stand at their positions
  header_stands : Stands (encode c) 0 (header_bytes c)
  unfolding up_to_window
  header_stands =
      before_orders (header_bytes c) 0
      (stands_longer (header_bytes c) (concatenate c.steps (window_bytes c)) (header_bytes c) 0
      (λ j _. ap (λ k. get_or (header_bytes c) k 0) (zero-add j))
      (omega arith))
      (omega (arith, length_header c))

  window_stands : (k : ℕ) → k < c.steps → Stands (encode c) (window_at k) (window_bytes c k)
  unfolding up_to_window
  window_stands k h =
      before_orders (window_bytes c k) (window_at k)
      (stands_within (up_to_window c c.steps) (concatenate c.steps (window_bytes c)) (window_bytes c k) 24 (12 * k)
      (stands_behind (header_bytes c) (concatenate c.steps (window_bytes c)) 24 (length_header c))
      (stands_part (window_bytes c) 12 (length_window c) c.steps k h)
      (omega (arith, length_window c k, length_parts (window_bytes c) 12 (length_window c) c.steps)))
      (omega (arith, length_window c k))

  order_stands : (k : ℕ) → k < c.orders → Stands (encode c) (order_at c.steps k) (order_bytes c k)
  unfolding up_to_order
  order_stands k h =
      before_links (order_bytes c k) (order_at c.steps k)
      (stands_within (up_to_order c c.orders) (concatenate c.orders (order_bytes c)) (order_bytes c k) (window_at c.steps) (8 * k)
      (stands_behind (up_to_window c c.steps) (concatenate c.orders (order_bytes c)) (window_at c.steps) (length_up_to_window c c.steps))
      (stands_part (order_bytes c) 8 (length_order c) c.orders k h)
      (omega (arith, length_order c k, length_parts (order_bytes c) 8 (length_order c) c.orders)))
      (omega (arith, length_order c k))

  link_stands : (k : ℕ) → k < c.links → Stands (encode c) (link_at c.steps c.orders k) (link_bytes c k)
  unfolding up_to_link
  link_stands k h =
      stands_within (encode c) (concatenate c.links (link_bytes c)) (link_bytes c k) (order_at c.steps c.orders) (2 * k)
      (stands_behind (up_to_order c c.orders) (concatenate c.links (link_bytes c)) (order_at c.steps c.orders) (length_up_to_order c c.orders))
      (stands_part (link_bytes c) 2 (length_link c) c.links k h)
      (omega (arith, length_link c k, length_parts (link_bytes c) 2 (length_link c) c.links))

  -- the numbers in a header, in a record
  header_u16 : (i : ℕ) → i + 1 < 24 → u16_at (encode c) (0 + i) ≡ u16_at (header_bytes c) i
  header_u16 i h = stands_u16 (encode c) 0 (header_bytes c) header_stands i (omega (arith, length_header c))

  header_u32 : (i : ℕ) → i + 3 < 24 → u32_at (encode c) (0 + i) ≡ u32_at (header_bytes c) i
  header_u32 i h = stands_u32 (encode c) 0 (header_bytes c) header_stands i (omega (arith, length_header c))

  window_u32 : (k : ℕ) → k < c.steps → (i : ℕ) → i + 3 < 12 → u32_at (encode c) (window_at k + i) ≡ u32_at (window_bytes c k) i
  window_u32 k h i l = stands_u32 (encode c) (window_at k) (window_bytes c k) (window_stands k h) i (omega (arith, length_window c k))

  order_u16 : (k : ℕ) → k < c.orders → (i : ℕ) → i + 1 < 8 → u16_at (encode c) (order_at c.steps k + i) ≡ u16_at (order_bytes c k) i
  order_u16 k h i l = stands_u16 (encode c) (order_at c.steps k) (order_bytes c k) (order_stands k h) i (omega (arith, length_order c k))

  order_u32 : (k : ℕ) → k < c.orders → u32_at (encode c) (order_at c.steps k + 4) ≡ u32_at (order_bytes c k) 4
  order_u32 k h = stands_u32 (encode c) (order_at c.steps k) (order_bytes c k) (order_stands k h) 4 (omega (arith, length_order c k))

  link_u16 : (k : ℕ) → k < c.links → u16_at (encode c) (link_at c.steps c.orders k + 0) ≡ u16_at (link_bytes c k) 0
  link_u16 k h = stands_u16 (encode c) (link_at c.steps c.orders k) (link_bytes c k) (link_stands k h) 0 (omega (arith, length_link c k))

  -- each number's own bytes
  limit_bytes : (k : ℕ) → c.limit k < u32_values → u32_at (window_bytes c k) 0 ≡ c.limit k
  unfolding window_bytes u32_bytes u16_bytes u32_at u16_at
  limit_bytes k h = u32_back (c.limit k) h

  latest_bytes : (k : ℕ) → c.latest k < u32_values → u32_at (window_bytes c k) 4 ≡ c.latest k
  unfolding window_bytes u32_bytes u16_bytes u32_at u16_at
  latest_bytes k h = u32_back (c.latest k) h

  earliest_bytes : (k : ℕ) → c.earliest k < u32_values → u32_at (window_bytes c k) 8 ≡ c.earliest k
  unfolding window_bytes u32_bytes u16_bytes u32_at u16_at
  earliest_bytes k h = u32_back (c.earliest k) h

  first_bytes : (k : ℕ) → c.first k < u16_values → u16_at (order_bytes c k) 0 ≡ c.first k
  unfolding order_bytes u16_bytes u16_at
  first_bytes k h = u16_back (c.first k) h

  second_bytes : (k : ℕ) → c.second k < u16_values → u16_at (order_bytes c k) 2 ≡ c.second k
  unfolding order_bytes u16_bytes u16_at
  second_bytes k h = u16_back (c.second k) h

  gap_bytes : (k : ℕ) → u32_at (order_bytes c k) 4 ≡ gap_bits (c.gap k)
  unfolding order_bytes u32_bytes u16_bytes u32_at u16_at
  gap_bytes k = u32_back (gap_bits (c.gap k)) (omega arith)

  link_bytes_lem : (k : ℕ) → c.link k < u16_values → u16_at (link_bytes c k) 0 ≡ c.link k
  unfolding link_bytes u16_bytes u16_at
  link_bytes_lem k h = u16_back (c.link k) h

  module _ (w : Within c) where
    -- the header's numbers
    pub edition_back : u16_at (encode c) 0 ≡ 1
    unfolding header_bytes u32_bytes u16_bytes u16_at
    edition_back = header_u16 0 (omega arith)

    pub steps_back : u16_at (encode c) 2 ≡ c.steps
    unfolding header_bytes u32_bytes u16_bytes u16_at
    steps_back = header_u16 2 (omega arith) ∙ u16_back c.steps (omega (arith, w.steps))

    pub orders_back : u16_at (encode c) 4 ≡ c.orders
    unfolding header_bytes u32_bytes u16_bytes u16_at
    orders_back = header_u16 4 (omega arith) ∙ u16_back c.orders (omega (arith, w.orders))

    pub links_back : u16_at (encode c) 6 ≡ c.links
    unfolding header_bytes u32_bytes u16_bytes u16_at
    links_back = header_u16 6 (omega arith) ∙ u16_back c.links (omega (arith, w.links))

    pub rounds_back : u32_at (encode c) 8 ≡ c.rounds
    unfolding header_bytes u32_bytes u16_bytes u32_at u16_at
    rounds_back = header_u32 8 (omega arith) ∙ u32_back c.rounds (omega (arith, w.rounds, w.steps))

    pub windows_at_back : u32_at (encode c) 12 ≡ windows_at
    unfolding header_bytes u32_bytes u16_bytes u32_at u16_at
    windows_at_back = header_u32 12 (omega arith)

    pub orders_at_back : u32_at (encode c) 16 ≡ orders_at c.steps
    unfolding header_bytes u32_bytes u16_bytes u32_at u16_at
    orders_at_back = header_u32 16 (omega arith) ∙ u32_back (orders_at c.steps) (omega (arith, w.steps))

    pub links_at_back : u32_at (encode c) 20 ≡ links_at c.steps c.orders
    unfolding header_bytes u32_bytes u16_bytes u32_at u16_at
    links_at_back =
        header_u32 20 (omega arith) ∙ u32_back (links_at c.steps c.orders) (omega (arith, w.steps, w.orders))

    -- the records' fields
    limit_back : (k : ℕ) → k < c.steps → u32_at (encode c) (window_at k) ≡ c.limit k
    limit_back k h =
        ap (u32_at (encode c)) (sym (add-zero (window_at k)))
        ∙ window_u32 k h 0 (omega arith)
        ∙ limit_bytes k (omega (arith, w.from_limit k h, w.by_latest k h, w.latest_most k h))

    latest_back : (k : ℕ) → k < c.steps → u32_at (encode c) (window_at k + 4) ≡ c.latest k
    latest_back k h = window_u32 k h 4 (omega arith) ∙ latest_bytes k (omega (arith, w.latest_most k h))

    earliest_back : (k : ℕ) → k < c.steps → u32_at (encode c) (window_at k + 8) ≡ c.earliest k
    earliest_back k h = window_u32 k h 8 (omega arith) ∙ earliest_bytes k (omega (arith, w.by_latest k h, w.latest_most k h))

    first_back : (k : ℕ) → k < c.orders → u16_at (encode c) (order_at c.steps k) ≡ c.first k
    first_back k h =
        ap (u16_at (encode c)) (sym (add-zero (order_at c.steps k)))
        ∙ order_u16 k h 0 (omega arith)
        ∙ first_bytes k (omega (arith, w.first_counted k h, w.steps))

    second_back : (k : ℕ) → k < c.orders → u16_at (encode c) (order_at c.steps k + 2) ≡ c.second k
    second_back k h = order_u16 k h 2 (omega arith) ∙ second_bytes k (omega (arith, w.second_counted k h, w.steps))

    gap_back : (k : ℕ) → k < c.orders → gap_read (biased_at (encode c) (order_at c.steps k + 4)) ≡ c.gap k
    unfolding biased_at
    gap_back k h =
        let e : u32_at (encode c) (order_at c.steps k + 4) ≡ gap_bits (c.gap k) = order_u32 k h ∙ gap_bytes k in
        omega (arith, e, w.gap_least k h, w.gap_most k h)

    link_back : (k : ℕ) → k < c.links → u16_at (encode c) (link_at c.steps c.orders k) ≡ c.link k
    link_back k h =
        ap (u16_at (encode c)) (sym (add-zero (link_at c.steps c.orders k)))
        ∙ link_u16 k h
        ∙ link_bytes_lem k
        (⊎_elim (λ (l : c.link k ≤ last_link). omega arith) (λ (q : c.link k ≡ initial_state). omega arith) (w.linked k h))

    -- what is encoded reads back
    pub round_trip : Agree (contents_of (encode c)) c
    unfolding contents_of
    round_trip =
        record {
          steps = steps_back;
          orders = orders_back;
          links = links_back;
          rounds = rounds_back;
          limit = limit_back;
          latest = latest_back;
          earliest = earliest_back;
          first = λ k h. ap (λ n. u16_at (encode c) (order_at n k)) steps_back ∙ first_back k h;
          second = λ k h. ap (λ n. u16_at (encode c) (order_at n k + 2)) steps_back ∙ second_back k h;
          gap = λ k h. ap (λ n. gap_read (biased_at (encode c) (order_at n k + 4))) steps_back ∙ gap_back k h;
          link = λ k h. ap₂ (λ m n. u16_at (encode c) (link_at m n k)) steps_back orders_back ∙ link_back k h;
        }

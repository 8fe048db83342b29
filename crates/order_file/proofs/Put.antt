-- Bytes put one part behind the other: two parts, three, the header's numbers, one more record of a table.
use Prim.Native.Nat.{ℕ, zero, suc, ◌+◌, ◌*◌, ◌-◌, ◌/◌, ◌%◌, ◌≤◌, ◌<◌}
use mathlib.Core.Path.{◌≡◌, refl, sym, ap, ◌∙◌}
use mathlib.Core.Bool.{Bool, true, false, cond, not}
use mathlib.Core.List.{List, ◌++◌}
use native.Mathlib.Decide.{dec_le}
use native.Mathlib.Omega.{arith}
use borrow.Author.Tests.{eq-eqb, ne_eqb}
use lib.ListN.{length, get_or, length-append}
use lib.Seq.{sets, length-sets}
use Rattle.laws.specs.Listed.{concatenate}
use Rattle.little_endian.specs.Bytes.{u32_values, u16_bytes, u32_bytes}
use Rattle.laws.specs.Nth.{count}
use Rattle.laws.proofs.Listed.{concatenate_more}
use Rattle.laws.proofs.Nth.{count_more, count_same, count_below, nth_is}
use Rattle.little_endian.proofs.Sets.{sets_behind}
use Rattle.little_endian.proofs.Stands.{length_parts}
use Rattle.order_file.specs.Contents.{gap_bias}
use Rattle.order_file.specs.Encode.{header_with, window_with, gap_bits}
use Rattle.order_file.specs.Layout.{file_edition, windows_at, orders_at, links_at}
use Rattle.order_file.specs.Table.{row_width, table_size, entry_bias, table_bias, no_order, gap_of_entry, gap_at, start_in}
use Rattle.order_file.specs.Held.{entered, window_in, entry_bytes, order_in, link_in, NoneBeyond, OrdersPut}

-- three parts, each where the one before it ends
pub put_three :
    (l a b c : List ℕ) (at next last : ℕ) → at + length a ≡ next → next + length b ≡ last
    → sets (sets (sets l at a) next b) last c ≡ sets l at (a ++ b ++ c)
put_three l a b c at next last e f =
    sym
    (sets_behind l (a ++ b) c at last (omega (arith, length-append a b))
    ∙ ap (λ k. sets k last c) (sets_behind l a b at next e))

-- the numbers of the header, one behind the other
pub put_header :
    (l : List ℕ) {a b c d e f g h : List ℕ} (steps orders links rounds : ℕ) {second third : ℕ}
    → second ≡ orders_at steps → third ≡ links_at steps orders
    → a ≡ sets l 0 (u16_bytes file_edition)
    → b ≡ sets a 2 (u16_bytes steps)
    → c ≡ sets b 4 (u16_bytes orders)
    → d ≡ sets c 6 (u16_bytes links)
    → e ≡ sets d 8 (u32_bytes rounds)
    → f ≡ sets e 12 (u32_bytes windows_at)
    → g ≡ sets f 16 (u32_bytes second)
    → h ≡ sets g 20 (u32_bytes third)
    → h ≡ sets l 0 (header_with steps orders links rounds)
unfolding u32_bytes u16_bytes
put_header l steps orders links rounds p q ea eb ec ed ee ef eg eh = rw (eh, eg, ef, ee, ed, ec, eb, ea, p, q)

-- A loop that puts records has put the first i of them.
module _ (f : ℕ → List ℕ) (before : List ℕ) (from : ℕ) where
  pub put_start : before ≡ sets before from (concatenate 0 f)
  unfolding concatenate
  put_start = refl

  -- they are put over what stood there
  pub put_size : (i : ℕ) {now : List ℕ} → now ≡ sets before from (concatenate i f) → length now ≡ length before
  put_size i e = ap length e ∙ simp length-sets

  pub put_end :
      (n i : ℕ) {now : List ℕ} → now ≡ sets before from (concatenate i f) → i ≤ n → n ≤ i → now ≡ sets before from (concatenate n f)
  put_end n i e h g = let q : i ≡ n = omega arith in e ∙ ap (λ k. sets before from (concatenate k f)) q

-- one more record, each as wide as the others
put_more :
    (f : ℕ → List ℕ) (width : ℕ) → ((k : ℕ) → length (f k) ≡ width) → (before : List ℕ) (from i at : ℕ) {now next : List ℕ}
    → now ≡ sets before from (concatenate i f)
    → at ≡ from + width * i
    → next ≡ sets now at (f i)
    → next ≡ sets before from (concatenate (i + 1) f)
put_more f width each before from i at e q w =
    w
    ∙ ap (λ l. sets l at (f i)) e
    ∙ sym
    (ap (sets before from) (concatenate_more f i)
    ∙ sets_behind before (concatenate i f) (f i) from at (ap (λ n. from + n) (length_parts f width each i) ∙ sym q))

-- how long the records of the lists are
pub length_window : (limits latest earliest : List ℕ) (k : ℕ) → length (window_in limits latest earliest k) ≡ 12
unfolding window_in u32_bytes u16_bytes
length_window limits latest earliest k = refl

pub length_order : (gaps : List ℕ) (o : ℕ) → length (order_in gaps o) ≡ 8
unfolding order_in entry_bytes u32_bytes u16_bytes
length_order gaps o = refl

length_link : (linked : List ℕ) (j : ℕ) → length (link_in linked j) ≡ 2
unfolding link_in u16_bytes
length_link linked j = refl

-- the numbers of an order, one behind the other
pub put_order :
    (l : List ℕ) {a b c : List ℕ} (at q entry : ℕ) → table_bias < entry
    → a ≡ sets l at (u16_bytes (q / row_width))
    → b ≡ sets a (at + 2) (u16_bytes (q % row_width))
    → c ≡ sets b (at + 4) (u32_bytes ((entry + (u32_values - entry_bias)) % u32_values))
    → c ≡ sets l at (entry_bytes q entry)
unfolding entry_bytes u32_bytes u16_bytes
put_order l at q entry h ea eb ec =
    let e : entry + (u32_values - entry_bias) ≡ gap_of_entry entry + (u32_values - gap_bias) = omega arith in
    rw (ec, eb, ea, e)
    (put_three l (u16_bytes (q / row_width)) (u16_bytes (q % row_width)) (u32_bytes (gap_bits (gap_of_entry entry))) at (at + 2) (at + 4) refl (omega arith))

-- one more window, one more link
pub windows_more :
    (limits latest earliest before : List ℕ) (from i at : ℕ) {now next : List ℕ}
    → now ≡ sets before from (concatenate i (window_in limits latest earliest))
    → at ≡ from + 12 * i
    → next ≡ sets now at (window_with (start_in limits i) (start_in latest i) (start_in earliest i))
    → next ≡ sets before from (concatenate (i + 1) (window_in limits latest earliest))
unfolding window_in
windows_more limits latest earliest = put_more (window_in limits latest earliest) 12 (length_window limits latest earliest)

pub links_more :
    (linked before : List ℕ) (from i at : ℕ) {now next : List ℕ} → now ≡ sets before from (concatenate i (link_in linked))
    → at ≡ from + 2 * i
    → next ≡ sets now at (u16_bytes (get_or linked i 0))
    → next ≡ sets before from (concatenate (i + 1) (link_in linked))
unfolding link_in
links_more linked = put_more (link_in linked) 2 (length_link linked)

-- an entry above the bias is an order, and no other
pub entered_above : (gaps : List ℕ) (q : ℕ) → table_bias < get_or gaps q 0 → entered gaps q ≡ true
entered_above gaps q h = ap not (ne_eqb (gap_at gaps q) no_order (λ e. absurd (omega arith)))

pub entered_below : (gaps : List ℕ) (q : ℕ) → get_or gaps q 0 ≤ table_bias → entered gaps q ≡ false
entered_below gaps q h = ap not (eq-eqb (gap_at gaps q) no_order (omega arith))

-- indexes that do not pass at the end of a count add nothing
count_rest : (p : ℕ → Bool) (m n : ℕ) → m ≤ n → ((q : ℕ) → m ≤ q → q < n → p q ≡ false) → count m p ≡ count n p
unfolding count
count_rest p m zero h e = let q : m ≡ 0 = omega arith in ap (λ k. count k p) q
count_rest p m (suc n) h e =
    elim (dec_le m n) [
      | yes l ↦
          let z : count n p + cond (p n) 1 0 ≡ count n p + 0 = ap (λ b. count n p + cond b 1 0) (e n l (omega arith)) in
          omega (arith, count_rest p m n l (λ q a b. e q a (omega arith)))
      | no l ↦ let q : m ≡ suc n = omega arith in ap (λ k. count k p) q
    ]

-- an entry from or to a step that is not counted is no order
none_entered :
    (gaps : List ℕ) (n q : ℕ) → NoneBeyond n gaps → (q / row_width < n → q % row_width < n → ⊥) → entered gaps q ≡ false
none_entered gaps n q z h =
    let e : q ≡ row_width * (q / row_width) + q % row_width = omega arith in
    ap not (eq-eqb _ _ (ap (gap_at gaps) e ∙ z (q / row_width) (q % row_width) (omega arith) h))

-- all orders of a table of n steps are among its first rows
pub entered_rest :
    (gaps : List ℕ) (n q : ℕ) → NoneBeyond n gaps → row_width * n ≤ q → q ≤ table_size → count q (entered gaps) ≡ count table_size (entered gaps)
entered_rest gaps n q z h m = count_rest (entered gaps) q table_size m (λ j l _. none_entered gaps n j z (λ a _. omega arith))

-- so are those of row i
entered_row :
    (gaps : List ℕ) (n i q : ℕ) → NoneBeyond n gaps → row_width * i + n ≤ q → q ≤ row_width * (i + 1)
    → count q (entered gaps) ≡ count (row_width * (i + 1)) (entered gaps)
entered_row gaps n i q z h m = count_rest (entered gaps) q (row_width * (i + 1)) m (λ j l u. none_entered gaps n j z (λ _ a. omega arith))

module _ (gaps before : List ℕ) (from : ℕ) where
  pub orders_start : OrdersPut gaps before from 0 from before
  unfolding count
  orders_start =
      record { entries = omega arith; place = omega arith; put = put_start (order_in gaps) before from }

  -- an entry's order has the number of those before it
  order_of_lem : (q : ℕ) → q < table_size → entered gaps q ≡ true → order_in gaps (count q (entered gaps)) ≡ entry_bytes q (get_or gaps q 0)
  unfolding order_in
  order_of_lem q h t = ap (λ k. entry_bytes k (get_or gaps k 0)) (nth_is (entered gaps) table_size q h t)

  module _ (q at : ℕ) (bytes : List ℕ) (w : OrdersPut gaps before from q at bytes) (h : q < table_size) where
    -- where there is room for all orders, there is room for one that is found
    pub order_fits : from + 8 * count table_size (entered gaps) ≤ length before → table_bias < get_or gaps q 0 → at + 8 ≤ length before
    order_fits r n = omega (arith, w.place, count_below (entered gaps) table_size q h (entered_above gaps q n))

    pub orders_more :
        {place : ℕ} {next : List ℕ} → table_bias < get_or gaps q 0 → place ≡ at + 8 → next ≡ sets bytes at (entry_bytes q (get_or gaps q 0))
        → OrdersPut gaps before from (q + 1) place next
    orders_more n a e =
        let t = entered_above gaps q n in
        let m : count q (entered gaps) + 1 ≡ count (q + 1) (entered gaps) = count_more (entered gaps) q refl refl t in
        record {
          entries = omega arith;
          place = omega (arith, w.place);
          put =
              put_more (order_in gaps) 8 (length_order gaps) before from (count q (entered gaps)) at w.put w.place
              (e ∙ ap (sets bytes at) (sym (order_of_lem q h t)))
              ∙ ap (λ o. sets before from (concatenate o (order_in gaps))) m;
        }

    pub orders_same :
        {place : ℕ} {next : List ℕ} → get_or gaps q 0 ≤ table_bias → place ≡ at → next ≡ bytes → OrdersPut gaps before from (q + 1) place next
    orders_same z a e =
        let m : count q (entered gaps) ≡ count (q + 1) (entered gaps) = count_same (entered gaps) q refl refl (entered_below gaps q z) in
        record {
          entries = omega arith;
          place = omega (arith, w.place);
          put = e ∙ w.put ∙ ap (λ o. sets before from (concatenate o (order_in gaps))) m;
        }

  -- a row is done where its counted steps are
  pub orders_row :
      (n i q at : ℕ) (bytes : List ℕ) → OrdersPut gaps before from q at bytes → NoneBeyond n gaps → i < row_width → row_width * i + n ≤ q
      → q ≤ row_width * (i + 1)
      → OrdersPut gaps before from (row_width * (i + 1)) at bytes
  orders_row n i q at bytes w z l h u =
      let m = entered_row gaps n i q z h u in
      record {
        entries = omega arith;
        place = omega (arith, w.place);
        put = w.put ∙ ap (λ o. sets before from (concatenate o (order_in gaps))) m;
      }

  pub orders_end :
      (n q at : ℕ) (bytes : List ℕ) → OrdersPut gaps before from q at bytes → NoneBeyond n gaps → row_width * n ≤ q
      → bytes ≡ sets before from (concatenate (count table_size (entered gaps)) (order_in gaps))
  orders_end n q at bytes w z h =
      w.put ∙ ap (λ o. sets before from (concatenate o (order_in gaps))) (entered_rest gaps n q z h w.entries)

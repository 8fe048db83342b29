-- The tables put one behind the other are the file of the contents that the lists hold, and the bytes past its end stay.
use Prim.Native.Nat.{ℕ, ◌+◌, ◌≤◌}
use mathlib.Core.Path.{◌≡◌, refl, sym, ap, ◌∙◌}
use mathlib.Core.Bool.{false}
use mathlib.Core.List.{List, ◌++◌}
use native.Mathlib.Omega.{arith}
use lib.ListN.{length, length-append}
use lib.Seq.{sets}
use Rattle.little_endian.proofs.Sets.{sets_behind, sets_first}
use Rattle.little_endian.proofs.Stands.{length_parts}
use Rattle.laws.specs.Listed.{concatenate}
use Rattle.laws.specs.Nth.{count}
use Rattle.laws.proofs.Search.{contrary}
use Rattle.laws.proofs.Nth.{count_apart}
use Rattle.order_file.specs.declared.write.Header.{Header}
use Rattle.order_file.specs.Contents.{Contents}
use Rattle.order_file.specs.Layout.{windows_at, orders_at, links_at}
use Rattle.order_file.specs.Table.{table_size}
use Rattle.order_file.specs.Encode.{header_with, header_bytes, window_bytes, order_bytes, link_bytes, up_to_window, up_to_order, up_to_link, encode}
use Rattle.order_file.proofs.Encode.{length_header_with, length_encode}
use Rattle.order_file.specs.Held.{entered, held_in, window_in, entry_bytes, order_in, link_in, over, Roomy}
use Rattle.order_file.proofs.Put.{length_window, length_order}

-- a table holds no more orders than entries
pub orders_most :
    {header : Header} {limits latest earliest gaps linked out : List ℕ} → Roomy header limits latest earliest gaps linked out
    → header.orders ≤ table_size
orders_most {gaps = gaps} r =
    omega (arith, r.order_count, count_apart (entered gaps) (λ _. false) table_size (λ k h t f. contrary f refl))

-- four parts put one behind the other
put_four :
    (l a b c d : List ℕ) (second third fourth : ℕ) → length a ≡ second → second + length b ≡ third → third + length c ≡ fourth
    → sets (sets (sets (sets l 0 a) second b) third c) fourth d ≡ sets l 0 (a ++ b ++ c ++ d)
put_four l a b c d second third fourth e f g =
    sym
    (sets_behind l (a ++ b ++ c) d 0 fourth (omega (arith, length-append (a ++ b) c, length-append a b))
    ∙ ap (λ k. sets k fourth d)
    (sets_behind l (a ++ b) c 0 third (omega (arith, length-append a b)) ∙ ap (λ k. sets k third c) (sets_behind l a b 0 second (omega arith))))

-- what the lists hold, and how many orders that is
module _ (header : Header) (limits latest earliest gaps linked : List ℕ) where
  abbrev held : Contents
  held = held_in header.steps header.links header.rounds limits latest earliest gaps linked

  -- the file in its parts, of which the header counts so many orders
  abbrev parts : ℕ → List ℕ
  parts orders =
      header_with header.steps orders header.links header.rounds
      ++ concatenate header.steps (window_in limits latest earliest)
      ++ concatenate (count table_size (entered gaps)) (order_in gaps)
      ++ concatenate header.links (link_in linked)

  file_parts : encode held ≡ parts (count table_size (entered gaps))
  unfolding up_to_link up_to_order up_to_window header_bytes window_bytes order_bytes link_bytes held_in window_in order_in entry_bytes link_in
  file_parts = refl

  module _ (out : List ℕ) (r : Roomy header limits latest earliest gaps linked out) where
    file_fits_lem : length (encode held) ≤ length out
    unfolding held_in
    file_fits_lem = omega (arith, length_encode held, r.order_count, r.file_fits)

    pub put_file :
        {a b c d : List ℕ} → a ≡ sets out 0 (header_with header.steps header.orders header.links header.rounds)
        → b ≡ sets a windows_at (concatenate header.steps (window_in limits latest earliest))
        → c ≡ sets b (orders_at header.steps) (concatenate (count table_size (entered gaps)) (order_in gaps))
        → d ≡ sets c (links_at header.steps header.orders) (concatenate header.links (link_in linked))
        → d ≡ over (encode held) out
    put_file ea eb ec ed =
        rw (ed, ec, eb, ea)
        (put_four out (header_with header.steps header.orders header.links header.rounds)
        (concatenate header.steps (window_in limits latest earliest))
        (concatenate (count table_size (entered gaps)) (order_in gaps))
        (concatenate header.links (link_in linked))
        windows_at
        (orders_at header.steps)
        (links_at header.steps header.orders)
        (length_header_with header.steps header.orders header.links header.rounds)
        (omega (arith, length_parts (window_in limits latest earliest) 12 (length_window limits latest earliest) header.steps))
        (omega (arith, length_parts (order_in gaps) 8 (length_order gaps) (count table_size (entered gaps)), r.order_count))
        ∙ ap (λ o. sets out 0 (parts o)) r.order_count
        ∙ ap (sets out 0) (sym file_parts)
        ∙ sets_first out (encode held) file_fits_lem)

-- What the reader answers about an encoded file: its header, each record that was encoded, and no other record.
use Prim.Native.Nat.{ℕ, ◌≤◌, ◌<◌}
use mathlib.Core.Path.{◌≡◌, ap, ◌∙◌}
use mathlib.Core.Bool.{true, and-false}
use mathlib.Core.List.{List}
use native.Mathlib.Omega.{arith}
use borrow.Author.Tests.{lt-ltb, le-ltb}
use Rattle.order_file.specs.Contents.{Contents, signed_gap}
use Rattle.order_file.specs.Layout.{file_edition, windows_at, orders_at, links_at, contents_of}
use Rattle.order_file.specs.Encode.{encode}
use Rattle.order_check.specs.WellFormed.{well_formed}
use Rattle.order_file.specs.Within.{Within}
use Rattle.std.specs.Prelude.{Ok}
use Rattle.order_answers.specs.Answers.{broken, header_of, header_read, record_count, record_of, record_there, record_read, record_values}
use Rattle.order_answers.specs.ReadBack.{ReadBack}
use Rattle.order_answers.specs.declared.Record.TheVariants.{Window, Order, Link}
use Rattle.order_file.proofs.RoundTrip.{round_trip, edition_back, steps_back, orders_back, links_back, rounds_back}
use Rattle.order_file.proofs.RoundTrip.{windows_at_back, orders_at_back, links_at_back}
use Rattle.order_check.proofs.WellFormed.{encode_well_formed}

-- a record of a number not counted is not there
pub record_missing : (b : List ℕ) (table k : ℕ) → record_count (contents_of b) table ≤ k → record_read b table k ≡ broken
unfolding record_read record_there
record_missing b table k h = simp (le-ltb k (record_count (contents_of b) table) h, and-false)

-- one of a number counted, in a well formed file, is
record_found :
    (b : List ℕ) (table k : ℕ) → well_formed b ≡ true → k < record_count (contents_of b) table
    → record_read b table k ≡ Ok (record_of (contents_of b) table k)
unfolding record_read record_there
record_found b table k e h = simp (e, lt-ltb k (record_count (contents_of b) table) h)

module _ (c : Contents) (w : Within c) where
  header_back :
      header_read (encode c)
      ≡ Ok
      (record {
        edition = file_edition;
        steps = c.steps;
        orders = c.orders;
        links = c.links;
        rounds = c.rounds;
        windows_at = windows_at;
        orders_at = orders_at c.steps;
        links_at = links_at c.steps c.orders;
      })
  unfolding header_read header_of
  header_back =
      simp (encode_well_formed c w)
      (cc (
        edition_back c w,
        steps_back c w,
        orders_back c w,
        links_back c w,
        rounds_back c w,
        windows_at_back c w,
        orders_at_back c w,
        links_at_back c w,
      ))

  window_back : (k : ℕ) → k < c.steps → record_read (encode c) 0 k ≡ Ok (Window (c.limit k) (c.latest k) (c.earliest k))
  unfolding record_count record_of
  window_back k h =
      let a = round_trip c w in
      record_found (encode c) 0 k (encode_well_formed c w) (omega (arith, a.steps))
      ∙ cc (a.limit k h, a.latest k h, a.earliest k h)

  order_back : (k : ℕ) → k < c.orders → record_read (encode c) 1 k ≡ Ok (Order (c.first k) (c.second k) (signed_gap (c.gap k)))
  unfolding record_count record_of
  order_back k h =
      let a = round_trip c w in
      record_found (encode c) 1 k (encode_well_formed c w) (omega (arith, a.orders))
      ∙ cc (a.first k h, a.second k h, ap signed_gap (a.gap k h))

  link_back : (k : ℕ) → k < c.links → record_read (encode c) 2 k ≡ Ok (Link (c.link k))
  unfolding record_count record_of
  link_back k h =
      let a = round_trip c w in
      record_found (encode c) 2 k (encode_well_formed c w) (omega (arith, a.links)) ∙ ap (λ j. Ok (Link j)) (a.link k h)

  -- and no other record is there
  other_missing : (table k : ℕ) → record_count c table ≤ k → record_read (encode c) table k ≡ broken
  unfolding record_count
  other_missing table k h =
      let a = round_trip c w in
      record_missing (encode c) table k (simp (a.steps, a.orders, a.links) h)

  pub encoded_read_back : ReadBack c (encode c)
  encoded_read_back =
      record {
        header = header_back;
        windows = window_back;
        orders = order_back;
        links = link_back;
        nothing_else = other_missing;
        window_values = λ k h. ap record_values (window_back k h);
        order_values = λ k h. ap record_values (order_back k h);
        link_values = λ k h. ap record_values (link_back k h);
      }

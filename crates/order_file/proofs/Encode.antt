-- How long the file and its parts are.
use Prim.Native.Nat.{ℕ, ◌+◌}
use mathlib.Core.Path.{◌≡◌, refl, ap₂, ◌∙◌}
use lib.ListN.{length, length-append}
use Rattle.laws.specs.Listed.{concatenate}
use Rattle.little_endian.specs.Bytes.{u16_bytes, u32_bytes}
use Rattle.little_endian.proofs.Stands.{length_parts}
use Rattle.order_file.specs.Contents.{Contents}
use Rattle.order_file.specs.Layout.{windows_at, window_at, order_at, link_at, file_length}
use Rattle.order_file.specs.Encode.{header_with, header_bytes, window_bytes, order_bytes, link_bytes, up_to_window, up_to_order, up_to_link, encode}

pub length_header_with : (steps orders links rounds : ℕ) → length (header_with steps orders links rounds) ≡ windows_at
unfolding u32_bytes u16_bytes
length_header_with steps orders links rounds = refl

module _ (c : Contents) where
  pub length_header : length (header_bytes c) ≡ windows_at
  unfolding header_bytes
  length_header = length_header_with c.steps c.orders c.links c.rounds

  pub length_window : (k : ℕ) → length (window_bytes c k) ≡ 12
  unfolding window_bytes u32_bytes u16_bytes
  length_window k = refl

  pub length_order : (k : ℕ) → length (order_bytes c k) ≡ 8
  unfolding order_bytes u32_bytes u16_bytes
  length_order k = refl

  pub length_link : (k : ℕ) → length (link_bytes c k) ≡ 2
  unfolding link_bytes u16_bytes
  length_link k = refl

  -- the file up to a record is as long as the record's position says
  pub length_up_to_window : (k : ℕ) → length (up_to_window c k) ≡ window_at k
  unfolding up_to_window
  length_up_to_window k =
      length-append (header_bytes c) (concatenate k (window_bytes c))
      ∙ ap₂ ◌+◌ length_header (length_parts (window_bytes c) 12 length_window k)

  pub length_up_to_order : (k : ℕ) → length (up_to_order c k) ≡ order_at c.steps k
  unfolding up_to_order
  length_up_to_order k =
      length-append (up_to_window c c.steps) (concatenate k (order_bytes c))
      ∙ ap₂ ◌+◌ (length_up_to_window c.steps) (length_parts (order_bytes c) 8 length_order k)

  pub length_up_to_link : (k : ℕ) → length (up_to_link c k) ≡ link_at c.steps c.orders k
  unfolding up_to_link
  length_up_to_link k =
      length-append (up_to_order c c.orders) (concatenate k (link_bytes c))
      ∙ ap₂ ◌+◌ (length_up_to_order c.orders) (length_parts (link_bytes c) 2 length_link k)

  -- the length of the file: 24 + 12 * steps + 8 * orders + 2 * links
  pub length_encode : length (encode c) ≡ file_length c.steps c.orders c.links
  length_encode = length_up_to_link c.links

-- The part of a list along which a loop walks: its elements are those of the list from a place on.
use Prim.Native.Nat.{ℕ, ◌+◌, ◌-◌, ◌≤◌, ◌<◌}
use mathlib.Core.Path.{◌≡◌, refl, ◌∙◌}
use mathlib.Core.List.{List}
use native.Mathlib.Omega.{arith}
use lib.ListN.{length, get_or, drop}
use Rattle.std.proofs.lemmas.List.{length-take, length-drop, get_or-take, get_or-drop}
use Rattle.std.specs.List.{slice_range}
use Rattle.origins.specs.Points.{Reached, Among}
use Rattle.origins.proofs.Reached.{within_up, within_all}

module _ (xs : List ℕ) (low high : ℕ) {k : ℕ} where
  -- at one of them
  pub part_below : k < length (slice_range xs low high) → low + k < high
  part_below h = omega (arith, h, length-take (high - low) (drop low xs))

  pub part_at : k < length (slice_range xs low high) → get_or (slice_range xs low high) k 0 ≡ get_or xs (low + k) 0
  part_at h = get_or-take (high - low) (drop low xs) k 0 (omega (arith, part_below h)) ∙ get_or-drop low xs k 0

  -- past the last
  pub part_end :
      low ≤ high → high ≤ length xs → k ≤ length (slice_range xs low high) → length (slice_range xs low high) ≤ k → low + k ≡ high
  part_end a b c d = omega (arith, length-take (high - low) (drop low xs), length-drop low xs)

-- the orders of one more of them
pub part_more :
    (n : ℕ) (Order : ℕ → ℕ → ℕ → ℕ → Type 0) (before mid after : List ℕ) (low k : ℕ) → Reached n (Among low (low + k) Order) before mid
    → Reached n (Order (low + k)) mid after
    → Reached n (Among low (low + (k + 1)) Order) before after
part_more n Order before mid after low k v w =
    within_all n Order before after low (low + k + 1) low (low + (k + 1)) refl (omega arith)
    (within_up n Order before mid after low (low + k) (omega arith) v w)

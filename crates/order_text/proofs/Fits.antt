-- The counts of an order file are within the limits, so that its text is within its most bytes.
use Prim.Native.Nat.{ℕ, ◌≤◌}
use mathlib.Core.Path.{◌≡◌}
use mathlib.Core.Bool.{true}
use mathlib.Core.List.{List}
use native.Mathlib.Omega.{arith}
use borrow.Author.Tests.{leb-true}
use Rattle.laws.proofs.Search.{and_l, and_r}
use Rattle.order_file.specs.Contents.{step_limit, order_limit, link_limit}
use Rattle.order_file.specs.Layout.{contents_of}
use Rattle.order_check.specs.WellFormed.{counts_hold, well_formed}
use Rattle.order_text.specs.Text.{file_most, text_most}

module _ (b : List ℕ) (e : well_formed b ≡ true) where
  counts_hold_lem : counts_hold (contents_of b) ≡ true
  unfolding well_formed
  counts_hold_lem = search (and_l, and_r, e)

  pub most_within : file_most (contents_of b).steps (contents_of b).orders (contents_of b).links ≤ text_most
  unfolding counts_hold
  most_within =
      let c = contents_of b in
      let h = counts_hold_lem in
      omega (
        arith,
        leb-true c.steps step_limit (search (and_l, and_r, h)),
        leb-true c.orders order_limit (search (and_l, and_r, h)),
        leb-true c.links link_limit (search (and_l, and_r, h)),
      )

use Prim.Native.Nat.{ℕ, ◌+◌, ◌-◌, ◌≤◌, ◌<◌}
use mathlib.Core.Path.{◌≡◌, sym, ◌∙◌}
use mathlib.Core.Bool.{false}
use native.Mathlib.Decide.{dec_le}
use native.Mathlib.Omega.{arith}
use lib.Dec.{leb}
use lib.ListN.{length}
use borrow.Author.Tests.{lt-leb, le-leb}
use Rattle.little_endian.proofs.has_room.Goals as goal

none : (at n end : ℕ) → end < n → false ≡ leb (at + n) end
none at n end h = sym (lt-leb (at + n) end (omega arith))

moved : (at n end : ℕ) → n ≤ end → leb at (end - n) ≡ leb (at + n) end
moved at n end h =
    elim (dec_le (at + n) end) [
      | yes l ↦ le-leb at (end - n) (omega arith) ∙ sym (le-leb (at + n) end l)
      | no l ↦ lt-leb at (end - n) (omega arith) ∙ sym (lt-leb (at + n) end (omega arith))
    ]

pub returns-then-s-n : goal.returns-then-s-n
returns-then-s-n c = none c.args.at c.args.n (length c.args.s.now) c.if-s-n.true

pub returns : goal.returns
returns c = moved c.args.at c.args.n (length c.args.s.now) c.if-s-n.false

use Prim.Native.Nat.{ℕ}
use mathlib.Core.Path.{◌≡◌}
use lib.ListN.{length}
use Rattle.job.specs.Clocked.{clocked}
use Rattle.job.specs.Model.{view}
use Rattle.links.specs.LinkList.{LinksOf}
use Rattle.order_file.specs.Table.{row_width}
use Rattle.windows.specs.Loops.{LatestBy}
use Rattle.windows.proofs.window.latest_starts.Given as goal

abbrev pub invariant-loop-g : goal.invariant-loop-g
invariant-loop-g l =
    (length l.at ≡ row_width)
    × ((x : ℕ → ℕ) → LinksOf (clocked (view l.job.head l.job.bytes.now)) x l.links → LatestBy (view l.job.head l.job.bytes.now) x 0 l.initial.at → LatestBy (view l.job.head l.job.bytes.now) x l.g l.at)

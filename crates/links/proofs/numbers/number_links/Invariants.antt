use Prim.Native.Nat.{ℕ}
use mathlib.Core.List.{List}
use Rattle.job.specs.Model.{view}
use Rattle.links.specs.Numbered.{NumberedTo}
use Rattle.links.proofs.numbers.number_links.Given as goal

abbrev pub invariant-loop-link : goal.invariant-loop-link
invariant-loop-link l = (s : List ℕ) → NumberedTo (view l.job s) l.link-index l.initial.link-items l.link-items

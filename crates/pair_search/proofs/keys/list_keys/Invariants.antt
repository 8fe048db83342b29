use Rattle.laws.proofs.Linked.{ahead}
use Rattle.job.specs.Model.{view}
use Rattle.pair_search.proofs.Listing.{Listing}
use Rattle.pair_search.proofs.keys.list_keys.Given as goal

abbrev pub invariant-loop-k : goal.invariant-loop-k
invariant-loop-k l = Listing (view l.job.head l.job.bytes.now) l.step l.n l.keys l.low l.k

abbrev pub decreases-loop-k : goal.decreases-loop-k
decreases-loop-k l = ahead l.n l.k

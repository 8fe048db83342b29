use mathlib.Core.Path.{◌≡◌}
use lib.Seq.{sets}
use Rattle.laws.specs.Listed.{concatenate}
use Rattle.order_file.specs.Held.{link_in}
use Rattle.order_file.proofs.write.write_links.Given as goal

abbrev pub invariant-loop-j : goal.invariant-loop-j
invariant-loop-j l = l.out ≡ sets l.initial.out l.from (concatenate l.j (link_in l.linked))

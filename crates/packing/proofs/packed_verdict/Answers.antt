use mathlib.Core.Path.{refl}
use Rattle.packing.proofs.Repacked.{repacked}
use Rattle.packing.proofs.packed_verdict.Goals as goal

pub returns : goal.returns
returns c = repacked {a = 0} c.packed.ensures refl c.number.ensures c.place.ensures

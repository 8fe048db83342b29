use Rattle.packing.proofs.Repacked.{repacked}
use Rattle.packing.proofs.packed_pairs.Goals as goal

pub returns : goal.returns
returns c = repacked c.packed.ensures c.compared.ensures c.number.ensures c.place.ensures

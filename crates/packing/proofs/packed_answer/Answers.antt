use Rattle.packing.proofs.Repacked.{repacked}
use Rattle.packing.proofs.packed_answer.Goals as goal

pub returns : goal.returns
returns c = repacked c.packed.ensures c.length.ensures c.number.ensures c.place.ensures

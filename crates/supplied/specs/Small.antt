-- Between crates: the numbers that a text says are below 1,000,000,000.
use Rattle.std.specs.Prelude.{◌<◌, List, [], ◌∷◌}
use Rattle.grammar.specs.Said.{Item}
use Rattle.supplied.specs.Plan.{number_in}

abbrev pub Small : List Item → Type 0
Small [] = Unit
Small (i ∷ is) = (number_in i.said < 1000000000) × Small is

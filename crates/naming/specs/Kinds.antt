-- Inner: the kinds of names in the code.
use Rattle.supplied.specs.Names as supplied
use Rattle.naming.specs.declared.passing.Kind.{Kind}
use Rattle.naming.specs.declared.passing.Kind.TheVariants.{Actions, Facts, Levels, Lines}

-- the kind that one means
abbrev pub meant : Kind → supplied.Kind
meant Actions = supplied.actions
meant Facts = supplied.facts
meant Levels = supplied.levels
meant Lines = supplied.lines

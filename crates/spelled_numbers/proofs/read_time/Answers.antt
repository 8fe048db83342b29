use Rattle.std.proofs.Common.{ap, ◌∙◌}
use Rattle.spelling.specs.Numbers.{time_of}
use Rattle.spelling.proofs.Part.{part_is}
use Rattle.spelled_numbers.proofs.read_time.Goals as goal

pub returns : goal.returns
returns c = c.ticks.ensures ∙ ap time_of (part_is _ _ _ c.requires.0)

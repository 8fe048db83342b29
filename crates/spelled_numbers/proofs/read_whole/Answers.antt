use Rattle.std.proofs.Common.{ap, ◌∙◌}
use Rattle.spelling.specs.Numbers.{is_whole, digits_of, whole_of}
use Rattle.spelling.proofs.Part.{part_is}
use Rattle.spelled_numbers.proofs.read_whole.Goals as goal

pub returns : goal.returns
unfolding is_whole whole_of digits_of
returns c = c.digits.ensures.0 ∙ ap whole_of (part_is _ _ _ c.requires.0)

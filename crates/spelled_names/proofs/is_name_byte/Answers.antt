use Rattle.spelling.specs.Names.{is_letter, is_digit, is_name_byte}
use Rattle.spelled_names.proofs.is_name_byte.Goals as goal

pub returns : goal.returns
unfolding is_name_byte is_letter is_digit
returns c = rw (c.is_ascii_alphabetic.ensures.value, c.is_ascii_digit.ensures.value)

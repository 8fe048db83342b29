use Rattle.spelling.specs.Names.{is_letter}
use Rattle.spelled_names.proofs.Names.{name_is}
use Rattle.spelled_names.proofs.is_name.Goals as goal

pub returns : goal.returns
unfolding is_letter
returns c =
    let p = c.requires in
    name_is _ _ _ p.0 p.1 c.is_ascii_alphabetic.ensures.value c.name_bytes.ensures c.is_reserved.ensures

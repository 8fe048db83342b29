use Rattle.std.proofs.Common.{rules, ◌-◌, get_or, take, drop, ap, ◌∙◌}
use borrow.Author.Tests.{tests}
use Rattle.std.specs.List.{list_all}
use Rattle.std.proofs.lemmas.Iterator.{YieldsList-from_slice}
use Rattle.std.proofs.lemmas.Iterator.Search.{all_from_yields_List}
use Rattle.std.proofs.Math.Seq.{slice, length-slice}
use Rattle.laws.specs.Search.{all}
use Rattle.spelling.specs.Names.{is_name_byte}
use Rattle.spelling.proofs.Part.{part_is}
use Rattle.spelled_names.proofs.Words.{all_is}
use Rattle.spelled_names.proofs.name_bytes.Goals as goal

pub returns : goal.returns
returns c =
    let text = c.args.text.now in
    let part = take (c.args.end - c.args.at) (drop c.args.at text) in
    let word = slice c.args.at c.args.end text in
    all_from_yields_List is_name_byte _ _ _ c.all.ensures.ran (YieldsList-from_slice part cc) (λ x b q k. search (rules, tests))
    ∙ ap (list_all is_name_byte) (part_is _ _ _ c.requires.0) ∙ all_is is_name_byte word
    ∙ ap (λ n. all n (λ k. is_name_byte (get_or word k 0))) (length-slice _ _ _ c.requires.1)

use mathlib.Core.Path.{sym, ap, ◌∙◌}
use Rattle.listing.specs.Listed.{filled, header_list}
use Rattle.listing.proofs.Filling.{filled_none}
use Rattle.listing.proofs.list_header.Goals as goal

pub returns-in_default : goal.returns-in_default
returns-in_default c =
    let l = c.args.list.now in
    sym (ap (λ r. filled l (header_list r)) c.in_default.is ∙ filled_none l)

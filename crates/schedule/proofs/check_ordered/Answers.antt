-- Where the walks find nothing wrong, neither a step nor the clock is against itself.
use mathlib.Core.Path.{◌∙◌}
use Rattle.verdict.proofs.Chain.{then_accepted}
use Rattle.schedule.proofs.Reading.{clear_against, read_in_range, read_lies, read_formed}
use Rattle.schedule.proofs.check_ordered.Goals as goal

pub is_clear-requires : goal.is_clear-requires
is_clear-requires c = let p = c.requires in (read_in_range p.read, p.known)

pub check_clear-requires : goal.check_clear-requires
check_clear-requires c =
    let p = c.requires in
    let clear = c.is_clear.ensures c.if-is_clear.true in
    (record { form = read_formed p.read (clear_against _ clear); known = p.known }, clear, read_lies p.read)

pub check_named-requires : goal.check_named-requires
check_named-requires c = c.requires

pub returns-then-is_clear : goal.returns-then-is_clear
returns-then-is_clear c = c.check_clear.ensures ∙ then_accepted _ _ (clear_against _ (c.is_clear.ensures c.if-is_clear.true))

pub returns-else-is_clear : goal.returns-else-is_clear
returns-else-is_clear c = c.check_named.ensures

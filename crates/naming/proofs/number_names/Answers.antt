-- Items are passed one by one, up to the first that may not stand where it does.
use mathlib.Core.Path.{ap, ◌∙◌}
use lib.ListN.{get_or}
use Rattle.naming.proofs.Onward.{passed_start}
use Rattle.naming.proofs.Finding.{found_clash, found_all}
use Rattle.naming.proofs.number_names.Goals as goal

pub loop-k-init : goal.loop-k-init
loop-k-init c = let p = c.requires in passed_start _ _ _ p.1 p.2 p.3

pub returns-then-not-pass_item : goal.returns-then-not-pass_item
returns-then-not-pass_item c =
    found_clash _ _ _ c.loop-k.invariant c.loop-k-test.true
    (c.pass_item.ensures.refused c.if-not-pass_item.true)

pub returns : goal.returns
returns c = let i = c.loop-k.invariant in found_all _ _ _ i c.loop-k.auto.k-end c.loop-k-test.false
    (c.from.ensures ∙ ap (λ n. get_or c.loop-k.counts n 0) c.index.ensures.0)
    (c.from-2.ensures ∙ ap (λ n. get_or c.loop-k.counts n 0) c.index-2.ensures.0)

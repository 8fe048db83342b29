-- Link by link; without timed facts there is nothing to do.
use Prim.Native.Nat.{◌+◌, ◌<◌}
use mathlib.Core.Path.{◌∙◌}
use mathlib.Core.List.{[]}
use native.Mathlib.Omega.{arith}
use Rattle.std.proofs.lemmas.List.{length-take-le, get_or-take}
use Rattle.job.specs.Model.{view}
use Rattle.links.proofs.Numbered.{untimed_numbered, numbered_more, numbered_all}
use Rattle.links.proofs.numbers.number_links.Goals as goal

pub returns-then-job-eq0 : goal.returns-then-job-eq0
returns-then-job-eq0 c =
    λ s.
    untimed_numbered (view c.args.job s) _ c.if-job-eq0.true c.requires.few.0 c.requires.each

pub link_number-requires : goal.link_number-requires
link_number-requires c =
    let k = c.loop-link.link-index in
    let n = c.args.job.count.conditions + c.args.job.count.goals in
    let links = c.args.links.now in
    let within : k < n = omega (arith, c.loop-link-test.true, length-take-le n links c.requires.room) in
    let read = (c.loop-link.invariant []).rest k (omega arith) ∙ get_or-take n links k 0 within in
    (rw read (c.requires.each k within), c.requires.few)

pub loop-link-preserved : goal.loop-link-preserved
loop-link-preserved c =
    λ s.
    numbered_more (view c.args.job s) _ (omega (arith, c.loop-link.auto.link-items, c.loop-link-test.true)) (c.link_number.ensures s)
    (c.loop-link.invariant s)

pub returns : goal.returns
returns c = λ s. numbered_all (view c.args.job s) c.requires.room c.loop-link-test.false (c.loop-link.invariant s)

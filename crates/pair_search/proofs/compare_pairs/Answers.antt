-- Refusals 1 to 6, then the search.
use mathlib.Core.Path.{ap, ◌∙◌}
use Rattle.job.specs.declared.layout.Job.{Job}
use Rattle.job.specs.Model.{view}
use Rattle.record_check.proofs.Ranged.{read_ranged}
use Rattle.record_check.proofs.Laid.{read_laid}
use Rattle.against.specs.Pairs.{pair_search}
use Rattle.pair_search.specs.Answer.{found_in}
use Rattle.pair_search.proofs.Promised.{searched, refused}
use Rattle.pair_search.proofs.compare_pairs.Goals as goal

pub search_pairs-requires : goal.search_pairs-requires
search_pairs-requires c = let p = c.in-Ok.ensures in (read_laid p, read_ranged p)

pub returns-in-Ok : goal.returns-in-Ok
returns-in-Ok c =
    let p = c.in-Ok.ensures in
    let s = c.args.s.now in
    let e = c.found_in.ensures s ∙ ap (found_in (view c.in-Ok.head s)) c.search_pairs.ensures in
    searched _ p.verdict (e ∙ ap (λ (j : Job). found_in (view j s) (pair_search (view j s))) p.job)

pub returns-in-Err : goal.returns-in-Err
returns-in-Err c = refused _ c.in-Err.ensures.verdict

-- A condition counts by where it ends.
use borrow.Author.Rules.{rules}
use Rattle.timeline.specs.Words.{word_number}
use Rattle.job.specs.Model.{view}
use Rattle.limits.proofs.latest.lower_conditions.Goals as goal

pub lower_points-requires : goal.lower_points-requires
lower_points-requires c =
    (c.requires.0.spanned, c.requires.1, λ p a b. let known = c.requires.0.known p a b in search (rules, c.requires.2))

pub returns : goal.returns
returns c =
    c.lower_points.ensures (λ word. (view c.args.job.head c.args.job.bytes.now).condition_to (word_number word)) (λ p r a b e. search rules)

-- Both parts, as they stand.
use borrow.Author.Rules.{rules}
use Rattle.opposing.specs.Against.{against}
use Rattle.opposing.proofs.scan.against.Goals as goal

pub returns : goal.returns
unfolding against
returns c = cc

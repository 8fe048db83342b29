-- Pairs or rows.
use Rattle.origins.proofs.Reached.{reached_either}
use Rattle.rows.proofs.raise_conditions.Goals as goal

pub returns-else-fact-lt-MANY : goal.returns-else-fact-lt-MANY
returns-else-fact-lt-MANY c = reached_either _ _ _ _ _ _ c.row_points.ensures c.row_conditions.ensures

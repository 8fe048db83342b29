-- What the points that end a fact say of its goals.
pub mod GoalRuns

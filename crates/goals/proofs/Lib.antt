-- What the last points of a fact say of its goals is what all effects say of them.
mod GoalRuns

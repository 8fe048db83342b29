-- Inner: the timed facts of each fact in the order of their ticks. No caller has to believe it.
use Rattle.std.specs.Prelude.{ℕ, ◌+◌, ◌<◌, ◌≡◌, List, length, get_or}
use Rattle.timeline.specs.Placed.{Placed}
use Rattle.job.specs.declared.layout.Job.{Job}
use Rattle.job.specs.Layout.{most_facts}
use Rattle.job.specs.Model.{Model}

-- a job of which only the timed facts are left
unfoldable pub only_timed : Job → Job
only_timed j =
    record {
      edition = j.edition;
      count = record {
        facts = j.count.facts;
        levels = 0;
        steps = j.count.steps;
        conditions = 0;
        effects = 0;
        uses = 0;
        goals = j.count.goals;
        timed = j.count.timed;
        needs = 0;
      };
      at = j.at;
    }

-- how many marks there is room for: those of a fact's setters and of its conditions
abbrev pub mark_count : ℕ
mark_count = most_facts + most_facts + 2

-- a timed fact of fact f
abbrev pub TimedOf : Model → ℕ → ℕ → Type 0
TimedOf m f j = (j < m.timed) × (m.timed_fact j ≡ f)

-- the timed facts fact by fact, and where those of each fact begin
pub record TimedKnown (m : Model) (order marks : List ℕ) : Type 0 where
  pub room : (f : ℕ) → f < m.facts → f + 1 < length marks
  pub placed :
      (f : ℕ) → f < m.facts
      → Placed (TimedOf m f) m.timed_tick m.timed_value (λ _. m.steps) order (get_or marks f 0) (get_or marks (f + 1) 0)

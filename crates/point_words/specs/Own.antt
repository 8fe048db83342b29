-- Between crates: a job without its timed facts.
use Rattle.job.specs.declared.layout.Job.{Job}

unfoldable pub untimed : Job → Job
untimed j =
    record {
      edition = j.edition;
      count = record {
        facts = j.count.facts;
        levels = j.count.levels;
        steps = j.count.steps;
        conditions = j.count.conditions;
        effects = j.count.effects;
        uses = j.count.uses;
        goals = j.count.goals;
        timed = 0;
        needs = j.count.needs;
      };
      at = j.at;
    }

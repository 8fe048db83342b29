use Rattle.job.specs.Clocked.{clocked}
use Rattle.job.specs.Model.{view}
use Rattle.needs.proofs.LevelNeeds.{Counting}
use Rattle.needs.proofs.falls_against.Given as goal

abbrev pub invariant-loop-q : goal.invariant-loop-q
invariant-loop-q l = Counting (clocked (view l.job.head l.job.bytes.now)) l.points l.high l.word l.initial.falls l.fn.before.place l.falls l.q

use Rattle.points.specs.Words.{PutBy}
use Rattle.points.proofs.words.put_words_of.Given as goal

abbrev pub invariant-loop-k : goal.invariant-loop-k
invariant-loop-k g l = PutBy (goal.F-post g l.word) l.from l.k l.initial.points l.points

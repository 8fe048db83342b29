-- The starts of the words passed stand, and every word to come is a start.
use Rattle.start_list.proofs.Storing.{store_start, store_full, store_odd, store_last, store_more}
use Rattle.start_list.proofs.put_starts.Goals as goal

pub loop-n-init : goal.loop-n-init
loop-n-init c = let p = c.requires in store_start _ _ p.0 p.1

pub word_end-end-requires : goal.word_end-end-requires
word_end-end-requires c = c.loop-n.invariant.within

pub read_whole-requires : goal.read_whole-requires
read_whole-requires c = let w = c.word_end-end.ensures in (w.onward, w.within)

pub shape_of-list-in_default : goal.shape_of-list-in_default
shape_of-list-in_default c = absurd (store_odd c.loop-n.invariant c.word_end-end.ensures c.read_whole.ensures c.in_default.is)

pub returns-in_default : goal.returns-in_default
returns-in_default c = absurd (store_odd c.loop-n.invariant c.word_end-end.ensures c.read_whole.ensures c.in_default.is)

pub returns-then-end-text : goal.returns-then-end-text
returns-then-end-text c =
    store_last c.loop-n.invariant c.word_end-end.ensures c.read_whole.ensures c.in-Some.is
    (rw c.loop-n.invariant.size c.loop-n-test.true) c.if-end-text.true

pub loop-n-preserved : goal.loop-n-preserved
loop-n-preserved c =
    store_more c.loop-n.invariant c.word_end-end.ensures c.read_whole.ensures c.in-Some.is
    (rw c.loop-n.invariant.size c.loop-n-test.true) c.if-end-text.false

pub shape_of-list : goal.shape_of-list
shape_of-list c = c.loop-n.invariant.size

pub returns : goal.returns
returns c = store_full c.loop-n.invariant (rw c.loop-n.invariant.size c.loop-n-test.false)

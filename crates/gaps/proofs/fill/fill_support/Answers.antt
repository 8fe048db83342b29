-- Each condition in turn.
use Rattle.orders.specs.Gaps.{support_gap}
use Rattle.gaps.proofs.Filled.{raised_start, raised_more, raised_end}
use Rattle.gaps.proofs.fill.fill_support.Goals as goal

pub loop-c-init : goal.loop-c-init
unfolding support_gap
loop-c-init c = (c.requires.0.whole, λ x l. raised_start _ _ _)

pub loop-c-preserved : goal.loop-c-preserved
unfolding support_gap
loop-c-preserved c = (
  c.raise_support.ensures.gaps,
  λ x l. raised_more _ _ _ _ _ _
      (c.loop-c.invariant.1 x l) (c.raise_support.ensures.raised_by_links x l),
)

pub returns : goal.returns
unfolding support_gap
returns c = λ x l. raised_end _ _ _ _ _ _ (c.loop-c.invariant.1 x l) c.loop-c.auto.c-end c.loop-c-test.false

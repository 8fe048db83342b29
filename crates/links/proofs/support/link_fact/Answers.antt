-- Along the conditions of the fact; its setters before each of them have been passed.
use Rattle.links.proofs.Linking.{linking_start, linking_some, linking_more, linking_end}
use Rattle.links.proofs.support.link_fact.Goals as goal

pub loop-p-init : goal.loop-p-init
loop-p-init c =
    let pre = c.requires in
    linking_start _
    (record {
      can = pre.0;
      fact = pre.1;
      initially = c.fact_initial-initial.ensures;
      begin = c.begin_at-low.ensures.0;
      next = c.begin_at-high.ensures;
      wanted = c.begin_at-begin.ensures.0;
      last = c.begin_at-end.ensures.0;
    })
    pre.2

pub run_link-link-requires : goal.run_link-link-requires
run_link-link-requires c =
    linking_some _ c.loop-p.invariant c.loop-p-test.true c.tick_of.ensures.0 c.value_of.ensures.0
    c.advance-cursor.ensures.0 c.advance-cursor.ensures.1 c.step_of.ensures.0 c.tie_at-tie.ensures c.own_place-at.ensures

pub loop-p-preserved : goal.loop-p-preserved
loop-p-preserved c =
    linking_more _ c.loop-p.invariant c.loop-p-test.true c.tick_of.ensures.0 c.value_of.ensures.0
    c.advance-cursor.ensures.0 c.advance-cursor.ensures.1 c.step_of.ensures.0 c.tie_at-tie.ensures
    c.own_place-at.ensures c.number_of.ensures.0 c.run_link-link.ensures

pub returns : goal.returns
returns c =
    let pre = c.requires in
    linking_end _ c.loop-p.invariant
    (record {
      can = pre.0;
      fact = pre.1;
      initially = c.fact_initial-initial.ensures;
      begin = c.begin_at-low.ensures.0;
      next = c.begin_at-high.ensures;
      wanted = c.begin_at-begin.ensures.0;
      last = c.begin_at-end.ensures.0;
    })
    c.loop-p-test.false

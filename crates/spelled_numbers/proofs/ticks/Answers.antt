-- The digits before the point, then those behind it.
use Rattle.std.proofs.Common.{◌+◌, ◌∙◌}
use Rattle.spelled_numbers.proofs.Numbers.{digits_count, time_none, time_whole, time_odd, time_parts}
use Rattle.std.proofs.lemmas.List.{take_rest}
use Rattle.spelled_numbers.proofs.ticks.Goals as goal

pub returns-in_err-whole : goal.returns-in_err-whole
returns-in_err-whole c = c.from_residual.ensures ∙ time_none _ _ c.point_at-point.ensures.0 c.in_err-whole.ensures.0

pub returns-then-point-word : goal.returns-then-point-word
returns-then-point-word c = time_whole _ _ c.point_at-point.ensures.0 c.in_ok-whole.ensures.0 c.if-point-word.true

pub returns-in_err-part : goal.returns-in_err-part
returns-in_err-part c =
    c.from_residual-in_err-part.ensures
    ∙ time_odd _ _ c.point_at-point.ensures.0 _ (take_rest c.args.word.now (c.point_at-point.result + 1)) c.in_ok-whole.ensures.0 c.if-point-word.false c.in_err-part.ensures.0

pub thousandths-rest-requires : goal.thousandths-rest-requires
thousandths-rest-requires c =
    let count = digits_count 3 _ c.in_ok-part.ensures.0 in
    (c.in_ok-part.ensures.1, count.0, count.1)

pub returns : goal.returns
returns c =
    time_parts _ _ c.point_at-point.ensures.0 _ (take_rest c.args.word.now (c.point_at-point.result + 1)) c.in_ok-whole.ensures.0 c.if-point-word.false c.in_ok-part.ensures.0
    c.thousandths-rest.ensures.0

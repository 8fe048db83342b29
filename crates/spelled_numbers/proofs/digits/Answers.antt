-- Every byte passed is a digit, and the number is what they spell.
use Rattle.std.proofs.Common.{sym, ◌∙◌}
use Rattle.spelling.specs.Names.{is_digit}
use Rattle.spelling.proofs.Digits.{digit_range}
use Rattle.spelled_numbers.proofs.Numbers.{counted_start, counted_fits, counted_more}
use Rattle.spelled_numbers.proofs.Numbers.{digits_none, digits_other, digits_all}
use Rattle.spelled_numbers.proofs.digits.Goals as goal

pub returns-then-word-most : goal.returns-then-word-most
returns-then-word-most c = (digits_none _ _ c.if-word-most.true, tt)

pub loop-b-init : goal.loop-b-init
loop-b-init c = counted_start _ _ c.if-word-most.false

pub returns-then-not-is_ascii_digit : goal.returns-then-not-is_ascii_digit
unfolding is_digit
returns-then-not-is_ascii_digit c =
    (digits_other _ _ _ _ c.loop-b.invariant c.loop-b-test.true (sym c.is_ascii_digit.ensures.value ∙ c.if-not-is_ascii_digit.true), tt)

pub with_digit-n-requires : goal.with_digit-n-requires
unfolding is_digit
with_digit-n-requires c =
    let range = digit_range (sym c.is_ascii_digit.ensures.value ∙ c.if-not-is_ascii_digit.false) in
    (counted_fits _ _ c.loop-b.invariant c.loop-b-test.true c.requires, range.0, range.1)

pub loop-b-preserved : goal.loop-b-preserved
unfolding is_digit
loop-b-preserved c =
    counted_more _ _ _ _ _ c.loop-b.invariant c.loop-b-test.true (sym c.is_ascii_digit.ensures.value ∙ c.if-not-is_ascii_digit.false)
    c.with_digit-n.ensures

pub returns : goal.returns
returns c = digits_all _ _ _ _ c.loop-b.invariant c.loop-b.auto.b-index-end c.loop-b-test.false

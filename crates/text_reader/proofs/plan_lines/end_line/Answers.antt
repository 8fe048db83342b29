use Rattle.token_reader.proofs.Steps.{clear, met}
use Rattle.text_reader.proofs.Loops.{end_goes, end_passes, end_stops}
use mathlib.Core.Path.{◌∙◌, sym}
use Rattle.text_reader.proofs.plan_lines.end_line.Goals as goal

pub returns-then-is_some : goal.returns-then-is_some
returns-then-is_some c = record { kept_fault = (λ e. absurd ((met _ c.is_some.ensures c.if-is_some.true) e)); turns = λ list p. end_passes p (met _ c.is_some.ensures c.if-is_some.true) }

pub sees_end-requires : goal.sees_end-requires
sees_end-requires c = c.requires

pub returns-then-sees_end : goal.returns-then-sees_end
returns-then-sees_end c =
    record { kept_fault = (λ e. (clear _ c.is_some.ensures c.if-is_some.false)); turns = λ list p. end_stops p (sym c.sees_end.ensures ∙ c.if-sees_end.true) }

pub take_bracket-requires : goal.take_bracket-requires
take_bracket-requires c = c.requires

pub returns : goal.returns
returns c =
    record { kept_fault = (λ e. (clear _ c.is_some.ensures c.if-is_some.false)); turns = λ list p. end_goes p c.sees_end.ensures c.if-sees_end.false c.take_bracket.ensures }

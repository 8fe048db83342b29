use Rattle.token_reader.proofs.Steps.{clear, met}
use Rattle.text_reader.proofs.Likeness.{finish_fails, finish_goes}
use Rattle.token_reader.proofs.Turning.{ends_fails, ends_fault, ends_stop}
use mathlib.Core.Path.{◌∙◌, sym}
use Rattle.text_reader.proofs.sections.take_end.Goals as goal

pub returns-then-is_some : goal.returns-then-is_some
returns-then-is_some c = λ list p. ends_fault _ p (met _ c.is_some.ensures c.if-is_some.true)

pub sees_end-requires : goal.sees_end-requires
sees_end-requires c = c.requires

pub returns-then-sees_end : goal.returns-then-sees_end
returns-then-sees_end c =
    let e = sym c.sees_end.ensures ∙ c.if-sees_end.true in
    λ list p. ends_stop _ p (clear _ c.is_some.ensures c.if-is_some.false) e (finish_goes _ e)

pub returns : goal.returns
returns c =
    λ list p. ends_fails p (clear _ c.is_some.ensures c.if-is_some.false) (finish_fails _ (sym c.sees_end.ensures ∙ c.if-sees_end.false))
    c.refuse.ensures

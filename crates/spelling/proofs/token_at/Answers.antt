-- The text's end, a bracket, or a word.
use Prim.Native.Nat.{◌<◌}
use mathlib.Core.Path.{refl, sym, ◌∙◌}
use lib.ListN.{length}
use native.Mathlib.Omega.{arith}
use Rattle.spelling.proofs.Scan.{stand_end, stand_mark, stand_word}
use Rattle.spelling.proofs.token_at.Goals as goal

pub returns-then-at-text : goal.returns-then-at-text
returns-then-at-text c = (refl, refl, stand_end _ _ _ c.requires.at_in_bounds.1 c.if-at-text.true refl)

pub returns-then-is_mark : goal.returns-then-is_mark
returns-then-is_mark c =
    let s = c in
    let h : s.args.at < length s.args.text.now = omega arith in
    let mark = sym c.is_mark.ensures ∙ c.if-is_mark.true in
    (refl, refl, stand_mark _ _ _ s.requires.at_in_bounds.1 h (s.requires.not_blank h) mark refl)

pub returns : goal.returns
returns c =
    let s = c in
    let h : s.args.at < length s.args.text.now = omega arith in
    let mark = sym c.is_mark.ensures ∙ c.if-is_mark.false in
    (refl, refl, stand_word _ _ _ s.requires.at_in_bounds.1 h (s.requires.not_blank h) mark c.run_end.ensures)

-- The reading of each of the two texts: "text over its length (at line 0, its first fault)".
use Rattle.std.specs.Prelude.{ℕ, true, false, cond, List, [], ◌∷◌, ltb, length}
use Rattle.spelling.specs.Tokens.{text_most, tokens}
use Rattle.grammar.specs.Allowed.{depth_most}
use Rattle.grammar.specs.Reader.{text, lines, Outcome, refused, run}

unfoldable pub action_reading : List ℕ → Outcome
action_reading s = cond (ltb text_most (length s)) (refused 18 0 []) (run depth_most (text ∷ []) [] (tokens false 0 s))

unfoldable pub plan_reading : List ℕ → Outcome
plan_reading s = cond (ltb text_most (length s)) (refused 18 0 []) (run depth_most (lines ∷ []) [] (tokens true 0 s))

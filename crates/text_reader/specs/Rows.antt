-- Inner: the rows of symbols that the functions read.
use Rattle.std.specs.Prelude.{List, [], ◌∷◌}
use Rattle.spelling.specs.Keywords.{durative_word, duration_word, equals_word, asked_word, condition_word, effect_word, goal_word}
use Rattle.grammar.specs.Said.{action, planned}
use Rattle.grammar.specs.Tree as tree
use Rattle.grammar.specs.Allowed.{depth_most}
use Rattle.grammar.specs.Reader.{Symbol, bracket, keyword, name, time, item, finish, opening, closing}

-- an action behind its first bracket
abbrev pub action_row : List Symbol
action_row =
    keyword durative_word ∷ name action ∷ keyword duration_word ∷ opening ∷ keyword equals_word ∷ keyword asked_word ∷ time ∷ closing
    ∷ keyword condition_word ∷ item tree.conditions depth_most ∷ keyword effect_word ∷ item tree.effects depth_most ∷ closing ∷ []

-- a plan line behind its start, up to its end
abbrev pub line_row : List Symbol
line_row = bracket 58 ∷ opening ∷ name planned ∷ closing ∷ bracket 91 ∷ time ∷ bracket 93 ∷ []

-- the goal and the text's end
abbrev pub goal_row : List Symbol
goal_row = opening ∷ keyword goal_word ∷ item tree.goals depth_most ∷ closing ∷ finish ∷ []

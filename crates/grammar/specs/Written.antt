-- How a tree is written, as words and brackets.
use Rattle.std.specs.Prelude.{List, [], ◌∷◌, ◌++◌}
use Rattle.spelling.specs.Tokens.{Token, mark, word, stop}
use Rattle.spelling.specs.Keywords.{at_word, over_word, and_word, not_word, increase_word, decrease_word, start_word, end_word, all_word}
use Rattle.spelling.specs.Keywords.{durative_word, duration_word, equals_word, asked_word, condition_word, effect_word, init_word, goal_word}
use Rattle.grammar.specs.Said.{When, at_start, over_all, at_end, Point, start, end}
use Rattle.grammar.specs.Tree.{Word, Literal, plain, negated, Change, sets, increases, decreases, Kind, conditions, effects, goals}
use Rattle.grammar.specs.Tree.{Leaf, Tree, one, both, Trees, none, more, Action, Init, holds, level, Text}
use Rattle.grammar.specs.Tree.{Line, Plan, nothing, last, blank, then}

abbrev pub in_brackets : List Token → List Token
in_brackets ts = mark 40 ∷ ts ++ (mark 41 ∷ [])

-- (N)
abbrev pub name_tokens : Word → List Token
name_tokens n = in_brackets (word n ∷ [])

unfoldable pub literal_tokens : Literal → List Token
literal_tokens (plain n) = name_tokens n
literal_tokens (negated n) = in_brackets (word not_word ∷ name_tokens n)

unfoldable pub change_tokens : Change → List Token
change_tokens (sets l) = literal_tokens l
change_tokens (increases n w) = in_brackets (word increase_word ∷ name_tokens n ++ (word w ∷ []))
change_tokens (decreases n w) = in_brackets (word decrease_word ∷ name_tokens n ++ (word w ∷ []))

abbrev pub point_word : Point → Token
point_word start = word start_word
point_word end = word end_word

abbrev pub when_tokens : When → List Token
when_tokens at_start = word at_word ∷ word start_word ∷ []
when_tokens over_all = word over_word ∷ word all_word ∷ []
when_tokens at_end = word at_word ∷ word end_word ∷ []

unfoldable pub leaf_tokens : (k : Kind) → Leaf k → List Token
leaf_tokens conditions c = in_brackets (when_tokens c.when ++ literal_tokens c.what)
leaf_tokens effects e = in_brackets (word at_word ∷ point_word e.at ∷ change_tokens e.what)
leaf_tokens goals l = literal_tokens l

unfoldable mutual
  pub tree_tokens : (k : Kind) → Tree k → List Token
  tree_tokens k (one a) = leaf_tokens k a
  tree_tokens k (both bs) = in_brackets (word and_word ∷ trees_tokens k bs)

  pub trees_tokens : (k : Kind) → Trees k → List Token
  trees_tokens k none = []
  trees_tokens k (more a bs) = tree_tokens k a ++ trees_tokens k bs

unfoldable pub action_tokens : Action → List Token
action_tokens a =
    in_brackets
    (word durative_word ∷ word a.name
    ∷ word duration_word ∷ in_brackets (word equals_word ∷ word asked_word ∷ word a.duration ∷ [])
    ++ word condition_word ∷ tree_tokens conditions a.condition
    ++ word effect_word ∷ tree_tokens effects a.effect)

unfoldable pub actions_tokens : List Action → List Token
actions_tokens [] = []
actions_tokens (a ∷ bs) = action_tokens a ++ actions_tokens bs

unfoldable pub init_tokens : Init → List Token
init_tokens (holds n) = name_tokens n
init_tokens (level n w) = in_brackets (word equals_word ∷ name_tokens n ++ (word w ∷ []))

unfoldable pub inits_tokens : List Init → List Token
inits_tokens [] = []
inits_tokens (i ∷ is) = init_tokens i ++ inits_tokens is

-- the first text, with its end
unfoldable pub text_tokens : Text → List Token
text_tokens t =
    actions_tokens t.actions
    ++ in_brackets (word init_word ∷ inits_tokens t.init)
    ++ in_brackets (word goal_word ∷ tree_tokens goals t.goal)
    ++ (stop ∷ [])

unfoldable pub line_tokens : Line → List Token
line_tokens l = word l.start ∷ mark 58 ∷ name_tokens l.name ++ mark 91 ∷ word l.duration ∷ mark 93 ∷ []

-- the plan, with its end
unfoldable pub plan_tokens : Plan → List Token
plan_tokens nothing = stop ∷ []
plan_tokens (last l) = line_tokens l ++ (stop ∷ [])
plan_tokens (blank p) = mark 10 ∷ plan_tokens p
plan_tokens (then l p) = line_tokens l ++ mark 10 ∷ plan_tokens p

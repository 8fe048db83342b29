-- What a tree says, in the order of the text.

use Rattle.std.specs.Prelude.{true, false, List, [], ◌∷◌, ◌++◌}
use Rattle.spelling.specs.Numbers.{spelled, ticks}
use Rattle.grammar.specs.Said.{Point, Place, wanted, set, reached, given}
use Rattle.grammar.specs.Said.{action, fact, rise, fall, stock, planned, Said, name, number}
use Rattle.grammar.specs.Tree.{Literal, plain, negated, Change, sets, increases, decreases, Kind, conditions, effects, goals}
use Rattle.grammar.specs.Tree.{Leaf, Tree, one, both, Trees, none, more, Action, Init, holds, level, Text}
use Rattle.grammar.specs.Tree.{Line, Plan, nothing, last, blank, then}

unfoldable pub literal_says : Place → Literal → List Said
literal_says p (plain n) = name (fact p true) n ∷ []
literal_says p (negated n) = name (fact p false) n ∷ []

unfoldable pub change_says : Point → Change → List Said
change_says q (sets l) = literal_says (set q) l
change_says q (increases n w) = name (rise q) n ∷ number (spelled w) ∷ []
change_says q (decreases n w) = name (fall q) n ∷ number (spelled w) ∷ []

unfoldable pub leaf_says : (k : Kind) → Leaf k → List Said
leaf_says conditions c = literal_says (wanted c.when) c.what
leaf_says effects e = change_says e.at e.what
leaf_says goals l = literal_says reached l

unfoldable mutual
  pub tree_says : (k : Kind) → Tree k → List Said
  tree_says k (one a) = leaf_says k a
  tree_says k (both bs) = trees_say k bs

  pub trees_say : (k : Kind) → Trees k → List Said
  trees_say k none = []
  trees_say k (more a bs) = tree_says k a ++ trees_say k bs

unfoldable pub action_says : Action → List Said
action_says a =
    name action a.name ∷ number (ticks a.duration) ∷ tree_says conditions a.condition ++ tree_says effects a.effect

unfoldable pub actions_say : List Action → List Said
actions_say [] = []
actions_say (a ∷ bs) = action_says a ++ actions_say bs

unfoldable pub init_says : Init → List Said
init_says (holds n) = name (fact given true) n ∷ []
init_says (level n w) = name stock n ∷ number (spelled w) ∷ []

unfoldable pub inits_say : List Init → List Said
inits_say [] = []
inits_say (i ∷ is) = init_says i ++ inits_say is

unfoldable pub text_says : Text → List Said
text_says t = actions_say t.actions ++ inits_say t.init ++ tree_says goals t.goal

unfoldable pub line_says : Line → List Said
line_says l = number (ticks l.start) ∷ name planned l.name ∷ number (ticks l.duration) ∷ []

unfoldable pub plan_says : Plan → List Said
plan_says nothing = []
plan_says (last l) = line_says l
plan_says (blank p) = plan_says p
plan_says (then l p) = line_says l ++ plan_says p

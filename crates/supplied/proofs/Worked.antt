-- What small texts say, computed: clashes of names, numbers of facts, lines that differ, the tables of a job.
use Prim.Native.Nat.{ℕ, ◌+◌, ◌-◌}
use Prim.Native.String.{String}
use mathlib.Core.Path.{◌≡◌, refl}
use mathlib.Core.Bool.{true, false}
use mathlib.Core.List.{List, [], ◌∷◌, map}
use Rattle.little_endian.specs.Bytes.{sign_bias}
use Rattle.spelling.specs.Keywords.{same, codes}
use Rattle.grammar.specs.Said.{at_start, over_all, at_end, start, end, wanted, set, reached, given}
use Rattle.grammar.specs.Said.{Role, action, fact, rise, fall, stock, planned, name, number, Item}
use Rattle.grammar.specs.Reader.{Outcome, read, refused}
use Rattle.job.specs.Model.{highest_level, no_deadline}
use Rattle.supplied.specs.Names.{facts, kind_of, same_kind, gives, clash, clashes, names_from, with_names}
use Rattle.supplied.specs.Names.{is_in, with_word, with_said, appearing, names_of, number_of}
use Rattle.supplied.specs.Plan.{number_in, word_in, lines_of, is_action, has_action, behind, leading, differs}
use Rattle.supplied.specs.Records.{in_action, body, condition_at, condition_in, conditions_in, effect_in, effects_in}
use Rattle.supplied.specs.Records.{use_in, uses_in, by_step, goal_in, goals_in}
use Rattle.supplied.specs.Job.{lists_fact, initially, lists_level, amount_of, tables_of}

-- a name in a role and a number, each on a line
abbrev says : ℕ → Role → String → Item
says l r w = record { said = name r (codes w); line = l }

abbrev tells : ℕ → ℕ → Item
tells l n = record { said = number n; line = l }

-- number and line of a refusal
abbrev place : Outcome → List ℕ
place (read is) = []
place (refused n l is) = n ∷ l ∷ []

-- a fact may be said often, and given once
said_often :
    let is = says 0 (fact (wanted at_start) true) "lit" ∷ says 1 (fact (set end) false) "lit" ∷ says 2 (fact given true) "lit"
    ∷ says 3 (fact reached true) "lit" ∷ [] in
    with_names (read is) ≡ read is
unfolding kind_of same_kind gives clash clashes names_from with_names same
said_often = refl

-- an action and a name of init are given once
action_twice : place (with_names (read (says 0 action "lift" ∷ says 4 action "lift" ∷ []))) ≡ 18 ∷ 4 ∷ []
unfolding kind_of same_kind gives clash clashes names_from with_names same
action_twice = refl

fact_given_twice : place (with_names (read (says 0 (fact given true) "lit" ∷ says 1 (fact given true) "lit" ∷ []))) ≡ 18 ∷ 1 ∷ []
unfolding kind_of same_kind gives clash clashes names_from with_names same
fact_given_twice = refl

level_given_twice : place (with_names (read (says 0 stock "cars" ∷ tells 0 1 ∷ says 2 stock "cars" ∷ []))) ≡ 18 ∷ 2 ∷ []
unfolding kind_of same_kind gives clash clashes names_from with_names same
level_given_twice = refl

-- one name stands for one kind, and capitals are distinct
two_kinds : place (with_names (read (says 0 action "lit" ∷ says 3 (fact reached true) "lit" ∷ []))) ≡ 18 ∷ 3 ∷ []
unfolding kind_of same_kind gives clash clashes names_from with_names same
two_kinds = refl

fact_and_level : place (with_names (read (says 0 (fact (set end) true) "cars" ∷ says 1 (fall start) "cars" ∷ []))) ≡ 18 ∷ 1 ∷ []
unfolding kind_of same_kind gives clash clashes names_from with_names same
fact_and_level = refl

capitals :
    let is = says 0 action "Lit" ∷ says 0 (fact reached true) "lit" ∷ [] in
    with_names (read is) ≡ read is
unfolding kind_of same_kind gives clash clashes names_from with_names same
capitals = refl

-- a clash comes before a fault further on
clash_first : place (with_names (refused 19 9 (says 0 action "lift" ∷ says 4 action "lift" ∷ []))) ≡ 18 ∷ 4 ∷ []
unfolding kind_of same_kind gives clash clashes names_from with_names same
clash_first = refl

-- facts go by where they first appear
first_appearance :
    let is = says 0 (fact (wanted at_start) true) "b" ∷ says 0 (rise end) "cars" ∷ says 1 (fact (set end) false) "a"
    ∷ says 2 (fact given true) "b" ∷ says 3 (fact reached true) "c" ∷ [] in
    map (λ w. number_of (codes w) (names_of facts is)) ("b" ∷ "a" ∷ "c" ∷ []) ≡ 0 ∷ 1 ∷ 2 ∷ []
unfolding kind_of same_kind is_in with_word with_said appearing number_of same
first_appearance = refl

-- an action of two ticks, one of a single tick, what init gives, the goal
abbrev two_actions : List Item
two_actions =
    says 0 action "lift" ∷ tells 0 2 ∷ says 0 (fact (wanted at_start) true) "free" ∷ says 0 (fact (wanted over_all) false) "shut"
    ∷ says 0 (fall start) "cars" ∷ tells 0 3 ∷ says 0 (fact (set end) false) "free"
    ∷ says 1 action "wait" ∷ tells 1 1 ∷ says 1 (fact (wanted over_all) true) "shut" ∷ says 1 (fact (wanted at_end) true) "free"
    ∷ says 1 (rise end) "cars" ∷ tells 1 4 ∷ says 1 (fact (set start) true) "dark"
    ∷ says 2 (fact given true) "free" ∷ says 2 stock "cars" ∷ tells 2 7
    ∷ says 3 (fact reached false) "free" ∷ says 3 (fact reached true) "dark" ∷ []

abbrev plan_of : ℕ → String → ℕ → ℕ → List Item → List Item
plan_of from w length line is = tells line from ∷ says line planned w ∷ tells line length ∷ is

-- lines that name no action, a fact behind which no duration stands, or have another duration
lines_differ :
    map (differs two_actions) (lines_of (plan_of 0 "lift" 2 0 (plan_of 0 "left" 2 1 (plan_of 0 "free" 0 2 (plan_of 0 "lift" 3 3 [])))))
    ≡ false ∷ true ∷ true ∷ true ∷ []
unfolding number_in word_in lines_of is_action has_action behind leading differs same
lines_differ = refl

-- the whole job: the step of one tick has no condition over all
whole_job :
    tables_of two_actions (lines_of (plan_of 5 "wait" 1 0 (plan_of 9 "lift" 2 1 [])))
    ≡ record {
      facts = 1 ∷ 0 ∷ 0 ∷ [];
      levels = record { initial = sign_bias + 7; least = sign_bias; most = highest_level } ∷ [];
      steps = record { start = 5; length = 1; fixed = 0 } ∷ record { start = 9; length = 2; fixed = 0 } ∷ [];
      conditions =
          record { step = 0; fact = 0; from = 1; to = 1; value = 1 }
          ∷ record { step = 1; fact = 0; from = 0; to = 0; value = 1 }
          ∷ record { step = 1; fact = 1; from = 1; to = 1; value = 0 } ∷ [];
      effects = record { step = 0; fact = 2; at = 0; value = 1 } ∷ record { step = 1; fact = 0; at = 2; value = 0 } ∷ [];
      uses =
          record { step = 0; level = 0; at = 1; amount = sign_bias + 4 }
          ∷ record { step = 1; level = 0; at = 0; amount = sign_bias - 3 } ∷ [];
      goals = record { fact = 0; value = 0; deadline = no_deadline } ∷ record { fact = 2; value = 1; deadline = no_deadline } ∷ [];
    }
unfolding kind_of same_kind is_in with_word with_said appearing number_of same number_in word_in lines_of is_action has_action behind leading differs
    in_action body condition_at condition_in conditions_in effect_in effects_in use_in uses_in by_step goal_in goals_in lists_fact initially lists_level
    amount_of tables_of
whole_job = refl

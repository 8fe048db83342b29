-- Small texts of suppliers, computed: what is read says, and where the others are refused.
use Prim.Native.Nat.{ℕ}
use Prim.Native.String.{String}
use mathlib.Core.Path.{◌≡◌, refl}
use mathlib.Core.Bool.{true, false}
use mathlib.Core.List.{List, [], ◌∷◌, ◌++◌}
use Rattle.laws.specs.Search.{all, lowest}
use Rattle.spelling.specs.Tokens.{is_blank, is_mark, in_word, line_after, joins, grown, with_byte, tokens}
use Rattle.spelling.specs.Keywords.{same, codes}
use Rattle.spelling.specs.Names.{is_letter, is_digit, is_name_byte, is_reserved, is_name}
use Rattle.spelling.specs.Numbers.{are_digits, spelled_from, is_whole, point_at, is_time, ticks}
use Rattle.spelling.specs.Cursor.{is_bracket, is_such, is_stop}
use Rattle.grammar.specs.Said.{at_start, over_all, end, wanted, reached, given, action, fact, rise, stock, planned}
use Rattle.grammar.specs.Said.{Said, name, number, Item, on_line}
use Rattle.grammar.specs.Reader.{Outcome, read, refused, onward, bytes, deeper, leaf_step, step, run}
use Rattle.grammar.specs.Reading.{action_reading, plan_reading}

-- a text, line by line
abbrev written : List String → List ℕ
written [] = []
written (l ∷ ls) = codes l ++ 10 ∷ written ls

-- an item on a line
abbrev on : ℕ → Said → Item
on l s = record { said = s; line = l }

-- number and line of a refusal
abbrev place : Outcome → List ℕ
place (read is) = []
place (refused n l is) = n ∷ l ∷ []

-- no action, nothing given, no goal
nothing_to_do :
    action_reading (codes "(:init)(:goal(and))")
    ≡ read []
unfolding action_reading is_blank is_mark in_word line_after joins grown with_byte tokens same is_letter is_digit is_name_byte is_reserved
    is_name all lowest are_digits spelled_from is_whole point_at is_time ticks is_bracket is_such is_stop on_line onward bytes deeper leaf_step
    step run
nothing_to_do = refl

-- an action that wants two facts and raises a level
one_action :
    action_reading (written ("(:durative-action raise" ∷ ":duration (= ?duration 0.5)" ∷ ":condition (and (at start (free))"
    ∷ "(over all (not (shut))))" ∷ ":effect (at end (increase (cars) 3)))" ∷ "(:init (free) (= (cars) 7)) (:goal (free))" ∷ []))
    ≡ read (on 0 (name action (codes "raise")) ∷ on 1 (number 500)
    ∷ on 2 (name (fact (wanted at_start) true) (codes "free")) ∷ on 3 (name (fact (wanted over_all) false) (codes "shut"))
    ∷ on 4 (name (rise end) (codes "cars")) ∷ on 4 (number 3) ∷ on 5 (name (fact given true) (codes "free"))
    ∷ on 5 (name stock (codes "cars")) ∷ on 5 (number 7) ∷ on 5 (name (fact reached true) (codes "free")) ∷ [])
unfolding action_reading is_blank is_mark in_word line_after joins grown with_byte tokens same is_letter is_digit is_name_byte is_reserved
    is_name all lowest are_digits spelled_from is_whole point_at is_time ticks is_bracket is_such is_stop on_line onward bytes deeper leaf_step
    step run
one_action = refl

-- an empty text ends where something is expected
no_text : place (action_reading []) ≡ 18 ∷ 0 ∷ []
unfolding action_reading is_blank is_mark in_word line_after joins grown with_byte tokens same is_letter is_digit is_name_byte is_reserved
    is_name all lowest are_digits spelled_from is_whole point_at is_time ticks is_bracket is_such is_stop on_line onward bytes deeper leaf_step
    step run
no_text = refl

-- a goal is one item at least, be it (and)
no_goal_lem : place (action_reading (codes "(:init)\n(:goal\n)")) ≡ 18 ∷ 2 ∷ []
unfolding action_reading is_blank is_mark in_word line_after joins grown with_byte tokens same is_letter is_digit is_name_byte is_reserved
    is_name all lowest are_digits spelled_from is_whole point_at is_time ticks is_bracket is_such is_stop on_line onward bytes deeper leaf_step
    step run
no_goal_lem = refl

-- nothing stands behind the goal
after_goal : place (action_reading (codes "(:init)(:goal(and))\n(")) ≡ 18 ∷ 1 ∷ []
unfolding action_reading is_blank is_mark in_word line_after joins grown with_byte tokens same is_letter is_digit is_name_byte is_reserved
    is_name all lowest are_digits spelled_from is_whole point_at is_time ticks is_bracket is_such is_stop on_line onward bytes deeper leaf_step
    step run
after_goal = refl

-- one fact stands under at start
two_under_at :
    place (action_reading (written ("(:durative-action a :duration (= ?duration 1)" ∷ ":condition (at start (f)" ∷ "(g))" ∷ [])))
    ≡ 18 ∷ 2 ∷ []
unfolding action_reading is_blank is_mark in_word line_after joins grown with_byte tokens same is_letter is_digit is_name_byte is_reserved
    is_name all lowest are_digits spelled_from is_whole point_at is_time ticks is_bracket is_such is_stop on_line onward bytes deeper leaf_step
    step run
two_under_at = refl

-- an effect is not over all
over_effect :
    place (action_reading (written ("(:durative-action a :duration (= ?duration 1)" ∷ ":condition (and) :effect ("
    ∷ "over all (f)))" ∷ [])))
    ≡ 18 ∷ 2 ∷ []
unfolding action_reading is_blank is_mark in_word line_after joins grown with_byte tokens same is_letter is_digit is_name_byte is_reserved
    is_name all lowest are_digits spelled_from is_whole point_at is_time ticks is_bracket is_such is_stop on_line onward bytes deeper leaf_step
    step run
over_effect = refl

-- init knows no not
not_in_init : place (action_reading (codes "(:init(\nnot(f)))")) ≡ 18 ∷ 1 ∷ []
unfolding action_reading is_blank is_mark in_word line_after joins grown with_byte tokens same is_letter is_digit is_name_byte is_reserved
    is_name all lowest are_digits spelled_from is_whole point_at is_time ticks is_bracket is_such is_stop on_line onward bytes deeper leaf_step
    step run
not_in_init = refl

-- a condition stands under its time
bare_condition :
    place (action_reading (written ("(:durative-action a :duration (= ?duration 1)" ∷ ":condition (" ∷ "f))" ∷ [])))
    ≡ 18 ∷ 2 ∷ []
unfolding action_reading is_blank is_mark in_word line_after joins grown with_byte tokens same is_letter is_digit is_name_byte is_reserved
    is_name all lowest are_digits spelled_from is_whole point_at is_time ticks is_bracket is_such is_stop on_line onward bytes deeper leaf_step
    step run
bare_condition = refl

-- sixteen (and ..) inside one another
sixteen_deep :
    action_reading (codes "(:init)(:goal(and(and(and(and(and(and(and(and(and(and(and(and(and(and(and(and)))))))))))))))))")
    ≡ read []
unfolding action_reading is_blank is_mark in_word line_after joins grown with_byte tokens same is_letter is_digit is_name_byte is_reserved
    is_name all lowest are_digits spelled_from is_whole point_at is_time ticks is_bracket is_such is_stop on_line onward bytes deeper leaf_step
    step run
sixteen_deep = refl

-- the seventeenth is refused at its word
seventeen_deep :
    place (action_reading (codes "(:init)(:goal(and(and(and(and(and(and(and(and(and(and(and(and(and(and(and(and(\nand"))
    ≡ 19 ∷ 1 ∷ []
unfolding action_reading is_blank is_mark in_word line_after joins grown with_byte tokens same is_letter is_digit is_name_byte is_reserved
    is_name all lowest are_digits spelled_from is_whole point_at is_time ticks is_bracket is_such is_stop on_line onward bytes deeper leaf_step
    step run
seventeen_deep = refl

-- a blank line, free blanks, and no line end at the end
plan_lines :
    plan_reading (codes "0: (rise) [ 1 ]\n\n1.5:(fall)[2]")
    ≡ read (on 0 (number 0) ∷ on 0 (name planned (codes "rise")) ∷ on 0 (number 1000) ∷ on 2 (number 1500)
    ∷ on 2 (name planned (codes "fall")) ∷ on 2 (number 2000) ∷ [])
unfolding plan_reading is_blank is_mark in_word line_after joins grown with_byte tokens same is_letter is_digit is_name_byte is_reserved
    is_name all lowest are_digits spelled_from is_whole point_at is_time ticks is_bracket is_such is_stop on_line onward bytes deeper leaf_step
    step run
plan_lines = refl

-- an empty plan
empty_plan :
    plan_reading []
    ≡ read []
unfolding plan_reading is_blank is_mark in_word line_after joins grown with_byte tokens same is_letter is_digit is_name_byte is_reserved
    is_name all lowest are_digits spelled_from is_whole point_at is_time ticks is_bracket is_such is_stop on_line onward bytes deeper leaf_step
    step run
empty_plan = refl

-- two plan lines on one line
two_on_a_line : place (plan_reading (codes "\n0:(a)[1] 1:(b)[1]")) ≡ 18 ∷ 1 ∷ []
unfolding plan_reading is_blank is_mark in_word line_after joins grown with_byte tokens same is_letter is_digit is_name_byte is_reserved
    is_name all lowest are_digits spelled_from is_whole point_at is_time ticks is_bracket is_such is_stop on_line onward bytes deeper leaf_step
    step run
two_on_a_line = refl

-- a plan line over two lines is refused at the line end
broken_line : place (plan_reading (codes "0:(a)\n[1]")) ≡ 18 ∷ 0 ∷ []
unfolding plan_reading is_blank is_mark in_word line_after joins grown with_byte tokens same is_letter is_digit is_name_byte is_reserved
    is_name all lowest are_digits spelled_from is_whole point_at is_time ticks is_bracket is_such is_stop on_line onward bytes deeper leaf_step
    step run
broken_line = refl

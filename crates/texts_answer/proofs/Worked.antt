-- Two small texts as the bytes of a job, computed: those that the second program writes.
use Prim.Native.Nat.{ℕ, ◌+◌}
use Prim.Native.String.{String}
use mathlib.Core.Path.{◌≡◌, refl}
use mathlib.Core.List.{List, [], ◌∷◌, ◌++◌}
use Rattle.laws.specs.Search.{any, all, lowest}
use Rattle.laws.specs.Listed.{concatenate}
use Rattle.little_endian.specs.Bytes.{u16_bytes, u32_bytes}
use Rattle.spelling.specs.Tokens.{is_blank, is_mark, in_word, line_after, joins, grown, with_byte, tokens}
use Rattle.spelling.specs.Keywords.{same, codes}
use Rattle.spelling.specs.Names.{is_letter, is_digit, is_name_byte, is_reserved, is_name}
use Rattle.spelling.specs.Numbers.{are_digits, spelled_from, is_whole, point_at, is_time, ticks}
use Rattle.spelling.specs.Cursor.{is_bracket, is_such, is_stop}
use Rattle.grammar.specs.Said.{on_line}
use Rattle.grammar.specs.Reader.{onward, bytes, deeper, leaf_step, step, run}
use Rattle.grammar.specs.Reading.{action_reading, plan_reading}
use Rattle.job.specs.Layout.{header_width, table_at, count_too_high}
use Rattle.job_encoding.specs.Encode.{counts_in, level_row, step_row, condition_row, effect_row, use_row, goal_row, timed_row, record_bytes}
use Rattle.job_encoding.specs.Encode.{added_bytes, header_bytes, up_to_table}
use Rattle.supplied.specs.Names.{kind_of, same_kind, gives, clash, clashes, names_from, with_names, is_in, with_word, with_said, appearing, number_of}
use Rattle.supplied.specs.Plan.{number_in, word_in, lines_of, is_action, has_action, behind, leading, differs}
use Rattle.supplied.specs.Records.{in_action, body, condition_at, condition_in, conditions_in, effect_in, effects_in, use_in, uses_in, by_step, goal_in, goals_in}
use Rattle.supplied.specs.Job.{lists_fact, initially, lists_level, amount_of, tables_of}
use Rattle.texts_answer.specs.FromTexts.{actions_read, job_bytes, bytes_of}

-- a text, line by line
abbrev lines : List String → List ℕ
lines [] = []
lines (l ∷ ls) = codes l ++ 10 ∷ lines ls

two_texts :
    bytes_of
    (actions_read
    (lines
    ("(:durative-action lift :duration (= ?duration 0.002)" ∷ " :condition (and (at start (free)) (over all (not (shut))))"
    ∷ " :effect (and (at start (decrease (cars) 3)) (at end (not (free)))))" ∷ "(:durative-action wait :duration (= ?duration 0.001)"
    ∷ " :condition (over all (shut)) :effect (at end (free)))" ∷ "(:init (free) (= (cars) 7))" ∷ "(:goal (free))" ∷ [])))
    (plan_reading (codes "0: (lift) [0.002]\n\n0.004: (wait) [0.001]"))
    ≡ 1 ∷ 0 ∷ 0 ∷ 0 ∷ 2 ∷ 0 ∷ 1 ∷ 0 ∷ 2 ∷ 0 ∷ 1 ∷ 0 ∷ 2 ∷ 0 ∷ 2 ∷ 0 ∷ 1 ∷ 0 ∷ 0 ∷ 0
    ∷ 48 ∷ 0 ∷ 0 ∷ 0 ∷ 50 ∷ 0 ∷ 0 ∷ 0 ∷ 62 ∷ 0 ∷ 0 ∷ 0 ∷ 82 ∷ 0 ∷ 0 ∷ 0 ∷ 110 ∷ 0 ∷ 0 ∷ 0
    ∷ 130 ∷ 0 ∷ 0 ∷ 0 ∷ 142 ∷ 0 ∷ 0 ∷ 0 ∷ 1 ∷ 0 ∷ 7 ∷ 0 ∷ 0 ∷ 0 ∷ 0 ∷ 0 ∷ 0 ∷ 0 ∷ 0 ∷ 202
    ∷ 154 ∷ 59 ∷ 0 ∷ 0 ∷ 0 ∷ 0 ∷ 2 ∷ 0 ∷ 0 ∷ 0 ∷ 0 ∷ 0 ∷ 4 ∷ 0 ∷ 0 ∷ 0 ∷ 1 ∷ 0 ∷ 0 ∷ 0
    ∷ 0 ∷ 0 ∷ 0 ∷ 0 ∷ 0 ∷ 0 ∷ 0 ∷ 0 ∷ 0 ∷ 0 ∷ 0 ∷ 0 ∷ 0 ∷ 0 ∷ 1 ∷ 0 ∷ 0 ∷ 0 ∷ 1 ∷ 0
    ∷ 1 ∷ 0 ∷ 0 ∷ 0 ∷ 1 ∷ 0 ∷ 0 ∷ 0 ∷ 0 ∷ 0 ∷ 0 ∷ 0 ∷ 0 ∷ 0 ∷ 2 ∷ 0 ∷ 0 ∷ 0 ∷ 0 ∷ 0
    ∷ 1 ∷ 0 ∷ 0 ∷ 0 ∷ 1 ∷ 0 ∷ 0 ∷ 0 ∷ 1 ∷ 0 ∷ 0 ∷ 0 ∷ 0 ∷ 0 ∷ 0 ∷ 0 ∷ 0 ∷ 0 ∷ 253 ∷ 255
    ∷ 255 ∷ 255 ∷ 0 ∷ 0 ∷ 1 ∷ 0 ∷ 255 ∷ 255 ∷ 255 ∷ 255 ∷ []
unfolding action_reading plan_reading is_blank is_mark in_word line_after joins grown with_byte tokens same is_letter is_digit is_name_byte is_reserved
    is_name any all lowest are_digits spelled_from is_whole point_at is_time ticks is_bracket is_such is_stop on_line onward bytes deeper leaf_step
    step run kind_of same_kind gives clash clashes names_from with_names is_in with_word with_said appearing number_of number_in word_in lines_of is_action
    has_action behind leading differs in_action body condition_at condition_in conditions_in effect_in effects_in use_in uses_in by_step goal_in goals_in
    lists_fact initially lists_level amount_of tables_of counts_in level_row step_row condition_row effect_row use_row goal_row timed_row record_bytes
    added_bytes header_bytes up_to_table header_width table_at count_too_high concatenate u16_bytes u32_bytes actions_read job_bytes bytes_of
two_texts = refl

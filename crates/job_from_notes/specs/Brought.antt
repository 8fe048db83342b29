-- Inner: the records that notes bring, kind by kind: which notes do, which record it is, and its bytes.
use Rattle.std.specs.Prelude.{ℕ, ◌+◌, ◌-◌, ◌/◌, ◌%◌, Bool, true, cond, not, ◌||◌, ◌&&◌, List, [], ◌∷◌, ◌++◌, eqb, ltb, leb, length, get_or}
use Rattle.std.proofs.Math.Seq.{slice}
use Rattle.laws.specs.Fold.{sum}
use Rattle.laws.specs.Listed.{concatenate}
use Rattle.little_endian.specs.Bytes.{sign_bias}
use Rattle.job.specs.declared.records.Condition.{Condition}
use Rattle.job.specs.declared.records.Effect.{Effect}
use Rattle.job.specs.declared.records.Use.{Use}
use Rattle.job.specs.declared.records.Goal.{Goal}
use Rattle.job.specs.Layout.{condition_width, effect_width, use_width, goal_width}
use Rattle.job.specs.Model.{no_deadline}
use Rattle.job_encoding.specs.Encode.{condition_row, effect_row, use_row, goal_row}
use Rattle.notes.specs.Notes.{role_in, rise_role, fall_role, wanted_role, over_all_role, wanted_at_end_role, set_role, set_at_end_role, reached_role, given_role}
use Rattle.job_notes.specs.Tables.{leading_noted, in_action_noted, length_noted}
use Rattle.job_from_notes.specs.declared.brought.Kind.{Kind}
use Rattle.job_from_notes.specs.declared.brought.Kind.TheVariants.{Conditions, Effects, Uses, Goals}

-- whether a note of role c brings a record, where the step has a length
abbrev pub brings : Kind → ℕ → ℕ → Bool
brings Conditions duration c =
    not (ltb c wanted_role)
    && (ltb c over_all_role || (ltb c wanted_at_end_role && not (ltb duration 2)) || (not (ltb c wanted_at_end_role) && ltb c set_role))
brings Effects duration c = not (ltb c set_role || leb reached_role c)
brings Uses duration c = not (ltb c rise_role || leb wanted_role c)
brings Goals duration c = not (ltb c reached_role || leb given_role c)

-- whether a walk goes on over a note: an action's to its end, that for goals over all notes
abbrev pub within : Kind → ℕ → Bool
within Conditions w = in_action_noted w
within Effects w = in_action_noted w
within Uses w = in_action_noted w
within Goals w = true

-- the records that notes bring, up to the walk's end
unfoldable pub count_noted : Kind → ℕ → List ℕ → ℕ
count_noted kind duration [] = 0
count_noted kind duration (w ∷ ws) = cond (within kind w) (cond (brings kind duration (role_in w)) 1 0 + count_noted kind duration ws) 0

-- and those that a step brings, and all steps
unfoldable pub count_of_step : Kind → (said plan acts : List ℕ) → ℕ → ℕ
count_of_step kind said plan acts s = count_noted kind (length_noted plan s) (slice (get_or acts s 0) (length said) said)

abbrev pub count_planned : Kind → (said plan acts : List ℕ) → ℕ
count_planned kind said plan acts = sum (length plan / 3) (count_of_step kind said plan acts)

-- the record that a note brings, whose name has number n
module _ (step duration : ℕ) where
  abbrev pub wanted : ℕ → ℕ → Condition
  wanted c n = record {
    step = step;
    fact = n;
    from = cond (ltb c over_all_role) 0 (cond (ltb c wanted_at_end_role) 1 duration);
    to = cond (ltb c over_all_role) 0 (cond (ltb c wanted_at_end_role) (duration - 1) duration);
    value = c % 2;
  }

  abbrev pub set : ℕ → ℕ → Effect
  set c n = record { step = step; fact = n; at = cond (ltb c set_at_end_role) 0 duration; value = c % 2 }

  abbrev pub used : ℕ → ℕ → ℕ → Use
  used c n amount = record {
    step = step;
    level = n;
    at = cond (eqb (c % 2) 0) 0 duration;
    amount = cond (ltb c fall_role) (sign_bias + amount) (sign_bias - amount);
  }

  abbrev pub reached : ℕ → ℕ → Goal
  reached c n = record { fact = n; value = c % 2; deadline = no_deadline }

  abbrev pub row_noted : Kind → ℕ → ℕ → ℕ → List ℕ
  row_noted Conditions c n amount = condition_row (wanted c n)
  row_noted Effects c n amount = effect_row (set c n)
  row_noted Uses c n amount = use_row (used c n amount)
  row_noted Goals c n amount = goal_row (reached c n)

  -- the bytes of what a note brings, and of what notes bring, up to the walk's end
  unfoldable pub part_noted : Kind → ℕ → ℕ → ℕ → List ℕ
  part_noted kind w n amount = cond (brings kind duration (role_in w)) (row_noted kind (role_in w) n amount) []

  unfoldable pub parts_noted : Kind → List ℕ → List ℕ → List ℕ
  parts_noted kind [] ns = []
  parts_noted kind (w ∷ ws) [] = []
  parts_noted kind (w ∷ ws) (n ∷ ns) = cond (within kind w) (part_noted kind w n (leading_noted ws) ++ parts_noted kind ws ns) []

  -- from a note on
  unfoldable pub parts_from : Kind → (said numbers : List ℕ) → ℕ → List ℕ
  parts_from kind said numbers k = parts_noted kind (slice k (length said) said) (slice k (length said) numbers)

-- of a step
unfoldable pub parts_of_step : Kind → (said numbers plan acts : List ℕ) → ℕ → List ℕ
parts_of_step kind said numbers plan acts s = parts_from s (length_noted plan s) kind said numbers (get_or acts s 0)

-- of all steps, and of the goals
abbrev pub planned_bytes : Kind → (said numbers plan acts : List ℕ) → List ℕ
planned_bytes kind said numbers plan acts = concatenate (length plan / 3) (parts_of_step kind said numbers plan acts)

abbrev pub goal_bytes : (said numbers : List ℕ) → List ℕ
goal_bytes said numbers = parts_from 0 0 Goals said numbers 0

-- the bytes of a record
abbrev pub width_of : Kind → ℕ
width_of Conditions = condition_width
width_of Effects = effect_width
width_of Uses = use_width
width_of Goals = goal_width

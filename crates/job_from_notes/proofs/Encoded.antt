-- The file of the tables that notes say, table by table: what each holds, where it comes, and that there is room.
use Prim.Native.Nat.{ℕ, zero, suc, ◌+◌, ◌-◌, ◌/◌, ◌≤◌, ◌<◌}
use mathlib.Core.Path.{◌≡◌, refl, sym, ap, subst, ◌∙◌}
use mathlib.Core.Bool.{false}
use mathlib.Core.List.{List, [], ◌∷◌, ◌++◌, append-nil}
use native.Mathlib.Omega.{arith}
use borrow.Author.Tests.{ltb-false}
use lib.ListN.{length, get_or, length-append}
use lib.Seq.{sets, slice}
use Rattle.laws.specs.Listed.{tabulate, concatenate}
use Rattle.laws.proofs.Listed.{length_tabulate, get_d_tabulate}
use Rattle.laws.proofs.Search.{any_false}
use Rattle.job.specs.declared.layout.Counts.{Counts}
use Rattle.job.specs.Layout.{header_width, highest, count_list, table_at, count_too_high}
use Rattle.job.specs.Model.{Model}
use Rattle.job_encoding.specs.Encode.{counts_in, level_row, step_row, condition_row, effect_row, use_row, goal_row, rows, record_bytes}
use Rattle.job_encoding.specs.Encode.{header_bytes, up_to_table, encode}
use Rattle.job_encoding.proofs.Rows.{rows_append, rows_parts}
use Rattle.job_encoding.proofs.Places.{length_header, length_encode}
use Rattle.little_endian.proofs.Sets.{sets_first}
use Rattle.order_file.specs.Held.{over}
use Rattle.supplied.specs.Job.{model_in, no_level, no_step, no_condition, no_effect, no_use, no_goal}
use Rattle.job_notes.specs.Tables.{initial_noted, joined, tables_noted}
use Rattle.job_from_notes.specs.declared.brought.Kind.TheVariants.{Conditions, Effects, Uses, Goals}
use Rattle.job_from_notes.specs.Brought.{parts_from, parts_of_step}
use Rattle.job_from_notes.specs.Counted.{tables_in}
use Rattle.job_from_notes.specs.Putting.{Put}
use Rattle.job_from_notes.specs.TableBytes.{given_in, stock_in, step_in}
use Rattle.job_from_notes.specs.Whole.{longest_job}
use Rattle.job_from_notes.proofs.Gathered.{condition_bytes, effect_bytes, use_bytes, goal_bytes_lem}
use Rattle.job_from_notes.proofs.Behind.{put_size, put_on}
use Rattle.job_from_notes.proofs.Begun.{parts_same}

-- the records of a table whose parts come by an index
rows_joined : {A : Type 0} (row : A → List ℕ) (n : ℕ) (f : ℕ → List A) → rows row (joined n f) ≡ concatenate n (λ s. rows row (f s))
unfolding rows joined concatenate
rows_joined row zero f = refl
rows_joined row (suc n) f = rows_append row (joined n f) (f n) ∙ ap (λ l. l ++ rows row (f n)) (rows_joined row n f)

rows_single : {A : Type 0} (row : A → List ℕ) (a : A) → rows row (a ∷ []) ≡ row a
unfolding rows
rows_single row a = append-nil (row a)

-- a table of records
table_rows :
    {A : Type 0} (row : A → List ℕ) (none : A) (n : ℕ) (f : ℕ → List A) (g : ℕ → List ℕ) → ((s : ℕ) → rows row (f s) ≡ g s)
    → concatenate (length (joined n f)) (λ k. row (get_or (joined n f) k none)) ≡ concatenate n g
table_rows row none n f g h =
    rows_parts row none (joined n f) ∙ rows_joined row n f ∙ parts_same (λ s. rows row (f s)) g n (λ s l. h s)

-- no count above its highest
pub none_higher : (c : Counts) → count_too_high c ≡ false → (t : ℕ) → t < 9 → get_or (count_list c) t 0 ≤ get_or highest t 0
unfolding count_too_high
none_higher c e t h = ltb-false (get_or highest t 0) (get_or (count_list c) t 0) (any_false _ 9 e t h)

module _ (facts levels : ℕ) (said numbers plan acts : List ℕ) where
  abbrev pub job : Model
  job = model_in (tables_in facts levels said numbers plan acts)

  abbrev pub table : ℕ → List ℕ
  table t = concatenate (get_or (count_list (counts_in job)) t 0) (record_bytes job t)

  pub facts_table : concatenate facts (given_in said numbers) ≡ table 0
  unfolding counts_in record_bytes tables_noted given_in
  facts_table =
      let f = initial_noted (slice 0 (length said) said) (slice 0 (length said) numbers) in
      parts_same (λ k. f k ∷ []) (λ k. get_or (tabulate facts f) k 0 ∷ []) facts (λ k h. ap (λ x. x ∷ []) (sym (get_d_tabulate f facts k 0 h)))
      ∙ ap (λ n. concatenate n (λ k. get_or (tabulate facts f) k 0 ∷ [])) (sym (length_tabulate f facts))

  pub levels_table : concatenate levels (stock_in said numbers) ≡ table 1
  unfolding counts_in record_bytes tables_noted stock_in
  levels_table = sym (table_rows level_row no_level levels _ (stock_in said numbers) (λ l. rows_single level_row _))

  pub steps_table : concatenate (length plan / 3) (step_in plan) ≡ table 2
  unfolding counts_in record_bytes tables_noted step_in
  steps_table = sym (table_rows step_row no_step (length plan / 3) _ (step_in plan) (λ s. rows_single step_row _))

  pub conditions_table : concatenate (length plan / 3) (parts_of_step Conditions said numbers plan acts) ≡ table 3
  unfolding counts_in record_bytes tables_noted parts_of_step parts_from
  conditions_table =
      sym (table_rows condition_row no_condition (length plan / 3) _ (parts_of_step Conditions said numbers plan acts) (λ s. condition_bytes s _ _ _))

  pub effects_table : concatenate (length plan / 3) (parts_of_step Effects said numbers plan acts) ≡ table 4
  unfolding counts_in record_bytes tables_noted parts_of_step parts_from
  effects_table = sym (table_rows effect_row no_effect (length plan / 3) _ (parts_of_step Effects said numbers plan acts) (λ s. effect_bytes s _ _ _))

  pub uses_table : concatenate (length plan / 3) (parts_of_step Uses said numbers plan acts) ≡ table 5
  unfolding counts_in record_bytes tables_noted parts_of_step parts_from
  uses_table = sym (table_rows use_row no_use (length plan / 3) _ (parts_of_step Uses said numbers plan acts) (λ s. use_bytes s _ _ _))

  pub goals_table : parts_from 0 0 Goals said numbers 0 ≡ table 6
  unfolding counts_in record_bytes tables_noted parts_from
  goals_table = sym (rows_parts goal_row no_goal _ ∙ goal_bytes_lem 0 0 _ _)

  -- no timed facts and no needs stand behind the goals
  pub up_to_goals : up_to_table 1 job 7 ≡ encode 1 job
  unfolding up_to_table concatenate counts_in
  up_to_goals = sym (append-nil (up_to_table 1 job 8) ∙ append-nil (up_to_table 1 job 7))

  -- the file so far, one more table, and the whole
  module _ {before : List ℕ} where
    pub header_put :
        {count : Counts} {out : List ℕ} → count ≡ counts_in job → out ≡ sets before 0 (header_bytes 1 count)
        → Put before 0 (up_to_table 1 job 0) 48 out
    unfolding up_to_table header_width
    header_put e f = record { put = f ∙ ap (λ c. sets before 0 (header_bytes 1 c)) e; place = omega (arith, length_header 1 (counts_in job)) }

    module _ (t : ℕ) (part : List ℕ) (e : part ≡ table t) {at : ℕ} {out : List ℕ} (v : Put before 0 (up_to_table 1 job t) at out) where
      pub table_put : {place : ℕ} {new : List ℕ} → Put out at part place new → Put before 0 (up_to_table 1 job (suc t)) place new
      unfolding up_to_table
      table_put {place} {new} p = put_on before 0 (table t) v (subst (λ l. Put out at l place new) e p)

      up_to : (d k : ℕ) → d + k ≡ 9 → length (up_to_table 1 job k) ≤ length (encode 1 job)
      unfolding up_to_table
      up_to zero k q = let z : k ≡ 9 = omega arith in rw z (omega arith)
      up_to (suc d) k q = omega (arith, up_to d (suc k) (omega arith), length-append (up_to_table 1 job k) (table k))

      pub table_room : t < 9 → length (encode 1 job) ≤ length before → at + length part ≤ length out
      unfolding up_to_table
      table_room h r =
          let before-next = up_to (8 - t) (suc t) (omega arith) in
          omega (arith, r, v.place, put_size before 0 v, ap length e, length-append (up_to_table 1 job t) (table t), before-next)

    pub whole_put :
        {at : ℕ} {out : List ℕ} → Put before 0 (up_to_table 1 job 7) at out → length (encode 1 job) ≤ length before
        → out ≡ over (encode 1 job) before
    whole_put v r = v.put ∙ ap (sets before 0) up_to_goals ∙ sets_first before (encode 1 job) r

  -- no job is longer
  pub whole_fits : count_too_high (counts_in job) ≡ false → length (encode 1 job) ≤ longest_job
  unfolding header_width table_at counts_in
  whole_fits e =
      let low = none_higher (counts_in job) e in
      omega (
        arith,
        length_encode 1 job,
        low 0 (omega arith),
        low 1 (omega arith),
        low 2 (omega arith),
        low 3 (omega arith),
        low 4 (omega arith),
        low 5 (omega arith),
        low 6 (omega arith),
      )

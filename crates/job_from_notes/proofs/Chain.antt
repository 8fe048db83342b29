-- The tables put one behind the other: after each, what is put and what fits next.
use Prim.Native.Nat.{ℕ, suc, ◌+◌, ◌≤◌, ◌<◌}
use mathlib.Core.Path.{◌≡◌, sym, ap, ◌∙◌}
use mathlib.Core.List.{List}
use native.Mathlib.Nat.{zero-add}
use native.Mathlib.Omega.{arith}
use lib.ListN.{length}
use lib.Seq.{sets}
use Rattle.job.specs.declared.layout.Counts.{Counts}
use Rattle.job.specs.Layout.{most_facts, most_levels, count_too_high}
use Rattle.job.specs.Model.{Model}
use Rattle.job_encoding.specs.Encode.{header_bytes, up_to_table, encode}
use Rattle.order_file.specs.Held.{over}
use Rattle.job_from_notes.specs.declared.brought.Kind.TheVariants.{Conditions, Effects, Uses}
use Rattle.job_from_notes.specs.Brought.{planned_bytes, goal_bytes}
use Rattle.job_from_notes.specs.Putting.{Put}
use Rattle.job_from_notes.specs.TableBytes.{given_bytes, stock_bytes, step_bytes}
use Rattle.job_from_notes.specs.Whole.{Writable}
use Rattle.job_from_notes.proofs.Behind.{put_size}
use Rattle.job_from_notes.proofs.Encoded.{job, table, facts_table, levels_table, steps_table, conditions_table, effects_table, uses_table}
use Rattle.job_from_notes.proofs.Encoded.{goals_table, up_to_goals}
use Rattle.job_from_notes.proofs.Encoded.{header_put, table_put, table_room, whole_put, whole_fits, none_higher}

module _ {said numbers plan acts : List ℕ} {count : Counts} {before : List ℕ} (w : Writable said numbers plan acts count before) where
  abbrev counted : Model
  counted = job count.facts count.levels said numbers plan acts

  abbrev table_of : ℕ → List ℕ
  table_of t = table count.facts count.levels said numbers plan acts t

  -- what is put up to table t, which comes at a place
  abbrev Upto : ℕ → ℕ → List ℕ → Type 0
  Upto t at out = Put before 0 (up_to_table 1 counted t) at out

  fits : length (encode 1 counted) ≤ length before
  fits =
      omega
      (arith, w.room, whole_fits count.facts count.levels said numbers plan acts (sym (ap count_too_high w.counted) ∙ w.low))

  pub few_facts : count.facts ≤ most_facts
  few_facts = none_higher count w.low 0 (omega arith)

  pub few_levels : count.levels ≤ most_levels
  few_levels = none_higher count w.low 1 (omega arith)

  pub after_header : {out : List ℕ} → out ≡ sets before 0 (header_bytes 1 count) → Upto 0 48 out
  after_header e = header_put count.facts count.levels said numbers plan acts w.counted e

  module _ {at : ℕ} {out : List ℕ} where
    -- a table that is the next one
    on :
        (t : ℕ) (part : List ℕ) → part ≡ table_of t → Upto t at out → {place : ℕ} {new : List ℕ} → Put out at part place new → Upto (suc t) place new
    on t part e v p = table_put count.facts count.levels said numbers plan acts t part e v p

    fit : (t : ℕ) (part : List ℕ) → part ≡ table_of t → t < 9 → Upto t at out → at + length part ≤ length out
    fit t part e h v = table_room count.facts count.levels said numbers plan acts t part e v h fits

    pub facts_fit : Upto 0 at out → at + length (given_bytes count.facts said numbers) ≤ length out
    facts_fit = fit 0 _ (facts_table count.facts count.levels said numbers plan acts) (omega arith)

    pub after_facts :
        Upto 0 at out → {place : ℕ} {new : List ℕ} → Put out at (given_bytes count.facts said numbers) place new → Upto 1 place new
    after_facts v p = on 0 _ (facts_table count.facts count.levels said numbers plan acts) v p

    pub levels_fit : Upto 1 at out → at + length (stock_bytes count.levels said numbers) ≤ length out
    levels_fit = fit 1 _ (levels_table count.facts count.levels said numbers plan acts) (omega arith)

    pub after_levels :
        Upto 1 at out → {place : ℕ} {new : List ℕ} → Put out at (stock_bytes count.levels said numbers) place new → Upto 2 place new
    after_levels v p = on 1 _ (levels_table count.facts count.levels said numbers plan acts) v p

    pub steps_fit : Upto 2 at out → at + length (step_bytes plan) ≤ length out
    steps_fit = fit 2 _ (steps_table count.facts count.levels said numbers plan acts) (omega arith)

    pub after_steps :
        Upto 2 at out → {place : ℕ} {new : List ℕ} → Put out at (step_bytes plan) place new → Upto 3 place new
    after_steps v p = on 2 _ (steps_table count.facts count.levels said numbers plan acts) v p

    pub conditions_fit : Upto 3 at out → at + length (planned_bytes Conditions said numbers plan acts) ≤ length out
    conditions_fit = fit 3 _ (conditions_table count.facts count.levels said numbers plan acts) (omega arith)

    pub after_conditions :
        Upto 3 at out → {place : ℕ} {new : List ℕ} → Put out at (planned_bytes Conditions said numbers plan acts) place new → Upto 4 place new
    after_conditions v p = on 3 _ (conditions_table count.facts count.levels said numbers plan acts) v p

    pub effects_fit : Upto 4 at out → at + length (planned_bytes Effects said numbers plan acts) ≤ length out
    effects_fit = fit 4 _ (effects_table count.facts count.levels said numbers plan acts) (omega arith)

    pub after_effects :
        Upto 4 at out → {place : ℕ} {new : List ℕ} → Put out at (planned_bytes Effects said numbers plan acts) place new → Upto 5 place new
    after_effects v p = on 4 _ (effects_table count.facts count.levels said numbers plan acts) v p

    pub uses_fit : Upto 5 at out → at + length (planned_bytes Uses said numbers plan acts) ≤ length out
    uses_fit = fit 5 _ (uses_table count.facts count.levels said numbers plan acts) (omega arith)

    pub after_uses_lem :
        Upto 5 at out → {place : ℕ} {new : List ℕ} → Put out at (planned_bytes Uses said numbers plan acts) place new → Upto 6 place new
    after_uses_lem v p = on 5 _ (uses_table count.facts count.levels said numbers plan acts) v p

    pub goals_fit : Upto 6 at out → at + length (goal_bytes said numbers) ≤ length out
    goals_fit = fit 6 _ (goals_table count.facts count.levels said numbers plan acts) (omega arith)

    pub after_goals :
        Upto 6 at out → {place : ℕ} {new : List ℕ} → Put out at (goal_bytes said numbers) place new → Upto 7 place new
    after_goals v p = on 6 _ (goals_table count.facts count.levels said numbers plan acts) v p

    pub whole : Upto 7 at out → out ≡ over (encode 1 counted) before
    whole v = whole_put count.facts count.levels said numbers plan acts v fits

    pub whole_size : Upto 7 at out → length out ≡ length before
    whole_size v = put_size before 0 v

    pub whole_end : Upto 7 at out → at ≡ length (encode 1 counted)
    whole_end v =
        v.place ∙ zero-add (length (up_to_table 1 counted 7)) ∙ ap length (up_to_goals count.facts count.levels said numbers plan acts)

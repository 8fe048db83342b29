-- What is answered once the plan is read: its fault, the first line that differs, too many lines, or what the job is answered.
use Prim.Native.Nat.{ℕ, ◌+◌, ◌*◌, ◌/◌, ◌≤◌, ◌<◌}
use mathlib.Core.Path.{◌≡◌, refl, sym, ap, subst, ◌∙◌}
use mathlib.Core.Bool.{true}
use mathlib.Core.List.{List}
use native.Mathlib.Omega.{arith}
use borrow.Author.Tests.{eq-eqb, ne_eqb, lt-ltb}
use lib.Dec.{ltb}
use lib.ListN.{length, get_or, take, length-map}
use lib.Seq.{length-take-le, get_or-take}
use Rattle.laws.proofs.Search.{any_intro}
use Rattle.grammar.specs.Said.{Item}
use Rattle.grammar.specs.Reader.{read, refused}
use Rattle.grammar.specs.Reading.{plan_reading}
use Rattle.notes.specs.Notes.{line_in, item_in, items_in, Sound}
use Rattle.job.specs.Layout.{highest, count_list, count_too_high}
use Rattle.job.specs.Model.{Model}
use Rattle.job_encoding.specs.Encode.{counts_in, encode}
use Rattle.token_reader.specs.Reading.{fault_of, heard, answer}
use Rattle.token_reader.specs.declared.Reader.{Reader}
use Rattle.text_reader.specs.Heard.{Heard}
use Rattle.supplied.specs.Plan.{lines_of}
use Rattle.supplied.specs.Job.{step_of, model_in, tables_of, supplied_job}
use Rattle.job_notes.proofs.Noted.{tables_noted_lem}
use Rattle.naming.specs.declared.Names.{Names}
use Rattle.naming.specs.Named.{Readable, AllNamed}
use Rattle.job_from_notes.specs.Counted.{tables_in, Walked}
use Rattle.plan_check.specs.Checked.{Differing, Agreeing}
use Rattle.std.specs.Prelude.{Err}
use Rattle.verdict.specs.declared.Refusal.TheVariants.{CountTooHigh}
use Rattle.texts_answer.specs.Answer.{TextsAnswer}
use Rattle.texts_answer.specs.declared.TextsRefusal.TheVariants.{PlanOutside, PlanDiffers, Refused}
use Rattle.texts_answer.specs.FromTexts.{job_bytes, counted, plan_answer, bytes_of, written}
use Rattle.job_filing.specs.Filed.{Filed}
use Rattle.texts_answer.proofs.Lines.{line_differs, no_line_differs}
use Rattle.from_pddl.specs.Answered.{Answered}

-- a job has a step for each line, and 64 at most
steps_are : (is plan : List Item) → (supplied_job is plan).steps ≡ length (lines_of plan)
unfolding tables_of
steps_are is plan = length-map (lines_of plan) step_of

too_many : (m : Model) → 64 < m.steps → count_too_high (counts_in m) ≡ true
unfolding count_too_high counts_in
too_many m h = any_intro (λ t. ltb (get_or highest t 0) (get_or (count_list (counts_in m)) t 0)) 9 2 (omega arith) (lt-ltb 64 m.steps h)

module _ (plan lines : List ℕ) (r : Reader) (h : Heard true (plan_reading plan) plan lines r) where
  pub lines_length : length (take r.count lines) ≡ r.count
  lines_length = length-take-le r.count lines (omega (arith, h.few, h.size))

  pub lines_readable : Readable plan (take r.count lines)
  lines_readable = record {
    few = omega (arith, lines_length, h.few);
    each = λ k l.
        subst (λ w. Sound plan w) (sym (get_or-take r.count lines k 0 (omega (arith, l, lines_length)))) (h.noted.sound k);
  }

  abbrev said : List Item
  said = items_in plan (take r.count lines)

  plan_refused : (fault_of r ≡ 0 → ⊥) → plan_reading plan ≡ refused (fault_of r) r.line said
  unfolding answer heard
  plan_refused z = h.same ∙ rw (ne_eqb (fault_of r) 0 z)

  plan_read_lem : fault_of r ≡ 0 → plan_reading plan ≡ read said
  unfolding answer heard
  plan_read_lem z = h.same ∙ rw (eq-eqb (fault_of r) 0 z)

  pub plan_outside : (is : List Item) (out : List ℕ) (line : ℕ) → (fault_of r ≡ 0 → ⊥) → line ≡ r.line → Answered is plan out (Err (PlanOutside line)) out
  unfolding plan_answer written
  plan_outside is out line z e = record { answer = rw (plan_refused z, e); buffer = refl }

  module _ (text notes out : List ℕ) (z : fault_of r ≡ 0) where
    -- a line that differs
    pub line_refused :
        (first line : ℕ) → Differing text notes plan (take r.count lines) first → line ≡ line_in (get_or lines (3 * first + 1) 0)
        → Answered (items_in text notes) plan out (Err (PlanDiffers line)) out
    unfolding plan_answer written
    line_refused first line c e =
        let l : first < r.count / 3 = omega (arith, c.within, c.count, lines_length) in
        let p = line_differs (items_in text notes) _ (lines_of said) first c.within c.same c.differs in
        record {
          answer =
              ap (λ l. Err (PlanDiffers l)) (e ∙ sym (c.line ∙ ap line_in (get_or-take r.count lines (3 * first + 1) 0 (omega (arith, l)))))
              ∙ sym (ap (λ o. plan_answer (items_in text notes) o (length out)) (plan_read_lem z) ∙ p);
          buffer = refl;
        }

    module _ (acts : List ℕ) (c : Agreeing text notes plan (take r.count lines) acts) where
      lines_pass :
          plan_answer (items_in text notes) (plan_reading plan) (length out) ≡ counted (supplied_job (items_in text notes) said) (length out)
      unfolding plan_answer
      lines_pass =
          ap (λ o. plan_answer (items_in text notes) o (length out)) (plan_read_lem z)
          ∙ no_line_differs (items_in text notes) _ (lines_of said) c.same

      -- more lines than a job has steps
      pub too_many_lines : 64 < r.count / 3 → Answered (items_in text notes) plan out (Err (Refused CountTooHigh)) out
      unfolding written counted
      too_many_lines l =
          let many : 64 < (supplied_job (items_in text notes) said).steps =
          omega (arith, steps_are (items_in text notes) said, l, c.count, lines_length)
          in
          record { answer = sym (lines_pass ∙ rw (too_many (supplied_job (items_in text notes) said) many)); buffer = refl }

      -- the notes of at most 64 steps can be walked
      pub notes_walked : Readable text notes → r.count / 3 ≤ 64 → Walked notes (take r.count lines) acts
      notes_walked p l =
          let a = c.acting (omega (arith, l, c.count, lines_length)) in
          record {
            few = p.few;
            steps = omega (arith, l, lines_length);
            size = a.size;
            inside = λ s h.
                let m : s < length (lines_of said) = omega (arith, h, c.count) in
                subst (λ k. get_or acts s 0 ≤ k) (length-map notes (item_in text)) (a.within s m);
          }

      -- what the job of the notes is answered
      pub rest_answered :
          (numbers index : List ℕ) (names : Names) (a : TextsAnswer) (after : List ℕ)
          → Readable text notes → AllNamed text notes numbers index names → r.count / 3 ≤ 64
          → Filed (model_in (tables_in names.facts names.levels notes numbers (take r.count lines) acts)) out a after
          → Answered (items_in text notes) plan out a after
      unfolding bytes_of job_bytes
      rest_answered numbers index names a after p n l f =
          let same =
          ap model_in (tables_noted_lem text plan notes (take r.count lines) numbers acts _ p.each p.few n.numbered
          (c.acting (omega (arith, l, c.count, lines_length))) refl (sym c.count) n.facts n.levels)
          in
          record {
            answer = f.answer ∙ ap (λ m. counted m (length out)) same ∙ sym lines_pass;
            buffer =
                f.buffer ∙ ap (λ m. written a (encode 1 m) out) same
                ∙ sym (ap (λ o. written a (bytes_of (read (items_in text notes)) o) out) (plan_read_lem z));
          }

-- The bytes of a record by its kind, of what a note brings, and of one more note of a walk.
use Prim.Native.Nat.{ℕ, ◌+◌, ◌≤◌, ◌<◌}
use mathlib.Core.Path.{◌≡◌, refl, sym, ap, ◌∙◌}
use mathlib.Core.Bool.{Bool, true, false}
use mathlib.Core.List.{List, [], ◌++◌}
use native.Mathlib.Omega.{arith}
use lib.ListN.{length, get_or}
use lib.Seq.{sets, slice}
use Rattle.little_endian.specs.Bytes.{u16_bytes, u32_bytes}
use Rattle.job.specs.declared.records.Condition.{Condition}
use Rattle.job.specs.declared.records.Effect.{Effect}
use Rattle.job.specs.declared.records.Use.{Use}
use Rattle.job.specs.declared.records.Goal.{Goal}
use Rattle.job_encoding.specs.Encode.{condition_row, effect_row, use_row, goal_row}
use Rattle.notes.specs.Notes.{role_in}
use Rattle.job_notes.specs.Tables.{leading_noted}
use Rattle.job_from_notes.specs.declared.brought.Kind.{Kind}
use Rattle.job_from_notes.specs.declared.brought.Kind.TheVariants.{Conditions, Effects, Uses, Goals}
use Rattle.job_from_notes.specs.Brought.{brings, within, wanted, set, used, reached, row_noted, part_noted, parts_noted, parts_from, width_of}
use Rattle.job_from_notes.specs.Putting.{Putting, Put}
use Rattle.job_from_notes.proofs.Behind.{putting_room, putting_more, putting_end}
use Rattle.job_from_notes.proofs.Walk.{slice_next, slice_none}

-- a record of each kind is put
module _ (l : List ℕ) (at s d c n a : ℕ) {kind : Kind} {out : List ℕ} where
  pub row_condition :
      {x : Condition} → kind ≡ Conditions → x ≡ wanted s d c n → out ≡ sets l at (condition_row x) → out ≡ sets l at (row_noted s d kind c n a)
  row_condition e f g = g ∙ ap (λ y. sets l at (condition_row y)) f ∙ sym (ap (λ k. sets l at (row_noted s d k c n a)) e)

  pub row_effect : {x : Effect} → kind ≡ Effects → x ≡ set s d c n → out ≡ sets l at (effect_row x) → out ≡ sets l at (row_noted s d kind c n a)
  row_effect e f g = g ∙ ap (λ y. sets l at (effect_row y)) f ∙ sym (ap (λ k. sets l at (row_noted s d k c n a)) e)

  pub row_use : {x : Use} → kind ≡ Uses → x ≡ used s d c n a → out ≡ sets l at (use_row x) → out ≡ sets l at (row_noted s d kind c n a)
  row_use e f g = g ∙ ap (λ y. sets l at (use_row y)) f ∙ sym (ap (λ k. sets l at (row_noted s d k c n a)) e)

  pub row_goal : {x : Goal} → kind ≡ Goals → x ≡ reached s d c n → out ≡ sets l at (goal_row x) → out ≡ sets l at (row_noted s d kind c n a)
  row_goal e f g = g ∙ ap (λ y. sets l at (goal_row y)) f ∙ sym (ap (λ k. sets l at (row_noted s d k c n a)) e)

module _ (s d : ℕ) where
  length_row : (kind : Kind) (c n a : ℕ) → length (row_noted s d kind c n a) ≡ width_of kind
  unfolding condition_row effect_row use_row goal_row u32_bytes u16_bytes
  length_row Conditions c n a = refl
  length_row Effects c n a = refl
  length_row Uses c n a = refl
  length_row Goals c n a = refl

  -- a note, its role, and whether it brings a record
  module _ (kind : Kind) (w n a : ℕ) {role : ℕ} {test : Bool} (e : role ≡ role_in w) (f : test ≡ brings kind d role) where
    part_one : test ≡ true → part_noted s d kind w n a ≡ row_noted s d kind role n a
    unfolding part_noted
    part_one t = rw (sym e, sym f ∙ t)

    part_none : test ≡ false → part_noted s d kind w n a ≡ []
    unfolding part_noted
    part_none t = rw (sym e, sym f ∙ t)

    pub note_room : (at m : ℕ) → test ≡ true → at + length (part_noted s d kind w n a) ≤ m → at + width_of kind ≤ m
    note_room at m t h = omega (arith, h, ap length (part_one t), length_row kind role n a)

    pub note_put :
        (l : List ℕ) (at : ℕ) {width : ℕ} {out : List ℕ} → test ≡ true → out ≡ sets l at (row_noted s d kind role n a) → width ≡ width_of kind
        → Put l at (part_noted s d kind w n a) (at + width) out
    note_put l at t g h =
        record {
          put = g ∙ ap (sets l at) (sym (part_one t));
          place = omega (arith, h, ap length (part_one t), length_row kind role n a);
        }

    pub note_none :
        (l : List ℕ) (at : ℕ) → test ≡ false → Put l at (part_noted s d kind w n a) at l
    note_none l at t = record { put = sym (ap (sets l at) (part_none t)); place = omega (arith, ap length (part_none t)) }

  -- the notes of a walk from one on
  module _ (kind : Kind) (said numbers : List ℕ) (k : ℕ) where
    from_more :
        k < length said → length said ≤ length numbers → within kind (get_or said k 0) ≡ true
        → {a : ℕ} → a ≡ leading_noted (slice (k + 1) (length said) said)
        → parts_from s d kind said numbers k
        ≡ part_noted s d kind (get_or said k 0) (get_or numbers k 0) a ++ parts_from s d kind said numbers (k + 1)
    unfolding parts_from parts_noted
    from_more h w e q = rw (q, slice_next said (length said) k h (omega arith), slice_next numbers (length said) k h w, e)

    -- nothing from a note on that the walk ends before, and nothing behind the last
    from_over : k < length said → length said ≤ length numbers → within kind (get_or said k 0) ≡ false → parts_from s d kind said numbers k ≡ []
    unfolding parts_from parts_noted
    from_over h w e = rw (slice_next said (length said) k h (omega arith), slice_next numbers (length said) k h w, e)

    from_end : length said ≤ k → k ≤ length said → parts_from s d kind said numbers k ≡ []
    unfolding parts_from parts_noted
    from_end h w = rw (slice_none said (length said) k h w)

    -- what is left of a walk: one more note, or nothing
    module _ {before : List ℕ} {from : ℕ} {whole : List ℕ} {at : ℕ} {out : List ℕ}
        (v : Putting before from whole (parts_from s d kind said numbers k) at out) where
      module _ (h : k < length said) (w : length said ≤ length numbers) where
        module _ (e : within kind (get_or said k 0) ≡ true) {a : ℕ} (q : a ≡ leading_noted (slice (k + 1) (length said) said)) where
          pub notes_room :
              from + length whole ≤ length before → at + length (part_noted s d kind (get_or said k 0) (get_or numbers k 0) a) ≤ length out
          notes_room =
              putting_room before from whole v (part_noted s d kind (get_or said k 0) (get_or numbers k 0) a) (parts_from s d kind said numbers (k + 1))
              (from_more h w e q)

          pub notes_more :
              {place : ℕ} {new : List ℕ} → Put out at (part_noted s d kind (get_or said k 0) (get_or numbers k 0) a) place new
              → Putting before from whole (parts_from s d kind said numbers (k + 1)) place new
          notes_more =
              putting_more before from whole v (part_noted s d kind (get_or said k 0) (get_or numbers k 0) a) (parts_from s d kind said numbers (k + 1))
              (from_more h w e q)

        pub notes_over : within kind (get_or said k 0) ≡ false → Put before from whole at out
        notes_over e = putting_end before from whole v (from_over h w e)

      pub notes_end : length said ≤ k → k ≤ length said → Put before from whole at out
      notes_end h w = putting_end before from whole v (from_end h w)

-- The bytes of one more step's records.
use Prim.Native.Nat.{ℕ, ◌+◌, ◌≤◌, ◌<◌}
use mathlib.Core.Path.{◌≡◌, subst}
use mathlib.Core.List.{List}
use lib.ListN.{length, get_or}
use Rattle.laws.specs.Listed.{concatenate}
use Rattle.job_notes.specs.Tables.{length_noted}
use Rattle.job_from_notes.specs.declared.brought.Kind.{Kind}
use Rattle.job_from_notes.specs.Brought.{parts_from, parts_of_step}
use Rattle.job_from_notes.specs.Putting.{Put}
use Rattle.job_from_notes.proofs.Behind.{parts_room, parts_more}

module _ (kind : Kind) (said numbers plan acts : List ℕ) (s : ℕ) {d : ℕ} (q : d ≡ length_noted plan s) where
  of_step_lem : parts_from s d kind said numbers (get_or acts s 0) ≡ parts_of_step kind said numbers plan acts s
  unfolding parts_of_step
  of_step_lem = rw q

  module _ {before : List ℕ} {from at : ℕ} {out : List ℕ} (v : Put before from (concatenate s (parts_of_step kind said numbers plan acts)) at out) where
    pub step_room :
        (n : ℕ) → s < n → from + length (concatenate n (parts_of_step kind said numbers plan acts)) ≤ length before
        → at + length (parts_from s d kind said numbers (get_or acts s 0)) ≤ length out
    step_room n h r = rw of_step_lem (parts_room before from (parts_of_step kind said numbers plan acts) n s v h r)

    pub step_more :
        {place : ℕ} {new : List ℕ} → Put out at (parts_from s d kind said numbers (get_or acts s 0)) place new
        → Put before from (concatenate (s + 1) (parts_of_step kind said numbers plan acts)) place new
    step_more {place} {new} p =
        parts_more before from (parts_of_step kind said numbers plan acts) s v (subst (λ l. Put out at l place new) of_step_lem p)

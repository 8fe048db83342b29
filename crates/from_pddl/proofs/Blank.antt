-- Lists as they are before anything is noted or entered.
use Prim.Native.Nat.{ℕ}
use mathlib.Core.Path.{◌≡◌}
use native.Mathlib.Decide.{dec_lt}
use native.Mathlib.Omega.{arith}
use lib.ListN.{get_or, replicate, length-replicate, get_or-replicate, get_or-eq_default}
use Rattle.notes.specs.Notes.{notes_most}

pub no_notes : (k : ℕ) → get_or {A = ℕ} (replicate notes_most 0) k 0 ≡ 0
no_notes k =
    elim (dec_lt k notes_most) [
      | yes h ↦ get_or-replicate {A = ℕ} notes_most k 0 0 h
      | no h ↦ get_or-eq_default {A = ℕ} (replicate notes_most 0) 0 {n = k} (omega (arith, length-replicate {A = ℕ} notes_most 0))
    ]

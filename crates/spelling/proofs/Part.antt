-- A part of a text, and a byte of it.
use Prim.Native.Nat.{ℕ, ◌+◌, ◌-◌, ◌≤◌, ◌<◌}
use mathlib.Core.Path.{◌≡◌, sym, ap, ◌∙◌}
use mathlib.Core.List.{List}
use native.Mathlib.Omega.{arith}
use lib.ListN.{get_or, take, drop}
use Rattle.std.proofs.lemmas.List.{drop-take}
use lib.Seq.{slice, get_or-drop, get_or-take}

-- a part of a text as the library takes it
pub part_is : (text : List ℕ) (at end : ℕ) → at ≤ end → take (end - at) (drop at text) ≡ slice at end text
part_is text at end h =
    let e : at + (end - at) ≡ end = omega arith in
    sym (drop-take at (end - at) text) ∙ ap (λ n. drop at (take n text)) e

-- a byte of a part of a text
pub part_at : (text : List ℕ) (at end k : ℕ) → at + k < end → get_or (slice at end text) k 0 ≡ get_or text (at + k) 0
part_at text at end k l = rw (get_or-drop at (take end text) k 0, get_or-take end text (at + k) 0 l)

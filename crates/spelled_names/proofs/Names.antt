-- The tests of a name.
use Prim.Native.Nat.{ℕ, ◌+◌, ◌-◌, ◌≤◌, ◌<◌}
use mathlib.Core.Path.{◌≡◌}
use mathlib.Core.Bool.{Bool, not, ◌&&◌}
use mathlib.Core.List.{List}
use native.Mathlib.Omega.{arith}
use native.Mathlib.Nat.{add-zero}
use lib.Dec.{leb}
use lib.ListN.{length, get_or}
use lib.Seq.{slice, length-slice}
use Rattle.laws.specs.Search.{all}
use Rattle.spelling.specs.Names.{name_most, is_letter, is_name_byte, is_reserved, is_name}
use Rattle.spelling.proofs.Part.{part_at}

-- the tests of a name, taken at its place in the text
pub name_is :
    (text : List ℕ) (at end : ℕ) {l s r : Bool} → at < end → end ≤ length text → l ≡ is_letter (get_or text at 0) →
    s ≡ all (end - at) (λ k. is_name_byte (get_or (slice at end text) k 0)) → r ≡ is_reserved (slice at end text) →
    (((leb (end - at) name_most && l) && s) && not r) ≡ is_name (slice at end text)
unfolding is_name
name_is text at end h k e f g =
    let m : at + 0 < end = omega arith in
    rw (e, f, g, length-slice at end text k, part_at text at end 0 m, add-zero at)

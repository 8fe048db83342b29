-- Laws of telling: a text put in other words for the same.
use Prim.Native.Nat.{ℕ, ◌+◌, ◌≤◌}
use mathlib.Core.Path.{◌≡◌}
use mathlib.Core.List.{List}
use native.Mathlib.Omega.{arith}
use lib.ListN.{length}
use Rattle.text.specs.Put.{Put}

-- what is put is the same text, of at most w bytes
pub put_as : {l m s t : List ℕ} {at r w : ℕ} → t ≡ s → length s ≤ w → Put l at s m r → Put l at t m r × (r ≤ at + w)
put_as e h p = (rw e p, omega (arith, p.ends, h))

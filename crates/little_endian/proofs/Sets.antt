-- Bytes stored one behind the other: past the end, behind others, and at the very front.
use Prim.Native.Nat.{ℕ, suc, ◌+◌, ◌≤◌}
use mathlib.Core.Path.{◌≡◌, refl, sym, ap, ◌∙◌}
use mathlib.Core.List.{List, [], ◌∷◌, ◌++◌}
use native.Mathlib.Nat.{zero-add, add-zero}
use native.Mathlib.Omega.{arith}
use lib.ListN.{length, drop, set}
use lib.Seq.{sets, sets-eq, set_out}

-- stores past the end change nothing
pub sets_out : (l : List ℕ) (at : ℕ) (vs : List ℕ) → length l ≤ at → sets l at vs ≡ l
sets_out l at [] h = refl
sets_out l at (v ∷ vs) h =
    let e : set l at v ≡ l = set_out l at v h in
    ap (λ (k : List ℕ). sets k (suc at) vs) e ∙ sets_out l (suc at) vs (omega arith)

-- the second part begins where the first ends
pub sets_behind : (l a b : List ℕ) (at next : ℕ) → at + length a ≡ next → sets l at (a ++ b) ≡ sets (sets l at a) next b
sets_behind l [] b at next e = ap (λ k. sets l k b) (sym (add-zero at) ∙ e)
sets_behind l (v ∷ a) b at next e = sets_behind (set l at v) a b (suc at) next (omega arith)

-- a part at the front of a list that has room for it, and what lies behind as it was
pub sets_first : (l a : List ℕ) → length a ≤ length l → sets l 0 a ≡ a ++ drop (length a) l
sets_first l a h = sets-eq a l 0 (omega arith) ∙ ap (λ n. a ++ drop n l) (zero-add (length a))

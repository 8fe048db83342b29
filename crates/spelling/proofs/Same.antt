-- Comparing two words byte by byte.
use Prim.Native.Nat.{ℕ}
use mathlib.Core.Path.{◌≡◌, refl}
use mathlib.Core.Bool.{true}
use mathlib.Core.List.{List, [], ◌∷◌}
use lib.Dec.{eqb}
use borrow.Author.Tests.{eq-eqb, eqb-true}
use Rattle.laws.proofs.Search.{contrary, and_both}
use Rattle.spelling.specs.Keywords.{same}

pub same_refl : (w : List ℕ) → same w w ≡ true
unfolding same
same_refl [] = refl
same_refl (a ∷ w) = rw (eq-eqb a a refl) (same_refl w)

pub same_eq : (w v : List ℕ) → same w v ≡ true → w ≡ v
unfolding same
same_eq [] [] e = refl
same_eq [] (b ∷ v) e = contrary e refl
same_eq (a ∷ w) [] e = contrary e refl
same_eq (a ∷ w) (b ∷ v) e =
    let p = and_both (eqb a b) (same w v) e in
    let q = eqb-true a b p.0 in
    let r = same_eq w v p.1 in
    cc

-- Laws of filling a list with numbers: none yet, one more, all.
use Prim.Native.Nat.{ℕ, ◌+◌, ◌<◌, ◌≤◌}
use mathlib.Core.Path.{◌≡◌, sym, ap, ◌∙◌}
use mathlib.Core.List.{List, [], ◌∷◌, ◌++◌}
use native.Mathlib.Numerals.{add-one}
use native.Mathlib.Omega.{arith}
use lib.ListN.{length, get_or, set, take}
use lib.Seq.{take-nil, drop-nil, take-suc, take_all, length-take-le}
use Rattle.listing.specs.Listed.{filled}

pub filled_none : (l : List ℕ) → filled l [] ≡ l
unfolding filled
filled_none l = ap (λ (k : List ℕ). k ++ l) (take-nil (length l))

filled_more : (l xs : List ℕ) (x : ℕ) → filled l (xs ++ (x ∷ [])) ≡ set (filled l xs) (length xs) x
unfolding filled
filled_more [] xs x = drop-nil (length (xs ++ (x ∷ []))) ∙ sym (ap (λ (k : List ℕ). set k (length xs) x) (drop-nil (length xs)))
filled_more (y ∷ l) [] x = ap (λ (k : List ℕ). x ∷ (k ++ l)) (take-nil (length l))
filled_more (y ∷ l) (z ∷ xs) x = ap (λ (k : List ℕ). z ∷ k) (filled_more l xs x)

pub fill_more : (l ns : List ℕ) {m n : List ℕ} (k : ℕ)
    → m ≡ filled l (take k ns) → k < length ns → n ≡ set m k (get_or ns k 0) → n ≡ filled l (take (k + 1) ns)
fill_more l ns {m} {n} k e h s =
    let x = get_or ns k 0 in
    let t : length (take k ns) ≡ k = length-take-le k ns (omega arith) in
    s
    ∙ ap (λ (j : List ℕ). set j k x) e
    ∙ ap (λ (j : ℕ). set (filled l (take k ns)) j x) (sym t)
    ∙ sym (filled_more l (take k ns) x)
    ∙ ap (filled l) (sym (take-suc ns k 0 h))
    ∙ ap (λ (j : ℕ). filled l (take j ns)) (sym (add-one k))

pub fill_end : (l ns : List ℕ) {m : List ℕ} (k : ℕ) → m ≡ filled l (take k ns) → length ns ≤ k → m ≡ filled l ns
fill_end l ns k e h = e ∙ ap (filled l) (take_all k ns h)

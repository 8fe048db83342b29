-- Lists have the same first starts if their beginnings are the same.
use Prim.Native.Nat.{ℕ, ◌≤◌, ◌<◌}
use mathlib.Core.Path.{◌≡◌, sym, ap, ◌∙◌}
use mathlib.Core.Bool.{true, false}
use mathlib.Core.List.{List}
use mathlib.Core.Logic.{⊎_elim}
use native.Mathlib.Omega.{arith}
use borrow.Author.Tests.{eq-eqb, eqb-true}
use lib.Dec.{eqb}
use lib.ListN.{length, get_or, take}
use lib.Pointwise.{pointwise, bytes_decides}
use lib.Seq.{length-take-le}
use Rattle.std.proofs.lemmas.Grind.{same_number_lists}
use Rattle.std.proofs.lemmas.List.{get_or-take}
use Rattle.laws.specs.Search.{all}
use Rattle.laws.proofs.Search.{either, contrary, all_intro, all_elim}

module _ (a b : List ℕ) (n : ℕ) (long : n ≤ length a) (far : n ≤ length b) where
  same_if : pointwise eqb (take n a) (take n b) ≡ true → all n (λ k. eqb (get_or a k 0) (get_or b k 0)) ≡ true
  same_if t =
      let e = (bytes_decides (take n a) (take n b)).0 t in
      all_intro (λ k. eqb (get_or a k 0) (get_or b k 0)) n
      (λ k l. eq-eqb _ _ (sym (get_or-take n a k 0 l) ∙ ap (λ (s : List ℕ). get_or s k 0) e ∙ get_or-take n b k 0 l))

  same_only : all n (λ k. eqb (get_or a k 0) (get_or b k 0)) ≡ true → pointwise eqb (take n a) (take n b) ≡ true
  same_only t =
      let size : length (take n a) ≡ n = length-take-le _ _ long in
      (bytes_decides (take n a) (take n b)).1
      (same_number_lists (take n a) (take n b) (size ∙ sym (length-take-le _ _ far))
      (λ k l.
      let h : k < n = omega (arith, size) in
      get_or-take n a k 0 h ∙ eqb-true _ _ (all_elim (λ k. eqb (get_or a k 0) (get_or b k 0)) n t k h) ∙ sym (get_or-take n b k 0 h)))

  pub same_all : pointwise eqb (take n a) (take n b) ≡ all n (λ k. eqb (get_or a k 0) (get_or b k 0))
  same_all =
      ⊎_elim
      (λ (t : pointwise eqb (take n a) (take n b) ≡ true). t ∙ sym (same_if t))
      (λ (f : pointwise eqb (take n a) (take n b) ≡ false).
      f ∙ sym (⊎_elim
      (λ (t : all n (λ k. eqb (get_or a k 0) (get_or b k 0)) ≡ true). contrary (same_only t) f)
      (λ q. q)
      (either (all n (λ k. eqb (get_or a k 0) (get_or b k 0))))))
      (either (pointwise eqb (take n a) (take n b)))

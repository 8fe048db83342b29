-- What the tests of the code say.
use Prim.Native.Nat.{ℕ, ◌<◌}
use mathlib.Core.Path.{◌≡◌, sym, ap, ap₂, ◌∙◌}
use mathlib.Core.Bool.{true, false, ◌&&◌, not}
use native.Mathlib.Omega.{arith}
use borrow.Author.Tests.{lt-ltb, ltb-true, ne_eqb, eqb-false, not-true}
use lib.Dec.{ltb, eqb}
use Rattle.laws.proofs.Search.{contrary, and_both}

-- another value, and one tick before the other: what the code read of a point is what it holds
pub both_pass :
    {a v b t u t' u' : ℕ} → a ≡ v → t ≡ t' → u ≡ u' → (not (eqb a b) && ltb t u) ≡ true → (v ≡ b → ⊥) × (t' < u')
both_pass {t = t} {u = u} value soon late e =
    let p = and_both _ _ e in
    (λ q. eqb-false _ _ (not-true _ p.0) (value ∙ q), omega (arith, ltb-true t u p.1))

pub one_fails :
    {a v b t u t' u' : ℕ} → a ≡ v → t ≡ t' → u ≡ u' → (not (eqb a b) && ltb t u) ≡ false → (v ≡ b → ⊥) → t' < u' → ⊥
one_fails {a = a} {b = b} {t = t} {u = u} value soon late e d l =
    contrary (ap₂ ◌&&◌ (ap not (ne_eqb a b (λ q. d (sym value ∙ q)))) (lt-ltb t u (omega arith))) e

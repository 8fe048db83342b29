-- An answer that is the defined one brings its promise.
use Prim.Native.Nat.{ℕ}
use mathlib.Core.Path.{◌≡◌, ◌∙◌, ap, subst}
use Rattle.exports.specs.Packs.{Packs}

pub carried : {A : Type 0} (P : A → Type 0) (f : A → ℕ) {x a : A} {r : ℕ} → x ≡ a → P x → r ≡ f x → Packs P f a r
carried P f e p h = record { number = h ∙ ap f e; promise = subst P e p }

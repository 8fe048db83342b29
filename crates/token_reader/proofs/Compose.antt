-- Symbols read one after the other, and symbols that stand for others.
use Prim.Native.Nat.{ℕ}
use mathlib.Core.Path.{◌≡◌, refl, sym, ◌∙◌}
use mathlib.Core.Bool.{Bool, true, false, cond}
use mathlib.Core.List.{List, [], ◌∷◌, ◌++◌}
use native.Mathlib.Omega.{arith}
use native.Mathlib.Decide.{dec_lt}
use Rattle.spelling.specs.Tokens.{Token}
use Rattle.spelling.specs.Cursor.{here}
use Rattle.grammar.specs.Said.{Said, Item}
use Rattle.grammar.specs.Allowed.{depth_most}
use Rattle.grammar.specs.Reader.{Symbol, goes, fails, step, Outcome, onward}
use Rattle.token_reader.specs.Reading.{cursor_of, fault_of, outcome, Stands, Reads, Leads}
use Rattle.token_reader.specs.declared.Reader.{Reader}
use Rattle.token_reader.proofs.Steps.{outcome_fault, stepped}

module _ {plan : Bool} {text : List ℕ} where
  -- one symbol, one before others, and one row before another
  pub lead : {list list' : List ℕ} {r a : Reader} {s : Symbol} → Reads plan text list r s list' a → Leads plan text list r (s ∷ []) list' a
  lead p = record { ready = p.ready; size = p.size; onward = p.onward; further = p.further; same = p.same }

  pub then :
      {list list' list'' : List ℕ} {r b a : Reader} {s : Symbol} {ss : List Symbol} → Reads plan text list r s list' b
      → Leads plan text list' b ss list'' a → Leads plan text list r (s ∷ ss) list'' a
  then {ss} p q = record {
    ready = q.ready;
    size = q.size ∙ p.size;
    onward = omega (arith, p.onward, q.onward);
    further = λ e. let h = q.further e in omega (arith, p.onward);
    same = λ σ. p.same (ss ++ σ) ∙ q.same σ;
  }

-- at this token a symbol is as good as another with more behind it
abbrev pub Alike : Token → Symbol → Symbol → List Symbol → Type 0
Alike t s s' more =
    (σ : List Symbol) (is : List Item) (l : ℕ) (k : List Symbol → List Item → Outcome)
    → onward (step depth_most s t) σ is l k ≡ onward (step depth_most s' t) (more ++ σ) is l k

pub alike :
    (plan : Bool) (text list : List ℕ) (r : Reader) (s s' : Symbol) (more : List Symbol) → Stands plan text r
    → (fault_of r ≡ 0 → Alike (here plan text (cursor_of r)) s s' more) → (σ : List Symbol)
    → outcome plan text list r (s ∷ σ) ≡ outcome plan text list r (s' ∷ more ++ σ)
alike plan text list r s s' more p f σ = elim (dec_lt 0 (fault_of r)) [ yes h ↦ off (λ z. omega arith) | no h ↦ on (omega arith) ]
  where
    off : (fault_of r ≡ 0 → ⊥) → outcome plan text list r (s ∷ σ) ≡ outcome plan text list r (s' ∷ more ++ σ)
    off h = outcome_fault plan text list r (s ∷ σ) h ∙ sym (outcome_fault plan text list r (s' ∷ more ++ σ) h)

    on : fault_of r ≡ 0 → outcome plan text list r (s ∷ σ) ≡ outcome plan text list r (s' ∷ more ++ σ)
    on e = stepped plan text list r s σ p e ∙ f e σ _ _ _ ∙ sym (stepped plan text list r s' (more ++ σ) p e)

-- what has read those has read this
pub stands :
    {plan : Bool} {text list list' : List ℕ} {r a : Reader} {s s' : Symbol} {more : List Symbol} → Stands plan text r
    → (fault_of r ≡ 0 → Alike (here plan text (cursor_of r)) s s' more) → Leads plan text list r (s' ∷ more) list' a
    → Reads plan text list r s list' a
stands {plan} {text} {list} {r} {s} {s'} {more} p f q = record {
  ready = q.ready;
  size = q.size;
  onward = q.onward;
  further = q.further;
  same = λ σ. alike plan text list r s s' more p f σ ∙ q.same σ;
}

-- a test that chooses between going on and failing, with or without more behind it
pub kept :
    (y : Bool) (more : List Symbol) (new : List Said) (σ : List Symbol) (is : List Item) (l : ℕ) (k : List Symbol → List Item → Outcome)
    → onward (cond y (goes more new) (fails 18)) σ is l k ≡ onward (cond y (goes [] new) (fails 18)) (more ++ σ) is l k
unfolding onward
kept true more new σ is l k = refl
kept false more new σ is l k = refl

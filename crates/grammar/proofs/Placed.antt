-- Every refusal lies at the first token that cannot stand there.
use Prim.Native.Nat.{ℕ, zero, suc, ◌+◌, ◌-◌}
use native.Mathlib.Nat.{zero-add, suc-add}
use mathlib.Core.Path.{◌≡◌, refl, sym, ap, subst, ◌∙◌}
use mathlib.Core.Bool.{Bool, true, false}
use mathlib.Core.List.{List, [], ◌∷◌, ◌++◌, append_assoc, append-nil}
use native.Mathlib.Omega.{arith}
use borrow.Author.Tests.{le-ltb}
use Rattle.spelling.specs.Tokens.{Token, mark, word, stop, Placed, bare, tokens}
use Rattle.spelling.specs.Spelling.{Spells}
use Rattle.spelling.specs.Spelling as spells
use Rattle.spelling.proofs.Spelling.{spelt}
use Rattle.grammar.specs.Said.{Item}
use Rattle.grammar.specs.Allowed.{depth_most}
use Rattle.grammar.specs.Reader.{Symbol, text, lines, refused, run}
use Rattle.grammar.specs.Reading.{action_reading, plan_reading}
use Rattle.grammar.specs.Place.{TextBegins, PlanBegins, FirstFault, Places}
use Rattle.grammar.proofs.Meaning.{Val, print}
use Rattle.grammar.proofs.Faults.{Generates, Ends, Shaped, Fault, fault}
use Rattle.grammar.proofs.Deeper.{raise, lift}

-- the text's end comes last and only there
ends_more : (t : Token) (ts : List Token) → (t ≡ stop → ⊥) → Ends ts → Ends (t ∷ ts)
ends_more t [] f h = absurd h
ends_more t (u ∷ ts) f h = (f, h)

spelt_ends : {plan : Bool} {s : List ℕ} {ts : List Token} → Spells plan s ts → Ends ts
spelt_ends spells.ends = refl
spelt_ends (spells.blank e w) = spelt_ends w
spelt_ends (spells.bracket {b} {ts} e w) =
    ends_more (mark b) ts (λ (f : mark b ≡ stop). let z : ◌≡◌ {A = ℕ} 0 1 = cc in omega arith) (spelt_ends w)
spelt_ends (spells.run {ts} b v rest q e h j w) =
    ends_more (word (b ∷ v)) ts (λ (f : word (b ∷ v) ≡ stop). let z : ◌≡◌ {A = ℕ} 0 1 = cc in omega arith) (spelt_ends w)

-- what one symbol begins
abbrev Begins : Symbol → ℕ → List Token → Type 0
Begins root d ts = (us : List Token) × (v : Val d root) × (ts ++ us ≡ print d root v)

raised : (j d : ℕ) → raise j d ≡ j + d
raised zero d = sym (zero-add d)
raised (suc j) d = ap suc (raised j d) ∙ sym (suc-add j d)

module _ (root : Symbol) (d : ℕ) (ts : List Token) (t : Token) where
  -- a row of one symbol, with a token more
  begins : (us : List Token) → Generates d (root ∷ []) (ts ++ t ∷ us) → Begins root d (ts ++ (t ∷ []))
  begins us g = (us, g.0.0, append_assoc ts (t ∷ []) us ∙ g.1 ∙ append-nil _)

  generates : (b : Begins root d (ts ++ (t ∷ []))) → Generates d (root ∷ []) (ts ++ t ∷ b.0)
  generates b = ((b.1, tt), sym (append_assoc ts (t ∷ []) b.0) ∙ b.2 ∙ sym (append-nil _))

module _ (plan : Bool) (root : Symbol) (shape : Shaped (root ∷ [])) (same : (j : ℕ) → lift j root ≡ root) (s : List ℕ) where
  first_fault :
      (n line : ℕ) (is : List Item) → run depth_most (root ∷ []) [] (tokens plan 0 s) ≡ refused n line is →
      FirstFault (Begins root) (tokens plan 0 s) n line
  first_fault n line is e = told (fault depth_most (tokens plan 0 s) (root ∷ []) [] is n line shape (spelt_ends (spelt plan s 0)) e)
    where
      told : Fault depth_most (root ∷ []) (tokens plan 0 s) n line → FirstFault (Begins root) (tokens plan 0 s) n line
      told f =
          let ts = bare f.before in
          let t = f.at.token in
          record {
            before = f.before;
            at = f.at;
            after = f.after;
            whole = f.whole;
            there = f.there;
            stood = (f.stood.0, f.stood.1.0.0, f.stood.1.1 ∙ append-nil _);
            cannot = λ b. f.cannot b.0 (generates root depth_most ts t b);
            which = f.which;
            deeper = λ q.
                let g = f.deeper q in
                begins root (suc depth_most) ts t g.0
                (subst (λ (r : Symbol). Generates (suc depth_most) (r ∷ []) (ts ++ t ∷ g.0)) (same 1) g.1);
            never = λ q d h b.
                let j = d - depth_most in
                let k : d ≡ d - depth_most + depth_most = omega arith in
                let c = subst (λ (x : ℕ). Begins root x (ts ++ (t ∷ []))) (k ∙ sym (raised j depth_most)) b in
                f.never q j c.0
                (subst (λ (r : Symbol). Generates (raise j depth_most) (r ∷ []) (ts ++ t ∷ c.0)) (sym (same j))
                (generates root (raise j depth_most) ts t c));
          }

-- said in other words
in_words :
    (P Q : ℕ → List Token → Type 0) {ps : List Placed} {n line : ℕ} → ((d : ℕ) (ts : List Token) → P d ts → Q d ts) →
    ((d : ℕ) (ts : List Token) → Q d ts → P d ts) → FirstFault P ps n line → FirstFault Q ps n line
in_words P Q to from f =
    record {
      before = f.before;
      at = f.at;
      after = f.after;
      whole = f.whole;
      there = f.there;
      stood = to _ _ f.stood;
      cannot = λ b. f.cannot (from _ _ b);
      which = f.which;
      deeper = λ q. to _ _ (f.deeper q);
      never = λ q d h b. f.never q d h (from _ _ b);
    }

pub places : (s : List ℕ) → Places s
unfolding action_reading plan_reading
places s =
    record {
      action = λ h n line is e.
          in_words (Begins text) TextBegins (λ d ts b. (b.0, b.1.0, b.1.1, b.2)) (λ d ts b. (b.0, (b.1, b.2), b.3))
          (first_fault false text refl (λ j. refl) s n line is (rw (le-ltb _ _ h) at e));
      plan = λ h n line is e.
          in_words (Begins lines) PlanBegins (λ d ts b. (b.0, b.1.0, b.1.1, b.2)) (λ d ts b. (b.0, (b.1, b.2), b.3))
          (first_fault true lines refl (λ j. refl) s n line is (rw (le-ltb _ _ h) at e));
    }

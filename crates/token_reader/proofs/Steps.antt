-- One token of the grammar: what follows for the outcome of the whole text.
use Prim.Native.Nat.{ℕ, ◌≤◌}
use mathlib.Core.Path.{◌≡◌, refl, sym, ap, ◌∙◌}
use mathlib.Core.Logic.{inl, inr}
use mathlib.Core.Bool.{Bool, true, false, not}
use mathlib.Core.List.{List, [], ◌∷◌, ◌++◌, append-nil}
use native.Mathlib.Omega.{arith}
use borrow.Author.Tests.{eq-eqb, ne_eqb}
use lib.Dec.{eqb}
use Rattle.std.specs.Prelude.{Option, Some, None, is_some}
use Rattle.laws.proofs.Search.{contrary}
use Rattle.spelling.specs.Tokens.{Token}
use Rattle.spelling.specs.Cursor.{here, behind, rest, Next, Standing}
use Rattle.spelling.specs.declared.Cursor.{Cursor}
use Rattle.grammar.specs.Said.{Said, on_line}
use Rattle.grammar.specs.Allowed.{depth_most}
use Rattle.grammar.specs.Reader.{Symbol, goes, fails, step, refused, onward, run}
use Rattle.token_reader.specs.Reading.{cursor_of, reader_at, faulty, fault_number, number_of, fault_of, heard, outcome, Known, Stands, Ready, Advanced, Reads, Takes}
use Rattle.token_reader.specs.declared.Fault.{Fault}
use Rattle.token_reader.specs.declared.Fault.TheVariants.{OutsideGrammar, TooDeep}
use Rattle.token_reader.specs.declared.Reader.{Reader}

-- no fault has the number 0
pub numbered : (f : Fault) → fault_number f ≡ 0 → ⊥
numbered OutsideGrammar z = omega arith
numbered TooDeep z = omega arith

-- whether there is a fault, and its number
pub clear : (x : Option Fault) {y : Bool} → y ≡ is_some x → y ≡ false → number_of x ≡ 0
clear None e f = refl
clear (Some q) e f = contrary e f

pub met : (x : Option Fault) {y : Bool} → y ≡ is_some x → y ≡ true → number_of x ≡ 0 → ⊥
met None e f z = contrary f e
met (Some q) e f z = numbered q z

pub none_met : (x : Option Fault) {y : Bool} → is_some x ≡ not y → y ≡ eqb (number_of x) 0
none_met None {y = true} e = refl
none_met None {y = false} e = contrary e refl
none_met (Some q) {y = true} e = contrary refl e
none_met (Some q) {y = false} e = sym (ne_eqb (fault_number q) 0 (numbered q))

-- a cursor that is the reader's own
module _ (plan : Bool) (text : List ℕ) {c : Cursor} (r : Reader) (e : c ≡ cursor_of r) where
  pub stand : Stands plan text r → Standing plan text c
  stand p = rw e p.standing

pub same_here :
    (plan : Bool) (text : List ℕ) (f : Token → Bool) {y : Bool} {c d : Cursor} → c ≡ d → y ≡ f (here plan text c) → y ≡ f (here plan text d)
same_here plan text f e h = h ∙ ap (λ k. f (here plan text k)) e

advanced :
    (plan : Bool) (text : List ℕ) (r : Reader) (c : Cursor) → Stands plan text r → Next plan text (cursor_of r) c
    → Advanced plan text r (reader_at c r.count r.fault)
advanced plan text r c p m =
    let h = m.further in
    let few : r.count ≤ c.at = omega (arith, p.few) in
    record {
      stands = record { short = p.short; standing = m.standing; few = few; fault = p.fault };
      further = h;
      count = refl;
      fault = refl;
      same = m.same;
    }

pub advanced_to :
    (plan : Bool) (text : List ℕ) {r a : Reader} {c n : Cursor} → c ≡ cursor_of r → Stands plan text r → Next plan text c n
    → a ≡ reader_at n r.count r.fault → Advanced plan text r a
advanced_to plan text {r} {n} e p m f = rw f (advanced plan text r n p (rw e at m))

module _ (plan : Bool) (text list : List ℕ) where
  pub outcome_clear :
      (r : Reader) (σ : List Symbol) → fault_of r ≡ 0
      → outcome plan text list r σ ≡ run depth_most σ (heard text r.count list) (rest plan text (cursor_of r))
  unfolding outcome
  outcome_clear r σ e = rw (eq-eqb _ _ e)

  pub outcome_fault :
      (r : Reader) (σ : List Symbol) → (fault_of r ≡ 0 → ⊥)
      → outcome plan text list r σ ≡ refused (fault_of r) r.line (heard text r.count list)
  unfolding outcome
  outcome_fault r σ e = rw (ne_eqb _ _ e)

  -- one token decides
  pub stepped :
      (r : Reader) (s : Symbol) (σ : List Symbol) → Stands plan text r → fault_of r ≡ 0
      → outcome plan text list r (s ∷ σ)
      ≡ onward (step depth_most s (here plan text (cursor_of r))) σ (heard text r.count list) r.line
      (λ σ' is'. run depth_most σ' is' (behind plan text (cursor_of r)))
  unfolding run
  stepped r s σ p e =
      outcome_clear r (s ∷ σ) e ∙ ap (run depth_most (s ∷ σ) (heard text r.count list)) p.standing.stands

  -- a token that leaves others to come
  pub led :
      (r : Reader) (s : Symbol) (more σ : List Symbol) (new : List Said) → Stands plan text r → fault_of r ≡ 0
      → step depth_most s (here plan text (cursor_of r)) ≡ goes more new
      → outcome plan text list r (s ∷ σ)
      ≡ run depth_most (more ++ σ) (heard text r.count list ++ on_line r.line new) (behind plan text (cursor_of r))
  unfolding onward
  led r s more σ new p e g =
      stepped r s σ p e
      ∙ ap (λ q. onward q σ (heard text r.count list) r.line (λ σ' is'. run depth_most σ' is' (behind plan text (cursor_of r)))) g

  chosen :
      (r : Reader) (s : Symbol) (more σ : List Symbol) (a : Reader) → Stands plan text r → fault_of r ≡ 0
      → step depth_most s (here plan text (cursor_of r)) ≡ goes more [] → Advanced plan text r a
      → outcome plan text list r (s ∷ σ) ≡ outcome plan text list a (more ++ σ)
  unfolding on_line
  chosen r s more σ a p e g v =
      led r s more σ [] p e g
      ∙ rw (append-nil (heard text r.count list), v.same, ← v.count) (sym (outcome_clear a (more ++ σ) (ap number_of v.fault ∙ e)))

  -- a token that cannot stand here
  failed :
      (r : Reader) (s : Symbol) (σ : List Symbol) (f : Fault) → Stands plan text r → fault_of r ≡ 0
      → step depth_most s (here plan text (cursor_of r)) ≡ fails (fault_number f)
      → outcome plan text list r (s ∷ σ) ≡ outcome plan text list (faulty r f) σ
  unfolding onward
  failed r s σ f p e g =
      stepped r s σ p e
      ∙ ap (λ q. onward q σ (heard text r.count list) r.line (λ σ' is'. run depth_most σ' is' (behind plan text (cursor_of r)))) g
      ∙ sym (outcome_fault (faulty r f) σ (numbered f))

  -- with a fault nothing is read
  pub passes : (r : Reader) (s : Symbol) → Ready plan text list r → (fault_of r ≡ 0 → ⊥) → Reads plan text list r s list r
  passes r s p f = record {
    ready = p;
    size = refl;
    onward = omega arith;
    further = λ e. absurd (f e);
    same = λ σ. outcome_fault r (s ∷ σ) f ∙ sym (outcome_fault r σ f);
  }

  pub fault :
      (r a : Reader) (s : Symbol) (f : Fault) → Known plan (fault_number f) → Ready plan text list r → fault_of r ≡ 0
      → step depth_most s (here plan text (cursor_of r)) ≡ fails (fault_number f) → a ≡ faulty r f → Reads plan text list r s list a
  fault r a s f w p e g q =
      let s₀ = p.stands in
      let there : Stands plan text (faulty r f) = record { short = s₀.short; standing = s₀.standing; few = s₀.few; fault = w } in
      rw q
      (record {
        ready = record { stands = there; listed = p.listed };
        size = refl;
        onward = omega arith;
        further = λ z. absurd (numbered f z);
        same = λ σ. failed r s σ f s₀ e g;
      })

  takes :
      (r a : Reader) (s : Symbol) → Ready plan text list r → fault_of r ≡ 0
      → step depth_most s (here plan text (cursor_of r)) ≡ goes [] [] → Advanced plan text r a → Reads plan text list r s list a
  takes r a s p e g v = record {
    ready = record { stands = v.stands; listed = rw v.count p.listed };
    size = refl;
    onward = omega (arith, v.further);
    further = λ _. v.further;
    same = λ σ. chosen r s [] σ a p.stands e g v;
  }

-- a symbol that says nothing: passed with a fault, read, or refused
module _ (plan : Bool) (text : List ℕ) {r : Reader} {s : Symbol} (p : Stands plan text r) where
  pub take_passes : (fault_of r ≡ 0 → ⊥) → Takes plan text r s r
  take_passes f = record { stands = p; reads = λ list q. passes plan text list r s q f }

  pub take_goes :
      {a : Reader} → fault_of r ≡ 0 → step depth_most s (here plan text (cursor_of r)) ≡ goes [] [] → Advanced plan text r a
      → Takes plan text r s a
  take_goes {a} e g v = record { stands = v.stands; reads = λ list q. takes plan text list r a s q e g v }

  pub take_fails :
      {a : Reader} → fault_of r ≡ 0 → step depth_most s (here plan text (cursor_of r)) ≡ fails 18 → a ≡ faulty r OutsideGrammar → Takes plan text r s a
  take_fails {a} e g q =
      let w : Known plan 18 = inr (inl refl) in
      let there : Stands plan text (faulty r OutsideGrammar) = record { short = p.short; standing = p.standing; few = p.few; fault = w } in
      record { stands = rw q there; reads = λ list z. fault plan text list r a s OutsideGrammar w z e g q }

-- Loops over items, and the end of a text.
use Prim.Native.Nat.{ℕ, ◌+◌, ◌-◌, ◌*◌, ◌≤◌, ◌<◌}
use mathlib.Core.Path.{◌≡◌, refl, sym, ap, ◌∙◌}
use mathlib.Core.Logic.{inl, inr}
use mathlib.Core.Bool.{Bool, true, false, ◌&&◌}
use mathlib.Core.List.{List, [], ◌∷◌, ◌++◌, append-nil}
use native.Mathlib.Omega.{arith}
use native.Mathlib.Decide.{dec_lt}
use lib.Dec.{eqb}
use lib.ListN.{length}
use borrow.Author.Tests.{eqb-true, eq-eqb, ne_eqb, le-ltb}
use Rattle.laws.proofs.Search.{and_both}
use Rattle.spelling.specs.Cursor.{here, behind, is_stop}
use Rattle.spelling.proofs.Standing.{stop_is}
use Rattle.grammar.specs.Said.{on_line}
use Rattle.grammar.specs.Allowed.{depth_most}
use Rattle.grammar.specs.Reader.{Symbol, finish, goes, fails, step, run}
use Rattle.token_reader.specs.Reading.{cursor_of, fault_of, faulty, heard, outcome, answer, Stands, Ready, Reads, Leads, Turns, Ends}
use Rattle.token_reader.specs.declared.Fault.TheVariants.{OutsideGrammar}
use Rattle.token_reader.specs.declared.Reader.{Reader}
use Rattle.token_reader.proofs.Steps.{outcome_fault, led, fault}
use Rattle.token_reader.proofs.Compose.{Alike, alike}

-- a loop's test: no fault, and what the token says
pub on_yes : (n : ℕ) (z : Bool) {y : Bool} → y ≡ (eqb n 0 && z) → y ≡ true → (n ≡ 0) × (z ≡ true)
on_yes n z e f = let p = and_both (eqb n 0) z (sym e ∙ f) in (eqb-true n 0 p.0, p.1)

pub on_no : (n : ℕ) (z : Bool) {y : Bool} → y ≡ (eqb n 0 && z) → y ≡ false → n ≡ 0 → z ≡ false
on_no n z e f g = let h : (eqb n 0 && z) ≡ z = rw (eq-eqb n 0 g) refl in sym h ∙ sym e ∙ f

-- what is left: the bytes, and whether there is a fault
abbrev pub ahead : List ℕ → Reader → ℕ
ahead text r = 2 * (length text - r.at) + (1 - fault_of r)

pub ahead_less :
    {plan : Bool} {text : List ℕ} (r : Reader) {a : Reader} → Stands plan text a → fault_of r ≡ 0 → r.at ≤ a.at → (fault_of a ≡ 0 → r.at < a.at)
    → ahead text a < ahead text r
ahead_less r {a} p e f g =
    let w = p.standing.within in
    let o = p.standing.onward in
    elim (dec_lt 0 (fault_of a)) [ yes h ↦ omega arith | no h ↦ let z : fault_of a ≡ 0 = omega arith in let k = g z in omega arith ]

module _ {plan : Bool} {text : List ℕ} where
  pub turn_start : {list : List ℕ} {r : Reader} (s : Symbol) → Ready plan text list r → Turns plan text list r s list r s
  turn_start s p = record { ready = p; size = refl; onward = omega arith; same = λ σ. refl }

  -- one more item
  pub turn_more :
      {list₀ list list' : List ℕ} {r₀ r a : Reader} {s₀ s s' : Symbol} (ss : List Symbol) → Turns plan text list₀ r₀ s₀ list r s
      → ((σ : List Symbol) → outcome plan text list r (s ∷ σ) ≡ outcome plan text list r (ss ++ (s' ∷ σ)))
      → Leads plan text list r ss list' a → Turns plan text list₀ r₀ s₀ list' a s'
  turn_more {s'} ss t e p = record {
    ready = p.ready;
    size = p.size ∙ t.size;
    onward = omega (arith, t.onward, p.onward);
    same = λ σ. t.same σ ∙ e σ ∙ p.same (s' ∷ σ);
  }

  pub turn_turn :
      {list₀ list list' : List ℕ} {r₀ r a : Reader} {s₀ s s' : Symbol} → Turns plan text list₀ r₀ s₀ list r s
      → Turns plan text list r s list' a s' → Turns plan text list₀ r₀ s₀ list' a s'
  turn_turn t p = record {
    ready = p.ready;
    size = p.size ∙ t.size;
    onward = omega (arith, t.onward, p.onward);
    same = λ σ. t.same σ ∙ p.same σ;
  }

  -- the bracket that closes
  pub turn_close :
      {list₀ list list' : List ℕ} {r₀ r a : Reader} {s₀ s : Symbol} → Turns plan text list₀ r₀ s₀ list r s
      → Reads plan text list r s list' a → Reads plan text list₀ r₀ s₀ list' a
  turn_close t p = record {
    ready = p.ready;
    size = p.size ∙ t.size;
    onward = omega (arith, t.onward, p.onward);
    further = λ e. let h = p.further e in omega (arith, t.onward);
    same = λ σ. t.same σ ∙ p.same σ;
  }

  pub ends_then :
      {list list' list'' : List ℕ} {r b a : Reader} {s : Symbol} {σ : List Symbol} → Reads plan text list r s list' b
      → Ends plan text list' b σ list'' a → Ends plan text list r (s ∷ σ) list'' a
  ends_then {σ} p q = record { ready = q.ready; size = q.size ∙ p.size; same = p.same σ ∙ q.same }

  pub ends_turn :
      {list list' list'' : List ℕ} {r b a : Reader} {s s' : Symbol} (σ : List Symbol) → Turns plan text list r s list' b s'
      → Ends plan text list' b (s' ∷ σ) list'' a → Ends plan text list r (s ∷ σ) list'' a
  ends_turn σ p q = record { ready = q.ready; size = q.size ∙ p.size; same = p.same σ ∙ q.same }

  pub ends_alike :
      {list list' : List ℕ} {r a : Reader} {s s' : Symbol} (more σ : List Symbol) → Stands plan text r
      → (fault_of r ≡ 0 → Alike (here plan text (cursor_of r)) s s' more) → Ends plan text list r (s' ∷ more ++ σ) list' a
      → Ends plan text list r (s ∷ σ) list' a
  ends_alike {list} {r} {s} {s'} more σ p f q =
      record { ready = q.ready; size = q.size; same = alike plan text list r s s' more p f σ ∙ q.same }

  pub ends_fault : {list : List ℕ} {r : Reader} (σ : List Symbol) → Ready plan text list r → (fault_of r ≡ 0 → ⊥) → Ends plan text list r σ list r
  unfolding answer
  ends_fault {list} {r} σ p f = record { ready = p; size = refl; same = outcome_fault plan text list r σ f ∙ rw (ne_eqb _ _ f) refl }

  stop_behind : {r : Reader} → Stands plan text r → is_stop (here plan text (cursor_of r)) ≡ true → behind plan text (cursor_of r) ≡ []
  unfolding behind
  stop_behind {r} p e =
      let q = eqb-true r.at (length text) (stop_is plan text (cursor_of r) p.standing ∙ e) in
      let h : length text ≤ r.at = omega arith in
      rw (le-ltb _ _ h) refl

  -- the last symbol goes at the text's end
  pub ends_stop :
      {list : List ℕ} {r : Reader} (s : Symbol) → Ready plan text list r → fault_of r ≡ 0 → is_stop (here plan text (cursor_of r)) ≡ true
      → step depth_most s (here plan text (cursor_of r)) ≡ goes [] [] → Ends plan text list r (s ∷ []) list r
  unfolding answer run on_line
  ends_stop {list} {r} s p e f g = record {
    ready = p;
    size = refl;
    same =
        led plan text list r s [] [] [] p.stands e g
        ∙ rw (stop_behind p.stands f, append-nil (heard text r.count list), eq-eqb _ _ e) refl;
  }

  pub ends_fails :
      {list : List ℕ} {r a : Reader} → Ready plan text list r → fault_of r ≡ 0
      → step depth_most finish (here plan text (cursor_of r)) ≡ fails 18 → a ≡ faulty r OutsideGrammar → Ends plan text list r (finish ∷ []) list a
  ends_fails {list} {r} {a} p e g q =
      let h = fault plan text list r a finish OutsideGrammar (inr (inl refl)) p e g q in
      ends_then h (ends_fault [] h.ready (λ z. let n : fault_of a ≡ 18 = ap fault_of q in omega arith))

-- one symbol gives way to a row that ends with another
pub turned :
    {plan : Bool} (t : List ℕ) {list₀ list list' : List ℕ} {r₀ r a : Reader} {s₀ s s₁ s' : Symbol} (more : List Symbol)
    → Turns plan t list₀ r₀ s₀ list r s → (fault_of r ≡ 0 → Alike (here plan t (cursor_of r)) s s₁ (more ++ (s' ∷ [])))
    → ((σ : List Symbol) → (more ++ (s' ∷ [])) ++ σ ≡ more ++ (s' ∷ σ))
    → Leads plan t list r (s₁ ∷ more) list' a → Turns plan t list₀ r₀ s₀ list' a s'
turned {plan} t {list} {r} {s} {s₁} {s'} more w f e p =
    turn_more (s₁ ∷ more) w
    (λ σ. rw (← e σ) (alike plan t list r s s₁ (more ++ (s' ∷ [])) w.ready.stands f σ)) p

-- What is written is read, and what is read is written. Both by going along the tokens: the first one opens what the first symbol stands
-- for, or closes it.
use Prim.Native.Nat.{ℕ}
use mathlib.Core.Path.{◌≡◌, refl, sym, ap, ◌∙◌}
use mathlib.Core.List.{List, [], ◌∷◌, ◌++◌, append_assoc, append-nil}
use native.Mathlib.Omega.{arith}
use Rattle.spelling.specs.Tokens.{Token, Placed, bare}
use Rattle.grammar.specs.Said.{Said, Item, on_line, said_of}
use Rattle.grammar.specs.Reader.{Symbol, Step, goes, fails, step, read, onward, run}
use Rattle.grammar.proofs.Meaning.{Vals, prints, tells, join, prints_join, tells_join, parted}
use Rattle.grammar.proofs.Opened.{opened}
use Rattle.grammar.proofs.Closed.{Closed, closed}

said_on : (l : ℕ) (ss : List Said) (is : List Item) → said_of (on_line l ss ++ is) ≡ ss ++ said_of is
unfolding said_of on_line
said_on l [] is = refl
said_on l (s ∷ ss) is = ap (λ x. s ∷ x) (said_on l ss is)

module _ (d : ℕ) where
  -- what a row of symbols stands for, split at its first token
  pub record Begun (s : Symbol) (σ : List Symbol) (vs : Vals d (s ∷ σ)) : Type 0 where
    pub token : Token
    pub next : List Symbol
    pub new : List Said
    pub after : Vals d (next ++ σ)
    pub steps : step d s token ≡ goes next new
    pub tokens : prints d (s ∷ σ) vs ≡ token ∷ prints d (next ++ σ) after
    pub said : tells d (s ∷ σ) vs ≡ new ++ tells d (next ++ σ) after

  pub begun : (s : Symbol) (σ : List Symbol) (vs : Vals d (s ∷ σ)) → Begun s σ vs
  begun s σ vs =
      let o = opened d s vs.0 in
      record {
        token = o.token;
        next = o.next;
        new = o.new;
        after = join d o.next σ o.parts vs.1;
        steps = o.steps;
        tokens =
            sym (ap (λ ts. ts ++ prints d σ vs.1) o.made.tokens)
            ∙ ap (λ ts. o.token ∷ ts) (sym (prints_join d o.next σ o.parts vs.1));
        said =
            sym (ap (λ ss. ss ++ tells d σ vs.1) o.made.said)
            ∙ append_assoc o.new (tells d o.next o.parts) (tells d σ vs.1)
            ∙ ap (λ ss. o.new ++ ss) (sym (tells_join d o.next σ o.parts vs.1));
      }

  -- what is written is read
  pub record Reads (σ : List Symbol) (vs : Vals d σ) (is : List Item) (ps : List Placed) : Type 0 where
    pub items : List Item
    pub reads : run d σ is ps ≡ read (is ++ items)
    pub said : said_of items ≡ tells d σ vs

  goes_on_lem :
      (s : Symbol) (σ next : List Symbol) (new : List Said) (is js : List Item) (p : Placed) (ps : List Placed) →
      step d s p.token ≡ goes next new → run d (next ++ σ) (is ++ on_line p.line new) ps ≡ read (is ++ on_line p.line new ++ js) →
      run d (s ∷ σ) is (p ∷ ps) ≡ read (is ++ (on_line p.line new ++ js))
  unfolding run onward
  goes_on_lem s σ next new is js p ps e f =
      ap (λ x. onward x σ is p.line (λ σ' is'. run d σ' is' ps)) e ∙ f ∙ ap read (append_assoc is (on_line p.line new) js)

  pub reads : (ps : List Placed) (σ : List Symbol) (vs : Vals d σ) (is : List Item) → bare ps ≡ prints d σ vs → Reads σ vs is ps
  unfolding bare run said_of
  reads [] [] vs is e = record { items = []; reads = ap read (sym (append-nil is)); said = refl }
  reads [] (s ∷ σ) vs is e =
      let b = begun s σ vs in
      absurd (let f : [] ≡ b.token ∷ prints d (b.next ++ σ) b.after = e ∙ b.tokens in let z : ◌≡◌ {A = ℕ} 0 1 = cc in omega arith)
  reads (p ∷ ps) [] vs is e = absurd (let z : ◌≡◌ {A = ℕ} 0 1 = cc in omega arith)
  reads (p ∷ ps) (s ∷ σ) vs is e =
      let b = begun s σ vs in
      let f : p.token ∷ bare ps ≡ b.token ∷ prints d (b.next ++ σ) b.after = e ∙ b.tokens in
      let h : p.token ≡ b.token = cc in
      let k : bare ps ≡ prints d (b.next ++ σ) b.after = cc in
      let r = reads ps (b.next ++ σ) b.after (is ++ on_line p.line b.new) k in
      record {
        items = on_line p.line b.new ++ r.items;
        reads = goes_on_lem s σ b.next b.new is r.items p ps (ap (step d s) h ∙ b.steps) r.reads;
        said = said_on p.line b.new r.items ∙ ap (λ ss. b.new ++ ss) r.said ∙ sym b.said;
      }

  -- a token that leads on, and what a row of symbols stands for behind it
  pub record Ended (s : Symbol) (σ : List Symbol) (t : Token) (next : List Symbol) (new : List Said) (after : Vals d (next ++ σ)) : Type 0
    where
      pub values : Vals d (s ∷ σ)
      pub tokens : t ∷ prints d (next ++ σ) after ≡ prints d (s ∷ σ) values
      pub said : new ++ tells d (next ++ σ) after ≡ tells d (s ∷ σ) values

  pub ended :
      (s : Symbol) (σ : List Symbol) (t : Token) (next : List Symbol) (new : List Said) (after : Vals d (next ++ σ)) →
      step d s t ≡ goes next new → Ended s σ t next new after
  ended s σ t next new after e =
      let p = parted d next σ after in
      let c = closes p.first in
      record {
        values = (c.0, p.second);
        tokens = ap (λ ts. t ∷ ts) p.tokens ∙ ap (λ ts. ts ++ prints d σ p.second) c.1.tokens;
        said =
            ap (λ ss. new ++ ss) p.said ∙ sym (append_assoc new (tells d next p.first) (tells d σ p.second))
            ∙ ap (λ ss. ss ++ tells d σ p.second) c.1.said;
      }
    where
      closes : Closed d s t (goes next new)
      closes = rw e at (closed d s t)

  -- what is read is written
  pub record Written (σ : List Symbol) (is : List Item) (ps : List Placed) (all : List Item) : Type 0 where
    pub items : List Item
    pub values : Vals d σ
    pub whole : all ≡ is ++ items
    pub tokens : bare ps ≡ prints d σ values
    pub said : said_of items ≡ tells d σ values

  pub written : (ps : List Placed) (σ : List Symbol) (is all : List Item) → run d σ is ps ≡ read all → Written σ is ps all
  unfolding run bare onward said_of
  written [] [] is all e =
      record { items = []; values = tt; whole = (let f : all ≡ is = cc in f ∙ sym (append-nil is)); tokens = refl; said = refl }
  written [] (s ∷ σ) is all e = absurd (let z : ◌≡◌ {A = ℕ} 0 1 = cc in omega arith)
  written (p ∷ ps) [] is all e = absurd (let z : ◌≡◌ {A = ℕ} 0 1 = cc in omega arith)
  written (p ∷ ps) (s ∷ σ) is all e = go (step d s p.token) refl e (λ τ js. written ps τ js all)
    where
      go :
          (x : Step) → step d s p.token ≡ x → onward x σ is p.line (λ σ' is'. run d σ' is' ps) ≡ read all →
          ((τ : List Symbol) (js : List Item) → run d τ js ps ≡ read all → Written τ js ps all) → Written (s ∷ σ) is (p ∷ ps) all
      go (goes next new) g e f =
          let w = f (next ++ σ) (is ++ on_line p.line new) e in
          let c = ended s σ p.token next new w.values g in
          record {
            items = on_line p.line new ++ w.items;
            values = c.values;
            whole = w.whole ∙ append_assoc is (on_line p.line new) w.items;
            tokens = ap (λ ts. p.token ∷ ts) w.tokens ∙ c.tokens;
            said = said_on p.line new w.items ∙ ap (λ ss. new ++ ss) w.said ∙ c.said;
          }
      go (fails n) g e f = absurd (let z : ◌≡◌ {A = ℕ} 0 1 = cc in omega arith)

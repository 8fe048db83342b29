-- Where a text is refused: what was passed begins something that the grammar generates, and with the token there nothing does.
use Prim.Native.Nat.{ℕ, zero, suc}
use mathlib.Core.Path.{◌≡◌, refl, sym, ap, subst, ◌∙◌}
use mathlib.Core.Bool.{Bool, true, false, cond}
use mathlib.Core.List.{List, [], ◌∷◌, ◌++◌, append-nil}
use mathlib.Core.Logic.{◌⊎◌, inl, inr, ⊎_elim}
use native.Mathlib.Omega.{arith}
use Rattle.laws.specs.Search.{all, lowest}
use Rattle.laws.proofs.Search.{contrary}
use Rattle.spelling.specs.Tokens.{Token, stop, Placed, bare}
use Rattle.spelling.specs.Keywords.{same, at_word, over_word, and_word, not_word, increase_word, decrease_word, start_word, end_word}
use Rattle.spelling.specs.Keywords.{durative_word, equals_word, init_word}
use Rattle.spelling.specs.Cursor.{is_bracket, is_such, is_word, is_stop}
use Rattle.spelling.specs.Names.{is_letter, is_digit, is_name_byte, is_reserved, is_name}
use Rattle.spelling.specs.Numbers.{are_digits, is_whole, point_at, is_time}
use Rattle.grammar.specs.Said.{at_start, start, Place, set, reached, Said, Item, on_line}
use Rattle.grammar.specs.Tree.{Word, plain, sets, Kind, conditions, effects, goals, one, none, holds, nothing}
use Rattle.grammar.specs.Allowed.{IsName, IsWhole, IsTime}
use Rattle.grammar.specs.Reader.{Symbol, bracket, keyword, name, time, amount, finish, text, text_body, inits, init_body}
use Rattle.grammar.specs.Reader.{item, body, items, condition_point, effect_point, literal, literal_body, change, change_body}
use Rattle.grammar.specs.Reader.{lines, line_end, Step, goes, fails, fact_step, deeper, leaf_step, step, refused, onward, run}
use Rattle.grammar.proofs.Meaning.{ended, Val, Vals, prints}
use Rattle.grammar.proofs.Closed.{stop_is}
use Rattle.grammar.proofs.Along.{begun}
use Rattle.grammar.proofs.Along as along
use Rattle.grammar.proofs.Deeper.{raise, lift, lifts, lifts_append, lift_step, lift_step_lem, known_failed, one_deeper}

-- every symbol stands for something: "a" is a name, "0" a number
abbrev a_name : Word
a_name = 97 ∷ []

abbrev zero_word : Word
zero_word = 48 ∷ []

name_ok : IsName a_name
unfolding is_name is_letter is_digit is_name_byte is_reserved all same
name_ok = refl

whole_ok : IsWhole zero_word
unfolding is_whole are_digits is_digit all
whole_ok = refl

time_ok : IsTime zero_word
unfolding is_time point_at are_digits is_digit all lowest
time_ok = refl

module _ (d : ℕ) where
  any_tree : (k : Kind) (n : ℕ) → Val d (item k n)
  any_tree conditions n = (one (record { when = at_start; what = plain a_name }), name_ok)
  any_tree effects n = (one (record { at = start; what = sets (plain a_name) }), name_ok)
  any_tree goals n = (one (plain a_name), name_ok)

  any : (s : Symbol) → Val d s
  any (bracket b) = tt
  any (keyword w) = tt
  any (name r) = (a_name, name_ok)
  any time = (zero_word, time_ok)
  any amount = (zero_word, whole_ok)
  any finish = tt
  any text = (record { actions = []; init = []; goal = one (plain a_name) }, record { actions = tt; init = tt; goal = name_ok })
  any text_body = (record { actions = []; init = []; goal = one (plain a_name) }, record { actions = tt; init = tt; goal = name_ok })
  any inits = ([], tt)
  any init_body = (holds a_name, name_ok)
  any (item k n) = any_tree k n
  any (body k n) = any_tree k n
  any (items k n) = (none, tt)
  any condition_point = (start, plain a_name, name_ok)
  any effect_point = (start, sets (plain a_name), name_ok)
  any (literal p) = (plain a_name, name_ok)
  any (literal_body p) = (plain a_name, name_ok)
  any (change q) = (sets (plain a_name), name_ok)
  any (change_body q) = (sets (plain a_name), name_ok)
  any lines = (nothing, tt)
  any line_end = (ended, tt)

  anys : (σ : List Symbol) → Vals d σ
  anys [] = tt
  anys (s ∷ σ) = (any s, anys σ)

  -- a row of symbols generates these tokens
  abbrev pub Generates : List Symbol → List Token → Type 0
  Generates σ ts = (vs : Vals d σ) × (ts ≡ prints d σ vs)

  -- one token back, and one token on
  back :
      (s : Symbol) (σ : List Symbol) (t : Token) (next : List Symbol) (new : List Said) (ts : List Token) →
      step d s t ≡ goes next new → Generates (next ++ σ) ts → Generates (s ∷ σ) (t ∷ ts)
  back s σ t next new ts e g =
      let c = along.ended d s σ t next new g.0 e in
      (c.values, ap (λ us. t ∷ us) g.1 ∙ c.tokens)

  on :
      (s : Symbol) (σ : List Symbol) (t : Token) (ts : List Token) → Generates (s ∷ σ) (t ∷ ts) →
      (next : List Symbol) × (new : List Said) × (step d s t ≡ goes next new) × Generates (next ++ σ) ts
  on s σ t ts g =
      let b = begun d s σ g.0 in
      let f : t ∷ ts ≡ b.token ∷ prints d (b.next ++ σ) b.after = g.1 ∙ b.tokens in
      let h : t ≡ b.token = cc in
      let k : ts ≡ prints d (b.next ++ σ) b.after = cc in
      (b.next, b.new, ap (step d s) h ∙ b.steps, (b.after, k))

-- the text's end comes last and only there
abbrev pub Ends : List Token → Type 0
Ends [] = ⊥
Ends (t ∷ []) = t ≡ stop
Ends (t ∷ u ∷ ts) = (t ≡ stop → ⊥) × Ends (u ∷ ts)

-- the symbols that take it
abbrev ends : Symbol → Bool
ends finish = true
ends text = true
ends text_body = true
ends lines = true
ends line_end = true
ends (bracket b) = false
ends (keyword w) = false
ends (name r) = false
ends time = false
ends amount = false
ends inits = false
ends init_body = false
ends (item k n) = false
ends (body k n) = false
ends (items k n) = false
ends condition_point = false
ends effect_point = false
ends (literal p) = false
ends (literal_body p) = false
ends (change q) = false
ends (change_body q) = false

-- one of these stands at the bottom, and only there
abbrev Inner : List Symbol → Type 0
Inner [] = Unit
Inner (s ∷ σ) = (ends s ≡ false) × Inner σ

abbrev pub Shaped : List Symbol → Type 0
Shaped [] = ⊥
Shaped (s ∷ []) = ends s ≡ true
Shaped (s ∷ u ∷ σ) = (ends s ≡ false) × Shaped (u ∷ σ)

shaped_cons : (s : Symbol) (σ : List Symbol) → ends s ≡ false → Shaped σ → Shaped (s ∷ σ)
shaped_cons s [] e h = absurd h
shaped_cons s (u ∷ σ) e h = (e, h)

shaped_inner : (σ τ : List Symbol) → Inner σ → Shaped τ → Shaped (σ ++ τ)
shaped_inner [] τ i h = h
shaped_inner (s ∷ σ) τ i h = shaped_cons s (σ ++ τ) i.0 (shaped_inner σ τ i.1 h)

-- what a token leaves to come keeps the shape, and only the text's end leaves nothing
abbrev Finishes : Token → List Symbol → Type 0
Finishes t [] = t ≡ stop
Finishes t (s ∷ σ) = Shaped (s ∷ σ) × (t ≡ stop → ⊥)

abbrev Keeps : Bool → Token → Step → Type 0
Keeps false t (goes next new) = Inner next × (t ≡ stop → ⊥)
Keeps true t (goes next new) = Finishes t next
Keeps false t (fails n) = Unit
Keeps true t (fails n) = Unit

keep : (b : Bool) (t : Token) (y : Bool) (x z : Step) → (y ≡ true → Keeps b t x) → Keeps b t z → Keeps b t (cond y x z)
keep b t true x z f g = f refl
keep b t false x z f g = g

inner :
    (t : Token) (y : Bool) (next : List Symbol) (new : List Said) (z : Step) → (y ≡ true → t ≡ stop → ⊥) → Inner next →
    Keeps false t z → Keeps false t (cond y (goes next new) z)
inner t y next new z f i g = keep false t y (goes next new) z (λ e. (i, f e)) g

no_bracket : (b : ℕ) (t : Token) → is_bracket b t ≡ true → t ≡ stop → ⊥
unfolding is_bracket
no_bracket b t e f = contrary e (ap (is_bracket b) f)

no_such : (p : List ℕ → Bool) (t : Token) → is_such p t ≡ true → t ≡ stop → ⊥
unfolding is_such
no_such p t e f = contrary e (ap (is_such p) f)

no_word : (w : List ℕ) (t : Token) → is_word w t ≡ true → t ≡ stop → ⊥
no_word w t = no_such (λ v. same v w) t

fact_keeps : (p : Place) (t : Token) → Keeps false t (fact_step p t)
fact_keeps p t =
    inner t (is_word not_word t) _ _ _ (no_word not_word t) (refl, (refl, (refl, (refl, tt))))
    (inner t (is_such is_name t) _ _ _ (no_such is_name t) (refl, tt) tt)

leaf_keeps : (k : Kind) (t : Token) → Keeps false t (leaf_step k t)
unfolding leaf_step
leaf_keeps conditions t =
    inner t (is_word at_word t) _ _ _ (no_word at_word t) (refl, tt)
    (inner t (is_word over_word t) _ _ _ (no_word over_word t) (refl, (refl, (refl, tt))) tt)
leaf_keeps effects t = inner t (is_word at_word t) _ _ _ (no_word at_word t) (refl, tt) tt
leaf_keeps goals t = fact_keeps reached t

body_keeps : (d : ℕ) (k : Kind) (n : ℕ) (t : Token) → Keeps false t (step d (body k n) t)
unfolding step deeper
body_keeps d k zero t = keep false t (is_word and_word t) _ _ (λ _. tt) (leaf_keeps k t)
body_keeps d k (suc n) t = inner t (is_word and_word t) _ _ _ (no_word and_word t) (refl, tt) (leaf_keeps k t)

keeps : (d : ℕ) (s : Symbol) (t : Token) → Keeps (ends s) t (step d s t)
unfolding step
keeps d (bracket b) t = inner t (is_bracket b t) _ _ _ (no_bracket b t) tt tt
keeps d (keyword w) t = inner t (is_word w t) _ _ _ (no_word w t) tt tt
keeps d (name r) t = inner t (is_such is_name t) _ _ _ (no_such is_name t) tt tt
keeps d time t = inner t (is_such is_time t) _ _ _ (no_such is_time t) tt tt
keeps d amount t = inner t (is_such is_whole t) _ _ _ (no_such is_whole t) tt tt
keeps d finish t = keep true t (is_stop t) _ _ (λ e. sym (stop_is t e)) tt
keeps d text t = keep true t (is_bracket 40 t) _ _ (λ e. (refl, no_bracket 40 t e)) tt
keeps d text_body t =
    keep true t (is_word durative_word t) _ _
    (λ e.
    ((refl, (refl, (refl, (refl, (refl, (refl, (refl, (refl, (refl, (refl, (refl, (refl, refl)))))))))))), no_word durative_word t e))
    (keep true t (is_word init_word t) _ _ (λ e. ((refl, (refl, (refl, (refl, (refl, refl))))), no_word init_word t e)) tt)
keeps d inits t =
    inner t (is_bracket 41 t) _ _ _ (no_bracket 41 t) tt (inner t (is_bracket 40 t) _ _ _ (no_bracket 40 t) (refl, (refl, tt)) tt)
keeps d init_body t =
    inner t (is_word equals_word t) _ _ _ (no_word equals_word t) (refl, (refl, (refl, (refl, (refl, tt)))))
    (inner t (is_such is_name t) _ _ _ (no_such is_name t) (refl, tt) tt)
keeps d (item k n) t = inner t (is_bracket 40 t) _ _ _ (no_bracket 40 t) (refl, tt) tt
keeps d (body k n) t = body_keeps d k n t
keeps d (items k n) t =
    inner t (is_bracket 41 t) _ _ _ (no_bracket 41 t) tt (inner t (is_bracket 40 t) _ _ _ (no_bracket 40 t) (refl, (refl, tt)) tt)
keeps d condition_point t =
    inner t (is_word start_word t) _ _ _ (no_word start_word t) (refl, (refl, tt))
    (inner t (is_word end_word t) _ _ _ (no_word end_word t) (refl, (refl, tt)) tt)
keeps d effect_point t =
    inner t (is_word start_word t) _ _ _ (no_word start_word t) (refl, (refl, tt))
    (inner t (is_word end_word t) _ _ _ (no_word end_word t) (refl, (refl, tt)) tt)
keeps d (literal p) t = inner t (is_bracket 40 t) _ _ _ (no_bracket 40 t) (refl, tt) tt
keeps d (literal_body p) t = fact_keeps p t
keeps d (change q) t = inner t (is_bracket 40 t) _ _ _ (no_bracket 40 t) (refl, tt) tt
keeps d (change_body q) t =
    inner t (is_word increase_word t) _ _ _ (no_word increase_word t) (refl, (refl, (refl, (refl, (refl, tt)))))
    (inner t (is_word decrease_word t) _ _ _ (no_word decrease_word t) (refl, (refl, (refl, (refl, (refl, tt))))) (fact_keeps (set q) t))
keeps d lines t =
    keep true t (is_bracket 10 t) _ _ (λ e. (refl, no_bracket 10 t e))
    (keep true t (is_stop t) _ _ (λ e. sym (stop_is t e))
    (keep true t (is_such is_time t) _ _
    (λ e. ((refl, (refl, (refl, (refl, (refl, (refl, (refl, refl))))))), no_such is_time t e)) tt))
keeps d line_end t =
    keep true t (is_bracket 10 t) _ _ (λ e. (refl, no_bracket 10 t e)) (keep true t (is_stop t) _ _ (λ e. sym (stop_is t e)) tt)

-- the shape behind a token that is not the text's end
shaped_next :
    (s : Symbol) (σ : List Symbol) (t : Token) (next : List Symbol) (new : List Said) → Shaped (s ∷ σ) →
    (b : Bool) → ends s ≡ b → Keeps b t (goes next new) → (t ≡ stop → ⊥) → Shaped (next ++ σ)
shaped_next s [] t next new h false e k f = contrary h e
shaped_next s (u ∷ σ) t next new h false e k f = shaped_inner next (u ∷ σ) k.0 h.1
shaped_next s [] t [] new h true e k f = absurd (f k)
shaped_next s [] t (v ∷ next) new h true e k f = subst (λ (τ : List Symbol). Shaped τ) (sym (append-nil (v ∷ next))) k.0
shaped_next s (u ∷ σ) t next new h true e k f = contrary e h.0

-- and behind the text's end nothing is expected
none_next :
    (s : Symbol) (σ : List Symbol) (t : Token) (next : List Symbol) (new : List Said) → Shaped (s ∷ σ) →
    (b : Bool) → ends s ≡ b → Keeps b t (goes next new) → t ≡ stop → next ++ σ ≡ []
none_next s σ t next new h false e k f = absurd (k.1 f)
none_next s [] t [] new h true e k f = refl
none_next s [] t (v ∷ next) new h true e k f = absurd (k.1 f)
none_next s (u ∷ σ) t next new h true e k f = contrary e h.0

-- the first token that cannot stand there: at no greater depth for 18, but where one more (and ..) may stand for 19
pub record Fault (d : ℕ) (σ : List Symbol) (ps : List Placed) (number line : ℕ) : Type 0 where
  pub before : List Placed
  pub at : Placed
  pub after : List Placed
  pub whole : ps ≡ before ++ at ∷ after
  pub there : line ≡ at.line
  pub stood : (us : List Token) × Generates d σ (bare before ++ us)
  pub cannot : (us : List Token) → Generates d σ (bare before ++ at.token ∷ us) → ⊥
  pub which : (number ≡ 18) ⊎ (number ≡ 19)
  pub deeper : number ≡ 19 → (us : List Token) × Generates (suc d) (lifts 1 σ) (bare before ++ at.token ∷ us)
  pub never :
      number ≡ 18 → (j : ℕ) (us : List Token) → Generates (raise j d) (lifts j σ) (bare before ++ at.token ∷ us) → ⊥

gone_failed : (n : ℕ) (next : List Symbol) (new : List Said) → fails n ≡ goes next new → ⊥
gone_failed n next new e = let z : ◌≡◌ {A = ℕ} 0 1 = cc in omega arith

module _ (d : ℕ) where
  fault_here :
      (s : Symbol) (σ : List Symbol) (p : Placed) (ps : List Placed) (n line : ℕ) → step d s p.token ≡ fails n → line ≡ p.line →
      Fault d (s ∷ σ) (p ∷ ps) n line
  unfolding bare
  fault_here s σ p ps n line e f =
      record {
        before = [];
        at = p;
        after = ps;
        whole = refl;
        there = f;
        stood = (prints d (s ∷ σ) (anys d (s ∷ σ)), (anys d (s ∷ σ), refl));
        cannot = λ us g. let o = on d s σ p.token us g in gone_failed n o.0 o.1 (sym e ∙ o.2);
        which = ⊎_elim (λ (x : n ≡ 18). inl x) (λ x. inr x.0) (known_failed d s p.token n e);
        deeper = λ q. ⊎_elim (λ (x : n ≡ 18). absurd (omega arith)) (λ x. opened_up x.1 x.2 x.3) (known_failed d s p.token n e);
        never = λ q j us g.
            let o = on (raise j d) (lift j s) (lifts j σ) p.token us g in
            let l = lift_step_lem j d s p.token (λ x. not_deep q (sym e ∙ x)) ∙ ap (lift_step j) e in
            gone_failed n o.0 o.1 (sym l ∙ o.2);
      }
    where
      not_deep : n ≡ 18 → fails n ≡ fails 19 → ⊥
      not_deep q x = let z : n ≡ 19 = cc in omega arith

      opened_up :
          (k : Kind) → s ≡ body k zero → is_word and_word p.token ≡ true →
          (us : List Token) × Generates (suc d) (lifts 1 (s ∷ σ)) (p.token ∷ us)
      opened_up k e f =
          let τ = items k zero ∷ lifts 1 σ in
          let l = ap (λ u. step (suc d) (lift 1 u) p.token) e ∙ one_deeper (suc d) k p.token f in
          let g = back (suc d) (lift 1 s) (lifts 1 σ) p.token (items k zero ∷ []) [] _ l (anys (suc d) τ, refl) in
          (prints (suc d) τ (anys (suc d) τ), g)

  fault_later :
      (s : Symbol) (σ : List Symbol) (p : Placed) (ps : List Placed) (next : List Symbol) (new : List Said) (n line : ℕ) →
      step d s p.token ≡ goes next new → Fault d (next ++ σ) ps n line → Fault d (s ∷ σ) (p ∷ ps) n line
  unfolding bare
  fault_later s σ p ps next new n line e f =
      record {
        before = p ∷ f.before;
        at = f.at;
        after = f.after;
        whole = ap (λ qs. p ∷ qs) f.whole;
        there = f.there;
        stood = (f.stood.0, back d s σ p.token next new _ e f.stood.1);
        cannot = λ us g.
            let o = on d s σ p.token _ g in
            f.cannot us (led d σ next new o.0 o.1 _ (sym e ∙ o.2) o.3);
        which = f.which;
        deeper = λ q.
            let g = f.deeper q in
            let ts = bare f.before ++ f.at.token ∷ g.0 in
            let h = subst (λ (τ : List Symbol). Generates (suc d) τ ts) (lifts_append 1 next σ) g.1 in
            (g.0, back (suc d) (lift 1 s) (lifts 1 σ) p.token (lifts 1 next) new ts (lifted 1) h);
        never = λ q j us g.
            let o = on (raise j d) (lift j s) (lifts j σ) p.token _ g in
            let h = led (raise j d) (lifts j σ) (lifts j next) new o.0 o.1 _ (sym (lifted j) ∙ o.2) o.3 in
            f.never q j us
            (subst (λ (τ : List Symbol). Generates (raise j d) τ (bare f.before ++ f.at.token ∷ us)) (sym (lifts_append j next σ)) h);
      }
    where
      lifted : (j : ℕ) → step (raise j d) (lift j s) p.token ≡ goes (lifts j next) new
      lifted j = lift_step_lem j d s p.token (λ x. gone_failed 19 next new (sym x ∙ e)) ∙ ap (lift_step j) e

      led :
          (d : ℕ) (σ next : List Symbol) (new : List Said) (next' : List Symbol) (new' : List Said) (ts : List Token) →
          goes next new ≡ goes next' new' → Generates d (next' ++ σ) ts → Generates d (next ++ σ) ts
      led d σ next new next' new' ts e g =
          let n : next' ≡ next = cc in subst (λ (τ : List Symbol). Generates d (τ ++ σ) ts) n g

  pub fault :
      (ps : List Placed) (σ : List Symbol) (is js : List Item) (n line : ℕ) → Shaped σ → Ends (bare ps) →
      run d σ is ps ≡ refused n line js → Fault d σ ps n line
  unfolding bare run onward
  fault [] σ is js n line h k e = absurd k
  fault (p ∷ ps) [] is js n line h k e = absurd h
  fault (p ∷ []) (s ∷ σ) is js n line h k e = go (step d s p.token) refl (keeps d s p.token) e
    where
      ended_so : (τ : List Symbol) (is : List Item) → τ ≡ [] → run d τ is [] ≡ refused n line js → ⊥
      ended_so [] is q e = let z : ◌≡◌ {A = ℕ} 0 1 = cc in omega arith
      ended_so (u ∷ τ) is q e = let z : ◌≡◌ {A = ℕ} 0 1 = cc in omega arith

      go :
          (x : Step) → step d s p.token ≡ x → Keeps (ends s) p.token x →
          onward x σ is p.line (λ σ' is'. run d σ' is' []) ≡ refused n line js → Fault d (s ∷ σ) (p ∷ []) n line
      go (goes next new) g q e =
          absurd (ended_so (next ++ σ) (is ++ on_line p.line new) (none_next s σ p.token next new h (ends s) refl q k) e)
      go (fails m) g q e = fault_here s σ p [] n line (g ∙ ap fails (let f : m ≡ n = cc in f)) (let f : line ≡ p.line = cc in f)
  fault (p ∷ q ∷ ps) (s ∷ σ) is js n line h k e =
      go (step d s p.token) refl (keeps d s p.token) e (λ τ is' h' e'. fault (q ∷ ps) τ is' js n line h' k.1 e')
    where
      go :
          (x : Step) → step d s p.token ≡ x → Keeps (ends s) p.token x →
          onward x σ is p.line (λ σ' is'. run d σ' is' (q ∷ ps)) ≡ refused n line js →
          ((τ : List Symbol) (is' : List Item) → Shaped τ → run d τ is' (q ∷ ps) ≡ refused n line js → Fault d τ (q ∷ ps) n line) →
          Fault d (s ∷ σ) (p ∷ q ∷ ps) n line
      go (goes next new) g r e f =
          fault_later s σ p (q ∷ ps) next new n line g
          (f (next ++ σ) (is ++ on_line p.line new) (shaped_next s σ p.token next new h (ends s) refl r k.0) e)
      go (fails m) g r e f = fault_here s σ p (q ∷ ps) n line (g ∙ ap fails (let f : m ≡ n = cc in f)) (let f : line ≡ p.line = cc in f)

-- Where one more (and ..) may stand inside, every token does what it did, but for the one that was too deep.
use Prim.Native.Nat.{ℕ, zero, suc}
use mathlib.Core.Path.{◌≡◌, refl, ap}
use mathlib.Core.Bool.{Bool, true, false, cond}
use mathlib.Core.List.{List, [], ◌∷◌, ◌++◌}
use mathlib.Core.Logic.{◌⊎◌, inl, inr}
use Rattle.spelling.specs.Tokens.{Token}
use Rattle.spelling.specs.Keywords.{at_word, over_word, and_word, not_word, increase_word, decrease_word, start_word, end_word}
use Rattle.spelling.specs.Keywords.{durative_word, equals_word, init_word}
use Rattle.spelling.specs.Names.{is_name}
use Rattle.spelling.specs.Numbers.{is_whole, is_time}
use Rattle.spelling.specs.Cursor.{is_bracket, is_such, is_word, is_stop}
use Rattle.grammar.specs.Said.{Place, set, reached, Said}
use Rattle.grammar.specs.Tree.{Kind, conditions, effects, goals}
use Rattle.grammar.specs.Reader.{Symbol, bracket, keyword, name, time, amount, finish, text, text_body, inits, init_body}
use Rattle.grammar.specs.Reader.{item, body, items, condition_point, effect_point, literal, literal_body, change, change_body}
use Rattle.grammar.specs.Reader.{lines, line_end, Step, goes, fails, fact_step, deeper, leaf_step, step}

-- so many more
abbrev pub raise : ℕ → ℕ → ℕ
raise zero n = n
raise (suc j) n = suc (raise j n)

raise_suc : (j n : ℕ) → raise j (suc n) ≡ suc (raise j n)
raise_suc zero n = refl
raise_suc (suc j) n = ap suc (raise_suc j n)

abbrev pub lift : ℕ → Symbol → Symbol
lift j (item k n) = item k (raise j n)
lift j (body k n) = body k (raise j n)
lift j (items k n) = items k (raise j n)
lift j (bracket b) = bracket b
lift j (keyword w) = keyword w
lift j (name r) = name r
lift j time = time
lift j amount = amount
lift j finish = finish
lift j text = text
lift j text_body = text_body
lift j inits = inits
lift j init_body = init_body
lift j condition_point = condition_point
lift j effect_point = effect_point
lift j (literal p) = literal p
lift j (literal_body p) = literal_body p
lift j (change q) = change q
lift j (change_body q) = change_body q
lift j lines = lines
lift j line_end = line_end

abbrev pub lifts : ℕ → List Symbol → List Symbol
lifts j [] = []
lifts j (s ∷ σ) = lift j s ∷ lifts j σ

pub lifts_append : (j : ℕ) (σ τ : List Symbol) → lifts j (σ ++ τ) ≡ lifts j σ ++ lifts j τ
lifts_append j [] τ = refl
lifts_append j (s ∷ σ) τ = ap (λ x. lift j s ∷ x) (lifts_append j σ τ)

abbrev pub lift_step : ℕ → Step → Step
lift_step j (goes next new) = goes (lifts j next) new
lift_step j (fails n) = fails n

-- one test more
or_else :
    (j : ℕ) (y : Bool) (next : List Symbol) (new : List Said) (x z : Step) → z ≡ lift_step j x →
    cond y (goes (lifts j next) new) z ≡ lift_step j (cond y (goes next new) x)
or_else j true next new x z e = refl
or_else j false next new x z e = e

fact_lifts : (j : ℕ) (p : Place) (t : Token) → fact_step p t ≡ lift_step j (fact_step p t)
fact_lifts j p t = or_else j (is_word not_word t) _ _ _ _ (or_else j (is_such is_name t) _ _ _ _ refl)

leaf_lifts : (j : ℕ) (k : Kind) (t : Token) → leaf_step k t ≡ lift_step j (leaf_step k t)
unfolding leaf_step
leaf_lifts j conditions t = or_else j (is_word at_word t) _ _ _ _ (or_else j (is_word over_word t) _ _ _ _ refl)
leaf_lifts j effects t = or_else j (is_word at_word t) _ _ _ _ refl
leaf_lifts j goals t = fact_lifts j reached t

body_lifts :
    (j d d' : ℕ) (k : Kind) (n : ℕ) (t : Token) → (step d (body k n) t ≡ fails 19 → ⊥) → (y : Bool) → is_word and_word t ≡ y →
    step d' (body k (raise j n)) t ≡ lift_step j (step d (body k n) t)
unfolding step deeper
body_lifts j d d' k zero t f true e = absurd (f (rw e))
body_lifts j d d' k (suc n) t f true e = rw (e, raise_suc j n)
body_lifts j d d' k n t f false e = rw e (leaf_lifts j k t)

pub lift_step_lem :
    (j d : ℕ) (s : Symbol) (t : Token) → (step d s t ≡ fails 19 → ⊥) → step (raise j d) (lift j s) t ≡ lift_step j (step d s t)
unfolding step
lift_step_lem j d (bracket b) t f = or_else j (is_bracket b t) _ _ _ _ refl
lift_step_lem j d (keyword w) t f = or_else j (is_word w t) _ _ _ _ refl
lift_step_lem j d (name r) t f = or_else j (is_such is_name t) _ _ _ _ refl
lift_step_lem j d time t f = or_else j (is_such is_time t) _ _ _ _ refl
lift_step_lem j d amount t f = or_else j (is_such is_whole t) _ _ _ _ refl
lift_step_lem j d finish t f = or_else j (is_stop t) _ _ _ _ refl
lift_step_lem j d text t f = or_else j (is_bracket 40 t) _ _ _ _ refl
lift_step_lem j d text_body t f = or_else j (is_word durative_word t) _ _ _ _ (or_else j (is_word init_word t) _ _ _ _ refl)
lift_step_lem j d inits t f = or_else j (is_bracket 41 t) _ _ _ _ (or_else j (is_bracket 40 t) _ _ _ _ refl)
lift_step_lem j d init_body t f = or_else j (is_word equals_word t) _ _ _ _ (or_else j (is_such is_name t) _ _ _ _ refl)
lift_step_lem j d (item k n) t f = or_else j (is_bracket 40 t) _ _ _ _ refl
lift_step_lem j d (body k n) t f = body_lifts j d (raise j d) k n t f (is_word and_word t) refl
lift_step_lem j d (items k n) t f = or_else j (is_bracket 41 t) _ _ _ _ (or_else j (is_bracket 40 t) _ _ _ _ refl)
lift_step_lem j d condition_point t f = or_else j (is_word start_word t) _ _ _ _ (or_else j (is_word end_word t) _ _ _ _ refl)
lift_step_lem j d effect_point t f = or_else j (is_word start_word t) _ _ _ _ (or_else j (is_word end_word t) _ _ _ _ refl)
lift_step_lem j d (literal p) t f = or_else j (is_bracket 40 t) _ _ _ _ refl
lift_step_lem j d (literal_body p) t f = fact_lifts j p t
lift_step_lem j d (change q) t f = or_else j (is_bracket 40 t) _ _ _ _ refl
lift_step_lem j d (change_body q) t f =
    or_else j (is_word increase_word t) _ _ _ _ (or_else j (is_word decrease_word t) _ _ _ _ (fact_lifts j (set q) t))
lift_step_lem j d lines t f =
    or_else j (is_bracket 10 t) _ _ _ _ (or_else j (is_stop t) _ _ _ _ (or_else j (is_such is_time t) _ _ _ _ refl))
lift_step_lem j d line_end t f = or_else j (is_bracket 10 t) _ _ _ _ (or_else j (is_stop t) _ _ _ _ refl)

-- a token that cannot stand there is 18, or 19 for an (and ..) where none may stand
abbrev Known : Symbol → Token → Step → Type 0
Known s t (goes next new) = Unit
Known s t (fails n) = (n ≡ 18) ⊎ ((n ≡ 19) × (k : Kind) × (s ≡ body k zero) × (is_word and_word t ≡ true))

know :
    (s : Symbol) (t : Token) (y : Bool) (next : List Symbol) (new : List Said) (z : Step) → Known s t z →
    Known s t (cond y (goes next new) z)
know s t true next new z k = tt
know s t false next new z k = k

known_fact : (s : Symbol) (p : Place) (t : Token) → Known s t (fact_step p t)
known_fact s p t = know s t (is_word not_word t) _ _ _ (know s t (is_such is_name t) _ _ _ (inl refl))

known_leaf : (s : Symbol) (k : Kind) (t : Token) → Known s t (leaf_step k t)
unfolding leaf_step
known_leaf s conditions t = know s t (is_word at_word t) _ _ _ (know s t (is_word over_word t) _ _ _ (inl refl))
known_leaf s effects t = know s t (is_word at_word t) _ _ _ (inl refl)
known_leaf s goals t = known_fact s reached t

known_body : (d : ℕ) (k : Kind) (n : ℕ) (t : Token) (y : Bool) → is_word and_word t ≡ y → Known (body k n) t (step d (body k n) t)
unfolding step deeper
known_body d k zero t true e = rw e (inr (refl, k, refl, e))
known_body d k (suc n) t true e = rw e tt
known_body d k n t false e = rw e (known_leaf (body k n) k t)

pub known : (d : ℕ) (s : Symbol) (t : Token) → Known s t (step d s t)
unfolding step
known d (bracket b) t = know (bracket b) t (is_bracket b t) _ _ _ (inl refl)
known d (keyword w) t = know (keyword w) t (is_word w t) _ _ _ (inl refl)
known d (name r) t = know (name r) t (is_such is_name t) _ _ _ (inl refl)
known d time t = know time t (is_such is_time t) _ _ _ (inl refl)
known d amount t = know amount t (is_such is_whole t) _ _ _ (inl refl)
known d finish t = know finish t (is_stop t) _ _ _ (inl refl)
known d text t = know text t (is_bracket 40 t) _ _ _ (inl refl)
known d text_body t = know text_body t (is_word durative_word t) _ _ _ (know text_body t (is_word init_word t) _ _ _ (inl refl))
known d inits t = know inits t (is_bracket 41 t) _ _ _ (know inits t (is_bracket 40 t) _ _ _ (inl refl))
known d init_body t = know init_body t (is_word equals_word t) _ _ _ (know init_body t (is_such is_name t) _ _ _ (inl refl))
known d (item k n) t = know (item k n) t (is_bracket 40 t) _ _ _ (inl refl)
known d (body k n) t = known_body d k n t (is_word and_word t) refl
known d (items k n) t = know (items k n) t (is_bracket 41 t) _ _ _ (know (items k n) t (is_bracket 40 t) _ _ _ (inl refl))
known d condition_point t =
    know condition_point t (is_word start_word t) _ _ _ (know condition_point t (is_word end_word t) _ _ _ (inl refl))
known d effect_point t = know effect_point t (is_word start_word t) _ _ _ (know effect_point t (is_word end_word t) _ _ _ (inl refl))
known d (literal p) t = know (literal p) t (is_bracket 40 t) _ _ _ (inl refl)
known d (literal_body p) t = known_fact (literal_body p) p t
known d (change q) t = know (change q) t (is_bracket 40 t) _ _ _ (inl refl)
known d (change_body q) t =
    know (change_body q) t (is_word increase_word t) _ _ _
    (know (change_body q) t (is_word decrease_word t) _ _ _ (known_fact (change_body q) (set q) t))
known d lines t =
    know lines t (is_bracket 10 t) _ _ _ (know lines t (is_stop t) _ _ _ (know lines t (is_such is_time t) _ _ _ (inl refl)))
known d line_end t = know line_end t (is_bracket 10 t) _ _ _ (know line_end t (is_stop t) _ _ _ (inl refl))

pub known_failed :
    (d : ℕ) (s : Symbol) (t : Token) (n : ℕ) → step d s t ≡ fails n →
    (n ≡ 18) ⊎ ((n ≡ 19) × (k : Kind) × (s ≡ body k zero) × (is_word and_word t ≡ true))
known_failed d s t n e = rw e at (known d s t)

-- which stands where one more may
pub one_deeper : (d : ℕ) (k : Kind) (t : Token) → is_word and_word t ≡ true → step d (body k 1) t ≡ goes (items k zero ∷ []) []
unfolding step deeper
one_deeper d k t e = rw e

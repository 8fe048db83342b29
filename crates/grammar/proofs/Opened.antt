-- Whatever a symbol stands for begins with a token that the reader takes, and the rest is what the symbols to come stand for.
use Prim.Native.Nat.{ℕ, zero, suc}
use mathlib.Core.Path.{◌≡◌, refl, ap, ◌∙◌}
use mathlib.Core.Bool.{Bool, true, false}
use mathlib.Core.List.{List, [], ◌∷◌, append-nil}
use borrow.Author.Tests.{eq-eqb}
use Rattle.laws.specs.Search.{all}
use Rattle.laws.proofs.Search.{contrary}
use Rattle.spelling.specs.Tokens.{Token, mark, word, stop}
use Rattle.spelling.specs.Keywords.{same, and_word, not_word, increase_word, decrease_word}
use Rattle.spelling.specs.Keywords.{equals_word}
use Rattle.spelling.specs.Names.{is_letter, is_digit, is_name_byte, is_reserved, is_name}
use Rattle.spelling.specs.Cursor.{is_bracket, is_such, is_stop}
use Rattle.spelling.proofs.Same.{same_eq, same_refl}
use Rattle.grammar.specs.Said.{When, Point, start, end, Place, at_start, over_all, at_end}
use Rattle.grammar.specs.Said.{Said}
use Rattle.grammar.specs.Tree.{Word, Literal, plain, negated, Change, sets, increases, decreases, Kind, conditions, effects, goals}
use Rattle.grammar.specs.Tree.{Leaf, Tree, one, both, Trees, none, more, Action, Init, holds, level}
use Rattle.grammar.specs.Tree.{Plan, nothing, last, blank, then}
use Rattle.grammar.specs.Allowed.{IsName, LiteralOk, ChangeOk, LeafOk, TreeOk, TreesOk, ActionsOk, InitOk, InitsOk, PlanOk}
use Rattle.grammar.specs.Reader.{Symbol, bracket, keyword, name, time, amount, finish, text, text_body, inits, init_body}
use Rattle.grammar.specs.Reader.{item, body, items, condition_point, effect_point, literal, literal_body, change, change_body}
use Rattle.grammar.specs.Reader.{lines, line_end, goes, bytes, deeper, leaf_step, step}
use Rattle.grammar.proofs.Meaning.{After, AfterOk, ended, followed, Val, Vals, print, tell, Made}
use Rattle.grammar.proofs.Made.{made_literal, made_change, made_item, made_text_lem, made_plain, made_negated, made_sets_plain}
use Rattle.grammar.proofs.Made.{made_sets_negated, made_increases, made_decreases, made_holds, made_level, made_wants, made_does}
use Rattle.grammar.proofs.Made.{made_at_start, made_at_end, made_over_all, made_effect, made_goal_plain, made_goal_negated, made_and}
use Rattle.grammar.proofs.Made.{made_none, made_more, made_no_inits, made_inits, made_action, made_init, made_nothing, made_blank}
use Rattle.grammar.proofs.Made.{made_last, made_then, made_followed}

-- a name is no word that is none
name_not : (n w : Word) → IsName n → is_name w ≡ false → same n w ≡ false
name_not n w ok e = go (same n w) refl
  where
    go : (b : Bool) → same n w ≡ b → same n w ≡ false
    go true f = contrary ok (ap is_name (same_eq n w f) ∙ e)
    go false f = f

module _ (n : Word) (ok : IsName n) where
  not_and : same n and_word ≡ false
  unfolding is_name is_letter is_name_byte is_digit is_reserved all same
  not_and = name_not n and_word ok refl

  not_not : same n not_word ≡ false
  unfolding is_name is_letter is_name_byte is_digit is_reserved all same
  not_not = name_not n not_word ok refl

  not_increase : same n increase_word ≡ false
  unfolding is_name is_letter is_name_byte is_digit is_reserved all same
  not_increase = name_not n increase_word ok refl

  not_decrease : same n decrease_word ≡ false
  unfolding is_name is_letter is_name_byte is_digit is_reserved all same
  not_decrease = name_not n decrease_word ok refl

  not_equals : same n equals_word ≡ false
  unfolding is_name is_letter is_name_byte is_digit is_reserved all same
  not_equals = name_not n equals_word ok refl

module _ (d : ℕ) where
  pub record Opened (s : Symbol) (v : Val d s) : Type 0 where
    pub token : Token
    pub next : List Symbol
    pub new : List Said
    pub parts : Vals d next
    pub steps : step d s token ≡ goes next new
    pub made : Made d s token next new parts v

  -- one more
  opens :
      {s : Symbol} {v : Val d s} {t : Token} {next : List Symbol} {new : List Said} {vs : Vals d next} →
      step d s t ≡ goes next new → Made d s t next new vs v → Opened s v
  opens {t} {next} {new} {vs} e m = record { token = t; next = next; new = new; parts = vs; steps = e; made = m }

  -- one token, and nothing to come
  lone : (s : Symbol) (v : Val d s) (t : Token) → step d s t ≡ goes [] (tell d s v) → t ∷ [] ≡ print d s v → Opened s v
  lone s v t e f =
      let made : Made d s t [] (tell d s v) tt v = record { tokens = f; said = append-nil _ } in
      record { token = t; next = []; new = tell d s v; parts = tt; steps = e; made = made }

  opened_literal : (p : Place) (l : Literal) (ok : LiteralOk l) → Opened (literal_body p) (l, ok)
  unfolding step is_such same bytes
  opened_literal p (plain n) ok = opens (rw (not_not n ok, ok)) (made_plain d p n ok)
  opened_literal p (negated n) ok = opens refl (made_negated d p n ok)

  opened_change : (q : Point) (c : Change) (ok : ChangeOk c) → Opened (change_body q) (c, ok)
  unfolding step is_such same bytes
  opened_change q (sets (plain n)) ok =
      opens (rw (not_increase n ok, not_decrease n ok, not_not n ok, ok)) (made_sets_plain d q n ok)
  opened_change q (sets (negated n)) ok = opens refl (made_sets_negated d q n ok)
  opened_change q (increases n w) ok = opens refl (made_increases d q n w ok.0 ok.1)
  opened_change q (decreases n w) ok = opens refl (made_decreases d q n w ok.0 ok.1)

  opened_init : (i : Init) (ok : InitOk i) → Opened init_body (i, ok)
  unfolding step is_such same bytes
  opened_init (holds n) ok = opens (rw (not_equals n ok, ok)) (made_holds d n ok)
  opened_init (level n w) ok = opens refl (made_level d n w ok.0 ok.1)

  opened_inits : (is : List Init) (ok : InitsOk is) → Opened inits (is, ok)
  unfolding step is_bracket
  opened_inits [] ok = opens refl (made_no_inits d)
  opened_inits (i ∷ is) ok = opens refl (made_inits d i ok.0 is ok.1)

  opened_wants : (n : ℕ) (q : When) (l : Literal) (ok : LiteralOk l) → Opened (body conditions n) (one (record { when = q; what = l }), ok)
  unfolding step leaf_step is_such same
  opened_wants n at_start l ok = opens refl (made_at_start d n l ok)
  opened_wants n over_all l ok = opens refl (made_over_all d n l ok)
  opened_wants n at_end l ok = opens refl (made_at_end d n l ok)

  opened_goal : (k : ℕ) (l : Literal) (ok : LiteralOk l) → Opened (body goals k) (one l, ok)
  unfolding step leaf_step is_such same bytes
  opened_goal k (plain n) ok = opens (rw (not_and n ok, not_not n ok, ok)) (made_goal_plain d k n ok)
  opened_goal k (negated n) ok = opens refl (made_goal_negated d k n ok)

  opened_leaf : (k : Kind) (n : ℕ) (a : Leaf k) (ok : LeafOk k a) → Opened (body k n) (one a, ok)
  unfolding step leaf_step is_such same
  opened_leaf conditions n c ok = opened_wants n c.when c.what ok
  opened_leaf effects n e ok = opens refl (made_effect d n e.at e.what ok)
  opened_leaf goals n l ok = opened_goal n l ok

  opened_body : (k : Kind) (n : ℕ) (t : Tree k) (ok : TreeOk n k t) → Opened (body k n) (t, ok)
  unfolding step deeper is_such same
  opened_body k n (one a) ok = opened_leaf k n a ok
  opened_body k zero (both ts) ok = absurd ok
  opened_body k (suc m) (both ts) ok = opens refl (made_and d k m ts ok)

  opened_items : (k : Kind) (n : ℕ) (ts : Trees k) (ok : TreesOk n k ts) → Opened (items k n) (ts, ok)
  unfolding step is_bracket
  opened_items k n none ok = opens refl (made_none d k n)
  opened_items k n (more t ts) ok = opens refl (made_more d k n t ok.0 ts ok.1)

  opened_text :
      (bs : List Action) (oks : ActionsOk d bs) (is : List Init) (i : InitsOk is) (g : Tree goals) (j : TreeOk d goals g) →
      Opened text_body (record { actions = bs; init = is; goal = g }, record { actions = oks; init = i; goal = j })
  unfolding step is_such same
  opened_text [] oks is i g j = opens refl (made_init d is i g j)
  opened_text (a ∷ bs) oks is i g j = opens refl (made_action d a oks.0 bs oks.1 is i g j)

  opened_plan : (p : Plan) (ok : PlanOk p) → Opened lines (p, ok)
  unfolding step is_bracket is_such is_stop bytes
  opened_plan nothing ok = opens refl (made_nothing d)
  opened_plan (last l) ok = opens (rw ok.start) (made_last d l ok)
  opened_plan (blank p) ok = opens refl (made_blank d p ok)
  opened_plan (then l p) ok = opens (rw ok.0.start) (made_then d l ok.0 p ok.1)

  opened_after : (a : After) (ok : AfterOk a) → Opened line_end (a, ok)
  unfolding step is_bracket is_stop
  opened_after ended ok = lone line_end (ended, ok) stop refl refl
  opened_after (followed p) ok = opens refl (made_followed d p ok)

  opened_at : (q : Point) (l : Literal) (ok : LiteralOk l) → Opened condition_point (q, l, ok)
  unfolding step is_such same
  opened_at start l ok = opens refl (made_wants d start l ok)
  opened_at end l ok = opens refl (made_wants d end l ok)

  opened_does : (q : Point) (c : Change) (ok : ChangeOk c) → Opened effect_point (q, c, ok)
  unfolding step is_such same
  opened_does start c ok = opens refl (made_does d start c ok)
  opened_does end c ok = opens refl (made_does d end c ok)

  pub opened : (s : Symbol) (v : Val d s) → Opened s v
  unfolding step is_bracket is_such is_stop bytes
  opened (bracket b) v = lone (bracket b) v (mark b) (rw (eq-eqb b b refl)) refl
  opened (keyword w) v = lone (keyword w) v (word w) (rw (same_refl w)) refl
  opened (name r) v = lone (name r) v (word v.0) (rw v.1) refl
  opened time v = lone time v (word v.0) (rw v.1) refl
  opened amount v = lone amount v (word v.0) (rw v.1) refl
  opened finish v = lone finish v stop refl refl
  opened text v = opens refl (made_text_lem d v.0 v.1)
  opened text_body v =
      opened_text v.0.actions v.1.actions v.0.init v.1.init v.0.goal v.1.goal
  opened inits v = opened_inits v.0 v.1
  opened init_body v = opened_init v.0 v.1
  opened (item k n) v = opens refl (made_item d k n v.0 v.1)
  opened (body k n) v = opened_body k n v.0 v.1
  opened (items k n) v = opened_items k n v.0 v.1
  opened condition_point v = opened_at v.0 v.1 v.2
  opened effect_point v = opened_does v.0 v.1 v.2
  opened (literal p) v = opens refl (made_literal d p v.0 v.1)
  opened (literal_body p) v = opened_literal p v.0 v.1
  opened (change q) v = opens refl (made_change d q v.0 v.1)
  opened (change_body q) v = opened_change q v.0 v.1
  opened lines v = opened_plan v.0 v.1
  opened line_end v = opened_after v.0 v.1

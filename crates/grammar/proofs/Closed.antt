-- Whatever a token leaves to come, the token and that make up what the symbol stands for.
use Prim.Native.Nat.{ℕ, zero, suc}
use mathlib.Core.Path.{◌≡◌, refl, sym, ap, subst}
use mathlib.Core.Bool.{Bool, true, false, cond}
use mathlib.Core.List.{List, [], ◌∷◌, append-nil}
use borrow.Author.Tests.{eqb-true}
use Rattle.laws.proofs.Search.{contrary}
use Rattle.spelling.specs.Tokens.{Token, mark, word, stop}
use Rattle.spelling.specs.Keywords.{at_word, over_word, and_word, not_word, increase_word, decrease_word, start_word, end_word}
use Rattle.spelling.specs.Keywords.{durative_word, equals_word, init_word}
use Rattle.spelling.specs.Names.{is_name}
use Rattle.spelling.specs.Numbers.{is_whole, is_time, ticks}
use Rattle.spelling.specs.Cursor.{is_bracket, is_such, is_word, is_stop}
use Rattle.spelling.proofs.Same.{same_eq}
use Rattle.grammar.specs.Said.{Point, start, end, Place, at_start, over_all, at_end, Said, number}
use Rattle.grammar.specs.Tree.{Literal, plain, negated, sets, increases, decreases, Kind, conditions, effects, goals}
use Rattle.grammar.specs.Tree.{one, both, none, more, Action, holds, level, Line, nothing, last, blank, then}
use Rattle.grammar.specs.Allowed.{LiteralOk, ActionOk, LineOk}
use Rattle.grammar.specs.Reader.{Symbol, bracket, keyword, name, time, amount, finish, text, text_body, inits, init_body}
use Rattle.grammar.specs.Reader.{item, body, items, condition_point, effect_point, literal, literal_body, change, change_body}
use Rattle.grammar.specs.Reader.{lines, line_end, Step, goes, fails, bytes, line_symbols, deeper, leaf_step, step}
use Rattle.grammar.proofs.Meaning.{After, AfterOk, ended, followed, ◌▸◌, Val, Vals, print, tell, Made}
use Rattle.grammar.proofs.Made.{made_literal, made_change, made_item, made_text_lem, made_plain, made_negated, made_sets_plain}
use Rattle.grammar.proofs.Made.{made_sets_negated, made_increases, made_decreases, made_holds, made_level, made_wants, made_does}
use Rattle.grammar.proofs.Made.{made_at_start, made_at_end, made_over_all, made_effect, made_goal_plain, made_goal_negated, made_and}
use Rattle.grammar.proofs.Made.{made_none, made_more, made_no_inits, made_inits, made_action, made_init, made_nothing, made_blank}
use Rattle.grammar.proofs.Made.{made_last, made_then, made_followed}

-- what the tests say of a token
bracket_is : (b : ℕ) (t : Token) → is_bracket b t ≡ true → mark b ≡ t
unfolding is_bracket
bracket_is b (mark m) e = ap mark (sym (eqb-true m b e))
bracket_is b (word w) e = contrary e refl
bracket_is b stop e = contrary e refl

word_is : (v : List ℕ) (t : Token) → is_word v t ≡ true → word v ≡ t
unfolding is_such
word_is v (word w) e = ap word (sym (same_eq w v e))
word_is v (mark m) e = contrary e refl
word_is v stop e = contrary e refl

such_is : (p : List ℕ → Bool) (t : Token) → is_such p t ≡ true → (word (bytes t) ≡ t) × (p (bytes t) ≡ true)
unfolding is_such bytes
such_is p (word w) e = (refl, e)
such_is p (mark m) e = contrary e refl
such_is p stop e = contrary e refl

pub stop_is : (t : Token) → is_stop t ≡ true → stop ≡ t
unfolding is_stop
stop_is stop e = refl
stop_is (word w) e = contrary e refl
stop_is (mark m) e = contrary e refl

module _ (d : ℕ) where
  abbrev pub Closed : Symbol → Token → Step → Type 0
  Closed s t (goes next new) = (vs : Vals d next) → (v : Val d s) × Made d s t next new vs v
  Closed s t (fails n) = Unit

  -- the first test that passes
  pick : (s : Symbol) (t : Token) (y : Bool) (a b : Step) → (y ≡ true → Closed s t a) → Closed s t b → Closed s t (cond y a b)
  pick s t true a b f g = f refl
  pick s t false a b f g = g

  -- a test that tells the token
  take :
      (s : Symbol) (t : Token) (y : Bool) (next : List Symbol) (new : List Said) (b : Step) (u : Token) → (y ≡ true → u ≡ t) →
      (y ≡ true → (vs : Vals d next) → (v : Val d s) × Made d s u next new vs v) → Closed s t b → Closed s t (cond y (goes next new) b)
  take s t y next new b u e f g =
      pick s t y (goes next new) b (λ h. subst (λ (x : Token). (vs : Vals d next) → (v : Val d s) × Made d s x next new vs v) (e h) (f h)) g

  taken : (s : Symbol) (t : Token) (v : Val d s) → t ∷ [] ≡ print d s v → Made d s t [] (tell d s v) tt v
  taken s t v e = record { tokens = e; said = append-nil _ }

  closed_literal : (p : Place) (t : Token) → Closed (literal_body p) t (step d (literal_body p) t)
  unfolding step
  closed_literal p t =
      take (literal_body p) t (is_word not_word t) _ _ _ (word not_word) (word_is not_word t)
      (λ _ vs. let n = vs.1.0 in ((negated n.0, n.1), made_negated d p n.0 n.1))
      (take (literal_body p) t (is_such is_name t) _ _ _ (word (bytes t)) (λ e. (such_is is_name t e).0)
      (λ e vs. let n = (such_is is_name t e).1 in ((plain (bytes t), n), made_plain d p (bytes t) n)) tt)

  closed_change : (q : Point) (t : Token) → Closed (change_body q) t (step d (change_body q) t)
  unfolding step
  closed_change q t =
      take (change_body q) t (is_word increase_word t) _ _ _ (word increase_word) (word_is increase_word t)
      (λ _ vs.
      let n = vs.1.0 in
      let w = vs.1.1.1.0 in
      ((increases n.0 w.0, (n.1, w.1)), made_increases d q n.0 w.0 n.1 w.1))
      (take (change_body q) t (is_word decrease_word t) _ _ _ (word decrease_word) (word_is decrease_word t)
      (λ _ vs.
      let n = vs.1.0 in
      let w = vs.1.1.1.0 in
      ((decreases n.0 w.0, (n.1, w.1)), made_decreases d q n.0 w.0 n.1 w.1))
      (take (change_body q) t (is_word not_word t) _ _ _ (word not_word) (word_is not_word t)
      (λ _ vs. let n = vs.1.0 in ((sets (negated n.0), n.1), made_sets_negated d q n.0 n.1))
      (take (change_body q) t (is_such is_name t) _ _ _ (word (bytes t)) (λ e. (such_is is_name t e).0)
      (λ e vs. let n = (such_is is_name t e).1 in ((sets (plain (bytes t)), n), made_sets_plain d q (bytes t) n)) tt)))

  closed_init : (t : Token) → Closed init_body t (step d init_body t)
  unfolding step
  closed_init t =
      take init_body t (is_word equals_word t) _ _ _ (word equals_word) (word_is equals_word t)
      (λ _ vs.
      let n = vs.1.0 in
      let w = vs.1.1.1.0 in
      ((level n.0 w.0, (n.1, w.1)), made_level d n.0 w.0 n.1 w.1))
      (take init_body t (is_such is_name t) _ _ _ (word (bytes t)) (λ e. (such_is is_name t e).0)
      (λ e vs. let n = (such_is is_name t e).1 in ((holds (bytes t), n), made_holds d (bytes t) n)) tt)

  closed_inits : (t : Token) → Closed inits t (step d inits t)
  unfolding step
  closed_inits t =
      take inits t (is_bracket 41 t) _ _ _ (mark 41) (bracket_is 41 t) (λ _ vs. (([], tt), made_no_inits d))
      (take inits t (is_bracket 40 t) _ _ _ (mark 40) (bracket_is 40 t)
      (λ _ vs.
      let i = vs.0 in
      let is = vs.1.0 in
      ((i.0 ∷ is.0, (i.1, is.1)), made_inits d i.0 i.1 is.0 is.1)) tt)

  closed_leaf : (k : Kind) (n : ℕ) (t : Token) → Closed (body k n) t (leaf_step k t)
  unfolding leaf_step
  closed_leaf conditions n t =
      take (body conditions n) t (is_word at_word t) _ _ _ (word at_word) (word_is at_word t)
      (λ _ vs. closed_at n vs.0.0 vs.0.1 vs.0.2)
      (take (body conditions n) t (is_word over_word t) _ _ _ (word over_word) (word_is over_word t)
      (λ _ vs. let l = vs.1.0 in ((one (record { when = over_all; what = l.0 }), l.1), made_over_all d n l.0 l.1)) tt)
    where
      closed_at :
          (n : ℕ) (q : Point) (l : Literal) (ok : LiteralOk l) →
          (v : Val d (body conditions n)) × Made d (body conditions n) (word at_word) (condition_point ∷ []) [] ((q, l, ok), tt) v
      closed_at n start l ok = ((one (record { when = at_start; what = l }), ok), made_at_start d n l ok)
      closed_at n end l ok = ((one (record { when = at_end; what = l }), ok), made_at_end d n l ok)
  closed_leaf effects n t =
      take (body effects n) t (is_word at_word t) _ _ _ (word at_word) (word_is at_word t)
      (λ _ vs.
      let e = vs.0 in
      ((one (record { at = e.0; what = e.1 }), e.2), made_effect d n e.0 e.1 e.2)) tt
  closed_leaf goals n t =
      take (body goals n) t (is_word not_word t) _ _ _ (word not_word) (word_is not_word t)
      (λ _ vs. let m = vs.1.0 in ((one (negated m.0), m.1), made_goal_negated d n m.0 m.1))
      (take (body goals n) t (is_such is_name t) _ _ _ (word (bytes t)) (λ e. (such_is is_name t e).0)
      (λ e vs. let m = (such_is is_name t e).1 in ((one (plain (bytes t)), m), made_goal_plain d n (bytes t) m)) tt)

  closed_body : (k : Kind) (n : ℕ) (t : Token) → Closed (body k n) t (step d (body k n) t)
  unfolding step deeper
  closed_body k zero t = pick (body k zero) t (is_word and_word t) _ _ (λ _. tt) (closed_leaf k zero t)
  closed_body k (suc m) t =
      take (body k (suc m)) t (is_word and_word t) _ _ _ (word and_word) (word_is and_word t)
      (λ _ vs. let ts = vs.0 in ((both ts.0, ts.1), made_and d k m ts.0 ts.1)) (closed_leaf k (suc m) t)

  closed_items : (k : Kind) (n : ℕ) (t : Token) → Closed (items k n) t (step d (items k n) t)
  unfolding step
  closed_items k n t =
      take (items k n) t (is_bracket 41 t) _ _ _ (mark 41) (bracket_is 41 t) (λ _ vs. ((none, tt), made_none d k n))
      (take (items k n) t (is_bracket 40 t) _ _ _ (mark 40) (bracket_is 40 t)
      (λ _ vs.
      let a = vs.0 in
      let ts = vs.1.0 in
      ((more a.0 ts.0, (a.1, ts.1)), made_more d k n a.0 a.1 ts.0 ts.1)) tt)

  closed_text : (t : Token) → Closed text_body t (step d text_body t)
  unfolding step
  closed_text t =
      take text_body t (is_word durative_word t) _ _ _ (word durative_word) (word_is durative_word t)
      (λ _ vs.
      let n = vs.0 in
      let timed = vs.1.1.1.1.1 in
      let c = timed.1.1.1.0 in
      let e = timed.1.1.1.1.1.0 in
      let rest = timed.1.1.1.1.1.1.1.0 in
      let a : Action = record { name = n.0; duration = timed.0.0; condition = c.0; effect = e.0 } in
      let ok : ActionOk d a = record { named = n.1; timed = timed.0.1; condition = c.1; effect = e.1 } in
      let t = rest.0 in (
        (
          record { actions = a ∷ t.actions; init = t.init; goal = t.goal },
          record { actions = (ok, rest.1.actions); init = rest.1.init; goal = rest.1.goal },
        ),
        made_action d a ok t.actions rest.1.actions t.init rest.1.init t.goal rest.1.goal,
      ))
      (take text_body t (is_word init_word t) _ _ _ (word init_word) (word_is init_word t)
      (λ _ vs.
      let is = vs.0 in
      let g = vs.1.1.1.0 in (
        (record { actions = []; init = is.0; goal = g.0 }, record { actions = tt; init = is.1; goal = g.1 }),
        made_init d is.0 is.1 g.0 g.1,
      )) tt)

  closed_point : (t : Token) → Closed condition_point t (step d condition_point t)
  unfolding step
  closed_point t =
      take condition_point t (is_word start_word t) _ _ _ (word start_word) (word_is start_word t)
      (λ _ vs. let l = vs.0 in ((start, l.0, l.1), made_wants d start l.0 l.1))
      (take condition_point t (is_word end_word t) _ _ _ (word end_word) (word_is end_word t)
      (λ _ vs. let l = vs.0 in ((end, l.0, l.1), made_wants d end l.0 l.1)) tt)

  closed_effect : (t : Token) → Closed effect_point t (step d effect_point t)
  unfolding step
  closed_effect t =
      take effect_point t (is_word start_word t) _ _ _ (word start_word) (word_is start_word t)
      (λ _ vs. let c = vs.0 in ((start, c.0, c.1), made_does d start c.0 c.1))
      (take effect_point t (is_word end_word t) _ _ _ (word end_word) (word_is end_word t)
      (λ _ vs. let c = vs.0 in ((end, c.0, c.1), made_does d end c.0 c.1)) tt)

  -- a plan line with what follows it
  with_line :
      (l : Line) (ok : LineOk l) (a : After) (ok' : AfterOk a) →
      (v : Val d lines) × Made d lines (word l.start) line_symbols (number (ticks l.start) ∷ [])
      (tt ▸ tt ▸ (l.name, ok.named) ▸ tt ▸ tt ▸ (l.duration, ok.timed) ▸ tt ▸ (a, ok') ▸ tt) v
  with_line l ok ended ok' = ((last l, ok), made_last d l ok)
  with_line l ok (followed p) ok' = ((then l p, (ok, ok')), made_then d l ok p ok')

  closed_lines : (t : Token) → Closed lines t (step d lines t)
  unfolding step
  closed_lines t =
      take lines t (is_bracket 10 t) _ _ _ (mark 10) (bracket_is 10 t)
      (λ _ vs. let p = vs.0 in ((blank p.0, p.1), made_blank d p.0 p.1))
      (take lines t (is_stop t) _ _ _ stop (stop_is t) (λ _ vs. ((nothing, tt), made_nothing d))
      (take lines t (is_such is_time t) _ _ _ (word (bytes t)) (λ e. (such_is is_time t e).0)
      (λ e vs.
      let n = vs.1.1.0 in
      let timed = vs.1.1.1.1.1 in
      let after = timed.1.1.0 in
      let l : Line = record { start = bytes t; name = n.0; duration = timed.0.0 } in
      let ok : LineOk l = record { start = (such_is is_time t e).1; named = n.1; timed = timed.0.1 } in
      with_line l ok after.0 after.1) tt))

  closed_after : (t : Token) → Closed line_end t (step d line_end t)
  unfolding step
  closed_after t =
      take line_end t (is_bracket 10 t) _ _ _ (mark 10) (bracket_is 10 t)
      (λ _ vs. let p = vs.0 in ((followed p.0, p.1), made_followed d p.0 p.1))
      (take line_end t (is_stop t) _ _ _ stop (stop_is t) (λ _ vs. ((ended, tt), taken line_end stop (ended, tt) refl)) tt)

  pub closed : (s : Symbol) (t : Token) → Closed s t (step d s t)
  unfolding step
  closed (bracket b) t =
      take (bracket b) t (is_bracket b t) _ _ _ (mark b) (bracket_is b t) (λ _ vs. (tt, taken (bracket b) (mark b) tt refl)) tt
  closed (keyword w) t =
      take (keyword w) t (is_word w t) _ _ _ (word w) (word_is w t) (λ _ vs. (tt, taken (keyword w) (word w) tt refl)) tt
  closed (name r) t =
      take (name r) t (is_such is_name t) _ _ _ (word (bytes t)) (λ e. (such_is is_name t e).0)
      (λ e vs. let n = (such_is is_name t e).1 in ((bytes t, n), taken (name r) (word (bytes t)) (bytes t, n) refl)) tt
  closed time t =
      take time t (is_such is_time t) _ _ _ (word (bytes t)) (λ e. (such_is is_time t e).0)
      (λ e vs. let n = (such_is is_time t e).1 in ((bytes t, n), taken time (word (bytes t)) (bytes t, n) refl)) tt
  closed amount t =
      take amount t (is_such is_whole t) _ _ _ (word (bytes t)) (λ e. (such_is is_whole t e).0)
      (λ e vs. let n = (such_is is_whole t e).1 in ((bytes t, n), taken amount (word (bytes t)) (bytes t, n) refl)) tt
  closed finish t = take finish t (is_stop t) _ _ _ stop (stop_is t) (λ _ vs. (tt, taken finish stop tt refl)) tt
  closed text t =
      take text t (is_bracket 40 t) _ _ _ (mark 40) (bracket_is 40 t) (λ _ vs. (vs.0, made_text_lem d vs.0.0 vs.0.1)) tt
  closed text_body t = closed_text t
  closed inits t = closed_inits t
  closed init_body t = closed_init t
  closed (item k n) t =
      take (item k n) t (is_bracket 40 t) _ _ _ (mark 40) (bracket_is 40 t) (λ _ vs. (vs.0, made_item d k n vs.0.0 vs.0.1)) tt
  closed (body k n) t = closed_body k n t
  closed (items k n) t = closed_items k n t
  closed condition_point t = closed_point t
  closed effect_point t = closed_effect t
  closed (literal p) t =
      take (literal p) t (is_bracket 40 t) _ _ _ (mark 40) (bracket_is 40 t) (λ _ vs. (vs.0, made_literal d p vs.0.0 vs.0.1)) tt
  closed (literal_body p) t = closed_literal p t
  closed (change q) t =
      take (change q) t (is_bracket 40 t) _ _ _ (mark 40) (bracket_is 40 t) (λ _ vs. (vs.0, made_change d q vs.0.0 vs.0.1)) tt
  closed (change_body q) t = closed_change q t
  closed lines t = closed_lines t
  closed line_end t = closed_after t

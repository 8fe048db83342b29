-- Each way in which one token decides, with the parts that it leaves to come and what they make up.
use Prim.Native.Nat.{ℕ, suc}
use mathlib.Core.Path.{◌≡◌, refl, sym, ap, ◌∙◌}
use mathlib.Core.Bool.{true, false}
use mathlib.Core.List.{List, [], ◌∷◌, ◌++◌, append_assoc, append-nil}
use Rattle.spelling.specs.Tokens.{Token, mark, word, stop}
use Rattle.spelling.specs.Keywords.{at_word, over_word, and_word, not_word, increase_word, decrease_word, all_word}
use Rattle.spelling.specs.Keywords.{durative_word, duration_word, equals_word, asked_word, condition_word, effect_word, init_word, goal_word}
use Rattle.spelling.specs.Numbers.{ticks}
use Rattle.grammar.specs.Said.{Point, start, end, Place, wanted, set, reached, given, at_start, over_all, at_end, when_of}
use Rattle.grammar.specs.Said.{action, fact, rise, fall, stock, Said, number}
use Rattle.grammar.specs.Said as say
use Rattle.grammar.specs.Tree.{Word, Literal, plain, negated, Change, sets, increases, decreases, Kind, conditions, effects, goals}
use Rattle.grammar.specs.Tree.{Leaf, Tree, one, both, Trees, none, more, Action, Init, holds, level, Text}
use Rattle.grammar.specs.Tree.{Line, Plan, nothing, last, blank, then}
use Rattle.grammar.specs.Written.{in_brackets, point_word, literal_tokens, change_tokens, leaf_tokens, tree_tokens, trees_tokens}
use Rattle.grammar.specs.Written.{action_tokens, actions_tokens, init_tokens, inits_tokens, text_tokens, line_tokens, plan_tokens}
use Rattle.grammar.specs.Saying.{literal_says, change_says, leaf_says, tree_says, trees_say, action_says, actions_say, init_says, inits_say}
use Rattle.grammar.specs.Saying.{text_says, line_says, plan_says}
use Rattle.grammar.specs.Allowed.{IsName, IsWhole, LiteralOk, ChangeOk, TreeOk, TreesOk, ActionOk, ActionsOk}
use Rattle.grammar.specs.Allowed.{InitOk, InitsOk, TextOk, LineOk, PlanOk}
use Rattle.grammar.specs.Reader.{keyword, name, text, text_body, inits, init_body}
use Rattle.grammar.specs.Reader.{item, body, items, condition_point, effect_point, literal, literal_body, change, change_body}
use Rattle.grammar.specs.Reader.{lines, line_end, opening, closing, level_symbols, action_symbols, init_symbols, line_symbols}
use Rattle.grammar.proofs.Meaning.{tail, ended, followed, ◌▸◌, Made}

-- all but a plan's end begin with a bracket
literal_opens : (l : Literal) → literal_tokens l ≡ mark 40 ∷ tail (literal_tokens l)
unfolding literal_tokens
literal_opens (plain n) = refl
literal_opens (negated n) = refl

change_opens : (c : Change) → change_tokens c ≡ mark 40 ∷ tail (change_tokens c)
unfolding change_tokens
change_opens (sets l) = literal_opens l
change_opens (increases n w) = refl
change_opens (decreases n w) = refl

leaf_opens : (k : Kind) (a : Leaf k) → leaf_tokens k a ≡ mark 40 ∷ tail (leaf_tokens k a)
unfolding leaf_tokens
leaf_opens conditions c = refl
leaf_opens effects e = refl
leaf_opens goals l = literal_opens l

tree_opens : (k : Kind) (t : Tree k) → tree_tokens k t ≡ mark 40 ∷ tail (tree_tokens k t)
unfolding tree_tokens
tree_opens k (one a) = leaf_opens k a
tree_opens k (both bs) = refl

init_opens : (i : Init) → init_tokens i ≡ mark 40 ∷ tail (init_tokens i)
unfolding init_tokens
init_opens (holds n) = refl
init_opens (level n w) = refl

actions_open : (bs : List Action) (ts : List Token) → actions_tokens bs ++ mark 40 ∷ ts ≡ mark 40 ∷ tail (actions_tokens bs ++ mark 40 ∷ ts)
unfolding actions_tokens action_tokens
actions_open [] ts = refl
actions_open (a ∷ bs) ts = refl

-- init and what follows it, behind the bracket
abbrev init_on : List Init → Tree goals → List Token
init_on is g =
    word init_word ∷ inits_tokens is ++ (mark 41 ∷ []) ++ in_brackets (word goal_word ∷ tree_tokens goals g) ++ (stop ∷ [])

text_from :
    (bs : List Action) (is : List Init) (g : Tree goals) →
    text_tokens (record { actions = bs; init = is; goal = g }) ≡ actions_tokens bs ++ mark 40 ∷ init_on is g
unfolding text_tokens
text_from bs is g =
    flat (mark 40) (actions_tokens bs) (word init_word ∷ inits_tokens is ++ (mark 41 ∷ []))
    (in_brackets (word goal_word ∷ tree_tokens goals g)) (stop ∷ [])
  where
    flat : (m : Token) (a i g s : List Token) → a ++ m ∷ i ++ g ++ s ≡ a ++ m ∷ (i ++ g ++ s)
    flat m a i g s = simp append_assoc

text_opens : (t : Text) → text_tokens t ≡ mark 40 ∷ tail (text_tokens t)
text_opens t =
    let e = text_from t.actions t.init t.goal in
    e ∙ actions_open t.actions (init_on t.init t.goal) ∙ ap (λ ts. mark 40 ∷ tail ts) (sym e)

-- one more in a row
row_opens : (t u us : List Token) → u ≡ mark 40 ∷ t → mark 40 ∷ (t ++ (us ++ (mark 41 ∷ []) ++ [])) ≡ u ++ us ++ (mark 41 ∷ [])
row_opens t u us e =
    ap (λ ts. mark 40 ∷ (t ++ ts)) (append-nil (us ++ (mark 41 ∷ [])))
    ∙ sym (append_assoc (mark 40 ∷ t) us (mark 41 ∷ []))
    ∙ ap (λ ts. ts ++ us ++ (mark 41 ∷ [])) (sym e)

module _ (d : ℕ) where
  -- a part from its opening bracket on
  pub made_literal :
      (p : Place) (l : Literal) (ok : LiteralOk l) → Made d (literal p) (mark 40) (literal_body p ∷ []) [] ((l, ok), tt) (l, ok)
  made_literal p l ok = record { tokens = ap (λ ts. mark 40 ∷ ts) (append-nil _) ∙ sym (literal_opens l); said = append-nil _ }

  pub made_change : (q : Point) (c : Change) (ok : ChangeOk c) → Made d (change q) (mark 40) (change_body q ∷ []) [] ((c, ok), tt) (c, ok)
  made_change q c ok = record { tokens = ap (λ ts. mark 40 ∷ ts) (append-nil _) ∙ sym (change_opens c); said = append-nil _ }

  pub made_item :
      (k : Kind) (n : ℕ) (t : Tree k) (ok : TreeOk n k t) → Made d (item k n) (mark 40) (body k n ∷ []) [] ((t, ok), tt) (t, ok)
  made_item k n t ok = record { tokens = ap (λ ts. mark 40 ∷ ts) (append-nil _) ∙ sym (tree_opens k t); said = append-nil _ }

  pub made_text_lem : (t : Text) (ok : TextOk d t) → Made d text (mark 40) (text_body ∷ []) [] ((t, ok), tt) (t, ok)
  made_text_lem t ok = record { tokens = ap (λ ts. mark 40 ∷ ts) (append-nil _) ∙ sym (text_opens t); said = append-nil _ }

  -- a fact, (not ..), a level
  pub made_plain :
      (p : Place) (n : Word) (ok : IsName n) →
      Made d (literal_body p) (word n) (closing ∷ []) (say.name (fact p true) n ∷ []) (tt, tt) (plain n, ok)
  unfolding literal_tokens literal_says
  made_plain p n ok = record { tokens = refl; said = refl }

  pub made_negated :
      (p : Place) (n : Word) (ok : IsName n) →
      Made d (literal_body p) (word not_word) (opening ∷ name (fact p false) ∷ closing ∷ closing ∷ []) []
      (tt, ((n, ok), (tt, (tt, tt)))) (negated n, ok)
  unfolding literal_tokens literal_says
  made_negated p n ok = record { tokens = refl; said = refl }

  pub made_sets_plain :
      (q : Point) (n : Word) (ok : IsName n) →
      Made d (change_body q) (word n) (closing ∷ []) (say.name (fact (set q) true) n ∷ []) (tt, tt) (sets (plain n), ok)
  unfolding change_tokens change_says literal_tokens literal_says
  made_sets_plain q n ok = record { tokens = refl; said = refl }

  pub made_sets_negated :
      (q : Point) (n : Word) (ok : IsName n) →
      Made d (change_body q) (word not_word) (opening ∷ name (fact (set q) false) ∷ closing ∷ closing ∷ []) []
      (tt, ((n, ok), (tt, (tt, tt)))) (sets (negated n), ok)
  unfolding change_tokens change_says literal_tokens literal_says
  made_sets_negated q n ok = record { tokens = refl; said = refl }

  pub made_increases :
      (q : Point) (n w : Word) (ok : IsName n) (ok' : IsWhole w) →
      Made d (change_body q) (word increase_word) (level_symbols (rise q)) []
      (tt, ((n, ok), (tt, ((w, ok'), (tt, tt))))) (increases n w, (ok, ok'))
  unfolding change_tokens change_says
  made_increases q n w ok ok' = record { tokens = refl; said = refl }

  pub made_decreases :
      (q : Point) (n w : Word) (ok : IsName n) (ok' : IsWhole w) →
      Made d (change_body q) (word decrease_word) (level_symbols (fall q)) []
      (tt, ((n, ok), (tt, ((w, ok'), (tt, tt))))) (decreases n w, (ok, ok'))
  unfolding change_tokens change_says
  made_decreases q n w ok ok' = record { tokens = refl; said = refl }

  pub made_holds :
      (n : Word) (ok : IsName n) →
      Made d init_body (word n) (closing ∷ []) (say.name (fact given true) n ∷ []) (tt, tt) (holds n, ok)
  unfolding init_tokens init_says
  made_holds n ok = record { tokens = refl; said = refl }

  pub made_level :
      (n w : Word) (ok : IsName n) (ok' : IsWhole w) →
      Made d init_body (word equals_word) (level_symbols stock) [] (tt, ((n, ok), (tt, ((w, ok'), (tt, tt))))) (level n w, (ok, ok'))
  unfolding init_tokens init_says
  made_level n w ok ok' = record { tokens = refl; said = refl }

  -- behind "at", and an item behind its bracket
  pub made_wants :
      (q : Point) (l : Literal) (ok : LiteralOk l) →
      Made d condition_point (point_word q) (literal (wanted (when_of q)) ∷ closing ∷ []) [] ((l, ok), (tt, tt)) (q, l, ok)
  made_wants q l ok = record { tokens = refl; said = append-nil _ }

  pub made_does :
      (q : Point) (c : Change) (ok : ChangeOk c) →
      Made d effect_point (point_word q) (change q ∷ closing ∷ []) [] ((c, ok), (tt, tt)) (q, c, ok)
  made_does q c ok = record { tokens = refl; said = append-nil _ }

  pub made_at_start :
      (n : ℕ) (l : Literal) (ok : LiteralOk l) →
      Made d (body conditions n) (word at_word) (condition_point ∷ []) [] ((start, l, ok), tt) (one (record { when = at_start; what = l }), ok)
  unfolding tree_tokens tree_says leaf_tokens leaf_says
  made_at_start n l ok = record { tokens = append-nil _; said = append-nil _ }

  pub made_at_end :
      (n : ℕ) (l : Literal) (ok : LiteralOk l) →
      Made d (body conditions n) (word at_word) (condition_point ∷ []) [] ((end, l, ok), tt) (one (record { when = at_end; what = l }), ok)
  unfolding tree_tokens tree_says leaf_tokens leaf_says
  made_at_end n l ok = record { tokens = append-nil _; said = append-nil _ }

  pub made_over_all :
      (n : ℕ) (l : Literal) (ok : LiteralOk l) →
      Made d (body conditions n) (word over_word) (keyword all_word ∷ literal (wanted over_all) ∷ closing ∷ []) [] (tt, ((l, ok), (tt, tt)))
      (one (record { when = over_all; what = l }), ok)
  unfolding tree_tokens tree_says leaf_tokens leaf_says
  made_over_all n l ok = record { tokens = refl; said = append-nil _ }

  pub made_effect :
      (n : ℕ) (q : Point) (c : Change) (ok : ChangeOk c) →
      Made d (body effects n) (word at_word) (effect_point ∷ []) [] ((q, c, ok), tt) (one (record { at = q; what = c }), ok)
  unfolding tree_tokens tree_says leaf_tokens leaf_says
  made_effect n q c ok = record { tokens = append-nil _; said = append-nil _ }

  pub made_goal_plain :
      (k : ℕ) (n : Word) (ok : IsName n) →
      Made d (body goals k) (word n) (closing ∷ []) (say.name (fact reached true) n ∷ []) (tt, tt) (one (plain n), ok)
  unfolding tree_tokens tree_says leaf_tokens leaf_says literal_tokens literal_says
  made_goal_plain k n ok = record { tokens = refl; said = refl }

  pub made_goal_negated :
      (k : ℕ) (n : Word) (ok : IsName n) →
      Made d (body goals k) (word not_word) (opening ∷ name (fact reached false) ∷ closing ∷ closing ∷ []) []
      (tt, ((n, ok), (tt, (tt, tt)))) (one (negated n), ok)
  unfolding tree_tokens tree_says leaf_tokens leaf_says literal_tokens literal_says
  made_goal_negated k n ok = record { tokens = refl; said = refl }

  pub made_and :
      (k : Kind) (m : ℕ) (ts : Trees k) (ok : TreesOk m k ts) →
      Made d (body k (suc m)) (word and_word) (items k m ∷ []) [] ((ts, ok), tt) (both ts, ok)
  unfolding tree_tokens tree_says
  made_and k m ts ok = record { tokens = append-nil _; said = append-nil _ }

  -- items up to their bracket
  pub made_none : (k : Kind) (n : ℕ) → Made d (items k n) (mark 41) [] [] tt (none, tt)
  unfolding trees_tokens trees_say
  made_none k n = record { tokens = refl; said = refl }

  pub made_more :
      (k : Kind) (n : ℕ) (t : Tree k) (ok : TreeOk n k t) (ts : Trees k) (ok' : TreesOk n k ts) →
      Made d (items k n) (mark 40) (body k n ∷ items k n ∷ []) [] ((t, ok), ((ts, ok'), tt)) (more t ts, (ok, ok'))
  unfolding trees_tokens trees_say
  made_more k n t ok ts ok' =
      record {
        tokens = row_opens (tail (tree_tokens k t)) (tree_tokens k t) (trees_tokens k ts) (tree_opens k t);
        said = ap (λ us. tree_says k t ++ us) (append-nil _);
      }

  pub made_no_inits : Made d inits (mark 41) [] [] tt ([], tt)
  unfolding inits_tokens inits_say
  made_no_inits = record { tokens = refl; said = refl }

  pub made_inits :
      (i : Init) (ok : InitOk i) (is : List Init) (ok' : InitsOk is) →
      Made d inits (mark 40) (init_body ∷ inits ∷ []) [] ((i, ok), ((is, ok'), tt)) (i ∷ is, (ok, ok'))
  unfolding inits_tokens inits_say
  made_inits i ok is ok' =
      record {
        tokens = row_opens (tail (init_tokens i)) (init_tokens i) (inits_tokens is) (init_opens i);
        said = ap (λ us. init_says i ++ us) (append-nil _);
      }

  -- the text
  pub made_action :
      (a : Action) (ok : ActionOk d a) (bs : List Action) (oks : ActionsOk d bs) (is : List Init) (i : InitsOk is) (g : Tree goals)
      (j : TreeOk d goals g) →
      Made d text_body (word durative_word) (action_symbols d) []
      ((a.name, ok.named) ▸ tt ▸ tt ▸ tt ▸ tt ▸ (a.duration, ok.timed) ▸ tt ▸ tt ▸ (a.condition, ok.condition) ▸ tt
      ▸ (a.effect, ok.effect) ▸ tt
      ▸ (record { actions = bs; init = is; goal = g }, record { actions = oks; init = i; goal = j }) ▸ tt)
      (record { actions = a ∷ bs; init = is; goal = g }, record { actions = (ok, oks); init = i; goal = j })
  unfolding text_tokens text_says actions_tokens actions_say action_tokens action_says
  made_action a ok bs oks is i g j =
      record {
        tokens =
            ap
            (λ ts.
            word durative_word ∷ word a.name ∷ word duration_word ∷ mark 40 ∷ word equals_word ∷ word asked_word ∷ word a.duration
            ∷ mark 41 ∷ word condition_word ∷ ts)
            (flat (word effect_word ∷ []) (mark 41 ∷ []) (tree_tokens conditions a.condition) (tree_tokens effects a.effect)
            (actions_tokens bs) (in_brackets (word init_word ∷ inits_tokens is)) (in_brackets (word goal_word ∷ tree_tokens goals g)) (stop ∷ []));
        said =
            ap (λ ss. say.name action a.name ∷ number (ticks a.duration) ∷ ss)
            (flat_said (tree_says conditions a.condition) (tree_says effects a.effect) (actions_say bs) (inits_say is)
            (tree_says goals g));
      }
    where
      flat :
          (e k c f b i g s : List Token) →
          c ++ (e ++ (f ++ (k ++ (b ++ i ++ g ++ s ++ [])))) ≡ c ++ (e ++ f) ++ k ++ b ++ i ++ g ++ s
      flat e k c f b i g s = simp (append_assoc, append-nil)

      flat_said : (c f b i g : List Said) → c ++ (f ++ (b ++ i ++ g ++ [])) ≡ c ++ f ++ b ++ i ++ g
      flat_said c f b i g = simp (append_assoc, append-nil)

  pub made_init :
      (is : List Init) (i : InitsOk is) (g : Tree goals) (j : TreeOk d goals g) →
      Made d text_body (word init_word) (init_symbols d) [] ((is, i), (tt, (tt, ((g, j), (tt, (tt, tt))))))
      (record { actions = []; init = is; goal = g }, record { actions = tt; init = i; goal = j })
  unfolding text_tokens text_says actions_tokens actions_say
  made_init is i g j =
      record {
        tokens =
            ap (λ ts. word init_word ∷ ts)
            (flat (mark 40) (word goal_word) (mark 41) stop (inits_tokens is ++ (mark 41 ∷ [])) (tree_tokens goals g));
        said = ap (λ ss. inits_say is ++ ss) (append-nil _);
      }
    where
      flat : (a b k s : Token) (i g : List Token) → i ++ a ∷ b ∷ (g ++ k ∷ s ∷ []) ≡ i ++ a ∷ b ∷ (g ++ (k ∷ [])) ++ (s ∷ [])
      flat a b k s i g = simp append_assoc

  -- the plan
  pub made_nothing : Made d lines stop [] [] tt (nothing, tt)
  unfolding plan_tokens plan_says
  made_nothing = record { tokens = refl; said = refl }

  pub made_blank : (p : Plan) (ok : PlanOk p) → Made d lines (mark 10) (lines ∷ []) [] ((p, ok), tt) (blank p, ok)
  unfolding plan_tokens plan_says
  made_blank p ok = record { tokens = ap (λ us. mark 10 ∷ us) (append-nil _); said = append-nil _ }

  pub made_last :
      (l : Line) (ok : LineOk l) →
      Made d lines (word l.start) line_symbols (number (ticks l.start) ∷ [])
      (tt ▸ tt ▸ (l.name, ok.named) ▸ tt ▸ tt ▸ (l.duration, ok.timed) ▸ tt ▸ (ended, tt) ▸ tt) (last l, ok)
  unfolding plan_tokens plan_says line_tokens line_says
  made_last l ok = record { tokens = refl; said = refl }

  pub made_then :
      (l : Line) (ok : LineOk l) (p : Plan) (ok' : PlanOk p) →
      Made d lines (word l.start) line_symbols (number (ticks l.start) ∷ [])
      (tt ▸ tt ▸ (l.name, ok.named) ▸ tt ▸ tt ▸ (l.duration, ok.timed) ▸ tt ▸ (followed p, ok') ▸ tt) (then l p, (ok, ok'))
  unfolding plan_tokens plan_says line_tokens line_says
  made_then l ok p ok' = record { tokens = simp append-nil; said = simp append-nil }

  pub made_followed : (p : Plan) (ok : PlanOk p) → Made d line_end (mark 10) (lines ∷ []) [] ((p, ok), tt) (followed p, ok)
  made_followed p ok = record { tokens = ap (λ us. mark 10 ∷ us) (append-nil _); said = append-nil _ }

-- The loops over what init gives, over actions and over lines: one more, and the last.
use Prim.Native.Nat.{ℕ}
use mathlib.Core.Path.{◌≡◌, refl, sym, ◌∙◌}
use mathlib.Core.Bool.{Bool, true, false, not, ◌&&◌}
use mathlib.Core.List.{List, [], ◌∷◌}
use native.Mathlib.Omega.{arith}
use native.Mathlib.Decide.{dec_lt}
use lib.Dec.{eqb}
use borrow.Author.Tests.{not-true, not-false}
use Rattle.spelling.specs.Keywords.{durative_word, init_word}
use Rattle.spelling.specs.Cursor.{here, is_bracket, is_word, is_stop}
use Rattle.grammar.specs.Allowed.{depth_most}
use Rattle.grammar.specs.Reader.{bracket, keyword, time, text, text_body, inits, init_body, lines, line_end}
use Rattle.grammar.specs.Reader.{action_symbols, init_symbols}
use Rattle.token_reader.specs.Reading.{cursor_of, fault_of, Ready, Takes, Reads, Leads, Turns, Ends}
use Rattle.token_reader.specs.declared.Reader.{Reader}
use Rattle.token_reader.proofs.Steps.{outcome_fault}
use Rattle.token_reader.proofs.Compose.{alike, lead, then, stands}
use Rattle.text_reader.specs.Rows.{action_row, goal_row, line_row}
use Rattle.text_reader.proofs.Likeness.{inits_more, inits_close, text_alike, action_alike, init_alike}
use Rattle.text_reader.proofs.Likeness.{blank_alike, line_alike, end_alike, stop_alike, lines_goes}
use Rattle.token_reader.proofs.Turning.{on_yes, on_no, turn_start, turn_more, turn_turn, turn_close, turned}
use Rattle.token_reader.proofs.Turning.{ends_then, ends_turn, ends_alike, ends_fault, ends_stop}

module _ {t list₀ list : List ℕ} {r₀ r : Reader} {y : Bool} where
  -- what init gives
  module _ (w : Turns false t list₀ r₀ inits list r inits)
      (e : y ≡ (eqb (fault_of r) 0 && not (is_bracket 41 (here false t (cursor_of r))))) where
    pub inits_again :
        {list' : List ℕ} {b a : Reader} → y ≡ true → Takes false t r (bracket 40) b → Reads false t list b init_body list' a
        → Turns false t list₀ r₀ inits list' a inits
    inits_again f k p =
        turned t (init_body ∷ []) w (λ _. inits_more _ (not-true _ (on_yes (fault_of r) _ e f).1)) (λ σ. refl)
        (then (k.reads list w.ready) (lead p))

    pub inits_done : {a : Reader} → y ≡ false → Takes false t r (bracket 41) a → Reads false t list₀ r₀ inits list a
    inits_done f k =
        turn_close w
        (stands w.ready.stands (λ z. inits_close _ (not-false _ (on_no (fault_of r) _ e f z))) (lead (k.reads list w.ready)))

  -- actions
  module _ (w : Turns false t list₀ r₀ text_body list r text_body)
      (e : y ≡ (eqb (fault_of r) 0 && is_word durative_word (here false t (cursor_of r)))) where
    pub actions_again :
        {list' : List ℕ} {b a : Reader} → y ≡ true → Leads false t list r action_row list' b → Takes false t b (bracket 40) a
        → Turns false t list₀ r₀ text_body list' a text_body
    actions_again {list'} {b} f p k =
        let first = action_alike (here false t (cursor_of r)) (on_yes (fault_of r) _ e f).1 in
        let rest = alike false t list r text_body (keyword durative_word) (action_symbols depth_most) w.ready.stands (λ _. first) in
        let mid : Turns false t list₀ r₀ text_body list' b text = turn_more action_row w rest p in
        turned t [] mid (λ _. text_alike _) (λ σ. refl) (lead (k.reads list' mid.ready))

    pub text_done :
        {list' list'' : List ℕ} {s b g a : Reader} → Ready false t list₀ s → Takes false t s (bracket 40) r₀ → y ≡ false
        → Takes false t r (keyword init_word) b → Reads false t list b inits list' g → Ends false t list' g goal_row list'' a
        → Ends false t list₀ s (text ∷ []) list'' a
    text_done p k f i h z =
        ends_alike (text_body ∷ []) [] p.stands (λ _. text_alike _)
        (ends_then (k.reads list₀ p)
        (ends_turn [] w
        (ends_alike (init_symbols depth_most) [] w.ready.stands (λ v. init_alike _ (on_no (fault_of r) _ e f v))
        (ends_then (i.reads list w.ready) (ends_then h z)))))

  -- lines
  module _ (w : Turns true t list₀ r₀ lines list r lines)
      (e : y ≡ (eqb (fault_of r) 0 && not (is_stop (here true t (cursor_of r))))) where
    pub lines_done : y ≡ false → Ends true t list₀ r₀ (lines ∷ []) list r
    lines_done f =
        ends_turn [] w
        (elim (dec_lt 0 (fault_of r)) [
          | yes h ↦ ends_fault (lines ∷ []) w.ready (λ z. omega arith)
          | no h ↦
              let z : fault_of r ≡ 0 = omega arith in
              let s = not-false _ (on_no (fault_of r) _ e f z) in
              ends_stop lines w.ready z s (lines_goes _ s)
        ])

-- the end of a line
module _ {t list : List ℕ} {r : Reader} (p : Ready true t list r) where
  pub end_passes : (fault_of r ≡ 0 → ⊥) → Turns true t list r line_end list r lines
  end_passes f = record {
    ready = p;
    size = refl;
    onward = omega arith;
    same = λ σ. outcome_fault true t list r (line_end ∷ σ) f ∙ sym (outcome_fault true t list r (lines ∷ σ) f);
  }

  pub end_stops : is_stop (here true t (cursor_of r)) ≡ true → Turns true t list r line_end list r lines
  end_stops e = record {
    ready = p;
    size = refl;
    onward = omega arith;
    same = alike true t list r line_end lines [] p.stands (λ _. stop_alike _ e);
  }

  pub end_goes :
      {y : Bool} {a : Reader} → y ≡ is_stop (here true t (cursor_of r)) → y ≡ false → Takes true t r (bracket 10) a
      → Turns true t list r line_end list a lines
  end_goes e f k = turned t [] (turn_start line_end p) (λ _. end_alike _ e f) (λ σ. refl) (lead (k.reads list p))

  -- an empty line, and one that is not
  module _ {y : Bool} (e : y ≡ is_bracket 10 (here true t (cursor_of r))) where
    pub line_blank : {a : Reader} → y ≡ true → Reads true t list r (bracket 10) list a → Turns true t list r lines list a lines
    line_blank f k = turned t [] (turn_start lines p) (λ _. blank_alike _ e f) (λ σ. refl) (lead k)

    pub line_full :
        {list' : List ℕ} {b a : Reader} → y ≡ false → is_stop (here true t (cursor_of r)) ≡ false
        → Leads true t list r (time ∷ line_row) list' b → Turns true t list' b line_end list' a lines → Turns true t list r lines list' a lines
    line_full {list'} {b} f g q z =
        let mid : Turns true t list r lines list' b line_end = turned t line_row (turn_start lines p) (λ _. line_alike _ e f g) (λ σ. refl) q in
        turn_turn mid z

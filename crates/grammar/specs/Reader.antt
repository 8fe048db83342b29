-- What may stand next. A stack of expected symbols meets the tokens one by one, and one token decides.
use Rattle.std.specs.Prelude.{ℕ, zero, suc, Bool, true, false, cond, List, [], ◌∷◌, ◌++◌}
use Rattle.spelling.specs.Tokens.{Token, mark, word, stop, Placed}
use Rattle.spelling.specs.Keywords.{at_word, over_word, and_word, not_word, increase_word, decrease_word, start_word, end_word, all_word}
use Rattle.spelling.specs.Keywords.{durative_word, duration_word, equals_word, asked_word, condition_word, effect_word, init_word, goal_word}
use Rattle.spelling.specs.Names.{is_name}
use Rattle.spelling.specs.Numbers.{spelled, ticks, is_whole, is_time}
use Rattle.spelling.specs.Cursor.{is_bracket, is_such, is_word, is_stop}
use Rattle.grammar.specs.Said.{at_start, over_all, at_end, Point, start, end, Place, wanted, set, reached, given}
use Rattle.grammar.specs.Said.{Role, action, fact, rise, fall, stock, planned, Said, number, Item, on_line}
use Rattle.grammar.specs.Said as say
use Rattle.grammar.specs.Tree.{Kind, conditions, effects, goals}

pub data Symbol : Type 0 where
  -- one token
  bracket : ℕ → Symbol
  keyword : List ℕ → Symbol
  name : Role → Symbol
  time : Symbol
  amount : Symbol
  finish : Symbol
  -- the first text, and behind its first bracket
  text text_body : Symbol
  -- what init gives, up to its bracket; one item behind its bracket
  inits init_body : Symbol
  -- an item, in which so many (and ..) may stand inside one another; behind its bracket; items up to the bracket of their (and ..)
  item body items : Kind → ℕ → Symbol
  -- behind "at" of a condition and of an effect
  condition_point effect_point : Symbol
  -- a fact or (not ..); behind its bracket
  literal literal_body : Place → Symbol
  -- a fact, (not ..), (increase ..) or (decrease ..); behind its bracket
  change change_body : Point → Symbol
  -- the plan; the end of one of its lines
  lines line_end : Symbol

-- what a token does where a symbol is expected: it leaves others to come and may say something, or it cannot stand there
pub data Step : Type 0 where
  goes : List Symbol → List Said → Step
  fails : ℕ → Step

abbrev pub opening : Symbol
opening = bracket 40

abbrev pub closing : Symbol
closing = bracket 41

-- the bytes of a word
unfoldable pub bytes : Token → List ℕ
bytes (word w) = w
bytes (mark m) = []
bytes stop = []

-- the first test that passes decides; 18 where none does
abbrev pub either : Bool → List Symbol → Step → Step
either y next other = cond y (goes next []) other

abbrev pub only : Bool → List Symbol → Step
only y next = either y next (fails 18)

-- a name in a role, with what follows it
abbrev pub naming : Role → Token → List Symbol → Step
naming r t next = cond (is_such is_name t) (goes next (say.name r (bytes t) ∷ [])) (fails 18)

-- a time, with what follows it
abbrev pub timing : Token → List Symbol → Step
timing t next = cond (is_such is_time t) (goes next (number (ticks (bytes t)) ∷ [])) (fails 18)

-- a fact behind its bracket, or (not ..)
abbrev pub fact_step : Place → Token → Step
fact_step p t =
    either (is_word not_word t) (opening ∷ name (fact p false) ∷ closing ∷ closing ∷ []) (naming (fact p true) t (closing ∷ []))

-- a level and its amount, up to the bracket
abbrev pub level_symbols : Role → List Symbol
level_symbols r = opening ∷ name r ∷ closing ∷ amount ∷ closing ∷ []

-- a further (and ..): 19 where none may stand
unfoldable pub deeper : Kind → ℕ → Step
deeper k zero = fails 19
deeper k (suc n) = goes (items k n ∷ []) []

-- an item behind its bracket that is no (and ..)
unfoldable pub leaf_step : Kind → Token → Step
leaf_step conditions t =
    either (is_word at_word t) (condition_point ∷ [])
    (only (is_word over_word t) (keyword all_word ∷ literal (wanted over_all) ∷ closing ∷ []))
leaf_step effects t = only (is_word at_word t) (effect_point ∷ [])
leaf_step goals t = fact_step reached t

-- an action behind its first word, then the rest of the text; init behind its first word, then the goal
abbrev pub action_symbols : ℕ → List Symbol
action_symbols depth =
    name action ∷ keyword duration_word ∷ opening ∷ keyword equals_word ∷ keyword asked_word ∷ time ∷ closing
    ∷ keyword condition_word ∷ item conditions depth ∷ keyword effect_word ∷ item effects depth ∷ closing ∷ text ∷ []

abbrev pub init_symbols : ℕ → List Symbol
init_symbols depth = inits ∷ opening ∷ keyword goal_word ∷ item goals depth ∷ closing ∷ finish ∷ []

-- a plan line behind its start
abbrev pub line_symbols : List Symbol
line_symbols = bracket 58 ∷ opening ∷ name planned ∷ closing ∷ bracket 91 ∷ time ∷ bracket 93 ∷ line_end ∷ []

-- a text is read with what it says, or refused on a line with what it said before
pub data Outcome : Type 0 where
  read : List Item → Outcome
  refused : ℕ → ℕ → List Item → Outcome

unfoldable pub onward : Step → List Symbol → List Item → ℕ → (List Symbol → List Item → Outcome) → Outcome
onward (goes next new) σ is line k = k (next ++ σ) (is ++ on_line line new)
onward (fails n) σ is line k = refused n line is

module _ (depth : ℕ) where
  unfoldable pub step : Symbol → Token → Step
  step (bracket b) t = only (is_bracket b t) []
  step (keyword w) t = only (is_word w t) []
  step (name r) t = naming r t []
  step time t = timing t []
  step amount t = cond (is_such is_whole t) (goes [] (number (spelled (bytes t)) ∷ [])) (fails 18)
  step finish t = only (is_stop t) []
  step text t = only (is_bracket 40 t) (text_body ∷ [])
  step text_body t = either (is_word durative_word t) (action_symbols depth) (only (is_word init_word t) (init_symbols depth))
  step inits t = either (is_bracket 41 t) [] (only (is_bracket 40 t) (init_body ∷ inits ∷ []))
  step init_body t = either (is_word equals_word t) (level_symbols stock) (naming (fact given true) t (closing ∷ []))
  step (item k n) t = only (is_bracket 40 t) (body k n ∷ [])
  step (items k n) t = either (is_bracket 41 t) [] (only (is_bracket 40 t) (body k n ∷ items k n ∷ []))
  step (body k n) t = cond (is_word and_word t) (deeper k n) (leaf_step k t)
  step condition_point t =
      either (is_word start_word t) (literal (wanted at_start) ∷ closing ∷ [])
      (only (is_word end_word t) (literal (wanted at_end) ∷ closing ∷ []))
  step effect_point t =
      either (is_word start_word t) (change start ∷ closing ∷ []) (only (is_word end_word t) (change end ∷ closing ∷ []))
  step (literal p) t = only (is_bracket 40 t) (literal_body p ∷ [])
  step (literal_body p) t = fact_step p t
  step (change q) t = only (is_bracket 40 t) (change_body q ∷ [])
  step (change_body q) t =
      either (is_word increase_word t) (level_symbols (rise q))
      (either (is_word decrease_word t) (level_symbols (fall q)) (fact_step (set q) t))
  step lines t = either (is_bracket 10 t) (lines ∷ []) (either (is_stop t) [] (timing t line_symbols))
  step line_end t = either (is_bracket 10 t) (lines ∷ []) (only (is_stop t) [])

  -- the outcome where these symbols are expected, these items have been said and these tokens follow
  unfoldable pub run : List Symbol → List Item → List Placed → Outcome
  run [] is [] = read is
  run (s ∷ σ) is [] = refused 18 0 is
  run [] is (p ∷ ps) = refused 18 p.line is
  run (s ∷ σ) is (p ∷ ps) = onward (step s p.token) σ is p.line (λ σ' is'. run σ' is' ps)

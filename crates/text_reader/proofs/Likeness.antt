-- Where one symbol stands for others: what the token at the reader decides, symbol by symbol.
use Prim.Native.Nat.{ℕ}
use mathlib.Core.Path.{◌≡◌, refl, sym, ◌∙◌}
use mathlib.Core.Bool.{Bool, true, false}
use mathlib.Core.List.{[], ◌∷◌}
use native.Mathlib.Omega.{arith}
use Rattle.spelling.specs.Tokens.{Token, mark, word, stop}
use Rattle.spelling.specs.Keywords.{durative_word, equals_word, init_word}
use Rattle.spelling.specs.Names.{is_name}
use Rattle.spelling.specs.Numbers.{is_time}
use Rattle.spelling.specs.Cursor.{is_bracket, is_such, is_word, is_stop}
use Rattle.grammar.specs.Said.{given, fact, stock}
use Rattle.grammar.specs.Allowed.{depth_most}
use Rattle.grammar.specs.Reader.{bracket, keyword, name, time, text, text_body, inits, init_body}
use Rattle.grammar.specs.Reader.{lines, line_end, finish, closing}
use Rattle.grammar.specs.Reader.{goes, fails, step, onward, level_symbols, action_symbols, init_symbols, line_symbols}
use Rattle.token_reader.proofs.Compose.{Alike, kept}

module _ (t : Token) where
  pub text_alike : Alike t text (bracket 40) (text_body ∷ [])
  unfolding step
  text_alike σ is l k = kept (is_bracket 40 t) _ _ σ is l k

  pub inits_more : is_bracket 41 t ≡ false → Alike t inits (bracket 40) (init_body ∷ inits ∷ [])
  unfolding step
  inits_more e σ is l k = rw e (kept (is_bracket 40 t) _ _ σ is l k)

  pub inits_close : is_bracket 41 t ≡ true → Alike t inits (bracket 41) []
  unfolding step onward
  inits_close e σ is l k = rw e refl

  module _ {y : Bool} (e : y ≡ is_word equals_word t) where
    pub stock_alike : y ≡ true → Alike t init_body (keyword equals_word) (level_symbols stock)
    unfolding step onward
    stock_alike f σ is l k = rw (sym e ∙ f) refl

    pub given_alike : y ≡ false → Alike t init_body (name (fact given true)) (closing ∷ [])
    unfolding step
    given_alike f σ is l k = rw (sym e ∙ f) (kept (is_such is_name t) _ _ σ is l k)

  pub action_alike : is_word durative_word t ≡ true → Alike t text_body (keyword durative_word) (action_symbols depth_most)
  unfolding step onward
  action_alike e σ is l k = rw e refl

  pub init_alike : is_word durative_word t ≡ false → Alike t text_body (keyword init_word) (init_symbols depth_most)
  unfolding step
  init_alike e σ is l k = rw e (kept (is_word init_word t) _ _ σ is l k)

  pub blank_alike : {y : Bool} → y ≡ is_bracket 10 t → y ≡ true → Alike t lines (bracket 10) (lines ∷ [])
  unfolding step onward
  blank_alike e f σ is l k = rw (sym e ∙ f) refl

  pub line_alike : {y : Bool} → y ≡ is_bracket 10 t → y ≡ false → is_stop t ≡ false → Alike t lines time line_symbols
  unfolding step
  line_alike e f g σ is l k = rw (sym e ∙ f, g) (kept (is_such is_time t) _ _ σ is l k)

  pub end_alike : {y : Bool} → y ≡ is_stop t → y ≡ false → Alike t line_end (bracket 10) (lines ∷ [])
  unfolding step
  end_alike e f σ is l k = rw (sym e ∙ f) (kept (is_bracket 10 t) _ _ σ is l k)

  pub finish_goes : is_stop t ≡ true → step depth_most finish t ≡ goes [] []
  unfolding step
  finish_goes e = rw e

  pub finish_fails : is_stop t ≡ false → step depth_most finish t ≡ fails 18
  unfolding step
  finish_fails e = rw e

-- at the text's end a line's end is as good as more lines
pub stop_alike : (t : Token) → is_stop t ≡ true → Alike t line_end lines []
unfolding step is_stop is_bracket
stop_alike stop e σ is l k = refl
stop_alike (mark m) e σ is l k = absurd (let z : ◌≡◌ {A = ℕ} 0 1 = cc in omega arith)
stop_alike (word w) e σ is l k = absurd (let z : ◌≡◌ {A = ℕ} 0 1 = cc in omega arith)

pub lines_goes : (t : Token) → is_stop t ≡ true → step depth_most lines t ≡ goes [] []
unfolding step is_stop is_bracket
lines_goes stop e = refl
lines_goes (mark m) e = absurd (let z : ◌≡◌ {A = ℕ} 0 1 = cc in omega arith)
lines_goes (word w) e = absurd (let z : ◌≡◌ {A = ℕ} 0 1 = cc in omega arith)

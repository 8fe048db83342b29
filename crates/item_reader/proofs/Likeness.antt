-- Where one symbol stands for others: what the token at the reader decides, symbol by symbol.
use Prim.Native.Nat.{ℕ, suc}
use mathlib.Core.Path.{◌≡◌, refl, sym, ◌∙◌}
use mathlib.Core.Bool.{Bool, true, false, cond}
use mathlib.Core.List.{List, [], ◌∷◌}
use Rattle.spelling.specs.Tokens.{Token}
use Rattle.spelling.specs.Keywords.{at_word, over_word, and_word, not_word, increase_word, decrease_word, start_word, end_word, all_word}
use Rattle.spelling.specs.Names.{is_name}
use Rattle.spelling.specs.Cursor.{is_bracket, is_such, is_word}
use Rattle.grammar.specs.Said.{at_start, over_all, at_end, Point, start, end, Place, wanted, set, reached, fact, rise, fall, Item}
use Rattle.grammar.specs.Tree.{Kind, conditions, effects, goals}
use Rattle.grammar.specs.Allowed.{depth_most}
use Rattle.grammar.specs.Reader.{Symbol, bracket, keyword, name, item, body, items, Outcome}
use Rattle.grammar.specs.Reader.{condition_point, effect_point, literal, literal_body, change, change_body, closing, opening}
use Rattle.grammar.specs.Reader.{goes, fails, step, onward, deeper, leaf_step, level_symbols}
use Rattle.token_reader.proofs.Compose.{Alike, kept}

-- a bracket, with and without the rest of the list behind the item
kept_item :
    (y : Bool) (q : Kind) (n : ℕ) (σ : List Symbol) (is : List Item) (l : ℕ) (k : List Symbol → List Item → Outcome)
    → onward (cond y (goes (body q n ∷ items q n ∷ []) []) (fails 18)) σ is l k
    ≡ onward (cond y (goes (body q n ∷ []) []) (fails 18)) (items q n ∷ σ) is l k
unfolding onward
kept_item true q n σ is l k = refl
kept_item false q n σ is l k = refl

module _ (t : Token) where
  pub literal_alike : (p : Place) → Alike t (literal p) (bracket 40) (literal_body p ∷ [])
  unfolding step
  literal_alike p σ is l k = kept (is_bracket 40 t) _ _ σ is l k

  pub change_alike : (q : Point) → Alike t (change q) (bracket 40) (change_body q ∷ [])
  unfolding step
  change_alike q σ is l k = kept (is_bracket 40 t) _ _ σ is l k

  pub item_alike : (q : Kind) (n : ℕ) → Alike t (item q n) (bracket 40) (body q n ∷ [])
  unfolding step
  item_alike q n σ is l k = kept (is_bracket 40 t) _ _ σ is l k

  module _ {y : Bool} (e : y ≡ is_word not_word t) where
    pub not_alike : (p : Place) → y ≡ true → Alike t (literal_body p) (keyword not_word) (opening ∷ name (fact p false) ∷ closing ∷ closing ∷ [])
    unfolding step onward
    not_alike p f σ is l k = rw (sym e ∙ f) refl

    pub plain_alike : (p : Place) → y ≡ false → Alike t (literal_body p) (name (fact p true)) (closing ∷ [])
    unfolding step
    plain_alike p f σ is l k = rw (sym e ∙ f) (kept (is_such is_name t) _ _ σ is l k)

  module _ (q : Point) {y : Bool} (e : y ≡ is_word increase_word t) where
    pub increase_alike : y ≡ true → Alike t (change_body q) (keyword increase_word) (level_symbols (rise q))
    unfolding step onward
    increase_alike f σ is l k = rw (sym e ∙ f) refl

    pub decrease_alike :
        y ≡ false → {z : Bool} → z ≡ is_word decrease_word t → z ≡ true → Alike t (change_body q) (keyword decrease_word) (level_symbols (fall q))
    unfolding step onward
    decrease_alike f g h σ is l k = rw (sym e ∙ f, sym g ∙ h) refl

    pub set_alike : y ≡ false → {z : Bool} → z ≡ is_word decrease_word t → z ≡ false → Alike t (change_body q) (literal_body (set q)) []
    unfolding step
    set_alike f g h σ is l k = rw (sym e ∙ f, sym g ∙ h) refl

  module _ {y : Bool} (e : y ≡ is_word start_word t) where
    pub wanted_start : y ≡ true → Alike t condition_point (keyword start_word) (literal (wanted at_start) ∷ closing ∷ [])
    unfolding step onward
    wanted_start f σ is l k = rw (sym e ∙ f) refl

    pub wanted_end : y ≡ false → Alike t condition_point (keyword end_word) (literal (wanted at_end) ∷ closing ∷ [])
    unfolding step
    wanted_end f σ is l k = rw (sym e ∙ f) (kept (is_word end_word t) _ _ σ is l k)

    pub change_start : y ≡ true → Alike t effect_point (keyword start_word) (change start ∷ closing ∷ [])
    unfolding step onward
    change_start f σ is l k = rw (sym e ∙ f) refl

    pub change_end : y ≡ false → Alike t effect_point (keyword end_word) (change end ∷ closing ∷ [])
    unfolding step
    change_end f σ is l k = rw (sym e ∙ f) (kept (is_word end_word t) _ _ σ is l k)

  -- an item that is no (and ..)
  module _ (n : ℕ) (e : is_word and_word t ≡ false) where
    pub at_alike : {y : Bool} → y ≡ is_word at_word t → y ≡ true → Alike t (body conditions n) (keyword at_word) (condition_point ∷ [])
    unfolding step leaf_step onward
    at_alike g h σ is l k = rw (e, sym g ∙ h) refl

    pub over_alike :
        {y : Bool} → y ≡ is_word at_word t → y ≡ false
        → Alike t (body conditions n) (keyword over_word) (keyword all_word ∷ literal (wanted over_all) ∷ closing ∷ [])
    unfolding step leaf_step
    over_alike g h σ is l k = rw (e, sym g ∙ h) (kept (is_word over_word t) _ _ σ is l k)

    pub effect_alike : Alike t (body effects n) (keyword at_word) (effect_point ∷ [])
    unfolding step leaf_step
    effect_alike σ is l k = rw e (kept (is_word at_word t) _ _ σ is l k)

    pub goal_alike : Alike t (body goals n) (literal_body reached) []
    unfolding step leaf_step
    goal_alike σ is l k = rw e refl

  -- an (and ..)
  pub and_alike :
      (q : Kind) (n m : ℕ) {y : Bool} → y ≡ is_word and_word t → y ≡ true → n ≡ suc m
      → Alike t (body q n) (keyword and_word) (items q m ∷ [])
  unfolding step deeper onward
  and_alike q n m e f g σ is l k = rw (sym e ∙ f, g) refl

  pub and_deep : (q : Kind) → is_word and_word t ≡ true → step depth_most (body q 0) t ≡ fails 19
  unfolding step deeper
  and_deep q e = rw e

  pub items_more : (q : Kind) (n : ℕ) → is_bracket 41 t ≡ false → Alike t (items q n) (item q n) (items q n ∷ [])
  unfolding step
  items_more q n e σ is l k = rw e (kept_item (is_bracket 40 t) q n σ is l k)

  pub items_close : (q : Kind) (n : ℕ) → is_bracket 41 t ≡ true → Alike t (items q n) (bracket 41) []
  unfolding step onward
  items_close q n e σ is l k = rw e refl

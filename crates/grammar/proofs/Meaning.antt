-- What each symbol of the reader stands for: a part of a tree that is allowed, how that is written and what it says.
use Prim.Native.Nat.{ℕ}
use mathlib.Core.Path.{◌≡◌, refl, sym, ap, ◌∙◌}
use mathlib.Core.List.{List, [], ◌∷◌, ◌++◌, append_assoc}
use Rattle.spelling.specs.Tokens.{Token, mark, word, stop}
use Rattle.spelling.specs.Numbers.{spelled, ticks}
use Rattle.grammar.specs.Said.{Point, when_of, wanted, Said, number}
use Rattle.grammar.specs.Said as say
use Rattle.grammar.specs.Tree.{Word, Literal, Change, Tree, Trees, Init, Text, Plan}
use Rattle.grammar.specs.Written.{point_word, literal_tokens, change_tokens, tree_tokens, trees_tokens, init_tokens, inits_tokens}
use Rattle.grammar.specs.Written.{text_tokens, plan_tokens}
use Rattle.grammar.specs.Saying.{literal_says, change_says, tree_says, trees_say, init_says, inits_say, text_says, plan_says}
use Rattle.grammar.specs.Allowed.{IsName, IsWhole, IsTime, LiteralOk, ChangeOk, TreeOk, TreesOk, InitOk, InitsOk, TextOk, PlanOk}
use Rattle.grammar.specs.Reader.{Symbol, bracket, keyword, name, time, amount, finish, text, text_body, inits, init_body}
use Rattle.grammar.specs.Reader.{item, body, items, condition_point, effect_point, literal, literal_body, change, change_body}
use Rattle.grammar.specs.Reader.{lines, line_end}

-- behind the opening bracket
abbrev pub tail : List Token → List Token
tail [] = []
tail (t ∷ ts) = ts

-- what may follow a plan line
pub data After : Type 0 where
  ended : After
  followed : Plan → After

abbrev pub AfterOk : After → Type 0
AfterOk ended = Unit
AfterOk (followed p) = PlanOk p

abbrev pub after_tokens : After → List Token
after_tokens ended = stop ∷ []
after_tokens (followed p) = mark 10 ∷ plan_tokens p

abbrev pub after_says : After → List Said
after_says ended = []
after_says (followed p) = plan_says p

-- parts in a row
infixr 20 ◌▸◌
abbrev pub ◌▸◌ : {A B : Type 0} → A → B → A × B
a ▸ b = (a, b)

module _ (d : ℕ) where
  abbrev pub Val : Symbol → Type 0
  Val (bracket b) = Unit
  Val (keyword w) = Unit
  Val (name r) = (n : Word) × IsName n
  Val time = (w : Word) × IsTime w
  Val amount = (w : Word) × IsWhole w
  Val finish = Unit
  Val text = (t : Text) × TextOk d t
  Val text_body = (t : Text) × TextOk d t
  Val inits = (is : List Init) × InitsOk is
  Val init_body = (i : Init) × InitOk i
  Val (item k n) = (t : Tree k) × TreeOk n k t
  Val (body k n) = (t : Tree k) × TreeOk n k t
  Val (items k n) = (ts : Trees k) × TreesOk n k ts
  Val condition_point = (q : Point) × (l : Literal) × LiteralOk l
  Val effect_point = (q : Point) × (c : Change) × ChangeOk c
  Val (literal p) = (l : Literal) × LiteralOk l
  Val (literal_body p) = (l : Literal) × LiteralOk l
  Val (change q) = (c : Change) × ChangeOk c
  Val (change_body q) = (c : Change) × ChangeOk c
  Val lines = (p : Plan) × PlanOk p
  Val line_end = (a : After) × AfterOk a

  abbrev pub print : (s : Symbol) → Val s → List Token
  print (bracket b) v = mark b ∷ []
  print (keyword w) v = word w ∷ []
  print (name r) v = word v.0 ∷ []
  print time v = word v.0 ∷ []
  print amount v = word v.0 ∷ []
  print finish v = stop ∷ []
  print text v = text_tokens v.0
  print text_body v = tail (text_tokens v.0)
  print inits v = inits_tokens v.0 ++ (mark 41 ∷ [])
  print init_body v = tail (init_tokens v.0)
  print (item k n) v = tree_tokens k v.0
  print (body k n) v = tail (tree_tokens k v.0)
  print (items k n) v = trees_tokens k v.0 ++ (mark 41 ∷ [])
  print condition_point v = point_word v.0 ∷ literal_tokens v.1 ++ (mark 41 ∷ [])
  print effect_point v = point_word v.0 ∷ change_tokens v.1 ++ (mark 41 ∷ [])
  print (literal p) v = literal_tokens v.0
  print (literal_body p) v = tail (literal_tokens v.0)
  print (change q) v = change_tokens v.0
  print (change_body q) v = tail (change_tokens v.0)
  print lines v = plan_tokens v.0
  print line_end v = after_tokens v.0

  abbrev pub tell : (s : Symbol) → Val s → List Said
  tell (bracket b) v = []
  tell (keyword w) v = []
  tell (name r) v = say.name r v.0 ∷ []
  tell time v = number (ticks v.0) ∷ []
  tell amount v = number (spelled v.0) ∷ []
  tell finish v = []
  tell text v = text_says v.0
  tell text_body v = text_says v.0
  tell inits v = inits_say v.0
  tell init_body v = init_says v.0
  tell (item k n) v = tree_says k v.0
  tell (body k n) v = tree_says k v.0
  tell (items k n) v = trees_say k v.0
  tell condition_point v = literal_says (wanted (when_of v.0)) v.1
  tell effect_point v = change_says v.0 v.1
  tell (literal p) v = literal_says p v.0
  tell (literal_body p) v = literal_says p v.0
  tell (change q) v = change_says q v.0
  tell (change_body q) v = change_says q v.0
  tell lines v = plan_says v.0
  tell line_end v = after_says v.0

  -- the same for symbols in a row
  abbrev pub Vals : List Symbol → Type 0
  Vals [] = Unit
  Vals (s ∷ σ) = Val s × Vals σ

  abbrev pub prints : (σ : List Symbol) → Vals σ → List Token
  prints [] vs = []
  prints (s ∷ σ) vs = print s vs.0 ++ prints σ vs.1

  abbrev pub tells : (σ : List Symbol) → Vals σ → List Said
  tells [] vs = []
  tells (s ∷ σ) vs = tell s vs.0 ++ tells σ vs.1

  abbrev pub join : (σ τ : List Symbol) → Vals σ → Vals τ → Vals (σ ++ τ)
  join [] τ a b = b
  join (s ∷ σ) τ a b = (a.0, join σ τ a.1 b)

  pub prints_join : (σ τ : List Symbol) (a : Vals σ) (b : Vals τ) → prints (σ ++ τ) (join σ τ a b) ≡ prints σ a ++ prints τ b
  prints_join [] τ a b = refl
  prints_join (s ∷ σ) τ a b =
      ap (λ ts. print s a.0 ++ ts) (prints_join σ τ a.1 b) ∙ sym (append_assoc (print s a.0) (prints σ a.1) (prints τ b))

  pub tells_join : (σ τ : List Symbol) (a : Vals σ) (b : Vals τ) → tells (σ ++ τ) (join σ τ a b) ≡ tells σ a ++ tells τ b
  tells_join [] τ a b = refl
  tells_join (s ∷ σ) τ a b =
      ap (λ ts. tell s a.0 ++ ts) (tells_join σ τ a.1 b) ∙ sym (append_assoc (tell s a.0) (tells σ a.1) (tells τ b))

  -- and apart again
  pub record Parted (σ τ : List Symbol) (vs : Vals (σ ++ τ)) : Type 0 where
    pub first : Vals σ
    pub second : Vals τ
    pub tokens : prints (σ ++ τ) vs ≡ prints σ first ++ prints τ second
    pub said : tells (σ ++ τ) vs ≡ tells σ first ++ tells τ second

  pub parted : (σ τ : List Symbol) (vs : Vals (σ ++ τ)) → Parted σ τ vs
  parted [] τ vs = record { first = tt; second = vs; tokens = refl; said = refl }
  parted (s ∷ σ) τ vs =
      let p = parted σ τ vs.1 in
      record {
        first = (vs.0, p.first);
        second = p.second;
        tokens = ap (λ ts. print s vs.0 ++ ts) p.tokens ∙ sym (append_assoc (print s vs.0) _ _);
        said = ap (λ ts. tell s vs.0 ++ ts) p.said ∙ sym (append_assoc (tell s vs.0) _ _);
      }

  -- a token and what it leaves to come make up what a symbol stands for
  pub record Made (s : Symbol) (t : Token) (next : List Symbol) (new : List Said) (vs : Vals next) (v : Val s) : Type 0 where
    pub tokens : t ∷ prints next vs ≡ print s v
    pub said : new ++ tells next vs ≡ tell s v

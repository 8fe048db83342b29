-- The place of a fault: "the first word, bracket or line end that cannot stand there, or the text's end".
use Rattle.std.specs.Prelude.{ℕ, suc, ◌≤◌, ◌≡◌, true, false, List, [], ◌∷◌, ◌++◌, ◌⊎◌, length}
use Rattle.spelling.specs.Tokens.{Token, text_most, Placed, bare, tokens}
use Rattle.grammar.specs.Said.{Item}
use Rattle.grammar.specs.Tree.{Text, Plan}
use Rattle.grammar.specs.Written.{text_tokens, plan_tokens}
use Rattle.grammar.specs.Allowed.{depth_most, TextOk, PlanOk}
use Rattle.grammar.specs.Reader.{refused}
use Rattle.grammar.specs.Reading.{action_reading, plan_reading}

-- some text that the grammar generates, with (and ..) to a depth, begins so; a plan knows none
abbrev pub TextBegins : ℕ → List Token → Type 0
TextBegins depth ts = (us : List Token) × (t : Text) × TextOk depth t × (ts ++ us ≡ text_tokens t)

abbrev pub PlanBegins : ℕ → List Token → Type 0
PlanBegins depth ts = (us : List Token) × (p : Plan) × PlanOk p × (ts ++ us ≡ plan_tokens p)

-- what was passed begins some text, with one token more it begins none; the line is that token's
pub record FirstFault (begins : ℕ → List Token → Type 0) (ps : List Placed) (number line : ℕ) : Type 0 where
  pub before : List Placed
  pub at : Placed
  pub after : List Placed
  pub whole : ps ≡ before ++ at ∷ after
  pub there : line ≡ at.line
  pub stood : begins depth_most (bare before)
  pub cannot : begins depth_most (bare before ++ (at.token ∷ [])) → ⊥
  -- 19 where it could stand if one more (and ..) were allowed, 18 where it could stand at no greater depth
  pub which : (number ≡ 18) ⊎ (number ≡ 19)
  pub deeper : number ≡ 19 → begins (suc depth_most) (bare before ++ (at.token ∷ []))
  pub never : number ≡ 18 → (depth : ℕ) → depth_most ≤ depth → begins depth (bare before ++ (at.token ∷ [])) → ⊥

pub record Places (s : List ℕ) : Type 0 where
  pub action :
      length s ≤ text_most → (number line : ℕ) (is : List Item) → action_reading s ≡ refused number line is →
      FirstFault TextBegins (tokens false 0 s) number line
  pub plan :
      length s ≤ text_most → (number line : ℕ) (is : List Item) → plan_reading s ≡ refused number line is →
      FirstFault PlanBegins (tokens true 0 s) number line

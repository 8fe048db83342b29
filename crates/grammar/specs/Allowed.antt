-- Which trees are allowed: names are names, numbers are numbers, and no (and ..) is deeper than so many, "the outermost
-- being 1".
use Rattle.std.specs.Prelude.{ℕ, zero, suc, ◌≡◌, true, List, [], ◌∷◌}
use Rattle.spelling.specs.Names.{is_name}
use Rattle.spelling.specs.Numbers.{is_whole, is_time}
use Rattle.grammar.specs.Tree.{Word, Literal, plain, negated, Change, sets, increases, decreases, Kind, conditions, effects, goals}
use Rattle.grammar.specs.Tree.{Leaf, Tree, one, both, Trees, none, more, Action, Init, holds, level, Text}
use Rattle.grammar.specs.Tree.{Line, Plan, nothing, last, blank, then}

-- "to a depth of 16"
abbrev pub depth_most : ℕ
depth_most = 16

abbrev pub IsName : Word → Type 0
IsName n = is_name n ≡ true

abbrev pub IsWhole : Word → Type 0
IsWhole w = is_whole w ≡ true

abbrev pub IsTime : Word → Type 0
IsTime w = is_time w ≡ true

abbrev pub LiteralOk : Literal → Type 0
LiteralOk (plain n) = IsName n
LiteralOk (negated n) = IsName n

abbrev pub ChangeOk : Change → Type 0
ChangeOk (sets l) = LiteralOk l
ChangeOk (increases n w) = IsName n × IsWhole w
ChangeOk (decreases n w) = IsName n × IsWhole w

abbrev pub LeafOk : (k : Kind) → Leaf k → Type 0
LeafOk conditions c = LiteralOk c.what
LeafOk effects e = ChangeOk e.what
LeafOk goals l = LiteralOk l

-- an (and ..) takes one of the depth, and may not stand where none is left
abbrev pub OneLess : ℕ → (ℕ → Type 0) → Type 0
OneLess zero inside = ⊥
OneLess (suc m) inside = inside m

abbrev mutual
  pub TreeOk : ℕ → (k : Kind) → Tree k → Type 0
  TreeOk n k (one a) = LeafOk k a
  TreeOk n k (both bs) = OneLess n (λ m. TreesOk m k bs)

  pub TreesOk : ℕ → (k : Kind) → Trees k → Type 0
  TreesOk n k none = Unit
  TreesOk n k (more a bs) = TreeOk n k a × TreesOk n k bs

pub record ActionOk (n : ℕ) (a : Action) : Type 0 where
  pub named : IsName a.name
  pub timed : IsTime a.duration
  pub condition : TreeOk n conditions a.condition
  pub effect : TreeOk n effects a.effect

abbrev pub ActionsOk : ℕ → List Action → Type 0
ActionsOk n [] = Unit
ActionsOk n (a ∷ bs) = ActionOk n a × ActionsOk n bs

abbrev pub InitOk : Init → Type 0
InitOk (holds n) = IsName n
InitOk (level n w) = IsName n × IsWhole w

abbrev pub InitsOk : List Init → Type 0
InitsOk [] = Unit
InitsOk (i ∷ is) = InitOk i × InitsOk is

pub record TextOk (n : ℕ) (t : Text) : Type 0 where
  pub actions : ActionsOk n t.actions
  pub init : InitsOk t.init
  pub goal : TreeOk n goals t.goal

pub record LineOk (l : Line) : Type 0 where
  pub start : IsTime l.start
  pub named : IsName l.name
  pub timed : IsTime l.duration

abbrev pub PlanOk : Plan → Type 0
PlanOk nothing = Unit
PlanOk (last l) = LineOk l
PlanOk (blank p) = PlanOk p
PlanOk (then l p) = LineOk l × PlanOk p

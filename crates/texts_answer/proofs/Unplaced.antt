-- The job of two texts does not depend on the lines on which things are said.
use Prim.Native.Nat.{ℕ, suc}
use mathlib.Core.Path.{◌≡◌, refl, sym, ap, ap₂, subst, ◌∙◌}
use mathlib.Core.Bool.{Bool, true, false, cond}
use mathlib.Core.List.{List, [], ◌∷◌, ◌++◌, map}
use Rattle.grammar.specs.Said.{Item, on_line, said_of}
use Rattle.grammar.specs.Tree.{Word}
use Rattle.supplied.specs.Names.{Kind, facts, levels, with_said, appearing, names_of}
use Rattle.supplied.specs.Plan.{Line, lines_of, is_action, has_action, behind, leading, differs}
use Rattle.supplied.specs.Records.{in_action, body, conditions_in, effects_in, uses_in, by_step, goals_in}
use Rattle.supplied.specs.Job.{initially, amount_of, level_from, step_of, lists_fact, lists_level, tables_of, model_in, supplied_job}
use Rattle.texts_answer.specs.Promise.{Matching}

-- what is said, on line 0
abbrev bare : List Item → List Item
bare is = on_line 0 (said_of is)

appearing_bare : (k : Kind) (vs : List Word) (is : List Item) → appearing k vs (bare is) ≡ appearing k vs is
unfolding on_line said_of appearing
appearing_bare k vs [] = refl
appearing_bare k vs (i ∷ is) = appearing_bare k (with_said k vs i.said) is

leading_bare : (is : List Item) → leading (bare is) ≡ leading is
unfolding on_line said_of leading
leading_bare [] = refl
leading_bare (i ∷ is) = refl

initially_bare : (v : Word) (is : List Item) → initially (bare is) v ≡ initially is v
unfolding on_line said_of initially
initially_bare v [] = refl
initially_bare v (i ∷ is) = ap (cond (lists_fact v i.said) 1) (initially_bare v is)

amount_bare : (v : Word) (is : List Item) → amount_of (bare is) v ≡ amount_of is v
unfolding on_line said_of amount_of
amount_bare v [] = refl
amount_bare v (i ∷ is) = ap₂ (cond (lists_level v i.said)) (leading_bare is) (amount_bare v is)

goals_bare : (words : List Word) (is : List Item) → goals_in words (bare is) ≡ goals_in words is
unfolding on_line said_of goals_in
goals_bare words [] = refl
goals_bare words (i ∷ is) = rw (goals_bare words is)

module _ (words : List Word) (step length : ℕ) where
  conditions_bare : (is : List Item) → conditions_in words step length (bare is) ≡ conditions_in words step length is
  unfolding on_line said_of conditions_in
  conditions_bare [] = refl
  conditions_bare (i ∷ is) = rw (conditions_bare is)

  effects_bare : (is : List Item) → effects_in words step length (bare is) ≡ effects_in words step length is
  unfolding on_line said_of effects_in
  effects_bare [] = refl
  effects_bare (i ∷ is) = rw (effects_bare is)

  uses_bare : (is : List Item) → uses_in words step length (bare is) ≡ uses_in words step length is
  unfolding on_line said_of uses_in
  uses_bare [] = refl
  uses_bare (i ∷ is) = rw (uses_bare is, leading_bare is)

-- an action's own part, found by its name
on_branch : {A B : Type 0} (f : A → B) (b : Bool) (x y : A) → f (cond b x y) ≡ cond b (f x) (f y)
on_branch f true x y = refl
on_branch f false x y = refl

body_bare : (is : List Item) → body (bare is) ≡ bare (body is)
unfolding on_line said_of body
body_bare [] = refl
body_bare (i ∷ is) = rw (on_branch bare (in_action i.said) (i ∷ body is) [], body_bare is)

behind_bare : (v : Word) (is : List Item) → behind v (bare is) ≡ bare (behind v is)
unfolding on_line said_of behind
behind_bare v [] = refl
behind_bare v (i ∷ is) = rw (on_branch bare (is_action v i.said) is (behind v is), behind_bare v is)

-- a line, on line 0
unplaced : Line → Line
unplaced l = record { start = l.start; action = l.action; duration = l.duration; line = 0 }

lines_bare : (plan : List Item) → lines_of (bare plan) ≡ map unplaced (lines_of plan)
unfolding on_line said_of lines_of unplaced
lines_bare [] = refl
lines_bare (a ∷ []) = refl
lines_bare (a ∷ b ∷ []) = refl
lines_bare (a ∷ b ∷ c ∷ plan) = rw (lines_bare plan)

steps_bare : (ls : List Line) → map step_of (map unplaced ls) ≡ map step_of ls
unfolding unplaced
steps_bare [] = refl
steps_bare (l ∷ ls) = rw (steps_bare ls)

by_step_bare :
    {A : Type 0} (f : ℕ → ℕ → List Item → List A) → ((s d : ℕ) (is : List Item) → f s d (bare is) ≡ f s d is)
    → (is : List Item) (s : ℕ) (ls : List Line) → by_step f (bare is) s (map unplaced ls) ≡ by_step f is s ls
unfolding by_step unplaced
by_step_bare f same is s [] = refl
by_step_bare f same is s (l ∷ ls) =
    ap₂ ◌++◌
    (ap (λ x. f s l.duration (body x)) (behind_bare l.action is)
    ∙ ap (f s l.duration) (body_bare (behind l.action is))
    ∙ same s l.duration (body (behind l.action is)))
    (by_step_bare f same is (suc s) ls)

map_same : {A B : Type 0} (f g : A → B) → ((a : A) → f a ≡ g a) → (l : List A) → map f l ≡ map g l
map_same f g e [] = refl
map_same f g e (a ∷ l) = rw (e a, map_same f g e l)

module _ (is plan : List Item) where
  names_bare : (k : Kind) → names_of k (bare is) ≡ names_of k is
  names_bare k = appearing_bare k [] is

  tables_bare : tables_of (bare is) (lines_of (bare plan)) ≡ tables_of is (lines_of plan)
  unfolding tables_of
  tables_bare =
      let fs = names_of facts is in
      let vs = names_of levels is in
      cc (
        names_bare facts,
        names_bare levels,
        lines_bare plan,
        steps_bare (lines_of plan),
        map_same (initially (bare is)) (initially is) (λ v. initially_bare v is) fs,
        map_same (λ v. level_from (amount_of (bare is) v)) (λ v. level_from (amount_of is v)) (λ v. ap level_from (amount_bare v is)) vs,
        by_step_bare (conditions_in fs) (conditions_bare fs) is 0 (lines_of plan),
        by_step_bare (effects_in fs) (effects_bare fs) is 0 (lines_of plan),
        by_step_bare (uses_in vs) (uses_bare vs) is 0 (lines_of plan),
        goals_bare fs is,
      )

  pub job_bare : supplied_job (on_line 0 (said_of is)) (on_line 0 (said_of plan)) ≡ supplied_job is plan
  job_bare = ap model_in tables_bare

has_bare : (v : Word) (is : List Item) → has_action v (bare is) ≡ has_action v is
unfolding on_line said_of has_action
has_bare v [] = refl
has_bare v (i ∷ is) = rw (has_bare v is)

differs_bare : (is : List Item) (l : Line) → differs (bare is) (unplaced l) ≡ differs is l
unfolding differs unplaced
differs_bare is l = rw (has_bare l.action is, behind_bare l.action is, leading_bare (behind l.action is))

matching_bare : (is : List Item) (ls : List Line) → Matching is ls → Matching (bare is) (map unplaced ls)
matching_bare is [] h = tt
matching_bare is (l ∷ ls) h = (differs_bare is l ∙ h.0, matching_bare is ls h.1)

matching_placed : (is : List Item) (ls : List Line) → Matching (bare is) (map unplaced ls) → Matching is ls
matching_placed is [] h = tt
matching_placed is (l ∷ ls) h = (sym (differs_bare is l) ∙ h.0, matching_placed is ls h.1)

module _ (is plan : List Item) where
  pub matches_bare : Matching is (lines_of plan) → Matching (on_line 0 (said_of is)) (lines_of (on_line 0 (said_of plan)))
  matches_bare h = subst (Matching (bare is)) (sym (lines_bare plan)) (matching_bare is (lines_of plan) h)

  pub matches_placed : Matching (on_line 0 (said_of is)) (lines_of (on_line 0 (said_of plan))) → Matching is (lines_of plan)
  matches_placed h = matching_placed is (lines_of plan) (subst (Matching (bare is)) (lines_bare plan) h)

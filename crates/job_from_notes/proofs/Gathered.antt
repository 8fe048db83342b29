-- The records of a walk, one kind as the others: how many there are, and their bytes.
use Prim.Native.Nat.{ℕ, ◌+◌, ◌-◌, ◌%◌, ◌≤◌}
use mathlib.Core.Path.{◌≡◌, refl, ap, ap₂, ◌∙◌}
use mathlib.Core.Bool.{Bool, true, false, cond, not, ◌||◌, ◌&&◌}
use mathlib.Core.List.{List, [], ◌∷◌, ◌++◌}
use native.Mathlib.Nat.{not-suc-le-zero, le_of_suc-le-suc}
use native.Mathlib.Omega.{arith}
use lib.ListN.{length}
use lib.Dec.{ltb, leb}
use Rattle.job.specs.declared.records.Condition.{Condition}
use Rattle.notes.specs.Notes.{role_in, rise_role, wanted_role, over_all_role, wanted_at_end_role, set_role, reached_role, given_role}
use Rattle.job_encoding.specs.Encode.{condition_row, effect_row, use_row, goal_row, rows}
use Rattle.job_notes.specs.Tables.{leading_noted, in_action_noted, condition_noted, conditions_noted, effect_noted, effects_noted, use_noted, uses_noted}
use Rattle.job_notes.specs.Tables.{goal_noted, goals_noted}
use Rattle.job_from_notes.specs.declared.brought.Kind.{Kind}
use Rattle.job_from_notes.specs.declared.brought.Kind.TheVariants.{Conditions, Effects, Uses, Goals}
use Rattle.job_from_notes.specs.Brought.{brings, within, count_noted, wanted, set, used, reached, row_noted, part_noted, parts_noted}

-- what notes bring, as one list whatever the kind
unfoldable gathered : {A : Type 0} → Kind → ℕ → (ℕ → ℕ → ℕ → A) → List ℕ → List ℕ → List A
gathered kind d r [] ns = []
gathered kind d r (w ∷ ws) [] = []
gathered kind d r (w ∷ ws) (n ∷ ns) =
    cond (within kind w) (cond (brings kind d (role_in w)) (r (role_in w) n (leading_noted ws) ∷ []) [] ++ gathered kind d r ws ns) []

module _ {A : Type 0} (kind : Kind) (d : ℕ) (r : ℕ → ℕ → ℕ → A) where
  length_one : (b t : Bool) (x : A) (l : List A) → length (cond b (cond t (x ∷ []) [] ++ l) []) ≡ cond b (cond t 1 0 + length l) 0
  length_one true true x l = omega arith
  length_one true false x l = omega arith
  length_one false t x l = refl

  length_gathered : (ws ns : List ℕ) → length ws ≤ length ns → length (gathered kind d r ws ns) ≡ count_noted kind d ws
  unfolding gathered count_noted
  length_gathered [] ns h = refl
  length_gathered (w ∷ ws) [] h = absurd (not-suc-le-zero h)
  length_gathered (w ∷ ws) (n ∷ ns) h =
      length_one (within kind w) (brings kind d (role_in w)) (r (role_in w) n (leading_noted ws)) (gathered kind d r ws ns)
      ∙ ap (λ m. cond (within kind w) (cond (brings kind d (role_in w)) 1 0 + m) 0) (length_gathered ws ns (le_of_suc-le-suc h))

-- a note brings a record or none
module _ (s d : ℕ) where
  abbrev from : ℕ → ℕ → ℕ → ℕ → Condition
  from n v a b = record { step = s; fact = n; from = a; to = b; value = v }

  one_condition :
      (a b e f g : Bool) (n v : ℕ)
      → cond a [] (cond b (from n v 0 0 ∷ []) (cond e (cond g [] (from n v 1 (d - 1) ∷ [])) (cond f (from n v d d ∷ []) [])))
      ≡ cond (not a && (b || (e && not g) || (not e && f))) (from n v (cond b 0 (cond e 1 d)) (cond b 0 (cond e (d - 1) d)) ∷ []) []
  one_condition true b e f g n v = refl
  one_condition false true e f g n v = refl
  one_condition false false true f true n v = refl
  one_condition false false true f false n v = refl
  one_condition false false false true g n v = refl
  one_condition false false false false g n v = refl

  condition_one : (w n : ℕ) → condition_noted s d w n ≡ cond (brings Conditions d (role_in w)) (wanted s d (role_in w) n ∷ []) []
  unfolding condition_noted
  condition_one w n =
      let c = role_in w in one_condition (ltb c wanted_role) (ltb c over_all_role) (ltb c wanted_at_end_role) (ltb c set_role) (ltb d 2) n (c % 2)

  one_other : {A : Type 0} (b : Bool) (x : A) → cond b [] (x ∷ []) ≡ cond (not b) (x ∷ []) []
  one_other true x = refl
  one_other false x = refl

  effect_one : (w n : ℕ) → effect_noted s d w n ≡ cond (brings Effects d (role_in w)) (set s d (role_in w) n ∷ []) []
  unfolding effect_noted
  effect_one w n = one_other (ltb (role_in w) set_role || leb reached_role (role_in w)) (set s d (role_in w) n)

  use_one : (w n a : ℕ) → use_noted s d w n a ≡ cond (brings Uses d (role_in w)) (used s d (role_in w) n a ∷ []) []
  unfolding use_noted
  use_one w n a = one_other (ltb (role_in w) rise_role || leb wanted_role (role_in w)) (used s d (role_in w) n a)

  goal_one : (w n : ℕ) → goal_noted w n ≡ cond (brings Goals d (role_in w)) (reached s d (role_in w) n ∷ []) []
  unfolding goal_noted
  goal_one w n = one_other (ltb (role_in w) reached_role || leb given_role (role_in w)) (reached s d (role_in w) n)

  -- so do the notes of a walk
  conditions_gathered : (ws ns : List ℕ) → conditions_noted s d ws ns ≡ gathered Conditions d (λ c n a. wanted s d c n) ws ns
  unfolding gathered conditions_noted
  conditions_gathered [] ns = refl
  conditions_gathered (w ∷ ws) [] = refl
  conditions_gathered (w ∷ ws) (n ∷ ns) = ap₂ (λ x l. cond (in_action_noted w) (x ++ l) []) (condition_one w n) (conditions_gathered ws ns)

  effects_gathered : (ws ns : List ℕ) → effects_noted s d ws ns ≡ gathered Effects d (λ c n a. set s d c n) ws ns
  unfolding gathered effects_noted
  effects_gathered [] ns = refl
  effects_gathered (w ∷ ws) [] = refl
  effects_gathered (w ∷ ws) (n ∷ ns) = ap₂ (λ x l. cond (in_action_noted w) (x ++ l) []) (effect_one w n) (effects_gathered ws ns)

  uses_gathered : (ws ns : List ℕ) → uses_noted s d ws ns ≡ gathered Uses d (used s d) ws ns
  unfolding gathered uses_noted
  uses_gathered [] ns = refl
  uses_gathered (w ∷ ws) [] = refl
  uses_gathered (w ∷ ws) (n ∷ ns) =
      ap₂ (λ x l. cond (in_action_noted w) (x ++ l) []) (use_one w n (leading_noted ws)) (uses_gathered ws ns)

  goals_gathered : (ws ns : List ℕ) → goals_noted ws ns ≡ gathered Goals d (λ c n a. reached s d c n) ws ns
  unfolding gathered goals_noted
  goals_gathered [] ns = refl
  goals_gathered (w ∷ ws) [] = refl
  goals_gathered (w ∷ ws) (n ∷ ns) = ap₂ (λ x l. x ++ l) (goal_one w n) (goals_gathered ws ns)

  -- the bytes of a walk's records
  module _ {A : Type 0} (kind : Kind) (r : ℕ → ℕ → ℕ → A) (row : A → List ℕ) (same : (c n a : ℕ) → row (r c n a) ≡ row_noted s d kind c n a) where
    rows_one :
        (b t : Bool) (x : A) (l : List A)
        → rows row (cond b (cond t (x ∷ []) [] ++ l) []) ≡ cond b (cond t (row x) [] ++ rows row l) []
    unfolding rows
    rows_one true true x l = refl
    rows_one true false x l = refl
    rows_one false t x l = refl

    rows_gathered : (ws ns : List ℕ) → rows row (gathered kind d r ws ns) ≡ parts_noted s d kind ws ns
    unfolding gathered parts_noted part_noted rows
    rows_gathered [] ns = refl
    rows_gathered (w ∷ ws) [] = refl
    rows_gathered (w ∷ ws) (n ∷ ns) =
        rows_one (within kind w) (brings kind d (role_in w)) (r (role_in w) n (leading_noted ws)) (gathered kind d r ws ns)
        ∙ ap₂ (λ x l. cond (within kind w) (cond (brings kind d (role_in w)) x [] ++ l) []) (same (role_in w) n (leading_noted ws)) (rows_gathered ws ns)

  -- kind by kind
  pub condition_bytes : (ws ns : List ℕ) → rows condition_row (conditions_noted s d ws ns) ≡ parts_noted s d Conditions ws ns
  condition_bytes ws ns =
      ap (rows condition_row) (conditions_gathered ws ns) ∙ rows_gathered Conditions (λ c n a. wanted s d c n) condition_row (λ c n a. refl) ws ns

  pub effect_bytes : (ws ns : List ℕ) → rows effect_row (effects_noted s d ws ns) ≡ parts_noted s d Effects ws ns
  effect_bytes ws ns =
      ap (rows effect_row) (effects_gathered ws ns) ∙ rows_gathered Effects (λ c n a. set s d c n) effect_row (λ c n a. refl) ws ns

  pub use_bytes : (ws ns : List ℕ) → rows use_row (uses_noted s d ws ns) ≡ parts_noted s d Uses ws ns
  use_bytes ws ns = ap (rows use_row) (uses_gathered ws ns) ∙ rows_gathered Uses (used s d) use_row (λ c n a. refl) ws ns

  pub goal_bytes_lem : (ws ns : List ℕ) → rows goal_row (goals_noted ws ns) ≡ parts_noted s d Goals ws ns
  goal_bytes_lem ws ns =
      ap (rows goal_row) (goals_gathered ws ns) ∙ rows_gathered Goals (λ c n a. reached s d c n) goal_row (λ c n a. refl) ws ns

  module _ (ws ns : List ℕ) (h : length ws ≤ length ns) where
    pub condition_count_lem : length (conditions_noted s d ws ns) ≡ count_noted Conditions d ws
    condition_count_lem = ap length (conditions_gathered ws ns) ∙ length_gathered Conditions d (λ c n a. wanted s d c n) ws ns h

    pub effect_count_lem : length (effects_noted s d ws ns) ≡ count_noted Effects d ws
    effect_count_lem = ap length (effects_gathered ws ns) ∙ length_gathered Effects d (λ c n a. set s d c n) ws ns h

    pub use_count_lem : length (uses_noted s d ws ns) ≡ count_noted Uses d ws
    use_count_lem = ap length (uses_gathered ws ns) ∙ length_gathered Uses d (used s d) ws ns h

    pub goal_count_lem : length (goals_noted ws ns) ≡ count_noted Goals d ws
    goal_count_lem = ap length (goals_gathered ws ns) ∙ length_gathered Goals d (λ c n a. reached s d c n) ws ns h

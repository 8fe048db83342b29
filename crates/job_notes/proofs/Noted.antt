-- The tables of the notes of two texts are those of what the texts say.
use Prim.Native.Nat.{ℕ, zero, suc, ◌≤◌, ◌<◌}
use mathlib.Core.Path.{◌≡◌, refl, sym, ap, ◌∙◌}
use mathlib.Core.List.{List, [], ◌∷◌, map}
use native.Mathlib.Nat.{zero-add}
use native.Mathlib.Omega.{arith}
use lib.ListN.{length, get_or, drop}
use lib.Seq.{slice, take_all}
use Rattle.laws.specs.Listed.{tabulate}
use Rattle.spelling.specs.Tokens.{text_most}
use Rattle.grammar.specs.Said.{Item}
use Rattle.grammar.specs.Tree.{Word}
use Rattle.notes.specs.Notes.{item_in, items_in, Sound}
use Rattle.supplied.specs.Names.{Kind, facts, levels, names_of}
use Rattle.supplied.specs.Plan.{Line, lines_of, behind}
use Rattle.supplied.specs.Records.{body, by_step, conditions_in, effects_in, uses_in, goals_in}
use Rattle.supplied.specs.Job.{initially, amount_of, level_from, step_of, tables_of}
use Rattle.job_notes.specs.Resolved.{Numbered, no_line, Acting}
use Rattle.job_notes.specs.Tables.{conditions_noted, effects_noted, uses_noted, goals_noted, initial_noted, amount_noted}
use Rattle.job_notes.specs.Tables.{joined, length_noted, step_noted, Sizes, of_all, of_step, tables_noted}
use Rattle.job_notes.proofs.Joined.{joined_map, tabulate_joined}
use Rattle.job_notes.proofs.Fitting.{Matched}
use Rattle.job_notes.proofs.Numbering.{distinct_names}
use Rattle.job_notes.proofs.Walks.{conditions_noted_lem, effects_noted_lem, uses_noted_lem, goals_noted_lem}
use Rattle.job_notes.proofs.Lines.{length_noted_lem, step_noted_lem, by_step_lem}
use Rattle.job_notes.proofs.Listed.{initial_noted_lem, amount_noted_lem}
use Rattle.job_notes.proofs.Matching.{names_in, matched_from}

map_drop : {A B : Type 0} (f : A → B) (n : ℕ) (l : List A) → drop n (map f l) ≡ map f (drop n l)
map_drop f zero l = refl
map_drop f (suc n) [] = refl
map_drop f (suc n) (x ∷ l) = map_drop f n l

slice_all : (l : List ℕ) (n a : ℕ) → n ≡ length l → slice a n l ≡ drop a l
slice_all l n a e = ap (drop a) (take_all n l (omega arith))

module _
    (text plan said lines numbers acts : List ℕ) (z : Sizes) (sound : (k : ℕ) → k < length said → Sound text (get_or said k 0))
    (few : length said ≤ text_most) (numbered : Numbered (items_in text said) numbers)
    (acting : Acting (items_in text said) (lines_of (items_in plan lines)) acts) (items : z.items ≡ length said)
    (steps : z.steps ≡ length (lines_of (items_in plan lines))) where
  abbrev is : List Item
  is = items_in text said

  abbrev ls : List Line
  ls = lines_of (items_in plan lines)

  abbrev named : Kind → List Word
  named = names_in text said

  -- the notes, and the numbers beside them
  abbrev ws : List ℕ
  ws = of_all z said

  abbrev ns : List ℕ
  ns = of_all z numbers

  matched : (a : ℕ) → Matched text named (slice a z.items said) (slice a z.items numbers)
  matched a = matched_from text said numbers sound few numbered z.items a items

  -- the notes behind the name of a step's action
  behind_noted : (s : ℕ) → s < length ls → items_in text (of_step z acts said s) ≡ behind (get_or ls s no_line).action is
  behind_noted s h =
      ap (items_in text) (slice_all said z.items (get_or acts s 0) items)
      ∙ sym (map_drop (item_in text) (get_or acts s 0) said)
      ∙ sym (acting.each s h)

  -- what the steps bring
  along :
      {A : Type 0} (f : ℕ → ℕ → List Item → List A) (g : ℕ → ℕ → List ℕ → List ℕ → List A)
      → ((s d : ℕ) (ws ns : List ℕ) → Matched text named ws ns → f s d (body (items_in text ws)) ≡ g s d ws ns)
      → joined z.steps (λ s. g s (length_noted lines s) (of_step z acts said s) (of_step z acts numbers s)) ≡ by_step f is 0 ls
  along {A = A} f g e =
      let h : ℕ → List A = λ s. g s (length_noted lines s) (of_step z acts said s) (of_step z acts numbers s) in
      ap (λ n. joined n h) steps
      ∙ by_step_lem f is ls 0 h (λ k l.
      sym (e k (length_noted lines k) (of_step z acts said k) (of_step z acts numbers k) (matched (get_or acts k 0)))
      ∙ rw (zero-add k, length_noted_lem plan lines k l) (ap (λ b. f k (length_noted lines k) (body b)) (behind_noted k l)))

  facts_noted :
      z.facts ≡ length (named facts) → tabulate z.facts (initial_noted ws ns) ≡ map (initially is) (named facts)
  facts_noted e =
      tabulate_joined z.facts (initial_noted ws ns)
      ∙ ap (λ n. joined n (λ k. initial_noted ws ns k ∷ [])) e
      ∙ joined_map [] (initially is) (named facts) (initial_noted ws ns) (λ f h.
      initial_noted_lem text named (distinct_names facts is) f h ws ns (matched 0)
      ∙ ap (λ t. initially (items_in text t) (get_or (named facts) f [])) (slice_all said z.items 0 items))

  levels_noted :
      z.levels ≡ length (named levels)
      → joined z.levels (λ l. level_from (amount_noted ws ns l) ∷ [])
      ≡ map (λ v. level_from (amount_of is v)) (named levels)
  levels_noted e =
      ap (λ n. joined n (λ l. level_from (amount_noted ws ns l) ∷ [])) e
      ∙ joined_map [] (λ v. level_from (amount_of is v)) (named levels) (λ l. level_from (amount_noted ws ns l)) (λ l h.
      ap level_from
      (amount_noted_lem text named (distinct_names levels is) l h ws ns (matched 0)
      ∙ ap (λ t. amount_of (items_in text t) (get_or (named levels) l [])) (slice_all said z.items 0 items)))

  steps_noted : joined z.steps (λ s. step_noted lines s ∷ []) ≡ map step_of ls
  steps_noted =
      ap (λ n. joined n (λ s. step_noted lines s ∷ [])) steps ∙ joined_map no_line step_of ls (step_noted lines) (λ s h. step_noted_lem plan lines s h)

  all_goals : goals_noted ws ns ≡ goals_in (named facts) is
  all_goals =
      sym (goals_noted_lem text named ws ns (matched 0))
      ∙ ap (λ t. goals_in (named facts) (items_in text t)) (slice_all said z.items 0 items)

  pub tables_noted_lem :
      z.facts ≡ length (names_of facts (items_in text said)) → z.levels ≡ length (names_of levels (items_in text said))
      → tables_noted z said numbers lines acts ≡ tables_of (items_in text said) (lines_of (items_in plan lines))
  unfolding tables_noted tables_of
  tables_noted_lem f l =
      rw (
        facts_noted f,
        levels_noted l,
        steps_noted,
        along (conditions_in (named facts)) conditions_noted (conditions_noted_lem text named),
        along (effects_in (named facts)) effects_noted (effects_noted_lem text named),
        along (uses_in (named levels)) uses_noted (uses_noted_lem text named),
        all_goals,
      )
      refl

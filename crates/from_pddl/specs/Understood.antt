-- Inner: the action text as it was read, with its names.
use Rattle.std.specs.Prelude.{ℕ, ◌≤◌, ◌≡◌, false, List, length, take}
use Rattle.spelling.specs.Tokens.{text_most}
use Rattle.grammar.specs.Said.{Item}
use Rattle.grammar.specs.Reader.{read, refused}
use Rattle.notes.specs.Notes.{notes_most, items_in}
use Rattle.token_reader.specs.Reading.{number_of, Known}
use Rattle.naming.specs.Named.{AllNamed, Readable}
use Rattle.texts_answer.specs.FromTexts.{actions_read}
use Rattle.from_pddl.specs.declared.actions.Actions.{Actions}

-- the notes of the action text
abbrev pub notes_of : List ℕ → Actions → List ℕ
notes_of said r = take r.count said

-- the number of the fault that was met, and 0 for none
abbrev pub met_by : Actions → ℕ
met_by r = number_of r.fault

pub record Understood (text said numbers index : List ℕ) (r : Actions) : Type 0 where
  pub size : length said ≡ notes_most
  pub few : r.count ≤ text_most
  pub line : r.line ≤ text_most
  pub fault : Known false (met_by r)
  pub refuses : (met_by r ≡ 0 → ⊥) → (is : List Item) × (actions_read text ≡ refused (met_by r) r.line is)
  pub reads : met_by r ≡ 0 → actions_read text ≡ read (items_in text (notes_of said r))
  pub readable : Readable text (notes_of said r)
  pub named : met_by r ≡ 0 → AllNamed text (notes_of said r) numbers index r.names

-- Between crates: what a reader of a text promises: it answers with the text's reading, and the list notes what was said.
use Rattle.std.specs.Prelude.{ℕ, ◌≤◌, ◌≡◌, Bool, List, length}
use Rattle.spelling.specs.Tokens.{text_most}
use Rattle.grammar.specs.Reader.{Outcome}
use Rattle.notes.specs.Notes.{notes_most, Noted}
use Rattle.token_reader.specs.Reading.{fault_of, heard, answer, Known}
use Rattle.token_reader.specs.declared.Reader.{Reader}

pub record Heard (plan : Bool) (reading : Outcome) (text list : List ℕ) (r : Reader) : Type 0 where
  pub same : reading ≡ answer text list r
  pub noted : Noted text list (heard text r.count list)
  pub many : length (heard text r.count list) ≡ r.count
  pub few : r.count ≤ text_most
  pub size : length list ≡ notes_most
  pub line : r.line ≤ text_most
  pub fault : Known plan (fault_of r)

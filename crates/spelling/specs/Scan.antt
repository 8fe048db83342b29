-- Inner: how a cursor finds a token: past the blanks, then along a word.
use Rattle.std.specs.Prelude.{ℕ, ◌≤◌, ◌<◌, ◌≡◌, Bool, true, false, List, length, get_or, drop}
use Rattle.spelling.specs.Tokens.{is_blank, in_word, tokens}
use Rattle.spelling.specs.Cursor.{rest, Standing}
use Rattle.spelling.specs.declared.Spot.{Spot}
use Rattle.spelling.specs.declared.Cursor.{Cursor}

-- past the blanks: the same tokens follow
pub record Skipped (plan : Bool) (text : List ℕ) (from line : ℕ) (r : Spot) : Type 0 where
  pub onward : from ≤ r.at
  pub within : r.at ≤ length text
  pub lines : r.line ≤ r.at
  pub same : tokens plan line (drop from text) ≡ tokens plan r.line (drop r.at text)
  pub full : r.at < length text → is_blank plan (get_or text r.at 0) ≡ false

-- a run of a word's bytes that nothing of a word follows
pub record RunsTo (plan : Bool) (text : List ℕ) (from end : ℕ) : Type 0 where
  pub onward : from ≤ end
  pub within : end ≤ length text
  pub each : (k : ℕ) → from ≤ k → k < end → in_word plan (get_or text k 0) ≡ true
  pub stops : end < length text → in_word plan (get_or text end 0) ≡ false

-- the next token from a place on
pub record Moved (plan : Bool) (text : List ℕ) (from line : ℕ) (c : Cursor) : Type 0 where
  pub standing : Standing plan text c
  pub onward : from ≤ c.at
  pub same : tokens plan line (drop from text) ≡ rest plan text c

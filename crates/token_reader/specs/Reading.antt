-- Between crates: what a reader at a token of a text says of the outcome of the whole.
use Rattle.std.specs.Prelude.{ℕ, ◌≤◌, ◌<◌, ◌≡◌, ◌⊎◌, Bool, false, cond, List, [], ◌∷◌, ◌++◌, Option, Some, None, map, eqb, length, get_or, take}
use Rattle.spelling.specs.Tokens.{text_most}
use Rattle.spelling.specs.Cursor.{rest, here, behind, Standing}
use Rattle.spelling.specs.declared.Cursor.{Cursor}
use Rattle.grammar.specs.Said.{Said, Item}
use Rattle.grammar.specs.Allowed.{depth_most}
use Rattle.grammar.specs.Reader.{Symbol, Outcome, read, refused, goes, step, run}
use Rattle.notes.specs.Notes.{item_in, Sound}
use Rattle.token_reader.specs.declared.Fault.{Fault}
use Rattle.token_reader.specs.declared.Fault.TheVariants.{OutsideGrammar, TooDeep}
use Rattle.token_reader.specs.declared.Reader.{Reader}

-- the token at which a reader stands, and a reader made of one
abbrev pub cursor_of : Reader → Cursor
cursor_of r = record { at = r.at; end = r.end; line = r.line }

abbrev pub reader_at : Cursor → ℕ → Option Fault → Reader
reader_at c count fault = record { at = c.at; end = c.end; line = c.line; count = count; fault = fault }

-- the reader that a fault leaves
abbrev pub faulty : Reader → Fault → Reader
faulty r f = record { at = r.at; end = r.end; line = r.line; count = r.count; fault = Some f }

-- a fault's number, and 0 for none
abbrev pub fault_number : Fault → ℕ
fault_number OutsideGrammar = 18
fault_number TooDeep = 19

abbrev pub number_of : Option Fault → ℕ
number_of None = 0
number_of (Some f) = fault_number f

abbrev pub fault_of : Reader → ℕ
fault_of r = number_of r.fault

-- the items that have been noted
unfoldable pub heard : List ℕ → ℕ → List ℕ → List Item
heard text count list = map (item_in text) (take count list)

-- the outcome of a text from a reader on, where these symbols are expected
unfoldable pub outcome : Bool → List ℕ → List ℕ → Reader → List Symbol → Outcome
outcome plan text list r σ =
    cond (eqb (fault_of r) 0)
    (run depth_most σ (heard text r.count list) (rest plan text (cursor_of r)))
    (refused (fault_of r) r.line (heard text r.count list))

-- what a reader says when all is read
unfoldable pub answer : List ℕ → List ℕ → Reader → Outcome
answer text list r =
    cond (eqb (fault_of r) 0) (read (heard text r.count list)) (refused (fault_of r) r.line (heard text r.count list))

-- a plan knows one fault, the actions two
abbrev pub Known : Bool → ℕ → Type 0
Known plan n = (n ≡ 0) ⊎ (n ≡ 18) ⊎ ((n ≡ 19) × (plan ≡ false))

-- a reader stands at a token of a text that is not too long, and has noted no more items than it passed bytes
pub record Stands (plan : Bool) (text : List ℕ) (r : Reader) : Type 0 where
  pub short : length text ≤ text_most
  pub standing : Standing plan text (cursor_of r)
  pub few : r.count ≤ r.at
  pub fault : Known plan (fault_of r)

-- a list with room for the notes of the whole text: so many so far, and 0 behind them
pub record Listed (text list : List ℕ) (count : ℕ) : Type 0 where
  pub room : length text < length list
  pub sound : (k : ℕ) → k < count → Sound text (get_or list k 0)
  pub zeros : (k : ℕ) → count ≤ k → get_or list k 0 ≡ 0

pub record Ready (plan : Bool) (text list : List ℕ) (r : Reader) : Type 0 where
  pub stands : Stands plan text r
  pub listed : Listed text list r.count

-- one token further, with nothing else changed
pub record Advanced (plan : Bool) (text : List ℕ) (r after : Reader) : Type 0 where
  pub stands : Stands plan text after
  pub further : r.at < after.at
  pub count : after.count ≡ r.count
  pub fault : after.fault ≡ r.fault
  pub same : behind plan text (cursor_of r) ≡ rest plan text (cursor_of after)

-- a symbol has been read, or a fault met: the outcome of the text is the same
pub record Reads (plan : Bool) (text list : List ℕ) (r : Reader) (s : Symbol) (list' : List ℕ) (after : Reader) : Type 0 where
  pub ready : Ready plan text list' after
  pub size : length list' ≡ length list
  pub onward : r.at ≤ after.at
  pub further : fault_of after ≡ 0 → r.at < after.at
  pub same : (σ : List Symbol) → outcome plan text list r (s ∷ σ) ≡ outcome plan text list' after σ

-- a symbol that says nothing has been read
pub record Takes (plan : Bool) (text : List ℕ) (r : Reader) (s : Symbol) (after : Reader) : Type 0 where
  pub stands : Stands plan text after
  pub reads : (list : List ℕ) → Ready plan text list r → Reads plan text list r s list after

-- a note has been made: each symbol has been read for which the token says what was noted
abbrev pub Notes : Bool → List ℕ → List ℕ → Reader → ℕ → List ℕ → Reader → Type 0
Notes plan text list r w list' after =
    (s : Symbol) (x : Said) → step depth_most s (here plan text (cursor_of r)) ≡ goes [] (x ∷ [])
    → item_in text w ≡ record { said = x; line = r.line } → Reads plan text list r s list' after

-- several symbols have been read one after the other
pub record Leads (plan : Bool) (text list : List ℕ) (r : Reader) (ss : List Symbol) (list' : List ℕ) (after : Reader) : Type 0 where
  pub ready : Ready plan text list' after
  pub size : length list' ≡ length list
  pub onward : r.at ≤ after.at
  pub further : fault_of after ≡ 0 → r.at < after.at
  pub same : (σ : List Symbol) → outcome plan text list r (ss ++ σ) ≡ outcome plan text list' after σ

-- one symbol has given way to another
pub record Turns (plan : Bool) (text list : List ℕ) (r : Reader) (s : Symbol) (list' : List ℕ) (after : Reader) (s' : Symbol) : Type 0 where
  pub ready : Ready plan text list' after
  pub size : length list' ≡ length list
  pub onward : r.at ≤ after.at
  pub same : (σ : List Symbol) → outcome plan text list r (s ∷ σ) ≡ outcome plan text list' after (s' ∷ σ)

-- all is read, or a fault met
pub record Ends (plan : Bool) (text list : List ℕ) (r : Reader) (σ : List Symbol) (list' : List ℕ) (after : Reader) : Type 0 where
  pub ready : Ready plan text list' after
  pub size : length list' ≡ length list
  pub same : outcome plan text list r σ ≡ answer text list' after

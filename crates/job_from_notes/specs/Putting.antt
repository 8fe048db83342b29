-- Inner: bytes that a loop puts one part behind the other.
use Rattle.std.specs.Prelude.{ℕ, ◌+◌, ◌≡◌, List, length}
use Rattle.std.proofs.lemmas.List.Edits.{sets}

-- with the rest put at a place, all stands from where it began
pub record Putting (before : List ℕ) (from : ℕ) (whole rest : List ℕ) (at : ℕ) (out : List ℕ) : Type 0 where
  pub put : sets out at rest ≡ sets before from whole
  pub place : at + length rest ≡ from + length whole

-- so much is put, and the next part comes behind it
pub record Put (before : List ℕ) (from : ℕ) (bytes : List ℕ) (at : ℕ) (out : List ℕ) : Type 0 where
  pub put : out ≡ sets before from bytes
  pub place : at ≡ from + length bytes

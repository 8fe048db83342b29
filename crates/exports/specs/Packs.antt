-- What a caller gets: the number that packs the defined answer, of which the entry point's promise holds.
use Rattle.std.specs.Prelude.{ℕ, ◌≡◌}

pub record Packs {A : Type 0} (P : A → Type 0) (pack : A → ℕ) (a : A) (r : ℕ) : Type 0 where
  pub number : r ≡ pack a
  pub promise : P a

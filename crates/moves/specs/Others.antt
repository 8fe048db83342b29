-- Between crates: the timed facts of one fact in the order of their ticks, and those next to a place that have another value.
use Rattle.std.specs.Prelude.{ℕ, ◌≤◌, ◌<◌, ◌≡◌, List, length, Option, Some}
use Rattle.timeline.specs.Words.{tick_at, value_at}
use Rattle.timeline.specs.Placed.{Run}
use Rattle.timeline.specs.declared.walk.Cursor.{Cursor}
use Rattle.job.specs.Model.{last_timed}

-- timed facts of one fact from place to place
pub record Row (order : List ℕ) (from until : ℕ) : Type 0 where
  pub begins : from ≤ until
  pub ends : until ≤ length order
  pub rises : (p q : ℕ) → from ≤ p → p < q → q < until → tick_at order p ≤ tick_at order q
  pub late : (p : ℕ) → from ≤ p → p < until → tick_at order p ≤ last_timed

-- those before a cursor
pub record Passed (order : List ℕ) (from : ℕ) (cursor : Cursor) : Type 0 where
  pub row : Row order from cursor.place
  pub run : Run order from cursor.place cursor.run

-- the tick of the last timed fact before place `at` that has another value, if there is one
pub record LastOther (order : List ℕ) (from at value : ℕ) (last : Option ℕ) : Type 0 where
  pub above :
      (p : ℕ) → from ≤ p → p < at → (value ≡ value_at order p → ⊥) → (tick : ℕ) × (last ≡ Some tick) × (tick_at order p ≤ tick)
  pub one :
      (tick : ℕ) → last ≡ Some tick
      → (p : ℕ) × (from ≤ p) × (p < at) × (value ≡ value_at order p → ⊥) × (tick ≡ tick_at order p)

-- a tick, if there is one, that a timed fact can have
abbrev pub InTime : Option ℕ → Type 0
InTime found = (tick : ℕ) → found ≡ Some tick → tick ≤ last_timed

-- no timed fact from place to place has another value after tick t
abbrev pub NoOther : List ℕ → ℕ → ℕ → ℕ → ℕ → Type 0
NoOther order from at value t = (p : ℕ) → from ≤ p → p < at → (value ≡ value_at order p → ⊥) → t < tick_at order p → ⊥

-- the first that has, or the end
pub record NextOther (order : List ℕ) (from until value t place : ℕ) : Type 0 where
  pub begins : from ≤ place
  pub ends : place ≤ until
  pub before : NoOther order from place value t
  pub here : place < until → (value ≡ value_at order place → ⊥) × (t < tick_at order place)

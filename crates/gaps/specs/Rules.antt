-- Between crates: what the rules read, and the table raised by each.
use Rattle.std.specs.Prelude.{ℕ, ◌+◌, ◌*◌, ◌≤◌, ◌<◌, ◌≡◌, List, length, get_or}
use Rattle.job.specs.Model.{Model}
use Rattle.job.specs.WellFormed.{WellFormed}
use Rattle.points.specs.Points.{PointsKnown, OneValue}
use Rattle.validity.specs.Ticks.{effect_tick, first_tick, last_tick}
use Rattle.links.specs.LinkList.{LinksOf}
use Rattle.order_file.specs.Table.{Gaps, row_width, no_order}
use Rattle.origins.specs.declared.Fact.{Fact}
use Rattle.origins.specs.declared.Span.{Span}
use Rattle.origins.specs.Raised.{Raised}

-- a table whose first n own entries, of a step and itself, are cleared
pub record Cleared (n : ℕ) (before after : List ℕ) : Type 0 where
  pub size : length after ≡ length before
  pub own : (i : ℕ) → i < n → get_or after (row_width * i + i) 0 ≡ no_order
  pub rest : (p : ℕ) → ((i : ℕ) → i < n → p ≡ row_width * i + i → ⊥) → get_or after p 0 ≡ get_or before p 0

-- rule 1 reads links, into a whole table
pub record SupportKnown (m : Model) (links gaps : List ℕ) : Type 0 where
  pub form : WellFormed m
  pub room : m.conditions + m.goals ≤ length links
  pub whole : Gaps gaps

-- raised by a rule of every schedule whose links these are
abbrev pub RaisedByLinks : Model → List ℕ → (Model → (ℕ → ℕ) → ℕ → ℕ → ℕ) → List ℕ → List ℕ → Type 0
RaisedByLinks m links rule before after = (x : ℕ → ℕ) → LinksOf m x links → Raised m.steps (rule m x) before after

-- rules 2, 3 and 4 order the points of the steps in a valid schedule: what rules 2 and 3 use of its being valid
pub record ValidPoints (m : Model) (x : ℕ → ℕ) (points begins : List ℕ) : Type 0 where
  pub form : WellFormed m
  pub known : PointsKnown m x points begins
  pub one : OneValue m x
  pub kept :
      (c e : ℕ) → c < m.conditions → e < m.effects → (m.effect_step e ≡ m.condition_step c → ⊥) → m.effect_fact e ≡ m.condition_fact c
      → first_tick m x c ≤ effect_tick m x e
      → effect_tick m x e ≤ last_tick m x c
      → m.effect_value e ≡ m.condition_value c

-- the places of a fact's setters and of its conditions
abbrev pub fact_at : List ℕ → ℕ → ℕ → Fact
fact_at begins facts f =
    record {
      low = get_or begins f 0;
      high = get_or begins (f + 1) 0;
      after = get_or begins (facts + f) 0;
      until = get_or begins (facts + f + 1) 0;
    }

-- the places of a group
abbrev pub span_at : List ℕ → ℕ → Span
span_at begins g = record { low = get_or begins g 0; high = get_or begins (g + 1) 0 }

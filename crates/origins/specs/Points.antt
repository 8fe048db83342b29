-- Between crates: points of a job in the order of their ticks, the orders between them, and a table raised to what they say.
use Rattle.std.specs.Prelude.{ℕ, ◌+◌, ◌-◌, ◌*◌, ◌%◌, ◌≤◌, ◌<◌, max, ◌≡◌, List, ◌⊎◌, length, get_or, set}
use Rattle.job.specs.Model.{Model, longest}
use Rattle.timeline.specs.Words.{word_step, word_value, word_number, word_tick, step_at, value_at, tick_at, value_span}
use Rattle.timeline.specs.Placed.{Parted}
use Rattle.validity.specs.Ticks.{schedule_of}
use Rattle.orders.specs.Gaps.{strictly}
use Rattle.origins.specs.declared.Fact.{Fact}
use Rattle.origins.specs.declared.Origin.{Origin}
use Rattle.origins.specs.declared.Span.{Span}
use Rattle.origins.specs.declared.Turn.{Turn}
use Rattle.origins.specs.declared.Turn.TheVariants.{Same, Other}
use Rattle.order_file.specs.Table.{gap_in, gap_of_entry, Gaps, row_width, table_size, entry_bias, table_bias}
use Rattle.order_file.specs.Contents.{step_limit}

-- how far into its step a point lies
abbrev pub offset_of : (ℕ → ℕ) → ℕ → ℕ
offset_of x word = word_tick word - x (word_step word)

abbrev pub offset_at : (ℕ → ℕ) → List ℕ → ℕ → ℕ
offset_at x points p = offset_of x (get_or points p 0)

-- how many values further a turn leads
abbrev pub turned : Turn → ℕ
turned Same = 0
turned Other = 1

-- from a point to later ones, of the other value or of the same
abbrev pub point_origin : (ℕ → ℕ) → Turn → ℕ → Origin
point_origin x turn word =
    record { step = word_step word; at = offset_of x word; value = (word_value word + turned turn) % value_span; tick = word_tick word + 1 }

-- from the last tick of a condition to what has the other value; what is not before its first tick is after its last
abbrev pub last_origin : Model → ℕ → Origin
last_origin m word =
    record { step = word_step word; at = m.condition_to (word_number word); value = (word_value word + 1) % value_span; tick = word_tick word }

-- the places from low to high hold points of n steps, each with a start, in the order of their ticks
pub record Group (n : ℕ) (starts points : List ℕ) (low high : ℕ) : Type 0 where
  pub begins : low ≤ high
  pub ends : high ≤ length points
  pub rises : (p q : ℕ) → low ≤ p → p < q → q < high → tick_at points p ≤ tick_at points q
  pub step : (p : ℕ) → low ≤ p → p < high → step_at points p < n
  pub started : (p : ℕ) → low ≤ p → p < high → step_at points p < length starts
  pub begun : (p : ℕ) → low ≤ p → p < high → schedule_of starts (step_at points p) ≤ tick_at points p
  pub near : (p : ℕ) → low ≤ p → p < high → offset_at (schedule_of starts) points p ≤ longest

-- of its points with different values the one that stands behind is later
abbrev pub ValuesApart : List ℕ → ℕ → ℕ → Type 0
ValuesApart points low high =
    (p q : ℕ) → low ≤ p → p < q → q < high → (value_at points p ≡ value_at points q → ⊥) → tick_at points p < tick_at points q

-- a point that orders can lead to, of a step with a start
pub record Notable (starts : List ℕ) (word : ℕ) : Type 0 where
  pub step : word_step word < row_width
  pub started : word_step word < length starts
  pub begun : schedule_of starts (word_step word) ≤ word_tick word
  pub near : offset_of (schedule_of starts) word ≤ longest

-- two steps that can be ordered, of n
abbrev pub Apart : ℕ → ℕ → ℕ → Type 0
Apart n i k = (i < n) × (k < n) × (i ≡ k → ⊥)

-- a table raised to what orders say, each from i to k by a gap: no entry rises further than one of them asks, and nothing else changes,
-- except perhaps what stands for a step and itself
pub record Reached (n : ℕ) (Order : ℕ → ℕ → ℕ → Type 0) (before after : List ℕ) : Type 0 where
  pub whole : Gaps before → Gaps after
  pub rest : (i k : ℕ) → k < row_width → (i ≡ k → ⊥) → (Apart n i k → ⊥) → gap_in after i k ≡ gap_in before i k
  pub rises : (i k : ℕ) → Apart n i k → gap_in before i k ≤ gap_in after i k
  pub reaches : (i k gap : ℕ) → Apart n i k → Order i k gap → gap ≤ gap_in after i k
  pub least :
      (i k bound : ℕ) → Apart n i k → gap_in before i k ≤ bound → ((gap : ℕ) → Order i k gap → gap ≤ bound) → gap_in after i k ≤ bound

-- the orders of the places from low to high
abbrev pub Among : ℕ → ℕ → (ℕ → ℕ → ℕ → ℕ → Type 0) → ℕ → ℕ → ℕ → Type 0
Among low high Order i k gap = (p : ℕ) × (low ≤ p) × (p < high) × Order p i k gap

-- the order to a point, if that has the value and is not before the tick
abbrev pub Onto : (ℕ → ℕ) → Origin → ℕ → ℕ → ℕ → ℕ → Type 0
Onto x origin word i k gap =
    (word_value word ≡ origin.value) × (origin.tick ≤ word_tick word) × (origin.step ≡ i) × (word_step word ≡ k)
    × (gap ≡ strictly origin.at (offset_of x word))

-- the orders to the points of the places from low to high
abbrev pub After : (ℕ → ℕ) → List ℕ → ℕ → ℕ → Origin → ℕ → ℕ → ℕ → Type 0
After x points low high origin = Among low high (λ q. Onto x origin (get_or points q 0))

-- the orders from a setter at place p of a fact to its conditions, from a condition to its setters, and from all of them
abbrev pub SetterOrder : (ℕ → ℕ) → List ℕ → Fact → ℕ → ℕ → ℕ → ℕ → Type 0
SetterOrder x points fact p = After x points fact.after fact.until (point_origin x Other (get_or points p 0))

abbrev pub ConditionOrder : Model → (ℕ → ℕ) → List ℕ → Fact → ℕ → ℕ → ℕ → ℕ → Type 0
ConditionOrder m x points fact p = After x points fact.low fact.high (last_origin m (get_or points p 0))

abbrev pub FromSetters : (ℕ → ℕ) → List ℕ → Fact → ℕ → ℕ → ℕ → Type 0
FromSetters x points fact = Among fact.low fact.high (SetterOrder x points fact)

abbrev pub FromConditions : Model → (ℕ → ℕ) → List ℕ → Fact → ℕ → ℕ → ℕ → Type 0
FromConditions m x points fact = Among fact.after fact.until (ConditionOrder m x points fact)

abbrev pub FactOrder : Model → (ℕ → ℕ) → List ℕ → Fact → ℕ → ℕ → ℕ → Type 0
FactOrder m x points fact i k gap = FromSetters x points fact i k gap ⊎ FromConditions m x points fact i k gap

-- the order from a setter of the origin's value to its condition, which begins `from` into its step
abbrev pub Toward : (ℕ → ℕ) → Origin → ℕ → ℕ → ℕ → ℕ → ℕ → Type 0
Toward x origin from word i k gap =
    (word_value word ≡ origin.value) × (word_tick word < origin.tick) × (word_step word ≡ i) × (origin.step ≡ k)
    × (gap ≡ strictly (offset_of x word) from)

-- the orders between the two, and between the condition and the setters of the places from low to high
abbrev pub Beside : (ℕ → ℕ) → Origin → ℕ → ℕ → ℕ → ℕ → ℕ → Type 0
Beside x origin from word i k gap = Toward x origin from word i k gap ⊎ Onto x origin word i k gap

abbrev pub Around : (ℕ → ℕ) → List ℕ → ℕ → ℕ → Origin → ℕ → ℕ → ℕ → ℕ → Type 0
Around x points low high origin from = Among low high (λ q. Beside x origin from (get_or points q 0))

-- those of the condition at place p of a fact
abbrev pub AroundCondition : Model → (ℕ → ℕ) → List ℕ → Fact → ℕ → ℕ → ℕ → ℕ → Type 0
AroundCondition m x points fact p = Around x points fact.low fact.high (last_origin m (get_or points p 0)) (offset_at x points p)

-- the orders from the point at place p of a group to later ones of the group, and from all its points
abbrev pub PointOrder : (ℕ → ℕ) → List ℕ → ℕ → ℕ → Turn → ℕ → ℕ → ℕ → ℕ → Type 0
PointOrder x points low high turn p = After x points low high (point_origin x turn (get_or points p 0))

abbrev pub FromPoints : (ℕ → ℕ) → List ℕ → ℕ → ℕ → Turn → ℕ → ℕ → ℕ → Type 0
FromPoints x points low high turn = Among low high (PointOrder x points low high turn)

-- the orders from the points of the first places to later ones of the second
abbrev pub FromTo : (ℕ → ℕ) → List ℕ → Span → Span → Turn → ℕ → ℕ → ℕ → Type 0
FromTo x points first second turn =
    Among first.low first.high (λ p. After x points second.low second.high (point_origin x turn (get_or points p 0)))

-- the orders from the points of each of two places to later ones of the other, of the same value
abbrev pub Between : (ℕ → ℕ) → List ℕ → Span → Span → ℕ → ℕ → ℕ → Type 0
Between x points first second i k gap = FromTo x points first second Same i k gap ⊎ FromTo x points second first Same i k gap

-- a fact whose setters and conditions are points of n steps
pub record FactPlaced (n : ℕ) (starts points : List ℕ) (fact : Fact) : Type 0 where
  pub setters : Group n starts points fact.low fact.high
  pub wanted : Group n starts points fact.after fact.until
  pub few : n ≤ step_limit

pub record FactKnown (m : Model) (starts points : List ℕ) (fact : Fact) : Type 0 where
  pub placed : FactPlaced m.steps starts points fact
  pub ended : (p : ℕ) → fact.after ≤ p → p < fact.until → m.condition_to (word_number (get_or points p 0)) ≤ longest

-- the walk over later points: those before place q are ordered after the origin
pub record Ordering (starts points : List ℕ) (low high : ℕ) (origin : Origin) (before : List ℕ) (q : ℕ) (gaps : List ℕ) : Type 0 where
  pub from : low ≤ q
  pub upto : q ≤ high
  pub reached :
      (n : ℕ) → n ≤ step_limit → origin.step < n → Group n starts points low high
      → Reached n (After (schedule_of starts) points low q origin) before gaps

-- where the lead of a value and step stands
abbrev pub lead_place : ℕ → ℕ → ℕ
lead_place value step = row_width * value + step

-- the leads of values and steps: the largest gap from a start, `entry_bias` + 1 less how far in, over the points from place `noted` to high; 0
-- for none
pub record Leads (x : ℕ → ℕ) (points : List ℕ) (noted high : ℕ) (leads : List ℕ) : Type 0 where
  pub size : length leads ≡ value_span * row_width
  pub reaches :
      (p : ℕ) → noted ≤ p → p < high
      → entry_bias + 1 - offset_at x points p ≤ get_or leads (lead_place (value_at points p) (step_at points p)) 0
  pub found :
      (k : ℕ) → 0 < get_or leads k 0
      → (p : ℕ) × (noted ≤ p) × (p < high) × (lead_place (value_at points p) (step_at points p) ≡ k)
      × (get_or leads k 0 ≡ entry_bias + 1 - offset_at x points p)

-- the leads with that of one more point
abbrev pub leads_with : (ℕ → ℕ) → ℕ → List ℕ → List ℕ
leads_with x word leads = set leads (lead_place (word_value word) (word_step word)) (entry_bias + 1 - offset_of x word)

-- points of a group, those from place `noted` on noted, none of which is before tick t
pub record Noting (starts points : List ℕ) (low high noted t : ℕ) (leads : List ℕ) : Type 0 where
  pub group : Group row_width starts points low high
  pub from : low ≤ noted
  pub upto : noted ≤ high
  pub late : (p : ℕ) → noted ≤ p → p < high → t ≤ tick_at points p
  pub ahead : Leads (schedule_of starts) points noted high leads

-- the same, and all others are before tick t
pub record NotedBack (x : ℕ → ℕ) (points : List ℕ) (low high t noted : ℕ) (leads : List ℕ) : Type 0 where
  pub parts : Parted points low high t noted
  pub ahead : Leads x points noted high leads

-- what a lead can be
pub record LeadKnown (lead : ℕ) : Type 0 where
  pub most : lead ≤ entry_bias + 1
  pub some : 0 < lead → table_bias < lead

-- leads to some of n steps
pub record LeadsKnown (n : ℕ) (leads : List ℕ) : Type 0 where
  pub each : (k : ℕ) → LeadKnown (get_or leads k 0)
  pub below : (value step : ℕ) → step < row_width → 0 < get_or leads (lead_place value step) 0 → step < n

-- a row of the table, from place `row` on, and leads for it, from place `ahead` on, each of them `at` further
pub record RowKnown (row ahead at : ℕ) (leads gaps : List ℕ) : Type 0 where
  pub whole : Gaps gaps
  pub within : row + row_width ≤ table_size
  pub led : ahead + row_width ≤ value_span * row_width
  pub near : at ≤ longest
  pub each : (k : ℕ) → LeadKnown (get_or leads k 0)

-- what is due at an entry of the row
abbrev pub due_at : ℕ → ℕ → List ℕ → ℕ → ℕ
due_at ahead at leads j = get_or leads (ahead + j) 0 + at

-- its first k entries are raised to what is due, and nothing else changes
pub record Rowed (row : ℕ) (due : ℕ → ℕ) (before now : List ℕ) (k : ℕ) : Type 0 where
  pub size : length now ≡ length before
  pub raised : (j : ℕ) → j < k → get_or now (row + j) 0 ≡ max (get_or before (row + j) 0) (due j)
  pub rest : (p : ℕ) → ((j : ℕ) → j < k → p ≡ row + j → ⊥) → get_or now p 0 ≡ get_or before p 0

-- the order by the lead of a step
abbrev pub Ahead : Origin → List ℕ → ℕ → ℕ → ℕ → Type 0
Ahead origin leads i k gap =
    (origin.step ≡ i) × (0 < get_or leads (lead_place origin.value k) 0) × (gap ≡ gap_of_entry (origin.at + get_or leads (lead_place origin.value k) 0))

-- an origin of one of n steps
pub record OriginKnown (n : ℕ) (origin : Origin) : Type 0 where
  pub step : origin.step < n
  pub near : origin.at ≤ longest
  pub value : origin.value < value_span

-- the walk back over a range: its points from place p on are ordered before those from low to high, and what is noted of these is ahead of
-- all its points before p
pub record Rowing (n : ℕ) (x : ℕ → ℕ) (points : List ℕ) (origin : ℕ → Origin) (begin end low high : ℕ) (before leads : List ℕ) (noted p : ℕ)
    (gaps : List ℕ) : Type 0 where
  pub from : begin ≤ p
  pub upto : p ≤ end
  pub noted_from : low ≤ noted
  pub noted_upto : noted ≤ high
  pub ahead : (r q : ℕ) → begin ≤ r → r < p → noted ≤ q → q < high → (origin (get_or points r 0)).tick ≤ tick_at points q
  pub led : Leads x points noted high leads
  pub reached : Reached n (Among p end (λ r. After x points low high (origin (get_or points r 0)))) before gaps

-- Inner: orders with the clock of the points beside timed facts, each of a step k and a start. No caller has to believe it.
use Rattle.std.specs.Prelude.{ℕ, ◌+◌, ◌-◌, ◌≤◌, ◌<◌, ◌≡◌, List, ◌⊎◌, length, get_or}
use Rattle.timeline.specs.Words.{word_step, word_value, word_number, word_tick, tick_at, value_at}
use Rattle.job.specs.declared.records.TimedFact.{TimedFact}
use Rattle.job.specs.Model.{Model, timed_of}
use Rattle.points.specs.Points.{wanted_group}
use Rattle.order_file.specs.Contents.{initial_state}
use Rattle.moves.specs.Moved.{Among, start_after, start_before}

-- a point that has another value than a timed fact of this tick and value, and lies after it
abbrev pub LaterThan : (ℕ → ℕ) → ℕ → ℕ → ℕ → ℕ → ℕ → Type 0
LaterThan x tick value word k v =
    (word_value word ≡ value → ⊥) × (tick < word_tick word) × (word_step word ≡ k)
    × (v ≡ start_after tick (word_tick word - x (word_step word)))

abbrev pub Later : (ℕ → ℕ) → TimedFact → ℕ → ℕ → ℕ → Type 0
Later x timed = LaterThan x timed.tick timed.value

-- a point that has another value and lies before it, as far into its step as `at` says
abbrev pub SoonerAt : (ℕ → ℕ) → ℕ → ℕ → ℕ → ℕ → ℕ → Type 0
SoonerAt at tick value word k v =
    (word_value word ≡ value → ⊥) × (word_tick word < tick) × (word_step word ≡ k) × (v ≡ start_before tick (at word))

-- a setter that has another value and lies before it
abbrev pub SoonerThan : (ℕ → ℕ) → ℕ → ℕ → ℕ → ℕ → ℕ → Type 0
SoonerThan x = SoonerAt (λ word. word_tick word - x (word_step word))

abbrev pub Sooner : (ℕ → ℕ) → TimedFact → ℕ → ℕ → ℕ → Type 0
Sooner x timed = SoonerThan x timed.tick timed.value

-- a condition that wants another value and begins before it, so that it ends before it in a valid schedule
abbrev pub EndedBy : Model → ℕ → ℕ → ℕ → ℕ → ℕ → Type 0
EndedBy m = SoonerAt (λ word. m.condition_to (word_number word))

abbrev pub Ended : Model → TimedFact → ℕ → ℕ → ℕ → Type 0
Ended m timed = EndedBy m timed.tick timed.value

-- points from low to high that have an order, by their words
abbrev pub OfWords : List ℕ → ℕ → ℕ → (ℕ → ℕ → ℕ → Type 0) → ℕ → ℕ → Type 0
OfWords points low high Order = Among low high (λ p. Order (get_or points p 0))

-- those of the setters of fact f, and those of its conditions
abbrev pub OfSetters : List ℕ → List ℕ → ℕ → (ℕ → ℕ → ℕ → Type 0) → ℕ → ℕ → Type 0
OfSetters points begins f = OfWords points (get_or begins f 0) (get_or begins (f + 1) 0)

abbrev pub OfWanted : Model → List ℕ → List ℕ → ℕ → (ℕ → ℕ → ℕ → Type 0) → ℕ → ℕ → Type 0
OfWanted m points begins f = OfWords points (get_or begins (wanted_group m f) 0) (get_or begins (wanted_group m f + 1) 0)

-- a point's orders with the timed facts from place to place
abbrev pub OfTimed : List ℕ → ℕ → ℕ → (ℕ → ℕ → ℕ → ℕ → ℕ → Type 0) → ℕ → ℕ → ℕ → Type 0
OfTimed order from until By word = Among from until (λ q. By (tick_at order q) (value_at order q) word)

-- those of the setters and of the conditions of fact f with its timed facts, by how many facts there are
abbrev pub OfFact :
    ℕ → List ℕ → List ℕ → List ℕ → List ℕ
    → (ℕ → ℕ → ℕ → ℕ → ℕ → Type 0)
    → (ℕ → ℕ → ℕ → ℕ → ℕ → Type 0)
    → ℕ
    → ℕ
    → ℕ
    → Type 0
OfFact facts points begins order marks By With f k v =
    OfSetters points begins f (OfTimed order (get_or marks f 0) (get_or marks (f + 1) 0) By) k v
    ⊎ OfSetters points begins (facts + f) (OfTimed order (get_or marks f 0) (get_or marks (f + 1) 0) With) k v

-- rules 2 and 3 from timed fact j to a step, and from a step to it
abbrev pub LimitBy : Model → (ℕ → ℕ) → List ℕ → List ℕ → ℕ → ℕ → ℕ → Type 0
LimitBy m x points begins j k v =
    OfSetters points begins (m.timed_fact j) (Later x (timed_of m j)) k v
    ⊎ OfWanted m points begins (m.timed_fact j) (Later x (timed_of m j)) k v

abbrev pub LatestBy : Model → (ℕ → ℕ) → List ℕ → List ℕ → ℕ → ℕ → ℕ → Type 0
LatestBy m x points begins j k v =
    OfSetters points begins (m.timed_fact j) (Sooner x (timed_of m j)) k v
    ⊎ OfWanted m points begins (m.timed_fact j) (Ended m (timed_of m j)) k v

-- rule 1 from the timed fact that condition c is linked to
abbrev pub LimitByLink : Model → List ℕ → ℕ → ℕ → ℕ → Type 0
LimitByLink m links c k v =
    (m.effects ≤ get_or links c 0) × (get_or links c 0 ≡ initial_state → ⊥) × (m.condition_step c ≡ k)
    × (v ≡ start_after (m.timed_tick (get_or links c 0 - m.effects)) (m.condition_from c))

-- points of the first n steps in the order of their ticks
pub record Spanned (n : ℕ) (points : List ℕ) (low high : ℕ) : Type 0 where
  pub begins : low ≤ high
  pub ends : high ≤ length points
  pub step : (p : ℕ) → low ≤ p → p < high → word_step (get_or points p 0) < n
  pub rises : (p q : ℕ) → low ≤ p → p < q → q < high → tick_at points p ≤ tick_at points q

-- none of them before its step's start
pub record Begun (n : ℕ) (x : ℕ → ℕ) (points : List ℕ) (low high : ℕ) : Type 0 where
  pub spanned : Spanned n points low high
  pub begun : (p : ℕ) → low ≤ p → p < high → x (word_step (get_or points p 0)) ≤ word_tick (get_or points p 0)

-- all of them conditions
pub record Wanted (m : Model) (n : ℕ) (points : List ℕ) (low high : ℕ) : Type 0 where
  pub spanned : Spanned n points low high
  pub known : (p : ℕ) → low ≤ p → p < high → word_number (get_or points p 0) < m.conditions

-- what a caller may ask of each of these points, and what it is then answered
abbrev pub Asked : (ℕ → Type 0) → List ℕ → ℕ → ℕ → Type 0
Asked Pre points low high = (p : ℕ) → low ≤ p → p < high → Pre (get_or points p 0)

abbrev pub Answered : (ℕ → ℕ → Type 0) → List ℕ → ℕ → ℕ → (ℕ → ℕ) → Type 0
Answered Post points low high offset =
    (p answer : ℕ) → low ≤ p → p < high → Post (get_or points p 0) answer → answer ≡ offset (get_or points p 0)

-- links of all conditions, each the initial state, an effect or a timed fact
pub record LinksNamed (m : Model) (links : List ℕ) : Type 0 where
  pub room : m.conditions ≤ length links
  pub named : (c : ℕ) → c < m.conditions → (get_or links c 0 ≡ initial_state → ⊥) → get_or links c 0 < m.effects + m.timed

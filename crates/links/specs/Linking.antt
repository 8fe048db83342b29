-- Inner: what the walk along the points of a fact leaves, step by step. No caller has to believe it.
use Rattle.std.specs.Prelude.{ℕ, ◌+◌, ◌≤◌, ◌<◌, ◌≡◌, ◌&&◌, cond, List, eqb, length, get_or}
use Rattle.timeline.specs.declared.walk.Cursor.{Cursor}
use Rattle.timeline.specs.Words.{number_at, tick_at}
use Rattle.timeline.specs.Placed.{place_limit}
use Rattle.timeline.specs.Walking.{Walking}
use Rattle.job.specs.Model.{Model}
use Rattle.validity.specs.Valid.{Valid}
use Rattle.points.specs.Points.{PointsKnown, wanted_group}
use Rattle.order_file.specs.Contents.{initial_state}
use Rattle.orders.specs.Links.{nth_link}
use Rattle.links.specs.declared.tie.Tie.{Tie}
use Rattle.links.specs.Linkable.{Linkable}
use Rattle.links.specs.Tied.{TieKnown}

-- the link of a value of a fact whose points begin at place low, where the run of that value begins at place `run`: the point at place `at`,
-- or the initial state where nothing stands before the run and the value is the initial one
unfoldable pub run_link : List ℕ → ℕ → ℕ → ℕ → ℕ → ℕ → ℕ
run_link points initial value low run at = cond (eqb run low && eqb initial value) initial_state (number_at points at)

-- the link of condition k, or past the conditions that of a goal, of every valid schedule that has these points
abbrev pub LinkIs : Model → List ℕ → List ℕ → ℕ → ℕ → Type 0
LinkIs m points begins k link = (x : ℕ → ℕ) → PointsKnown m x points begins → Valid m x → link ≡ nth_link m x k

-- a list whose elements at the indexes of which P is true are given by f, and whose others are those of before
pub record FilledWhere (P : ℕ → Type 0) (f : ℕ → ℕ) (before list : List ℕ) : Type 0 where
  pub size : length list ≡ length before
  pub there : (k : ℕ) → P k → get_or list k 0 ≡ f k
  pub rest : (k : ℕ) → (P k → ⊥) → get_or list k 0 ≡ get_or before k 0

-- those of which P is true are put into a list
abbrev pub LinksPut : Model → List ℕ → List ℕ → (ℕ → Type 0) → List ℕ → List ℕ → Type 0
LinksPut m points begins P before list = (x : ℕ → ℕ) → PointsKnown m x points begins → Valid m x → FilledWhere P (nth_link m x) before list

-- a condition of a fact below f; one at a place from low up to p
abbrev pub Below : Model → ℕ → ℕ → Type 0
Below m f c = (c < m.conditions) × (m.condition_fact c < f)

abbrev pub Passed : List ℕ → ℕ → ℕ → ℕ → Type 0
Passed points low p c = (q : ℕ) × (low ≤ q) × (q < p) × (number_at points q ≡ c)

-- from low on and below high
abbrev pub FromTo : ℕ → ℕ → ℕ → Type 0
FromTo low high k = (low ≤ k) × (k < high)

-- what stays along the conditions of fact f, which stand from place `first` up to `end`, beside its setters, from low to high
pub record Beside (m : Model) (points begins : List ℕ) (f initial low high first end : ℕ) (before : List ℕ) : Type 0 where
  pub can : Linkable m points begins before
  pub fact : f < m.facts
  pub initially : initial ≡ m.initial f
  pub begin : low ≡ get_or begins f 0
  pub next : (high ≡ get_or begins (f + 1) 0) × (high < place_limit)
  pub wanted : first ≡ get_or begins (wanted_group m f) 0
  pub last : end ≡ get_or begins (wanted_group m f + 1) 0

-- at place p of these conditions, with the cursor among the setters and the tie found last, of some job and for every one that they are of
pub record Linking (points begins : List ℕ) (f initial low high first end p : ℕ) (cursor : Cursor) (tie : Tie) (firsts before list : List ℕ)
    : Type 0 where
  pub some : (m : Model) × Beside m points begins f initial low high first end before
  pub from : first ≤ p
  pub to : p ≤ end
  pub walking : p < end → Walking points low high (tick_at points p) cursor
  pub tied : TieKnown points high tie firsts
  pub put :
      (m : Model) → Beside m points begins f initial low high first end before → LinksPut m points begins (Passed points first p) before list

-- The starred table, and those of timed facts, of ties and of needs, by computing. To find each order by its number takes a search among
-- 4,096 pairs of steps, itself with counting at each pair. So the orders are first proved to be the pairs that pass, listed in one pass
-- that looks at the gaps of counted steps only.
use Prim.Native.Nat.{ℕ, zero, suc, ◌+◌, ◌/◌, ◌%◌, ◌<◌}
use mathlib.Core.Path.{◌≡◌, refl, sym, ap, ap₂, ◌∙◌, fun_ext}
use mathlib.Core.Bool.{Bool, true, false, ◌&&◌, not, cond}
use mathlib.Core.List.{List, [], ◌∷◌, ◌++◌}
use mathlib.Core.Logic.{⊎_elim}
use native.Mathlib.Nat.{add-zero, not-suc-le-zero}
use native.Mathlib.Numerals.{add-one}
use native.Mathlib.Omega.{arith}
use lib.ListN.{length, get_or, length-append, get_or-append}
use lib.Seq.{get_or_at}
use lib.Dec.{ltb, eqb}
use Rattle.little_endian.specs.Bytes.{u16_at, u32_at, biased_at, u16_bytes, u32_bytes}
use Rattle.laws.specs.Fold.{largest, least, sum}
use Rattle.laws.specs.Listed.{tabulate}
use Rattle.laws.specs.Nth.{count, nth}
use Rattle.laws.specs.Search.{any, all, lowest, lowest_owner}
use Rattle.laws.proofs.Search.{either, last_or_below}
use Rattle.laws.proofs.Nth.{nth_facts, nth_is}
use Rattle.job.specs.Layout.{header_width, counts_of, table_at, positions_of, job_of, count_too_high}
use Rattle.header_check.specs.Header.{edition_known, marks_wrong, layout_agrees, header_check}
use Rattle.job.specs.Model.{Model, model_of}
use Rattle.job.specs.Clocked.{clocked}
use Rattle.std.specs.Prelude.{Err}
use Rattle.verdict.specs.Verdict.{Accepted, ◌then◌, refuse_if, refuse_lowest}
use Rattle.ranges.specs.Ranges.{fact_ok, level_ok, step_ok, condition_ok, effect_ok, use_ok, goal_ok, timed_ok}
use Rattle.record_check.specs.Records.{table_check, record_check}
use Rattle.against.specs.Against.{both_ways, uses_twice, opposes_own, set_before, used_before, opposes_any, both_ways_step, uses_twice_step, opposes_own_step}
use Rattle.against.specs.Against.{against_step, step_check}
use Rattle.against.specs.Clock.{timed_both_ways, timed_conflicts, timed_check}
use Rattle.form.specs.Refusals.{form_check}
use Rattle.validity.specs.Ticks.{planned}
use Rattle.validity.specs.Seen.{given_at, last_given, seen, after_all}
use Rattle.validity.specs.Levels.{rises_before, falls_before, falls_against, unmet}
use Rattle.validity.specs.Needs.{shelves}
use Rattle.validity.specs.Checks.{meets, conflicts, breaks, condition_fails, passes, level_fails, undoes, late, goal_fails, rule_check}
use Rattle.validity.specs.Checks.{timing_check, job_check}
use Rattle.orders.specs.Links.{producer, earliest_produced, tied, favours, supporter, link_of, condition_link, goal_link, nth_link}
use Rattle.orders.specs.Gaps.{support_order, support_gap, opposing_order, opposing_gap, before_order, after_order, condition_gap, level_order, level_gap}
use Rattle.orders.specs.Gaps.{need_order, use_order, need_gap, gap_of}
use Rattle.orders.specs.Windows.{clock_gap, clock_limit, limit_of, clock_latest, allowed, latest_of}
use Rattle.rounds.specs.Rounds.{demand, raised, after, unchanged, rounds, earliest}
use Rattle.orders.specs.File.{link_number, ordered, file_with, file_of}
use Rattle.orders.specs.Starred.{fact, level, step, condition, effect, usage, goal, timed_fact, joined, offsets, timed_table, tables_of}
use Rattle.orders.specs.Starred.{edition_of, job_bytes, Window, window, Order, order}
use Rattle.orders.specs.Starred.{contents_with, Expected, refused, accepted, Answers, Case, AllAnswer}
use Rattle.orders.specs.Starred.{small, nothing, levelled, marked, starred, with_timed, given_with_clock, timed_cases}
use Rattle.orders.specs.Ties.{given_at_five, wants, gives_own, gives_other, gives_clock, free, tie_cases}
use Rattle.orders.specs.Needs.{NeedFile, Files, AllFile, unmoved, need_files}
use Rattle.order_file.specs.Contents.{Contents}
use Rattle.order_file.specs.Agree.{Agree}
use Rattle.order_file.specs.Table.{row_width, table_size}

module _ {A : Type 0} where
  -- the values at the indexes below n, in their order
  listed : ℕ → (ℕ → A) → List A
  listed zero f = []
  listed (suc n) f = listed n f ++ (f n ∷ [])

  length_listed : (f : ℕ → A) (n : ℕ) → length (listed n f) ≡ n
  unfolding listed
  length_listed f zero = refl
  length_listed f (suc n) = length-append (listed n f) (f n ∷ []) ∙ ap (λ k. k + 1) (length_listed f n) ∙ add-one n

  get_d_listed : (f : ℕ → A) (n k : ℕ) (d : A) → k < n → get_or (listed n f) k d ≡ f k
  unfolding listed
  get_d_listed f zero k d h = absurd (not-suc-le-zero h)
  get_d_listed f (suc n) k d h =
      ⊎_elim
      (λ (q : k ≡ n). get_or_at (listed n f) (f n) [] d k (length_listed f n ∙ sym q) ∙ ap f (sym q))
      (λ (l : k < n). get_or-append (listed n f) (f n ∷ []) d k (omega (arith, length_listed f n)) ∙ get_d_listed f n k d l)
      (last_or_below h)

  -- a list that is so listed has as many values, and these
  module _ (f : ℕ → A) (n : ℕ) {l : List A} (e : listed n f ≡ l) where
    listed_count : n ≡ length l
    listed_count = sym (length_listed f n) ∙ ap length e

    listed_at : (d : A) (k : ℕ) → k < length l → f k ≡ get_or l k d
    listed_at d k h = sym (get_d_listed f n k d (omega (arith, listed_count))) ∙ ap (λ (s : List A). get_or s k d) e

  listed_cong : (f g : ℕ → A) (n : ℕ) → ((k : ℕ) → k < n → f k ≡ g k) → listed n f ≡ listed n g
  unfolding listed
  listed_cong f g zero h = refl
  listed_cong f g (suc n) h =
      ap₂ (λ (l : List A) (a : A). l ++ (a ∷ [])) (listed_cong f g n (λ k l. h k (omega arith))) (h n (omega arith))

  -- one more value where a test passes: it is computed only there
  extend : Bool → List A → (ℕ → A) → ℕ → List A
  extend true l f n = l ++ (f n ∷ [])
  extend false l f n = l

  -- the values at the indexes below n that pass
  passing : ℕ → (ℕ → Bool) → (ℕ → A) → List A
  passing zero p f = []
  passing (suc n) p f = extend (p n) (passing n p f) f n

-- one index more changes none that is numbered
nth_next : (p : ℕ → Bool) (n o : ℕ) → o < count n p → nth (suc n) p o ≡ nth n p o
nth_next p n o h =
    let w = nth_facts p n o h in
    ap (nth (suc n) p) (sym w.2) ∙ nth_is p (suc n) (nth n p o) (omega (arith, w.0)) w.1

-- the values by number are those that pass
listed_nth : {A : Type 0} (p : ℕ → Bool) (f : ℕ → A) (n : ℕ) → listed (count n p) (λ o. f (nth n p o)) ≡ passing n p f
unfolding listed count passing extend
listed_nth p f zero = refl
listed_nth {A} p f (suc n) =
    let g : ℕ → A = λ o. f (nth (suc n) p o) in
    let before : listed (count n p) g ≡ passing n p f =
    listed_cong g (λ o. f (nth n p o)) (count n p) (λ o h. ap f (nth_next p n o h)) ∙ listed_nth p f n in
    ⊎_elim
    (λ (t : p n ≡ true).
    ap (λ c. listed c g) (ap (λ b. count n p + cond b 1 0) t ∙ add-one (count n p))
    ∙ ap₂ (λ (l : List A) (a : A). l ++ (a ∷ [])) before (ap f (nth_is p (suc n) n (omega arith) t))
    ∙ sym (ap (λ b. extend b (passing n p f) f n) t))
    (λ (e : p n ≡ false).
    ap (λ c. listed c g) (ap (λ b. count n p + cond b 1 0) e ∙ add-zero (count n p))
    ∙ before
    ∙ sym (ap (λ b. extend b (passing n p f) f n) e))
    (either (p n))

window_of : Contents → ℕ → Window
window_of c k = window (c.limit k) (c.latest k) (c.earliest k)

order_of : Contents → ℕ → Order
order_of c o = order (c.first o) (c.second o) (c.gap o)

-- whether a pair is ordered: the gap is computed for counted steps only
ordered_if : Bool → Model → (ℕ → ℕ) → ℕ → ℕ → Bool
ordered_if true m x i k = not (eqb (gap_of m x i k) 0)
ordered_if false m x i k = false

ordered_if_is : (b : Bool) (m : Model) (x : ℕ → ℕ) (i k : ℕ) → b && not (eqb (gap_of m x i k) 0) ≡ ordered_if b m x i k
unfolding ordered_if
ordered_if_is true m x i k = refl
ordered_if_is false m x i k = refl

ordered_pair : Model → (ℕ → ℕ) → ℕ → Bool
ordered_pair m x q = ordered_if (ltb (q / row_width) m.steps && ltb (q % row_width) m.steps) m x (q / row_width) (q % row_width)

order_at : Model → (ℕ → ℕ) → ℕ → Order
order_at m x q = order (q / row_width) (q % row_width) (gap_of m x (q / row_width) (q % row_width))

orders_of : Model → (ℕ → ℕ) → List Order
orders_of m x = passing table_size (ordered_pair m x) (order_at m x)

ordered_pair_is : (m : Model) (x : ℕ → ℕ) (q : ℕ) → ordered m x q ≡ ordered_pair m x q
unfolding ordered ordered_pair
ordered_pair_is m x q = ordered_if_is (ltb (q / row_width) m.steps && ltb (q % row_width) m.steps) m x (q / row_width) (q % row_width)

orders_listed :
    (number : ℕ → ℕ) (m : Model) (x : ℕ → ℕ)
    → listed (file_with number m x).orders (order_of (file_with number m x)) ≡ orders_of m x
unfolding file_with order_of orders_of order_at
orders_listed number m x =
    listed_nth (ordered m x) (order_at m x) table_size ∙ ap (λ p. passing table_size p (order_at m x)) (fun_ext (ordered_pair_is m x))

-- contents whose records are so listed
module _ (c : Contents) {rounds : ℕ} {windows : List Window} {orders : List Order} {links : List ℕ} where
  agree_listed :
      c.rounds ≡ rounds → listed c.steps (window_of c) ≡ windows → listed c.orders (order_of c) ≡ orders
      → listed c.links c.link ≡ links → Agree c (contents_with rounds windows orders links)
  unfolding contents_with window_of order_of
  agree_listed r ws os ls =
      let w = listed_at (window_of c) c.steps ws (window 0 0 0) in
      let o = listed_at (order_of c) c.orders os (order 0 0 0) in
      record {
        steps = listed_count (window_of c) c.steps ws;
        orders = listed_count (order_of c) c.orders os;
        links = listed_count c.link c.links ls;
        rounds = r;
        limit = λ k h. ap (λ (x : Window). x.limit) (w k h);
        latest = λ k h. ap (λ (x : Window). x.latest) (w k h);
        earliest = λ k h. ap (λ (x : Window). x.earliest) (w k h);
        first = λ k h. ap (λ (x : Order). x.first) (o k h);
        second = λ k h. ap (λ (x : Order). x.second) (o k h);
        gap = λ k h. ap (λ (x : Order). x.gap) (o k h);
        link = listed_at c.link c.links ls 0;
      }

-- what is computed of a job
AnswersBy : List ℕ → Expected → Type 0
AnswersBy s (refused r) = job_check s ≡ Err r
AnswersBy s (accepted rounds windows orders links) =
    let m = model_of s in
    let c = file_of m (planned m) in
    (job_check s ≡ Accepted) × (c.rounds ≡ rounds) × (listed c.steps (window_of c) ≡ windows)
    × (orders_of (clocked m) (planned m) ≡ orders) × (listed c.links c.link ≡ links)

answers_by : (s : List ℕ) (e : Expected) → AnswersBy s e → Answers s e
unfolding AnswersBy file_of
answers_by s (refused v) h = h
answers_by s (accepted rounds windows orders links) h =
    let m = model_of s in
    (h.0, agree_listed (file_of m (planned m)) h.1 h.2 (orders_listed (link_number m) (clocked m) (planned m) ∙ h.3) h.4)

AllAnswerBy : List Case → Type 0
AllAnswerBy [] = Unit
AllAnswerBy (c ∷ cs) = AnswersBy c.job c.expected × AllAnswerBy cs

all_answer_by : (cs : List Case) → AllAnswerBy cs → AllAnswer cs
unfolding AllAnswerBy
all_answer_by [] h = h
all_answer_by (c ∷ cs) h = (answers_by c.job c.expected h.0, all_answer_by cs h.1)

infixr 10 ◌also◌
-- one case, and those after it
abbrev pub ◌also◌ : {A B : Type 0} → A → B → A × B
a also b = (a, b)

-- all three tables in one, since they compute by the same definitions
computed : AllAnswerBy starred × AllAnswerBy timed_cases × AllAnswerBy tie_cases
unfolding AllAnswerBy AnswersBy starred small nothing levelled marked timed_cases with_timed given_with_clock tie_cases given_at_five wants gives_own
    gives_other gives_clock
    free job_bytes timed_table tables_of edition_of joined offsets fact level step condition effect
    usage goal timed_fact u16_bytes u32_bytes listed window_of orders_of order_at ordered_pair ordered_if passing extend file_with file_of link_number nth_link u16_at
    u32_at biased_at largest least sum tabulate any all lowest lowest_owner header_width counts_of table_at positions_of job_of count_too_high
    edition_known marks_wrong layout_agrees ◌then◌ refuse_if refuse_lowest fact_ok level_ok step_ok condition_ok effect_ok use_ok goal_ok timed_ok both_ways uses_twice
    opposes_own set_before used_before opposes_any both_ways_step uses_twice_step opposes_own_step header_check table_check record_check
    against_step step_check timed_both_ways timed_conflicts timed_check form_check given_at last_given seen after_all rises_before falls_before meets
    conflicts breaks condition_fails passes level_fails undoes late goal_fails rule_check timing_check job_check producer earliest_produced
    tied favours supporter link_of condition_link goal_link support_order support_gap opposing_order opposing_gap before_order after_order condition_gap
    level_order level_gap need_gap gap_of clock_gap clock_limit limit_of clock_latest allowed latest_of demand raised after unchanged rounds earliest
computed = (
  (
      (refl, refl, refl, refl, refl)
      also (refl, refl, refl, refl, refl)
      also (refl, refl, refl, refl, refl)
      also refl
      also (refl, refl, refl, refl, refl)
      also (refl, refl, refl, refl, refl)
      also refl
      also (refl, refl, refl, refl, refl)
      also refl
      also (refl, refl, refl, refl, refl)
      also (refl, refl, refl, refl, refl)
      also (refl, refl, refl, refl, refl)
      also tt
      ),
  (
      (refl, refl, refl, refl, refl)
      also (refl, refl, refl, refl, refl)
      also (refl, refl, refl, refl, refl)
      also (refl, refl, refl, refl, refl)
      also (refl, refl, refl, refl, refl)
      also (refl, refl, refl, refl, refl)
      also (refl, refl, refl, refl, refl)
      also refl
      also refl
      also refl
      also refl
      also refl
      also refl
      also refl
      also tt
      ),
  (
      (refl, refl, refl, refl, refl)
      also (refl, refl, refl, refl, refl)
      also (refl, refl, refl, refl, refl)
      also (refl, refl, refl, refl, refl)
      also (refl, refl, refl, refl, refl)
      also (refl, refl, refl, refl, refl)
      also (refl, refl, refl, refl, refl)
      also tt
      ),
)

-- the definitions answer the whole table as the paper does, and those of timed facts and of ties
pub starred_answers : AllAnswer starred
starred_answers = all_answer_by starred computed.0

pub timed_answers : AllAnswer timed_cases
timed_answers = all_answer_by timed_cases computed.1

pub tie_answers : AllAnswer tie_cases
tie_answers = all_answer_by tie_cases computed.2

-- what is computed of a job with needs
FilesBy : NeedFile → Type 0
FilesBy f =
    let m = f.job in
    let c = file_of m (planned m) in
    (timing_check (clocked m) (planned m) ≡ Accepted) × (c.rounds ≡ f.rounds) × (listed c.steps (window_of c) ≡ f.windows)
    × (orders_of (clocked m) (planned m) ≡ f.orders) × (listed c.links c.link ≡ [])

files_by : (f : NeedFile) → FilesBy f → Files f
unfolding FilesBy file_of
files_by f h =
    let m = f.job in
    (h.0, agree_listed (file_of m (planned m)) h.1 h.2 (orders_listed (link_number m) (clocked m) (planned m) ∙ h.3) h.4)

AllFileBy : List NeedFile → Type 0
AllFileBy [] = Unit
AllFileBy (f ∷ fs) = FilesBy f × AllFileBy fs

all_file_by : (fs : List NeedFile) → AllFileBy fs → AllFile fs
unfolding AllFileBy
all_file_by [] h = h
all_file_by (f ∷ fs) h = (files_by f h.0, all_file_by fs h.1)

need_computed : AllFileBy need_files
unfolding AllFileBy FilesBy need_files shelves free unmoved listed window_of orders_of order_at ordered_pair ordered_if passing extend file_with file_of
    largest least sum tabulate any all lowest ◌then◌ refuse_if refuse_lowest rises_before falls_before falls_against unmet passes level_fails rule_check
    timing_check support_gap opposing_gap condition_gap level_order level_gap need_order use_order need_gap gap_of clock_gap clock_limit limit_of clock_latest
    latest_of demand raised after unchanged rounds earliest
need_computed =
    (refl, refl, refl, refl, refl)
    also (refl, refl, refl, refl, refl)
    also (refl, refl, refl, refl, refl)
    also (refl, refl, refl, refl, refl)
    also (refl, refl, refl, refl, refl)
    also (refl, refl, refl, refl, refl)
    also (refl, refl, refl, refl, refl)
    also (refl, refl, refl, refl, refl)
    also (refl, refl, refl, refl, refl)
    also (refl, refl, refl, refl, refl)
    also (refl, refl, refl, refl, refl)
    also tt

-- and that of needs
pub need_files_lem : AllFile need_files
need_files_lem = all_file_by need_files need_computed

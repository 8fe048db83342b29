-- What is filed of a job, "The order file": of the orders and limits that are found by the ticks of the planned schedule x.
use Rattle.std.specs.Prelude.{ℕ, ◌+◌, ◌-◌, ◌/◌, ◌%◌, Bool, ◌&&◌, not, cond, ltb, leb, eqb}
use Rattle.laws.specs.Nth.{count, nth}
use Rattle.job.specs.Layout.{most_effects}
use Rattle.job.specs.Model.{Model}
use Rattle.job.specs.Clocked.{behind, clocked}
use Rattle.order_file.specs.Contents.{Contents, initial_state}
use Rattle.orders.specs.Links.{nth_link}
use Rattle.orders.specs.Gaps.{gap_of}
use Rattle.orders.specs.Windows.{limit_of, latest_of}
use Rattle.rounds.specs.Rounds.{rounds, earliest}
use Rattle.order_file.specs.Contents.{gap_bias}
use Rattle.order_file.specs.Table.{row_width, table_size}

-- "The rounds end with the first that changes nothing"
abbrev pub rounds_of : Model → (ℕ → ℕ) → ℕ
rounds_of m x = rounds m.steps (gap_of m x) gap_bias (limit_of m x)

-- "Earliest times: begin with the earliest limits"
abbrev pub earliest_of : Model → (ℕ → ℕ) → ℕ → ℕ
earliest_of m x = earliest m.steps (gap_of m x) gap_bias (limit_of m x)

-- whether the pair of steps at entry q of a table is ordered
unfoldable pub ordered : Model → (ℕ → ℕ) → ℕ → Bool
ordered m x q = ltb (q / row_width) m.steps && ltb (q % row_width) m.steps && not (eqb (gap_of m x (q / row_width) (q % row_width)) 0)

-- "ascending by first, then second": the pair of order o
abbrev pub pair_of : Model → (ℕ → ℕ) → ℕ → ℕ
pair_of m x = nth table_size (ordered m x)

-- a timed fact's "link is 512 plus its number": the link to an effect of the job with its timed facts among its effects, and back
unfoldable pub link_number : Model → ℕ → ℕ
link_number m e = cond (eqb e initial_state) initial_state (behind m (λ k. k) (λ j. most_effects + j) e)

unfoldable pub linked_effect : Model → ℕ → ℕ
linked_effect m link = cond (leb most_effects link && not (eqb link initial_state)) (m.effects + (link - most_effects)) link

-- "Header", "Window, one a step", "Order", "Link", with the number of each link
unfoldable pub file_with : (ℕ → ℕ) → Model → (ℕ → ℕ) → Contents
file_with number m x =
    record {
      steps = m.steps;
      orders = count table_size (ordered m x);
      links = m.conditions + m.goals;
      rounds = rounds_of m x;
      limit = limit_of m x;
      latest = latest_of m x;
      earliest = earliest_of m x;
      first = λ o. pair_of m x o / row_width;
      second = λ o. pair_of m x o % row_width;
      gap = λ o. gap_of m x (pair_of m x o / row_width) (pair_of m x o % row_width);
      link = λ j. number (nth_link m x j);
    }

-- of a job, with its timed facts as effects of the clock
unfoldable pub file_of : Model → (ℕ → ℕ) → Contents
file_of m x = file_with (link_number m) (clocked m) x

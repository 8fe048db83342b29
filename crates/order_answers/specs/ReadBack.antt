-- What the reader answers about a file that holds given contents: "The reader returns the header's numbers, or one record".
use Rattle.std.specs.Prelude.{ℕ, ◌≤◌, ◌<◌, ◌≡◌, List, [], ◌∷◌, pos, Ok}
use Rattle.order_file.specs.Contents.{Contents, signed_gap}
use Rattle.order_file.specs.Layout.{file_edition, windows_at, orders_at, links_at}
use Rattle.order_answers.specs.Answers.{broken, header_read, record_count, record_read, record_values}
use Rattle.order_answers.specs.declared.Record.TheVariants.{Window, Order, Link}

pub record ReadBack (c : Contents) (file : List ℕ) : Type 0 where
  -- the edition, the counts, the rounds, and where the windows, the orders and the links begin
  pub header :
      header_read file
      ≡ Ok
      (record {
        edition = file_edition;
        steps = c.steps;
        orders = c.orders;
        links = c.links;
        rounds = c.rounds;
        windows_at = windows_at;
        orders_at = orders_at c.steps;
        links_at = links_at c.steps c.orders;
      })
  -- every window, order and link, by table and number
  pub windows : (k : ℕ) → k < c.steps → record_read file 0 k ≡ Ok (Window (c.limit k) (c.latest k) (c.earliest k))
  pub orders : (k : ℕ) → k < c.orders → record_read file 1 k ≡ Ok (Order (c.first k) (c.second k) (signed_gap (c.gap k)))
  pub links : (k : ℕ) → k < c.links → record_read file 2 k ≡ Ok (Link (c.link k))
  -- and nothing else
  pub nothing_else : (table k : ℕ) → record_count c table ≤ k → record_read file table k ≡ broken
  -- the values of each record
  pub window_values :
      (k : ℕ) → k < c.steps → record_values (record_read file 0 k) ≡ pos (c.limit k) ∷ pos (c.latest k) ∷ pos (c.earliest k) ∷ []
  pub order_values :
      (k : ℕ) → k < c.orders → record_values (record_read file 1 k) ≡ pos (c.first k) ∷ pos (c.second k) ∷ signed_gap (c.gap k) ∷ []
  pub link_values : (k : ℕ) → k < c.links → record_values (record_read file 2 k) ≡ pos (c.link k) ∷ pos 0 ∷ pos 0 ∷ []

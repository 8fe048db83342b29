-- Between crates: cases of the orders that needs give, one a sentence, each a job with needs and what is filed of it.
use Rattle.std.specs.Prelude.{ℕ, ◌≡◌, List, [], ◌∷◌}
use Rattle.verdict.specs.Verdict.{Accepted}
use Rattle.job.specs.Model.{Model}
use Rattle.job.specs.Clocked.{clocked}
use Rattle.validity.specs.Ticks.{planned}
use Rattle.validity.specs.Checks.{timing_check}
use Rattle.validity.specs.Needs.{above, below, usage, need, shelves}
use Rattle.order_file.specs.Contents.{no_latest}
use Rattle.order_file.specs.Agree.{Agree}
use Rattle.orders.specs.File.{file_of}
use Rattle.orders.specs.Starred.{Window, window, Order, order, plus, minus, contents_with}
use Rattle.orders.specs.Ties.{free}

-- a job, and what is filed of it; it has no links
pub record NeedFile : Type 0 where
  pub job : Model
  pub rounds : ℕ
  pub windows : List Window
  pub orders : List Order

-- the written starts are sound, and what is filed by them says this
abbrev pub Files : NeedFile → Type 0
Files f =
    (timing_check (clocked f.job) (planned f.job) ≡ Accepted)
    × Agree (file_of f.job (planned f.job)) (contents_with f.rounds f.windows f.orders [])

abbrev pub AllFile : List NeedFile → Type 0
AllFile [] = Unit
AllFile (f ∷ fs) = Files f × AllFile fs

-- neither of the two steps waits for the other
unfoldable pub unmoved : List Window
unmoved = free ∷ free ∷ []

unfoldable pub need_files : List NeedFile
need_files =
    -- "ordered as they lie": a need at tick 12, another step's use at 14
    record {
      job = shelves (usage 1 0 2 (below 1) ∷ []) (need 0 0 2 (above 2) ∷ []) 0;
      rounds = 2;
      windows = free ∷ window 0 no_latest 1 ∷ [];
      orders = order 0 1 (plus 1) ∷ [];
    }
    -- a use at tick 13, another step's need at 14; and the same of the other steps, so that the gap is below 0
    ∷ record {
      job = shelves (usage 0 0 3 (above 1) ∷ []) (need 1 0 2 (above 3) ∷ []) 0;
      rounds = 2;
      windows = free ∷ window 0 no_latest 2 ∷ [];
      orders = order 0 1 (plus 2) ∷ [];
    }
    ∷ record {
      job = shelves (usage 1 0 1 (above 1) ∷ []) (need 0 0 4 (above 3) ∷ []) 0;
      rounds = 1;
      windows = unmoved;
      orders = order 1 0 (minus 2) ∷ [];
    }
    -- a need between two uses of another step: both orders
    ∷ record {
      job = shelves (usage 1 0 0 (above 1) ∷ usage 1 0 3 (below 1) ∷ []) (need 0 0 3 (above 3) ∷ []) 0;
      rounds = 2;
      windows = free ∷ window 0 no_latest 1 ∷ [];
      orders = order 0 1 (plus 1) ∷ order 1 0 (minus 2) ∷ [];
    }
    -- "at different ticks": none at one tick, whether it falls or rises
    ∷ record {
      job = shelves (usage 1 0 2 (below 1) ∷ []) (need 0 0 4 (above 1) ∷ []) 0;
      rounds = 1;
      windows = unmoved;
      orders = [];
    }
    ∷ record {
      job = shelves (usage 1 0 2 (above 1) ∷ []) (need 0 0 4 (above 2) ∷ []) 0;
      rounds = 1;
      windows = unmoved;
      orders = [];
    }
    -- "another step's use": none with the own step's, before and after
    ∷ record {
      job = shelves (usage 0 0 1 (above 1) ∷ usage 0 0 5 (below 1) ∷ []) (need 0 0 4 (above 3) ∷ []) 0;
      rounds = 1;
      windows = unmoved;
      orders = [];
    }
    -- "of that level": none with a use of the other
    ∷ record {
      job = shelves (usage 1 1 1 (below 1) ∷ usage 1 1 3 (below 1) ∷ []) (need 0 0 4 (above 2) ∷ []) 0;
      rounds = 1;
      windows = unmoved;
      orders = [];
    }
    -- needs are not ordered with needs
    ∷ record {
      job = shelves [] (need 0 0 2 (above 2) ∷ need 1 0 2 (above 2) ∷ []) 0;
      rounds = 1;
      windows = unmoved;
      orders = [];
    }
    -- "the largest gap stays", of two needs and of a need and a use
    ∷ record {
      job = shelves (usage 1 0 2 (below 1) ∷ []) (need 0 0 1 (above 2) ∷ need 0 0 3 (above 2) ∷ []) 0;
      rounds = 2;
      windows = free ∷ window 0 no_latest 2 ∷ [];
      orders = order 0 1 (plus 2) ∷ [];
    }
    ∷ record {
      job = shelves (usage 0 0 3 (below 1) ∷ usage 1 0 2 (below 1) ∷ []) (need 0 0 1 (above 2) ∷ []) 0;
      rounds = 2;
      windows = free ∷ window 0 no_latest 2 ∷ [];
      orders = order 0 1 (plus 2) ∷ [];
    }
    ∷ []

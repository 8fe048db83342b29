-- When two order files are alike: "The order file", the sentence on two files. Rounds, earliest times and links do not count.
use Rattle.std.specs.Prelude.{ℕ, Bool, ◌&&◌, eqb}
use Rattle.laws.specs.Search.{all}
use Rattle.order_file.specs.Contents.{Contents}

-- as many steps and as many orders
unfoldable pub same_counts : Contents → Contents → Bool
same_counts c d = eqb c.steps d.steps && eqb c.orders d.orders

-- the limit and the latest start of a step
unfoldable pub same_window : Contents → Contents → ℕ → Bool
same_window c d k = eqb (c.limit k) (d.limit k) && eqb (c.latest k) (d.latest k)

-- an order
unfoldable pub same_order : Contents → Contents → ℕ → Bool
same_order c d k = eqb (c.first k) (d.first k) && eqb (c.second k) (d.second k) && eqb (c.gap k) (d.gap k)

-- all that counts
unfoldable pub alike_contents : Contents → Contents → Bool
alike_contents c d = same_counts c d && all c.steps (same_window c d) && all c.orders (same_order c d)

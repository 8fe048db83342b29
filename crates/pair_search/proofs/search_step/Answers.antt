-- The keys of the step's effects are listed, and searched by pairs.
use Prim.Native.Nat.{ℕ, ◌-◌}
use mathlib.Core.Path.{◌≡◌, ap, ◌∙◌}
use mathlib.Core.List.{List}
use native.Mathlib.Omega.{arith}
use lib.ListN.{length, take, drop, length-drop}
use lib.Seq.{take_all}
use Rattle.against.specs.Onward.{through_pairs}
use Rattle.pair_search.specs.Keys.{opposed}
use Rattle.pair_search.proofs.KeySearch.{step_keys}
use Rattle.pair_search.proofs.search_step.Goals as goal

-- a part that goes on to the end
rest_of : (low : ℕ) (keys : List ℕ) → take (length keys - low) (drop low keys) ≡ drop low keys
rest_of low keys = take_all (length keys - low) (drop low keys) (omega (arith, length-drop low keys))

pub list_keys-low-requires : goal.list_keys-low-requires
list_keys-low-requires c = c.requires

pub returns : goal.returns
returns c =
    let r = c.through_pairs.ensures in
    let p = c.requires in
    let part = rest_of c.list_keys-low.result c.list_keys-low.new.keys in
    record { value = (r.0 ∙ ap (through_pairs opposed) (part ∙ c.list_keys-low.ensures.listed.1) ∙ step_keys _ p.1 _, r.1); keys_len = c.list_keys-low.ensures.keys_len }

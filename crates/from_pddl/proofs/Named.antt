-- Names are looked at in what was said, whatever became of the text.
use Prim.Native.Nat.{ℕ}
use mathlib.Core.Path.{◌≡◌, refl}
use mathlib.Core.Bool.{Bool, true, false, cond}
use mathlib.Core.List.{List, []}
use Rattle.grammar.specs.Said.{Item}
use Rattle.grammar.specs.Reader.{read, refused}
use Rattle.supplied.specs.Names.{names_from, with_names}

pub names_first :
    (b : Bool) (is : List Item) (n l : ℕ)
    → with_names (cond b (read is) (refused n l is)) ≡ names_from [] is (cond b (read is) (refused n l is))
unfolding with_names
names_first true is n l = refl
names_first false is n l = refl

-- Between crates: the first item that may not stand behind those before it, the numbers of names, and the action of a name.
use Rattle.std.specs.Prelude.{ℕ, ◌+◌, ◌≤◌, ◌<◌, ◌≡◌, true, false, List, [], Option, Some, None, Result, Ok, Err, length, get_or, take, drop}
use Rattle.grammar.specs.Tree.{Word}
use Rattle.grammar.specs.Reader.{Outcome, refused}
use Rattle.notes.specs.Notes.{nothing, items_in, Sound}
use Rattle.supplied.specs.Names.{facts, levels, names_from, names_of}
use Rattle.supplied.specs.Plan.{has_action, behind}
use Rattle.job_notes.specs.Resolved.{Numbered}
use Rattle.naming.specs.Index.{unlinked, Indexed}
use Rattle.naming.specs.declared.Clash.{Clash}
use Rattle.naming.specs.declared.Names.{Names}

-- where no item is refused: the numbers of names, how many facts and levels there are, and an index of all
pub record AllNamed (text said numbers index : List ℕ) (r : Names) : Type 0 where
  pub numbered : Numbered (items_in text said) numbers
  pub facts : r.facts ≡ length (names_of facts (items_in text said))
  pub levels : r.levels ≡ length (names_of levels (items_in text said))
  pub indexed : Indexed (items_in text said) (length said) index

-- each item may stand behind those before it
pub record Standing (text said numbers index : List ℕ) (r : Names) : Type 0 where
  pub stands : (o : Outcome) → names_from [] (items_in text said) o ≡ o
  pub named : AllNamed text said numbers index r

-- an item may not
pub record Clashing (text said : List ℕ) (k : ℕ) : Type 0 where
  pub within : k < length said
  pub refuses :
      (o : Outcome) → names_from [] (items_in text said) o
      ≡ refused 18 (get_or (items_in text said) k nothing).line (take k (items_in text said))

abbrev pub Found : (text said numbers index : List ℕ) → Result Names Clash → Type 0
Found text said numbers index (Ok r) = Standing text said numbers index r
Found text said numbers index (Err c) = Clashing text said c.item

-- an item is the action of a name
pub record Acts (text said : List ℕ) (v : Word) (k : ℕ) : Type 0 where
  pub within : k < length said
  pub has : has_action v (items_in text said) ≡ true
  pub behind : behind v (items_in text said) ≡ drop (k + 1) (items_in text said)

-- the action of a name, or that there is none
abbrev pub ActionAt : (text said : List ℕ) → Word → Option ℕ → Type 0
ActionAt text said v (Some k) = Acts text said v k
ActionAt text said v None = has_action v (items_in text said) ≡ false

-- notes that lie in their text, few enough for an index
pub record Readable (text said : List ℕ) : Type 0 where
  pub few : length said ≤ unlinked
  pub each : (k : ℕ) → k < length said → Sound text (get_or said k 0)

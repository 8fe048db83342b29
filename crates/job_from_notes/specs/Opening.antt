-- Inner: what notes say of the beginning, of facts and of levels alike.
use Rattle.std.specs.Prelude.{ℕ, ◌<◌, ◌≡◌, Bool, cond, ◌&&◌, List, [], ◌∷◌, eqb, leb, length, get_or}
use Rattle.std.proofs.Math.Seq.{slice}
use Rattle.notes.specs.Notes.{role_in, stock_role, given_role}
use Rattle.job_notes.specs.Tables.{leading_noted}
use Rattle.job_from_notes.specs.declared.opening.Opening.{Opening}
use Rattle.job_from_notes.specs.declared.opening.Opening.TheVariants.{Fact, Level}

-- whether a note says something of it, and what: 1 of a fact, of a level the number behind
abbrev pub states : Opening → ℕ → Bool
states Fact w = leb given_role (role_in w)
states Level w = eqb (role_in w) stock_role

abbrev pub amount_in : Opening → List ℕ → ℕ
amount_in Fact ws = 1
amount_in Level ws = leading_noted ws

-- what notes say first of the one with a number
unfoldable pub stated_noted : Opening → List ℕ → List ℕ → ℕ → ℕ
stated_noted of [] ns f = 0
stated_noted of (w ∷ ws) [] f = 0
stated_noted of (w ∷ ws) (n ∷ ns) f = cond (states of w && eqb n f) (amount_in of ws) (stated_noted of ws ns f)

-- a list that holds what the notes from k on say
pub record Stated (of : Opening) (said numbers : List ℕ) (k : ℕ) (before list : List ℕ) : Type 0 where
  pub size : length list ≡ length before
  pub each :
      (f : ℕ) → f < length before
      → get_or list f 0 ≡ stated_noted of (slice k (length said) said) (slice k (length said) numbers) f

-- A list filled from the last note to the first holds what is said first; it is what notes say of facts and of levels.
use Prim.Native.Nat.{ℕ, ◌+◌, ◌-◌, ◌≤◌, ◌<◌}
use mathlib.Core.Path.{◌≡◌, refl, sym, ap, ◌∙◌}
use mathlib.Core.Bool.{Bool, true, false, cond, ◌&&◌}
use mathlib.Core.List.{List, [], ◌∷◌}
use native.Mathlib.Decide.{ℕ_discrete}
use native.Mathlib.Omega.{arith}
use borrow.Author.Tests.{eq-eqb, ne_eqb}
use lib.Dec.{eqb}
use lib.ListN.{length, get_or, set, length-set}
use lib.Seq.{slice, get_or-set_same, get_or-set_other}
use Rattle.little_endian.specs.Bytes.{u32_values}
use Rattle.notes.specs.Notes.{value_in, role_in}
use Rattle.job_notes.specs.Tables.{number_noted, leading_noted, initial_noted, amount_noted}
use Rattle.job_from_notes.specs.declared.opening.Opening.{Opening}
use Rattle.job_from_notes.specs.declared.opening.Opening.TheVariants.{Fact, Level}
use Rattle.job_from_notes.specs.Opening.{states, amount_in, stated_noted, Stated}
use Rattle.job_from_notes.proofs.Walk.{slice_next, slice_none}

length_put : (b : Bool) (list : List ℕ) (n v : ℕ) → length (cond b (set list n v) list) ≡ length list
length_put true list n v = length-set list n v
length_put false list n v = refl

get_d_put :
    (b : Bool) (list : List ℕ) (n v f : ℕ) → f < length list → get_or (cond b (set list n v) list) f 0 ≡ cond (b && eqb n f) v (get_or list f 0)
get_d_put false list n v f h = refl
get_d_put true list n v f h =
    elim (ℕ_discrete n f) [
      | yes q ↦ rw (eq-eqb n f q) (ap (λ j. get_or (set list j v) f 0) q ∙ get_or-set_same list f v 0 h)
      | no q ↦ rw (ne_eqb n f q) (get_or-set_other list n f v 0 (λ r. q (sym r)))
    ]

module _ (of : Opening) (said numbers before : List ℕ) where
  pub stated_start : ((f : ℕ) → f < length before → get_or before f 0 ≡ 0) → Stated of said numbers (length said) before before
  unfolding stated_noted
  stated_start z =
      let n = length said in
      let none = slice_none said n n (omega arith) (omega arith) in
      record { size = refl; each = λ f h. z f h ∙ sym (ap (λ ws. stated_noted of ws (slice n n numbers) f) none) }

  -- one note before the others
  stated_next :
      (j : ℕ) (list new : List ℕ) → j < length said → length said ≤ length numbers → Stated of said numbers (j + 1) before list
      → new ≡ cond (states of (get_or said j 0)) (set list (get_or numbers j 0) (amount_in of (slice (j + 1) (length said) said))) list
      → Stated of said numbers j before new
  unfolding stated_noted
  stated_next j list new h l v e =
      let b = states of (get_or said j 0) in
      let n = get_or numbers j 0 in
      let a = amount_in of (slice (j + 1) (length said) said) in
      record {
        size = ap length e ∙ length_put b list n a ∙ v.size;
        each = λ f m.
            rw (slice_next said (length said) j h (omega arith), slice_next numbers (length said) j h l)
            (ap (λ r. get_or r f 0) e
            ∙ get_d_put b list n a f (omega (arith, m, v.size))
            ∙ ap (λ r. cond (b && eqb n f) a r) (v.each f m));
      }

  pub stated_more :
      (k : ℕ) {list new : List ℕ} → 0 < k → k ≤ length said → length said ≤ length numbers → Stated of said numbers k before list
      → new ≡ cond (states of (get_or said (k - 1) 0)) (set list (get_or numbers (k - 1) 0) (amount_in of (slice (k - 1 + 1) (length said) said))) list
      → Stated of said numbers (k - 1) before new
  stated_more k {list} {new} z h l v e =
      let q : k ≡ k - 1 + 1 = omega arith in stated_next (k - 1) list new (omega arith) l (rw q at v) e

-- what notes say of facts and of levels
pub stated_fact : (ws ns : List ℕ) (f : ℕ) → stated_noted Fact ws ns f ≡ initial_noted ws ns f
unfolding stated_noted initial_noted
stated_fact [] ns f = refl
stated_fact (w ∷ ws) [] f = refl
stated_fact (w ∷ ws) (n ∷ ns) f = ap (λ r. cond (states Fact w && eqb n f) 1 r) (stated_fact ws ns f)

pub stated_level : (ws ns : List ℕ) (f : ℕ) → stated_noted Level ws ns f ≡ amount_noted ws ns f
unfolding stated_noted amount_noted
stated_level [] ns f = refl
stated_level (w ∷ ws) [] f = refl
stated_level (w ∷ ws) (n ∷ ns) f = ap (λ r. cond (states Level w && eqb n f) (leading_noted ws) r) (stated_level ws ns f)

-- a number that a test chooses is below what both are
below_either : (b : Bool) (x y m : ℕ) → x < m → y < m → cond b x y < m
below_either true x y m h l = h
below_either false x y m h l = l

-- a fact is 0 or 1, an amount a u32
pub initial_below : (ws ns : List ℕ) (f : ℕ) → initial_noted ws ns f < 2
unfolding initial_noted
initial_below [] ns f = omega arith
initial_below (w ∷ ws) [] f = omega arith
initial_below (w ∷ ws) (n ∷ ns) f = below_either (states Fact w && eqb n f) 1 (initial_noted ws ns f) 2 (omega arith) (initial_below ws ns f)

number_below : (w : ℕ) → number_noted w < u32_values
unfolding number_noted value_in
number_below w = below_either (eqb (role_in w) 0) (value_in w) 0 u32_values (omega arith) (omega arith)

leading_below : (ws : List ℕ) → leading_noted ws < u32_values
unfolding leading_noted
leading_below [] = omega arith
leading_below (w ∷ ws) = number_below w

pub amount_below : (ws ns : List ℕ) (f : ℕ) → amount_noted ws ns f < u32_values
unfolding amount_noted
amount_below [] ns f = omega arith
amount_below (w ∷ ws) [] f = omega arith
amount_below (w ∷ ws) (n ∷ ns) f =
    below_either (states Level w && eqb n f) (leading_noted ws) (amount_noted ws ns f) u32_values (leading_below ws) (amount_below ws ns f)

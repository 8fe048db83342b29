-- A list that holds what notes say of the beginning gives the bytes of facts and of levels.
use Prim.Native.Nat.{ℕ, zero, suc, ◌+◌, ◌≤◌, ◌<◌}
use mathlib.Core.Path.{◌≡◌, refl, ap, ap₂, subst, ◌∙◌}
use mathlib.Core.List.{List, [], ◌∷◌, ◌++◌}
use native.Mathlib.Omega.{arith}
use lib.ListN.{length, get_or, replicate, length-replicate, get_or-replicate}
use lib.Seq.{slice}
use Rattle.laws.specs.Listed.{concatenate}
use Rattle.little_endian.specs.Bytes.{u32_values}
use Rattle.job_encoding.specs.Encode.{level_row}
use Rattle.supplied.specs.Job.{level_from}
use Rattle.job_from_notes.specs.declared.opening.Opening.TheVariants.{Fact, Level}
use Rattle.job_from_notes.specs.Opening.{Stated}
use Rattle.job_from_notes.specs.Putting.{Put}
use Rattle.job_from_notes.specs.TableBytes.{byte_in, level_in, given_in, stock_in}
use Rattle.job_from_notes.proofs.Stated.{stated_fact, stated_level, initial_below, amount_below}

-- parts that agree below an index
pub parts_same : (f g : ℕ → List ℕ) (n : ℕ) → ((k : ℕ) → k < n → f k ≡ g k) → concatenate n f ≡ concatenate n g
unfolding concatenate
parts_same f g zero h = refl
parts_same f g (suc n) h = ap₂ (λ x y. x ++ y) (parts_same f g n (λ k l. h k (omega arith))) (h n (omega arith))

pub zeros : (n f : ℕ) → f < length {A = ℕ} (replicate n 0) → get_or {A = ℕ} (replicate n 0) f 0 ≡ 0
zeros n f h = get_or-replicate {A = ℕ} n f 0 0 (omega (arith, h, length-replicate {A = ℕ} n 0))

module _ (size : ℕ) (said numbers list : List ℕ) where
  module _ (v : Stated Fact said numbers 0 (replicate size 0) list) where
    given_each : (f : ℕ) → f < size → byte_in list f ≡ given_in said numbers f
    unfolding byte_in given_in
    given_each f h =
        ap (λ x. x ∷ [])
        (v.each f (omega (arith, h, length-replicate {A = ℕ} size 0)) ∙ stated_fact (slice 0 (length said) said) (slice 0 (length said) numbers) f)

    given_low : (f : ℕ) → f < size → get_or list f 0 < 256
    given_low f h =
        let e = v.each f (omega (arith, h, length-replicate {A = ℕ} size 0)) in
        let q = stated_fact (slice 0 (length said) said) (slice 0 (length said) numbers) f in
        omega (arith, e, q, initial_below (slice 0 (length said) said) (slice 0 (length said) numbers) f)

    module _ (n : ℕ) (h : n ≤ size) where
      given_same : concatenate n (byte_in list) ≡ concatenate n (given_in said numbers)
      given_same = parts_same (byte_in list) (given_in said numbers) n (λ k l. given_each k (omega arith))

      pub given_ready :
          (at m : ℕ) → at + length (concatenate n (given_in said numbers)) ≤ m
          → (at + length (concatenate n (byte_in list)) ≤ m) × (n ≤ length list) × ((f : ℕ) → f < n → get_or list f 0 < 256)
      given_ready at m r = (
        omega (arith, r, ap length given_same),
        omega (arith, v.size, length-replicate {A = ℕ} size 0),
        λ f l. given_low f (omega arith),
      )

      pub given_put :
          {before : List ℕ} {at place : ℕ} {out : List ℕ} → Put before at (concatenate n (byte_in list)) place out
          → Put before at (concatenate n (given_in said numbers)) place out
      given_put {before} {at} {place} {out} p = subst (λ l. Put before at l place out) given_same p

  module _ (v : Stated Level said numbers 0 (replicate size 0) list) where
    stock_each : (l : ℕ) → l < size → level_in list l ≡ stock_in said numbers l
    unfolding level_in stock_in
    stock_each l h =
        ap (λ x. level_row (level_from x))
        (v.each l (omega (arith, h, length-replicate {A = ℕ} size 0)) ∙ stated_level (slice 0 (length said) said) (slice 0 (length said) numbers) l)

    stock_low : (l : ℕ) → l < size → get_or list l 0 < u32_values
    stock_low l h =
        let e = v.each l (omega (arith, h, length-replicate {A = ℕ} size 0)) in
        let q = stated_level (slice 0 (length said) said) (slice 0 (length said) numbers) l in
        omega (arith, e, q, amount_below (slice 0 (length said) said) (slice 0 (length said) numbers) l)

    module _ (n : ℕ) (h : n ≤ size) where
      stock_same : concatenate n (level_in list) ≡ concatenate n (stock_in said numbers)
      stock_same = parts_same (level_in list) (stock_in said numbers) n (λ k l. stock_each k (omega arith))

      pub stock_ready :
          (at m : ℕ) → at + length (concatenate n (stock_in said numbers)) ≤ m
          → (at + length (concatenate n (level_in list)) ≤ m) × (n ≤ length list) × ((l : ℕ) → l < n → get_or list l 0 < u32_values)
      stock_ready at m r = (
        omega (arith, r, ap length stock_same),
        omega (arith, v.size, length-replicate {A = ℕ} size 0),
        λ l k. stock_low l (omega arith),
      )

      pub stock_put :
          {before : List ℕ} {at place : ℕ} {out : List ℕ} → Put before at (concatenate n (level_in list)) place out
          → Put before at (concatenate n (stock_in said numbers)) place out
      stock_put {before} {at} {place} {out} p = subst (λ l. Put before at l place out) stock_same p

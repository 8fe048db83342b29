-- Numbers read digit by digit: every byte passed is a digit, and the number is what they spell.
use Prim.Native.Nat.{ℕ, ◌+◌, ◌-◌, ◌*◌, ◌^◌, ◌≤◌, ◌<◌}
use mathlib.Core.Path.{◌≡◌, refl, sym, ap, subst, ◌∙◌}
use mathlib.Core.Bool.{Bool, true, false, ◌||◌, ◌&&◌, and-false}
use mathlib.Core.List.{List, [], ◌∷◌, ◌++◌}
use mathlib.Core.Logic.{⊎_elim}
use native.Mathlib.Omega.{arith}
use native.Mathlib.Nat.{pow-succ', pow-le-pow_right}
use native.Mathlib.Numerals.{add-one}
use lib.Dec.{eqb, leb, ltb}
use lib.ListN.{length, get_or, take, drop, drop_of_length-le}
use lib.Seq.{slice, take_all, length-take-le, take-suc, drop-append-le}
use borrow.Author.Tests.{eqb-true, eqb-false, ltb-true, ltb-false, leb-true, eq-eqb, ne_eqb, le-leb, lt-leb}
use Rattle.laws.specs.Search.{all}
use Rattle.laws.proofs.Search.{and_l, and_both, or_both, or_out, lowest_is, all_start, all_more, all_found, all_end}
use Rattle.spelling.specs.Names.{is_digit}
use Rattle.spelling.specs.Numbers.{are_digits, spelled_from, spelled, digits_of, Below}
use Rattle.spelling.specs.Numbers.{point_at, before_point, behind_point, is_time, ticks, time_of}
use Rattle.std.specs.Prelude.{Option, Some, None}
use Rattle.spelling.proofs.Digits.{digit_range}

spelled_more : (n : ℕ) (w : List ℕ) (b : ℕ) → spelled_from n (w ++ (b ∷ [])) ≡ 10 * spelled_from n w + (b - 48)
unfolding spelled_from
spelled_more n [] b = refl
spelled_more n (a ∷ w) b = spelled_more (10 * n + (a - 48)) w b

pub slice_more : (text : List ℕ) (at k : ℕ) → at ≤ k → k < length text → slice at (k + 1) text ≡ slice at k text ++ (get_or text k 0 ∷ [])
slice_more text at k h l =
    ap (λ n. drop at (take n text)) (add-one k) ∙ ap (drop at) (take-suc text k 0 l)
    ∙ drop-append-le at (take k text) (get_or text k 0 ∷ []) (let e = length-take-le k text (omega arith) in rw e h)

-- from one to so many bytes, of which those passed are digits that spell the number
pub record Counted (w : List ℕ) (most k n : ℕ) : Type 0 where
  pub some : 1 ≤ length w
  pub few : length w ≤ most
  pub each : all k (λ j. is_digit (get_or w j 0)) ≡ true
  pub value : n ≡ spelled (take k w)
  pub small : n < 10 ^ k

module _ (w : List ℕ) (most : ℕ) where
  pub counted_start : (eqb (length w) 0 || ltb most (length w)) ≡ false → Counted w most 0 0
  unfolding spelled_from
  counted_start f =
      let p = or_both (eqb (length w) 0) (ltb most (length w)) f in
      let ne = eqb-false (length w) 0 p.0 in
      record {
        some = omega arith;
        few = ltb-false most (length w) p.1;
        each = all_start (λ j. is_digit (get_or w j 0));
        value = refl;
        small = omega arith;
      }

  pub counted_fits : {k n : ℕ} → Counted w most k n → k < length w → most ≤ 9 → n < 100000000
  counted_fits {k} {n} c h m =
      let p : 10 ^ k ≤ 100000000 = pow-le-pow_right {n = 10} (omega arith) {i = k} {j = 8} (omega (arith, c.few)) in
      omega (arith, c.small)

  pub counted_more :
      (k n n' : ℕ) → Counted w most k n → k < length w → is_digit (get_or w k 0) ≡ true → n' ≡ 10 * n + (get_or w k 0 - 48) →
      Counted w most (k + 1) n'
  counted_more k n n' c h e g =
      let d = digit_range e in
      record {
        some = c.some;
        few = c.few;
        each = all_more (λ j. is_digit (get_or w j 0)) k c.each refl e;
        value =
            g ∙ ap (λ m. 10 * m + (get_or w k 0 - 48)) c.value
            ∙ sym (ap spelled (ap (λ i. take i w) (add-one k) ∙ take-suc w k 0 h) ∙ spelled_more 0 (take k w) (get_or w k 0));
        small = rw (add-one k, pow-succ' 10 k) (omega (arith, c.small));
      }

  too_few : (eqb (length w) 0 || ltb most (length w)) ≡ true → (leb 1 (length w) && leb (length w) most) ≡ false
  too_few e =
      ⊎_elim
      (λ (x : eqb (length w) 0 ≡ true). let q = eqb-true (length w) 0 x in let z : length w < 1 = omega arith in rw (lt-leb 1 (length w) z))
      (λ (x : ltb most (length w) ≡ true). rw (lt-leb (length w) most (ltb-true most (length w) x), and-false))
      (or_out (eqb (length w) 0) (ltb most (length w)) e)

  pub digits_none : (eqb (length w) 0 || ltb most (length w)) ≡ true → None ≡ digits_of most w
  unfolding digits_of are_digits
  digits_none e = rw (too_few e)

  pub digits_other : (k n : ℕ) → Counted w most k n → k < length w → is_digit (get_or w k 0) ≡ false → None ≡ digits_of most w
  unfolding digits_of are_digits
  digits_other k n c h e = rw (← all_found (λ j. is_digit (get_or w j 0)) (length w) k h refl e, and-false)

  pub digits_all :
      (k n : ℕ) → Counted w most k n → k ≤ length w → length w ≤ k → (Some n ≡ digits_of most w) × Below most (Some n)
  unfolding digits_of are_digits
  digits_all k n c h g =
      let p : 10 ^ k ≤ 10 ^ most = pow-le-pow_right {n = 10} (omega arith) {i = k} {j = most} (omega (arith, c.few)) in
      (rw (counted, ← all_end (λ j. is_digit (get_or w j 0)) (length w) k c.each h g) value, omega (arith, c.small))
    where
      counted : (leb 1 (length w) && leb (length w) most) ≡ true
      counted = rw (le-leb 1 (length w) c.some, le-leb (length w) most c.few)

      value : Some n ≡ Some (spelled w)
      value = ap Some (c.value ∙ ap spelled (take_all k w g))

-- what digits said
pub digits_are : (most : ℕ) (w : List ℕ) {n : ℕ} → Some n ≡ digits_of most w → (are_digits most w ≡ true) × (n ≡ spelled w)
unfolding digits_of
digits_are most w {n} e = go (are_digits most w) refl
  where
    go : (b : Bool) → are_digits most w ≡ b → (are_digits most w ≡ true) × (n ≡ spelled w)
    go true f = (f, let g : Some n ≡ Some (spelled w) = e ∙ rw f in cc)
    go false f = absurd (let g : Some n ≡ None = e ∙ rw f in let z : ◌≡◌ {A = ℕ} 0 1 = cc in omega arith)

pub digits_not : (most : ℕ) (w : List ℕ) → None ≡ digits_of most w → are_digits most w ≡ false
unfolding digits_of
digits_not most w e = go (are_digits most w) refl
  where
    go : (b : Bool) → are_digits most w ≡ b → are_digits most w ≡ false
    go true f = absurd (let g : None ≡ Some (spelled w) = e ∙ rw f in let z : ◌≡◌ {A = ℕ} 0 1 = cc in omega arith)
    go false f = f

pub digits_count : (most : ℕ) (w : List ℕ) {n : ℕ} → Some n ≡ digits_of most w → (1 ≤ length w) × (length w ≤ most)
unfolding are_digits
digits_count most w e =
    let p = and_l (leb 1 (length w) && leb (length w) most) _ (digits_are most w e).0 in
    let q = and_both (leb 1 (length w)) (leb (length w) most) p in
    (leb-true 1 (length w) q.0, leb-true (length w) most q.1)

pub below : (most : ℕ) {n : ℕ} {r : Option ℕ} → r ≡ Some n → Below most r → n < 10 ^ most
below most e b = subst (λ (r : Option ℕ). Below most r) e b

-- the first point of a word, or its end where it has none
module _ (w : List ℕ) where
  pub point_found :
      (k : ℕ) → k < length w → get_or w k 0 ≡ 46 → ((j : ℕ) → j < k → get_or w j 0 ≡ 46 → ⊥) → k ≡ point_at w
  unfolding point_at
  point_found k h e f =
      sym (lowest_is (λ j. eqb (get_or w j 0) 46) (length w) k (omega arith) (λ j l. ne_eqb _ _ (f j l)) (λ _. eq-eqb _ _ e))

  pub point_nowhere : ((j : ℕ) → j < length w → get_or w j 0 ≡ 46 → ⊥) → length w ≡ point_at w
  unfolding point_at
  point_nowhere f =
      sym
      (lowest_is (λ j. eqb (get_or w j 0) 46) (length w) (length w) (omega arith) (λ j l. ne_eqb _ _ (f j l)) (λ l. absurd (omega arith)))

-- a time, in the parts before and behind its point
module _ (w : List ℕ) (point : ℕ) (p : point ≡ point_at w) where
  before_is : before_point w ≡ take point w
  before_is = ap (λ n. take n w) (sym p)

  pub time_none : None ≡ digits_of 6 (take point w) → None ≡ time_of w
  unfolding time_of is_time
  time_none e = rw (before_is, digits_not 6 _ e)

  pub time_whole : {n : ℕ} → Some n ≡ digits_of 6 (take point w) → point ≡ length w → Some (1000 * n) ≡ time_of w
  unfolding time_of is_time ticks spelled_from
  time_whole {n} e q =
      let d = digits_are 6 _ e in
      let none : behind_point w ≡ [] = drop_of_length-le w {i = point_at w + 1} (omega (arith, p)) in
      let whole : eqb (point_at w) (length w) ≡ true = eq-eqb _ _ (sym p ∙ q) in
      rw (before_is, d.0, whole, none) (ap Some (ap (λ m. 1000 * m) d.1 ∙ sum))
    where
      sum : 1000 * spelled (take point w) ≡ 1000 * spelled (take point w) + 0
      sum = omega arith

  -- the decimals are what stands behind the point
  module _ (decimals : List ℕ) (b : decimals ≡ drop (point + 1) w) {n : ℕ} (e : Some n ≡ digits_of 6 (take point w)) (q : point ≡ length w → ⊥) where
    behind_is : behind_point w ≡ decimals
    behind_is = sym (b ∙ ap (λ n. drop (n + 1) w) p)

    parted : eqb (point_at w) (length w) ≡ false
    parted = ne_eqb (point_at w) (length w) (λ e. q (p ∙ e))

    pub time_odd : None ≡ digits_of 3 decimals → None ≡ time_of w
    unfolding time_of is_time
    time_odd f = rw (before_is, (digits_are 6 _ e).0, parted, behind_is, digits_not 3 _ f)

    pub time_parts :
        {part rest : ℕ} → Some part ≡ digits_of 3 decimals → rest ≡ part * 10 ^ (3 - length decimals) → Some (1000 * n + rest) ≡ time_of w
    unfolding time_of is_time ticks
    time_parts {part} {rest} f g =
        let d = digits_are 6 _ e in
        let s = digits_are 3 _ f in
        let r : rest ≡ spelled decimals * 10 ^ (3 - length decimals) = g ∙ ap (λ m. m * 10 ^ (3 - length decimals)) s.1 in
        rw (before_is, d.0, parted, behind_is, s.0)
        (ap Some (ap (λ m. 1000 * n + m) r ∙ ap (λ m. 1000 * m + spelled decimals * 10 ^ (3 - length decimals)) d.1))

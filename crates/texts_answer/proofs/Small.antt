-- Numbers that the grammar allows have at most nine digits.
use Prim.Native.Nat.{ℕ, zero, suc, ◌+◌, ◌-◌, ◌*◌, ◌^◌, ◌≤◌, ◌<◌}
use mathlib.Core.Path.{◌≡◌, refl, sym, ap, ◌∙◌}
use mathlib.Core.Bool.{Bool, true, ◌||◌, ◌&&◌}
use mathlib.Core.Logic.{⊎_elim}
use mathlib.Core.List.{List, [], ◌∷◌, ◌++◌}
use native.Mathlib.Nat.{mul_assoc, mul-le-mul_right, pow-succ', pow-le-pow_right}
use native.Mathlib.Omega.{arith}
use borrow.Author.Tests.{eqb-true, leb-true}
use lib.Dec.{eqb, leb}
use lib.ListN.{length, get_or, drop}
use Rattle.laws.specs.Search.{all}
use Rattle.laws.proofs.Search.{and_both, and_l, and_r, or_out, all_elim}
use Rattle.spelling.specs.Names.{is_digit}
use Rattle.spelling.specs.Numbers.{are_digits, spelled_from, spelled, is_whole, point_at, before_point, behind_point, is_time, ticks}
use Rattle.spelling.proofs.Digits.{digit_range}
use Rattle.grammar.specs.Said.{Point, Place, wanted, set, reached, Said}
use Rattle.grammar.specs.Tree.{Literal, plain, negated, Change, sets, increases, decreases, Kind, conditions, effects, goals}
use Rattle.grammar.specs.Tree.{Leaf, Tree, one, both, Trees, none, more, Action, Init, holds, level, Text}
use Rattle.grammar.specs.Tree.{Line, Plan, nothing, last, blank, then}
use Rattle.grammar.specs.Saying.{literal_says, change_says, leaf_says, tree_says, trees_say, action_says, actions_say, init_says, inits_say, text_says}
use Rattle.grammar.specs.Saying.{line_says, plan_says}
use Rattle.grammar.specs.Allowed.{ChangeOk, LeafOk, TreeOk, TreesOk, ActionOk, ActionsOk, InitOk, InitsOk, TextOk, LineOk, PlanOk}
use Rattle.supplied.specs.Plan.{number_in}

-- a number with one more digit
one_more : (n d p : ℕ) → d ≤ 9 → (10 * n + d + 1) * p ≤ (n + 1) * (10 * p)
one_more n d p h =
    let l : (10 * n + d + 1) * p ≤ ((n + 1) * 10) * p = mul-le-mul_right p (omega arith) in
    rw (sym (mul_assoc (n + 1) 10 p)) l

spelled_below :
    (w : List ℕ) (n : ℕ) → ((k : ℕ) → k < length w → is_digit (get_or w k 0) ≡ true) → spelled_from n w < (n + 1) * 10 ^ length w
unfolding spelled_from
spelled_below [] n h = omega arith
spelled_below (b ∷ w) n h =
    let r = digit_range (h 0 (omega arith)) in
    let p = spelled_below w (10 * n + (b - 48)) (λ k l. h (suc k) (omega arith)) in
    rw (pow-succ' 10 (length w)) (omega (arith, p, one_more n (b - 48) (10 ^ length w) (omega (arith, r.1))))

-- so many digits spell a number below that power of ten
digits_below : (most : ℕ) (w : List ℕ) → are_digits most w ≡ true → (spelled w < 10 ^ length w) × (1 ≤ length w) × (length w ≤ most)
unfolding are_digits
digits_below most w e =
    let counts = leb 1 (length w) && leb (length w) most in
    let digits : ℕ → Bool = λ k. is_digit (get_or w k 0) in
    let p = spelled_below w 0 (all_elim digits (length w) (and_r counts (all (length w) digits) e)) in
    let q = and_l counts (all (length w) digits) e in
    let both = and_both (leb 1 (length w)) (leb (length w) most) q in
    (omega (arith, p), leb-true 1 (length w) both.0, leb-true (length w) most both.1)

-- at most so many digits
power_below : (n k most : ℕ) → n < 10 ^ k → k ≤ most → n < 10 ^ most
power_below n k most h l =
    let p : 10 ^ k ≤ 10 ^ most = pow-le-pow_right {n = 10} (omega arith) {i = k} {j = most} l in
    omega (arith, h, p)

whole_small : (w : List ℕ) → is_whole w ≡ true → spelled w < 1000000000
unfolding is_whole
whole_small w e = let d = digits_below 9 w e in power_below (spelled w) (length w) 9 d.0 d.2

-- the thousandths behind a point
part_below : (n k : ℕ) → n < 10 ^ k → 1 ≤ k → k ≤ 3 → n * 10 ^ (3 - k) < 1000
part_below n zero h l m = absurd (omega arith)
part_below n (suc zero) h l m = omega arith
part_below n (suc (suc zero)) h l m = omega arith
part_below n (suc (suc (suc zero))) h l m = omega arith
part_below n (suc (suc (suc (suc k)))) h l m = absurd (omega arith)

drop_past : (k : ℕ) (l : List ℕ) → length l ≤ k → drop k l ≡ []
drop_past zero [] h = refl
drop_past zero (a ∷ l) h = absurd (omega arith)
drop_past (suc k) [] h = refl
drop_past (suc k) (a ∷ l) h = drop_past k l (omega arith)

behind_small : (w : List ℕ) → (eqb (point_at w) (length w) || are_digits 3 (behind_point w)) ≡ true
    → spelled (behind_point w) * 10 ^ (3 - length (behind_point w)) < 1000
unfolding spelled_from
behind_small w e =
    ⊎_elim
    (λ p.
    let q : behind_point w ≡ [] = ap (λ k. drop (k + 1) w) (eqb-true (point_at w) (length w) p) ∙ drop_past (length w + 1) w (omega arith) in
    rw q (omega arith))
    (λ d. let r = digits_below 3 (behind_point w) d in part_below _ _ r.0 r.1 r.2)
    (or_out (eqb (point_at w) (length w)) (are_digits 3 (behind_point w)) e)

time_small : (w : List ℕ) → is_time w ≡ true → ticks w < 1000000000
unfolding is_time ticks
time_small w e =
    let parted = eqb (point_at w) (length w) || are_digits 3 (behind_point w) in
    let d = digits_below 6 (before_point w) (and_l (are_digits 6 (before_point w)) parted e) in
    let n = power_below (spelled (before_point w)) (length (before_point w)) 6 d.0 d.2 in
    omega (arith, n, behind_small w (and_r (are_digits 6 (before_point w)) parted e))

-- everything that is said, with numbers below a thousand million
abbrev pub SmallSaid : List Said → Type 0
SmallSaid [] = Unit
SmallSaid (s ∷ ss) = (number_in s < 1000000000) × SmallSaid ss

small_append : (a b : List Said) → SmallSaid a → SmallSaid b → SmallSaid (a ++ b)
small_append [] b p q = q
small_append (s ∷ a) b p q = (p.0, small_append a b p.1 q)

small_literal : (p : Place) (l : Literal) → SmallSaid (literal_says p l)
unfolding literal_says number_in
small_literal p (plain n) = (omega arith, tt)
small_literal p (negated n) = (omega arith, tt)

small_change : (q : Point) (c : Change) → ChangeOk c → SmallSaid (change_says q c)
unfolding change_says number_in
small_change q (sets l) h = small_literal (set q) l
small_change q (increases n w) h = (omega arith, (whole_small w h.1, tt))
small_change q (decreases n w) h = (omega arith, (whole_small w h.1, tt))

small_leaf : (k : Kind) (a : Leaf k) → LeafOk k a → SmallSaid (leaf_says k a)
unfolding leaf_says
small_leaf conditions c h = small_literal (wanted c.when) c.what
small_leaf effects e h = small_change e.at e.what h
small_leaf goals l h = small_literal reached l

mutual
  unfolding tree_says

  small_tree : (n : ℕ) (k : Kind) (t : Tree k) → TreeOk n k t → SmallSaid (tree_says k t)
  small_tree n k (one a) h = small_leaf k a h
  small_tree zero k (both ts) h = absurd h
  small_tree (suc n) k (both ts) h = small_trees n k ts h

  small_trees : (n : ℕ) (k : Kind) (ts : Trees k) → TreesOk n k ts → SmallSaid (trees_say k ts)
  small_trees n k none h = tt
  small_trees n k (more t ts) h = small_append (tree_says k t) (trees_say k ts) (small_tree n k t h.0) (small_trees n k ts h.1)

small_action : (n : ℕ) (a : Action) → ActionOk n a → SmallSaid (action_says a)
unfolding action_says number_in
small_action n a h = (
  omega arith,
  (
    time_small a.duration h.timed,
    small_append (tree_says conditions a.condition) (tree_says effects a.effect)
        (small_tree n conditions a.condition h.condition)
        (small_tree n effects a.effect h.effect),
  ),
)

small_actions : (n : ℕ) (bs : List Action) → ActionsOk n bs → SmallSaid (actions_say bs)
unfolding actions_say
small_actions n [] h = tt
small_actions n (a ∷ bs) h = small_append (action_says a) (actions_say bs) (small_action n a h.0) (small_actions n bs h.1)

small_init : (i : Init) → InitOk i → SmallSaid (init_says i)
unfolding init_says number_in
small_init (holds n) h = (omega arith, tt)
small_init (level n w) h = (omega arith, (whole_small w h.1, tt))

small_inits : (is : List Init) → InitsOk is → SmallSaid (inits_say is)
unfolding inits_say
small_inits [] h = tt
small_inits (i ∷ is) h = small_append (init_says i) (inits_say is) (small_init i h.0) (small_inits is h.1)

pub small_text : (n : ℕ) (t : Text) → TextOk n t → SmallSaid (text_says t)
unfolding text_says
small_text n t h =
    small_append (actions_say t.actions ++ inits_say t.init) (tree_says goals t.goal)
    (small_append (actions_say t.actions) (inits_say t.init) (small_actions n t.actions h.actions) (small_inits t.init h.init))
    (small_tree n goals t.goal h.goal)

small_line : (l : Line) → LineOk l → SmallSaid (line_says l)
unfolding line_says number_in
small_line l h = (time_small l.start h.start, (omega arith, (time_small l.duration h.timed, tt)))

pub small_plan : (p : Plan) → PlanOk p → SmallSaid (plan_says p)
unfolding plan_says
small_plan nothing h = tt
small_plan (last l) h = small_line l h
small_plan (blank p) h = small_plan p h
small_plan (then l p) h = small_append (line_says l) (plan_says p) (small_line l h.0) (small_plan p h.1)

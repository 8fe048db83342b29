-- The lines of a plan by their notes, whether a line differs, and lines one by one.
use Prim.Native.Nat.{ℕ, zero, suc, ◌+◌, ◌*◌, ◌/◌, ◌≤◌, ◌<◌}
use mathlib.Core.Path.{◌≡◌, refl, sym, ap, subst, ◌∙◌}
use mathlib.Core.Bool.{true, false, not}
use mathlib.Core.List.{List, [], ◌∷◌}
use mathlib.Core.Logic.{⊎_elim}
use native.Mathlib.Nat.{not-suc-le-zero}
use native.Mathlib.Decide.{dec_lt, ℕ_discrete}
use native.Mathlib.Omega.{arith}
use borrow.Author.Tests.{eq-eqb, ne_eqb}
use lib.Dec.{eqb}
use lib.ListN.{length, get_or, set, drop, length-map, length-set, drop_of_length-le}
use lib.Seq.{slice, length-slice, drop-cons, get_or-set_same, get_or-set_other}
use Rattle.laws.proofs.Search.{either}
use Rattle.grammar.specs.Said.{action, name, Item}
use Rattle.notes.specs.Notes.{value_in, line_in, role_in, name_at, name_end, said_in, item_in, items_in, nothing}
use Rattle.supplied.specs.Plan.{number_in, word_in, Line, lines_of, is_action, has_action, behind, leading, differs}
use Rattle.naming.specs.Index.{said_at}
use Rattle.naming.specs.Named.{Readable}
use Rattle.naming.specs.Named as naming
use Rattle.naming.proofs.Firsts.{item_at, number_at_lem, name_at_lem}
use Rattle.naming.proofs.Acting.{action_name, no_action}
use Rattle.plan_check.specs.Checked.{line_at, Differing, Agreeing}
use Rattle.plan_check.specs.LineAction.{Acts, Upto}

-- the number that a note says
pub number_says : (text : List ℕ) (note : ℕ) {v : ℕ} → role_in note ≡ 0 → v ≡ value_in note → v ≡ number_in (said_in text note)
unfolding said_in number_in
number_says text note e q = q ∙ rw (eq-eqb (role_in note) 0 e) refl

pub name_says : (text : List ℕ) (note : ℕ) → (role_in note ≡ 0 → ⊥) → 0 ≡ number_in (said_in text note)
unfolding said_in number_in
name_says text note f = rw (ne_eqb (role_in note) 0 f) refl

pub leading_at :
    (said : List ℕ) (k : ℕ) {v : ℕ} (text : List ℕ) → k < length said
    → v ≡ number_in (said_in text (get_or said k 0)) → v ≡ leading (drop k (items_in text said))
unfolding leading item_in
leading_at said k text l e =
    let h : k < length (items_in text said) = omega (arith, length-map said (item_in text)) in
    e ∙ sym (ap leading (drop-cons (items_in text said) k nothing h) ∙ ap (λ (i : Item). number_in i.said) (item_at text said k))

pub leading_none : (said : List ℕ) (k : ℕ) (text : List ℕ) → length said ≤ k → 0 ≡ leading (drop k (items_in text said))
unfolding leading
leading_none said k text l =
    let h : length (items_in text said) ≤ k = omega (arith, length-map said (item_in text)) in
    sym (ap leading (drop_of_length-le (items_in text said) h))

-- three notes make a line
lines_count : (is : List Item) → length (lines_of is) ≡ length is / 3
unfolding lines_of
lines_count [] = omega arith
lines_count (a ∷ []) = omega arith
lines_count (a ∷ b ∷ []) = omega arith
lines_count (a ∷ b ∷ c ∷ is) = let e = lines_count is in omega arith

module _ (plan : List ℕ) where
  noted_line : ℕ → ℕ → ℕ → Line
  noted_line a b c =
      record { start = number_in (said_in plan a); action = word_in (said_in plan b); duration = number_in (said_in plan c); line = line_in b }

  lines_at :
      (notes : List ℕ) (s : ℕ) → 3 * s + 2 < length notes
      → line_at plan notes s ≡ noted_line (get_or notes (3 * s) 0) (get_or notes (3 * s + 1) 0) (get_or notes (3 * s + 2) 0)
  unfolding lines_of item_in noted_line
  lines_at [] s h = absurd (omega arith)
  lines_at (a ∷ []) s h = absurd (omega arith)
  lines_at (a ∷ b ∷ []) s h = absurd (omega arith)
  lines_at (a ∷ b ∷ c ∷ notes) zero h = refl
  lines_at (a ∷ b ∷ c ∷ notes) (suc s) h =
      let p : 3 * suc s ≡ suc (suc (suc (3 * s))) = omega arith in
      let q : 3 * suc s + 1 ≡ suc (suc (suc (3 * s + 1))) = omega arith in
      let r : 3 * suc s + 2 ≡ suc (suc (suc (3 * s + 2))) = omega arith in
      rw (q, r, p) (lines_at notes s (omega arith))

-- no name is empty
unnamed : (text said : List ℕ) → Readable text said → has_action [] (items_in text said) ≡ false
unnamed text said sound =
    no_action [] (items_in text said)
    (λ j l.
    ⊎_elim
    (λ (t : is_action [] (said_at (items_in text said) j) ≡ true).
    absurd (full j (omega (arith, l, length-map said (item_in text))) (action_name (said_at (items_in text said) j) t)))
    (λ (f : is_action [] (said_at (items_in text said) j) ≡ false). f)
    (either (is_action [] (said_at (items_in text said) j))))
  where
    full : (j : ℕ) → j < length said → said_at (items_in text said) j ≡ name action [] → ⊥
    full j l e =
        elim (ℕ_discrete (role_in (get_or said j 0)) 0) [
          | yes z ↦ let n = number_at_lem text said j z in let q : ◌≡◌ {A = ℕ} 0 1 = cc in omega arith
          | no z ↦
              let n = name_at_lem text said j z in
              let w : slice (name_at (get_or said j 0)) (name_end (get_or said j 0)) text ≡ [] = cc in
              let long = length-slice (name_at (get_or said j 0)) (name_end (get_or said j 0)) text ((sound.each j l).inside z) in
              omega (arith, ap length w, long, (sound.each j l).begins z)
        ]

-- a line of which no action has the name, and one that has an action
none_differs : (is : List Item) (l : Line) → has_action l.action is ≡ false → differs is l ≡ true
unfolding differs
none_differs is l e = rw e refl

some_differs :
    (is : List Item) (l : Line) {a b : ℕ} → has_action l.action is ≡ true → leading (behind l.action is) ≡ a → l.duration ≡ b
    → differs is l ≡ not (eqb a b)
unfolding differs
some_differs is l e p q = rw (e, p, q) refl

module _ (text said plan lines : List ℕ) (s : ℕ) (h : 3 * s + 2 < length lines) where
  the_line : line_at plan lines s ≡ noted_line plan (get_or lines (3 * s) 0) (get_or lines (3 * s + 1) 0) (get_or lines (3 * s + 2) 0)
  the_line = lines_at plan lines s h

  line_of : (line_at plan lines s).line ≡ line_in (get_or lines (3 * s + 1) 0)
  unfolding noted_line
  line_of = ap (λ (l : Line). l.line) the_line

  duration_of : (line_at plan lines s).duration ≡ number_in (said_in plan (get_or lines (3 * s + 2) 0))
  unfolding noted_line
  duration_of = ap (λ (l : Line). l.duration) the_line

  action_of : (line_at plan lines s).action ≡ word_in (said_in plan (get_or lines (3 * s + 1) 0))
  unfolding noted_line
  action_of = ap (λ (l : Line). l.action) the_line

  -- differs, as none has its name
  differing : has_action (line_at plan lines s).action (items_in text said) ≡ false → differs (items_in text said) (line_at plan lines s) ≡ true
  differing = none_differs (items_in text said) (line_at plan lines s)

  pub line_unnamed : Readable text said → role_in (get_or lines (3 * s + 1) 0) ≡ 0 → differs (items_in text said) (line_at plan lines s) ≡ true
  unfolding word_in said_in
  line_unnamed sound e =
      differing
      (ap (λ w. has_action w (items_in text said)) (action_of ∙ rw (eq-eqb (role_in (get_or lines (3 * s + 1) 0)) 0 e) refl)
      ∙ unnamed text said sound)

  module _ (ne : role_in (get_or lines (3 * s + 1) 0) ≡ 0 → ⊥) {at end : ℕ} (at-is : at ≡ name_at (get_or lines (3 * s + 1) 0))
      (end_is : end ≡ name_end (get_or lines (3 * s + 1) 0)) where
    word_of : (line_at plan lines s).action ≡ slice at end plan
    unfolding word_in said_in
    word_of = action_of ∙ rw (ne_eqb (role_in (get_or lines (3 * s + 1) 0)) 0 ne, at-is, end_is) refl

    pub line_none : has_action (slice at end plan) (items_in text said) ≡ false → differs (items_in text said) (line_at plan lines s) ≡ true
    line_none e = differing (ap (λ w. has_action w (items_in text said)) word_of ∙ e)

    module _ {r : ℕ} (found : naming.Acts text said (slice at end plan) r) {a b : ℕ} (a-is : a ≡ leading (drop (r + 1) (items_in text said)))
        (b-is : b ≡ number_in (said_in plan (get_or lines (3 * s + 2) 0))) where
      differs_so : differs (items_in text said) (line_at plan lines s) ≡ not (eqb a b)
      differs_so =
          some_differs (items_in text said) (line_at plan lines s) (ap (λ w. has_action w (items_in text said)) word_of ∙ found.has)
          (ap (λ w. leading (behind w (items_in text said))) word_of ∙ ap leading found.behind ∙ sym a-is) (duration_of ∙ sym b-is)

      pub line_other : (a ≡ b → ⊥) → differs (items_in text said) (line_at plan lines s) ≡ true
      line_other f = differs_so ∙ rw (ne_eqb a b f) refl

      pub line_found : a ≡ b → Acts (items_in text said) (line_at plan lines s) (r + 1)
      line_found e = record {
        within = omega (arith, found.within, length-map said (item_in text));
        same = differs_so ∙ rw (eq-eqb a b e) refl;
        behind = ap (λ w. behind w (items_in text said)) word_of ∙ found.behind;
      }

-- lines one by one
module _ (text said plan lines : List ℕ) where
  pub upto_start : (acts : List ℕ) → length acts ≡ 64 → Upto text said plan lines acts 0
  upto_start acts e = record {
    size = e;
    same = λ j l. absurd (not-suc-le-zero l);
    act = λ j l. absurd (not-suc-le-zero l);
    behind = λ j l. absurd (not-suc-le-zero l);
  }

  count : length (lines_of (items_in plan lines)) ≡ length lines / 3
  count = lines_count (items_in plan lines) ∙ ap (λ n. n / 3) (length-map lines (item_in plan))

  module _ {acts : List ℕ} (s : ℕ) (upto : Upto text said plan lines acts s) where
    pub upto_more :
        {r : ℕ} {acts' : List ℕ} → Acts (items_in text said) (line_at plan lines s) r → acts' ≡ set acts s r → Upto text said plan lines acts' (s + 1)
    upto_more {r} {acts'} o e = subst (λ l. Upto text said plan lines l (s + 1)) (sym e) (record {
      size = length-set acts s r ∙ upto.size;
      same = λ j l.
          elim (dec_lt j s) [
            | yes g ↦ upto.same j g
            | no g ↦ subst (λ i. differs (items_in text said) (line_at plan lines i) ≡ false) (here j l g) o.same
          ];
      act = λ j l m.
          elim (dec_lt j s) [
            | yes g ↦ subst (λ v. v ≤ length (items_in text said)) (sym (get_or-set_other acts s j r 0 (omega arith))) (upto.act j g m)
            | no g ↦
                subst (λ i. get_or (set acts s r) i 0 ≤ length (items_in text said)) (here j l g)
                (subst (λ v. v ≤ length (items_in text said)) (sym (get_or-set_same acts s r 0 (fits j m g))) o.within)
          ];
      behind = λ j l m.
          elim (dec_lt j s) [
            | yes g ↦ upto.behind j g m ∙ ap (λ v. drop v (items_in text said)) (sym (get_or-set_other acts s j r 0 (omega arith)))
            | no g ↦
                subst
                (λ i. behind (line_at plan lines i).action (items_in text said) ≡ drop (get_or (set acts s r) i 0) (items_in text said))
                (here j l g)
                (o.behind ∙ ap (λ v. drop v (items_in text said)) (sym (get_or-set_same acts s r 0 (fits j m g))))
          ];
    })
      where
        here : (j : ℕ) → j < s + 1 → (j < s → ⊥) → s ≡ j
        here j l g = omega arith

        fits : (j : ℕ) → j < 64 → (j < s → ⊥) → s < length acts
        fits j m g = omega (arith, upto.size)

    pub checked_other :
        s < length lines / 3 → differs (items_in text said) (line_at plan lines s) ≡ true → Differing text said plan lines s
    checked_other h e = record {
      count = count;
      within = omega (arith, count);
      same = upto.same;
      differs = e;
      line = line_of text said plan lines s (omega arith);
    }

    pub checked_all : length lines / 3 ≤ s → Agreeing text said plan lines acts
    checked_all h = record {
      count = count;
      same = λ j l. upto.same j (omega (arith, count));
      acting = λ few. record {
        size = upto.size;
        within = λ j l. upto.act j (omega (arith, count)) (omega arith);
        each = λ j l. upto.behind j (omega (arith, count)) (omega arith);
      };
    }

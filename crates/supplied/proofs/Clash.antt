-- The first clash of names is refused, and nothing else is.
use Prim.Native.Nat.{ℕ}
use mathlib.Core.Path.{◌≡◌, refl, sym, ap, ◌∙◌, subst}
use mathlib.Core.Bool.{true, false, not, ◌||◌, ◌&&◌, or-true}
use mathlib.Core.Logic.{◌⊎◌, inl, inr, ⊎_elim}
use mathlib.Core.List.{List, [], ◌∷◌, ◌++◌, append-nil}
use native.Mathlib.Omega.{arith}
use lib.Seq.{append_snoc}
use borrow.Author.Tests.{eq-eqb, not-true}
use Rattle.laws.proofs.Search.{contrary, either, or_out, and_both}
use Rattle.spelling.specs.Keywords.{same}
use Rattle.spelling.proofs.Same.{same_refl, same_eq}
use Rattle.grammar.specs.Said.{Said, name, number, Item, said_of}
use Rattle.grammar.specs.Reader.{Outcome, read, refused}
use Rattle.supplied.specs.Names.{Kind, actions, facts, levels, lines, kind_of, kind_number, same_kind, gives}
use Rattle.supplied.specs.Names.{clash, clashes, names_from, with_names}
use Rattle.supplied.specs.Clash.{Clashing, ClashIn, NoClash, FirstClash, items_of, NamesPromise}

-- kinds with one number are one
pub kind_same : (a b : Kind) → same_kind a b ≡ true → a ≡ b
unfolding same_kind
kind_same actions actions e = refl
kind_same actions facts e = contrary e refl
kind_same actions levels e = contrary e refl
kind_same actions lines e = contrary e refl
kind_same facts actions e = contrary e refl
kind_same facts facts e = refl
kind_same facts levels e = contrary e refl
kind_same facts lines e = contrary e refl
kind_same levels actions e = contrary e refl
kind_same levels facts e = contrary e refl
kind_same levels levels e = refl
kind_same levels lines e = contrary e refl
kind_same lines actions e = contrary e refl
kind_same lines facts e = contrary e refl
kind_same lines levels e = contrary e refl
kind_same lines lines e = refl

pub kind_refl : (a b : Kind) → a ≡ b → same_kind a b ≡ true
unfolding same_kind
kind_refl a b e = eq-eqb (kind_number a) (kind_number b) (ap kind_number e)

apart : (a b : Kind) → (a ≡ b → ⊥) → not (same_kind a b) ≡ true
apart a b d =
    ⊎_elim
    (λ (t : same_kind a b ≡ true). absurd (d (kind_same a b t)))
    (λ (f : same_kind a b ≡ false). rw f refl)
    (either (same_kind a b))

-- the test of a clash and what it says
clash_out : (j i : Said) → clash j i ≡ true → Clashing j i
unfolding clash
clash_out (name r w) (name q v) e =
    let p = and_both (same w v) (not (same_kind (kind_of r) (kind_of q)) || (gives r && gives q)) e in
    record {
      word = w;
      earlier = r;
      later = q;
      first = refl;
      second = ap (name q) (sym (same_eq w v p.0));
      why =
          ⊎_elim
          (λ (d : not (same_kind (kind_of r) (kind_of q)) ≡ true). inl (λ h. contrary (kind_refl _ _ h) (not-true _ d)))
          (λ (g : (gives r && gives q) ≡ true). inr (and_both (gives r) (gives q) g))
          (or_out _ _ p.1);
    }
clash_out (name r w) (number n) e = contrary e refl
clash_out (number n) s e = contrary e refl

clash_in : (j i : Said) → Clashing j i → clash j i ≡ true
unfolding clash
clash_in j i c =
    rw (c.first, c.second, same_refl c.word)
    (⊎_elim
    (λ (d : kind_of c.earlier ≡ kind_of c.later → ⊥). ap (λ b. b || (gives c.earlier && gives c.later)) (apart _ _ d))
    (λ (g : (gives c.earlier ≡ true) × (gives c.later ≡ true)).
    rw (g.0, g.1) (or-true (not (same_kind (kind_of c.earlier) (kind_of c.later)))))
    c.why)

-- the test of a clash with some of those before
clashes_out : (passed : List Item) (i : Item) → clashes passed i ≡ true → ClashIn (said_of passed) i.said
unfolding clashes said_of
clashes_out [] i e = contrary e refl
clashes_out (j ∷ js) i e =
    ⊎_elim
    (λ (c : clash j.said i.said ≡ true).
    record { ahead = []; at = j.said; behind = said_of js; split = refl; clashing = clash_out j.said i.said c })
    (λ (c : clashes js i ≡ true).
    let w = clashes_out js i c in
    record {
      ahead = j.said ∷ w.ahead;
      at = w.at;
      behind = w.behind;
      split = ap (λ ss. j.said ∷ ss) w.split;
      clashing = w.clashing;
    })
    (or_out (clash j.said i.said) (clashes js i) e)

no_split : (before after : List Said) (i : Said) → [] ≡ before ++ i ∷ after → ⊥
no_split [] after i e = let z : ◌≡◌ {A = ℕ} 0 1 = cc in omega arith
no_split (b ∷ before) after i e = let z : ◌≡◌ {A = ℕ} 0 1 = cc in omega arith

clashes_in :
    (passed : List Item) (i : Item) (ahead behind : List Said) (s : Said) → said_of passed ≡ ahead ++ s ∷ behind → Clashing s i.said
    → clashes passed i ≡ true
unfolding clashes said_of
clashes_in [] i ahead behind s e c = absurd (no_split ahead behind s e)
clashes_in (j ∷ js) i [] behind s e c =
    let q : j.said ≡ s = cc in
    ap (λ b. b || clashes js i) (ap (λ x. clash x i.said) q ∙ clash_in s i.said c)
clashes_in (j ∷ js) i (a ∷ ahead) behind s e c =
    let q : said_of js ≡ ahead ++ s ∷ behind = cc in
    ap (λ b. clash j.said i.said || b) (clashes_in js i ahead behind s q c) ∙ or-true (clash j.said i.said)

-- a split of a list with one more: at the last, or before it
record Earlier {A : Type 0} (l before : List A) (a : A) : Type 0 where
  pub after : List A
  pub split : l ≡ before ++ a ∷ after

last_split :
    {A : Type 0} (l before after : List A) (last a : A) → l ++ last ∷ [] ≡ before ++ a ∷ after
    → ((l ≡ before) × (last ≡ a)) ⊎ Earlier l before a
last_split [] [] after last a e = inl (refl, cc)
last_split [] (b ∷ []) after last a e = absurd (let z : ◌≡◌ {A = ℕ} 0 1 = cc in omega arith)
last_split [] (b ∷ c ∷ before) after last a e = absurd (let z : ◌≡◌ {A = ℕ} 0 1 = cc in omega arith)
last_split (x ∷ l) [] after last a e = inr (record { after = l; split = cc })
last_split (x ∷ l) (b ∷ before) after last a e =
    let q : l ++ last ∷ [] ≡ before ++ a ∷ after = cc in
    let h : x ≡ b = cc in
    ⊎_elim
    (λ (w : (l ≡ before) × (last ≡ a)). inl (let u = w.0 in cc, w.1))
    (λ (w : Earlier l before a). inr (record { after = w.after; split = let u = w.split in cc }))
    (last_split l before after last a q)

said_append : (is js : List Item) → said_of (is ++ js) ≡ said_of is ++ said_of js
unfolding said_of
said_append [] js = refl
said_append (i ∷ is) js = ap (λ ss. i.said ∷ ss) (said_append is js)

no_clash_start : NoClash (said_of [])
unfolding said_of
no_clash_start = record { none = λ before after i e c. no_split before after i e }

no_clash_more : (passed : List Item) (i : Item) → NoClash (said_of passed) → clashes passed i ≡ false → NoClash (said_of (passed ++ i ∷ []))
unfolding said_of
no_clash_more passed i w f =
    record {
      none = λ before after s e c.
          ⊎_elim
          (λ (q : (said_of passed ≡ before) × (i.said ≡ s)).
          let d : Clashing c.at i.said = rw q.1 c.clashing in
          contrary (clashes_in passed i c.ahead c.behind c.at (q.0 ∙ c.split) d) f)
          (λ (q : Earlier (said_of passed) before s). w.none before q.after s q.split c)
          (last_split (said_of passed) before after i.said s (sym (said_append passed (i ∷ [])) ∙ e));
    }

-- how the names come out: nothing clashes, or the first clash is refused
record Refusing (left : Outcome) (is : List Item) : Type 0 where
  pub line : ℕ
  pub passed : List Item
  pub refuses : left ≡ refused 18 line passed
  pub first : FirstClash is line

abbrev Settled : Outcome → Outcome → List Item → Type 0
Settled o left is = ((left ≡ o) × NoClash (said_of is)) ⊎ Refusing left is

names_on :
    (passed is : List Item) (i : Item) (o : Outcome) → clashes passed i ≡ false → names_from passed (i ∷ is) o ≡ names_from (passed ++ i ∷ []) is o
unfolding names_from
names_on passed is i o f = rw f refl

names_stop :
    (passed is : List Item) (i : Item) (o : Outcome) → clashes passed i ≡ true → names_from passed (i ∷ is) o ≡ refused 18 i.line passed
unfolding names_from
names_stop passed is i o t = rw t refl

settled : (passed is : List Item) (o : Outcome) → NoClash (said_of passed) → Settled o (names_from passed is o) (passed ++ is)
unfolding names_from
settled passed [] o w = inl (refl, rw (append-nil passed) w)
settled passed (i ∷ is) o w =
    ⊎_elim
    (λ (t : clashes passed i ≡ true).
    inr
    (record {
      line = i.line;
      passed = passed;
      refuses = names_stop passed is i o t;
      first = record { before = passed; at = i; after = is; split = refl; here = refl; clash = clashes_out passed i t; none = w };
    }))
    (λ (f : clashes passed i ≡ false).
    let r = settled (passed ++ i ∷ []) is o (no_clash_more passed i w f) in
    subst (λ l. Settled o l (passed ++ i ∷ is)) (sym (names_on passed is i o f)) (rw (append_snoc passed i is) at r))
    (either (clashes passed i))

with_names_lem : (o : Outcome) → with_names o ≡ names_from [] (items_of o) o
unfolding with_names
with_names_lem (read is) = refl
with_names_lem (refused n l is) = refl

first_clashes : (is : List Item) (l : ℕ) → FirstClash is l → NoClash (said_of is) → ⊥
unfolding said_of
first_clashes is l c w =
    w.none (said_of c.before) (said_of c.after) c.at.said
    (ap said_of c.split ∙ said_append c.before (c.at ∷ c.after))
    c.clash

pub names_promise : (o : Outcome) → NamesPromise o
names_promise o = ⊎_elim whole stopped
    (subst (λ l. Settled o l (items_of o)) (sym (with_names_lem o)) (settled [] (items_of o) o no_clash_start))
  where
    whole : (with_names o ≡ o) × NoClash (said_of (items_of o)) → NamesPromise o
    whole w =
        record {
          reads = λ is e. let q : o ≡ read is = sym w.0 ∙ e in (q, rw (ap items_of q) at w.1);
          kept = λ is e n. w.0 ∙ e;
          refuses = λ n l is e. let q : o ≡ refused n l is = sym w.0 ∙ e in inl (q, rw (ap items_of q) at w.1);
        }

    stopped : Refusing (with_names o) (items_of o) → NamesPromise o
    stopped w =
        record {
          reads = λ is e. absurd (let q = sym w.refuses ∙ e in let z : ◌≡◌ {A = ℕ} 0 1 = cc in omega arith);
          kept = λ is e n. absurd (first_clashes is w.line (rw (ap items_of e) at w.first) n);
          refuses = λ n l is e.
              let q : refused 18 w.line w.passed ≡ refused n l is = sym w.refuses ∙ e in
              inr (cc, rw (let h : w.line ≡ l = cc in h) at w.first);
        }

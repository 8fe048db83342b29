-- A text spells its tokens and no others.
use Prim.Native.Nat.{ℕ, zero, suc, ◌<◌}
use mathlib.Core.Path.{◌≡◌, refl, ap, ◌∙◌}
use mathlib.Core.Bool.{Bool, true, false, ◌||◌, ◌&&◌}
use mathlib.Core.List.{List, [], ◌∷◌}
use mathlib.Core.Logic.{⊎_elim}
use native.Mathlib.Omega.{arith}
use lib.Dec.{eqb}
use lib.ListN.{length, get_or}
use borrow.Author.Tests.{eqb-true}
use Rattle.laws.proofs.Search.{contrary, or_out}
use Rattle.spelling.specs.Tokens.{Token, mark, word, Placed, bare, is_blank, is_mark, in_word, joins, line_after, grown, tokens}
use Rattle.spelling.specs.Spelling.{Spells, ends, blank, bracket, run}
use Rattle.spelling.proofs.Tokens.{tokens_blank, tokens_mark, tokens_letter, tokens_letters, tokens_run}
use Rattle.spelling.proofs.Tokens.{word_blank, word_mark, word_else}

-- a bracket is no blank
mark_is : (b m : ℕ) (plan : Bool) → is_blank plan m ≡ false → eqb b m ≡ true → is_blank plan b ≡ false
mark_is b m plan e f = rw (eqb-true b m f) e

plan_mark : (plan : Bool) (b : ℕ) → (plan && (eqb b 58 || eqb b 10)) ≡ true → is_blank plan b ≡ false
unfolding is_blank
plan_mark true b e = ⊎_elim (λ (x : eqb b 58 ≡ true). rw (eqb-true b 58 x)) (λ (x : eqb b 10 ≡ true). rw (eqb-true b 10 x)) (or_out _ _ e)
plan_mark false b e = contrary e refl

bracket_blank : (plan : Bool) (m : ℕ) → (eqb m 32 || eqb m 9) ≡ false → eqb m 10 ≡ false → is_blank plan m ≡ false
unfolding is_blank
bracket_blank true m e f = rw e
bracket_blank false m e f = rw (e, f)

mark_blank : (plan : Bool) (b : ℕ) → is_mark plan b ≡ true → is_blank plan b ≡ false
unfolding is_mark
mark_blank plan b e =
    ⊎_elim
    (λ (x : (((eqb b 40 || eqb b 41) || eqb b 91) || eqb b 93) ≡ true).
    ⊎_elim
    (λ (y : ((eqb b 40 || eqb b 41) || eqb b 91) ≡ true).
    ⊎_elim
    (λ (z : (eqb b 40 || eqb b 41) ≡ true).
    ⊎_elim
    (λ (a : eqb b 40 ≡ true). mark_is b 40 plan (bracket_blank plan 40 refl refl) a)
    (λ (a : eqb b 41 ≡ true). mark_is b 41 plan (bracket_blank plan 41 refl refl) a)
    (or_out (eqb b 40) (eqb b 41) z))
    (λ (z : eqb b 91 ≡ true). mark_is b 91 plan (bracket_blank plan 91 refl refl) z)
    (or_out (eqb b 40 || eqb b 41) (eqb b 91) y))
    (λ (y : eqb b 93 ≡ true). mark_is b 93 plan (bracket_blank plan 93 refl refl) y)
    (or_out ((eqb b 40 || eqb b 41) || eqb b 91) (eqb b 93) x))
    (λ (x : (plan && (eqb b 58 || eqb b 10)) ≡ true). plan_mark plan b x)
    (or_out (((eqb b 40 || eqb b 41) || eqb b 91) || eqb b 93) (plan && (eqb b 58 || eqb b 10)) e)

-- only its tokens
pub spelt_only : {plan : Bool} {text : List ℕ} {ts : List Token} → Spells plan text ts → (l : ℕ) → bare (tokens plan l text) ≡ ts
unfolding bare tokens
spelt_only ends l = refl
spelt_only {plan} (blank e s) l = ap bare (tokens_blank plan _ l _ e) ∙ spelt_only s _
spelt_only {plan} (bracket {b} e s) l =
    ap bare (tokens_mark plan _ l _ (mark_blank plan _ e) e) ∙ ap (λ us. mark b ∷ us) (spelt_only s (line_after b l))
spelt_only {plan} (run b w rest q e h j s) l =
    ap (λ x. bare (tokens plan l x)) q ∙ ap bare (tokens_run plan l b w rest e h j) ∙ ap (λ us. word (b ∷ w) ∷ us) (spelt_only s l)

grown_word : (b : ℕ) (ps : List Placed) (w : List ℕ) (ts : List Token) → bare ps ≡ word w ∷ ts → bare (grown b ps) ≡ word (b ∷ w) ∷ ts
unfolding bare grown
grown_word b [] w ts e = absurd (let z : ◌≡◌ {A = ℕ} 0 1 = cc in omega arith)
grown_word b (p ∷ ps) w ts e =
    let h : p.token ≡ word w = cc in
    let k : bare ps ≡ ts = cc in
    rw (h, grown) (ap (λ us. word (b ∷ w) ∷ us) k)

module _ (plan : Bool) where
  each_more :
      (a : ℕ) (w : List ℕ) → in_word plan a ≡ true → ((k : ℕ) → k < length w → in_word plan (get_or w k 0) ≡ true) →
      (k : ℕ) → k < length (a ∷ w) → in_word plan (get_or (a ∷ w) k 0) ≡ true
  each_more a w e h zero l = e
  each_more a w e h (suc k) l = h k (omega arith)

  -- a byte before a word that it touches
  touched :
      {text : List ℕ} {ts : List Token} (b : ℕ) → Spells plan text ts → in_word plan b ≡ true → joins plan text ≡ true →
      (ps : List Placed) → bare ps ≡ ts → Spells plan (b ∷ text) (bare (grown b ps))
  unfolding joins
  touched b ends e j ps q = contrary j refl
  touched b (blank f s) e j ps q = contrary f (word_blank plan _ j)
  touched b (bracket f s) e j ps q = contrary f (word_mark plan _ j)
  touched b (run a w rest r f h g s) e j ps q =
      rw (grown_word b ps (a ∷ w) _ q) (run b (a ∷ w) rest (ap (λ us. b ∷ us) r) e (each_more a w f h) g s)

  -- its tokens
  pub spelt : (text : List ℕ) (l : ℕ) → Spells plan text (bare (tokens plan l text))
  unfolding bare tokens
  spelt [] l = ends
  spelt (b ∷ text) l = go (is_blank plan b) refl (is_mark plan b) refl (joins plan text) refl (λ k. spelt text k)
    where
      go :
          (x : Bool) → is_blank plan b ≡ x → (y : Bool) → is_mark plan b ≡ y → (z : Bool) → joins plan text ≡ z →
          ((k : ℕ) → Spells plan text (bare (tokens plan k text))) → Spells plan (b ∷ text) (bare (tokens plan l (b ∷ text)))
      go true e y f z g s = rw (tokens_blank plan b l text e) (blank e (s (line_after b l)))
      go false e true f z g s = rw (tokens_mark plan b l text e f) (bracket f (s (line_after b l)))
      go false e false f true g s =
          let i = word_else plan b e f in rw (tokens_letters plan b l text i g) (touched b (s l) i g (tokens plan l text) refl)
      go false e false f false g s =
          let i = word_else plan b e f in
          rw (tokens_letter plan b l text i g) (run b [] text refl i (λ k h. absurd (omega arith)) g (s l))

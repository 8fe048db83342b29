-- The demands on the readings hold of every text: the spelling is that of its tokens, and along these what is written is read.
use Prim.Native.Nat.{ℕ, ◌≤◌}
use mathlib.Core.Path.{◌≡◌, refl, sym, ap, subst, ◌∙◌}
use mathlib.Core.Bool.{Bool, true, false, cond}
use mathlib.Core.List.{List, [], ◌∷◌, append-nil}
use native.Mathlib.Omega.{arith}
use lib.Dec.{ltb}
use lib.ListN.{length}
use borrow.Author.Tests.{le-ltb}
use Rattle.spelling.specs.Tokens.{Token, text_most, tokens}
use Rattle.spelling.specs.Spelling.{Spells}
use Rattle.spelling.proofs.Spelling.{spelt, spelt_only}
use Rattle.grammar.specs.Said.{Item, said_of}
use Rattle.grammar.specs.Allowed.{depth_most}
use Rattle.grammar.specs.Reader.{Symbol, text, lines, Outcome, read, refused, run}
use Rattle.grammar.specs.Reading.{action_reading, plan_reading}
use Rattle.grammar.specs.Demands.{ActionDemands, PlanDemands}
use Rattle.grammar.proofs.Meaning.{Val, print, tell}
use Rattle.grammar.proofs.Along.{reads, written}

-- either reading: that of a symbol over the tokens of a text
module _ (plan : Bool) (root : Symbol) (s : List ℕ) where
  abbrev reading : Outcome
  reading = cond (ltb text_most (length s)) (refused 18 0 []) (run depth_most (root ∷ []) [] (tokens plan 0 s))

  -- what is written by v is read
  every :
      length s ≤ text_most → (v : Val depth_most root) → Spells plan s (print depth_most root v) →
      (is : List Item) × (reading ≡ read is) × (said_of is ≡ tell depth_most root v)
  every h v w =
      let r = reads depth_most (tokens plan 0 s) (root ∷ []) (v, tt) [] (spelt_only w 0 ∙ sym (append-nil _)) in
      (r.items, rw (le-ltb _ _ h) r.reads, r.said ∙ append-nil _)

  -- two of one text say the same
  one :
      (v w : Val depth_most root) → Spells plan s (print depth_most root v) → Spells plan s (print depth_most root w) →
      tell depth_most root v ≡ tell depth_most root w
  one v w f g =
      let a = reads depth_most (tokens plan 0 s) (root ∷ []) (v, tt) [] (spelt_only f 0 ∙ sym (append-nil _)) in
      let b = reads depth_most (tokens plan 0 s) (root ∷ []) (w, tt) [] (spelt_only g 0 ∙ sym (append-nil _)) in
      let e : read a.items ≡ read b.items = sym a.reads ∙ b.reads in
      let i : a.items ≡ b.items = cc in
      sym (append-nil _) ∙ sym a.said ∙ ap said_of i ∙ b.said ∙ append-nil _

  -- what is read is written
  only :
      (is : List Item) → reading ≡ read is →
      (v : Val depth_most root) × Spells plan s (print depth_most root v) × (said_of is ≡ tell depth_most root v)
  only is e = go (ltb text_most (length s)) refl e
    where
      go :
          (b : Bool) → ltb text_most (length s) ≡ b →
          cond b (refused 18 0 []) (run depth_most (root ∷ []) [] (tokens plan 0 s)) ≡ read is →
          (v : Val depth_most root) × Spells plan s (print depth_most root v) × (said_of is ≡ tell depth_most root v)
      go true f e = absurd (let z : ◌≡◌ {A = ℕ} 0 1 = cc in omega arith)
      go false f e =
          let w = written depth_most (tokens plan 0 s) (root ∷ []) [] is e in
          let spells = subst (λ (ts : List Token). Spells plan s ts) (w.tokens ∙ append-nil _) (spelt plan s 0) in
          (w.values.0, spells, ap said_of w.whole ∙ w.said ∙ append-nil _)

pub action_demands : (s : List ℕ) → ActionDemands s
unfolding action_reading
action_demands s =
    record {
      every = λ h t w. every false text s h (t, w.ok) w.spells;
      one = λ t u v w. one false text s (t, v.ok) (u, w.ok) v.spells w.spells;
      only = λ is e. let r = only false text s is e in (r.0.0, record { ok = r.0.1; spells = r.1 }, r.2);
    }

pub plan_demands : (s : List ℕ) → PlanDemands s
unfolding plan_reading
plan_demands s =
    record {
      every = λ h p w. every true lines s h (p, w.ok) w.spells;
      one = λ p q v w. one true lines s (p, v.ok) (q, w.ok) v.spells w.spells;
      only = λ is e. let r = only true lines s is e in (r.0.0, record { ok = r.0.1; spells = r.1 }, r.2);
    }

-- The loops of the cursor: past blanks, along a word; and the token that stands there.
use Prim.Native.Nat.{ℕ, ◌+◌, ◌≤◌, ◌<◌}
use mathlib.Core.Path.{◌≡◌, refl, sym, ap, subst, ◌∙◌}
use mathlib.Core.Bool.{Bool, true, false, not}
use mathlib.Core.List.{List}
use native.Mathlib.Omega.{arith}
use native.Mathlib.Decide.{dec_lt}
use lib.ListN.{length, get_or, drop}
use borrow.Author.Tests.{not-true, not-false, lt-ltb, le-ltb}
use Rattle.laws.proofs.Search.{contrary}
use Rattle.spelling.specs.Tokens.{text_most, is_blank, is_mark, in_word, line_after, tokens}
use Rattle.spelling.specs.Scan.{Skipped, RunsTo, Moved}
use Rattle.spelling.specs.Cursor.{here, behind, Standing, First, Next}
use Rattle.spelling.specs.declared.Spot.{Spot}
use Rattle.spelling.specs.declared.Cursor.{Cursor}
use Rattle.spelling.proofs.Tokens.{at_blank, at_mark, at_word_lem, at_end, word_else, word_line}

-- nothing but blanks has been passed
pub record Passed (plan : Bool) (text : List ℕ) (from line at on : ℕ) : Type 0 where
  pub onward : from ≤ at
  pub within : at ≤ length text
  pub lines : on ≤ at
  pub same : tokens plan line (drop from text) ≡ tokens plan on (drop at text)

module _ (plan : Bool) (text : List ℕ) (from line : ℕ) where
  pub passed_start : from ≤ length text → line ≤ from → Passed plan text from line from line
  passed_start h k = record { onward = omega arith; within = h; lines = k; same = refl }

  pub passed_more :
      (at on on' : ℕ) (blank : Bool) → Passed plan text from line at on → at < length text → blank ≡ is_blank plan (get_or text at 0) →
      not blank ≡ false → (on' ≡ line_after (get_or text at 0) on) × (on' ≤ on + 1) → Passed plan text from line (at + 1) on'
  passed_more at on on' blank p h e f g =
      record {
        onward = omega (arith, p.onward);
        within = omega arith;
        lines = omega (arith, p.lines, g.1);
        same =
            p.same ∙ at_blank plan text on at h (sym e ∙ not-false _ f) ∙ ap (λ l. tokens plan l (drop (at + 1) text)) (sym g.0);
      }

  pub passed_full :
      (r : Spot) (blank : Bool) → Passed plan text from line r.at r.line → blank ≡ is_blank plan (get_or text r.at 0) →
      not blank ≡ true → Skipped plan text from line r
  passed_full r blank p e f =
      record { onward = p.onward; within = p.within; lines = p.lines; same = p.same; full = λ h. sym e ∙ not-true _ f }

  pub passed_out : (at on : ℕ) → Passed plan text from line at on → length text ≤ at → Skipped plan text from line record { at = length text; line = on }
  passed_out at on p f =
      let e : at ≡ length text = omega (arith, p.within) in
      let q = subst (λ k. Passed plan text from line k on) e p in
      record { onward = q.onward; within = q.within; lines = q.lines; same = q.same; full = λ h. absurd (omega arith) }

-- every byte passed is a word's
pub record Run (plan : Bool) (text : List ℕ) (from end : ℕ) : Type 0 where
  pub onward : from ≤ end
  pub within : end ≤ length text
  pub each : (k : ℕ) → from ≤ k → k < end → in_word plan (get_or text k 0) ≡ true

module _ (plan : Bool) (text : List ℕ) (from : ℕ) where
  pub run_start : from ≤ length text → Run plan text from from
  run_start h = record { onward = omega arith; within = h; each = λ k a b. absurd (omega arith) }

  pub run_more :
      (end : ℕ) (inside : Bool) → Run plan text from end → end < length text → inside ≡ in_word plan (get_or text end 0) →
      not inside ≡ false → Run plan text from (end + 1)
  run_more end inside p h e f =
      record { onward = omega (arith, p.onward); within = omega arith; each = λ k a b. below_last k a b }
    where
      below_last : (k : ℕ) → from ≤ k → k < end + 1 → in_word plan (get_or text k 0) ≡ true
      below_last k a b =
          elim (dec_lt k end) [
            | yes q ↦ p.each k a q
            | no q ↦ ap (λ j. in_word plan (get_or text j 0)) (omega arith) ∙ sym e ∙ not-false _ f
          ]

  pub run_stop :
      (end : ℕ) (inside : Bool) → Run plan text from end → inside ≡ in_word plan (get_or text end 0) → not inside ≡ true →
      RunsTo plan text from end
  run_stop end inside p e f =
      record { onward = p.onward; within = p.within; each = p.each; stops = λ h. sym e ∙ not-true _ f }

  pub run_out : (end : ℕ) → Run plan text from end → length text ≤ end → RunsTo plan text from (length text)
  run_out end p f =
      let e : end ≡ length text = omega (arith, p.within) in
      let q = subst (Run plan text from) e p in
      record { onward = q.onward; within = q.within; each = q.each; stops = λ h. absurd (omega arith) }

-- a token at a place that holds no blank
module _ (plan : Bool) (text : List ℕ) (c : Cursor) (k : c.line ≤ c.at) where
  pub stand_mark :
      c.at < length text → is_blank plan (get_or text c.at 0) ≡ false → is_mark plan (get_or text c.at 0) ≡ true →
      c.end ≡ c.at + 1 → Standing plan text c
  unfolding here behind
  stand_mark h e f g =
      record {
        within = omega arith;
        onward = omega arith;
        grows = λ _. omega arith;
        lines = k;
        stands = rw (lt-ltb _ _ h, f, g) (at_mark plan text c.line c.at h e f);
      }

  pub stand_end : c.at ≡ length text → c.end ≡ c.at → Standing plan text c
  unfolding here behind
  stand_end h g =
      let m : length text ≤ c.at = omega arith in
      record {
        within = omega arith;
        onward = omega arith;
        grows = λ l. absurd (omega arith);
        lines = k;
        stands = rw (le-ltb _ _ m) (at_end plan text c.line c.at m (omega arith));
      }

  pub stand_word :
      c.at < length text → is_blank plan (get_or text c.at 0) ≡ false → is_mark plan (get_or text c.at 0) ≡ false →
      RunsTo plan text c.at c.end → Standing plan text c
  unfolding here behind
  stand_word h e f r =
      record {
        within = r.within;
        onward = r.onward;
        grows = λ _. longer;
        lines = k;
        stands =
            rw (lt-ltb _ _ h, f, word_line plan (get_or text c.at 0) c.line (word_else plan _ e f))
            (at_word_lem plan text c.line c.at c.end longer r.within r.each r.stops);
      }
    where
      longer : c.at < c.end
      longer =
          elim (dec_lt c.at c.end) [
            | yes l ↦ l
            | no l ↦
                let q : c.end ≡ c.at = omega (arith, r.onward) in
                contrary (word_else plan _ e f) (rw q at (r.stops (rw q h)))
          ]

-- past the blanks, then the token there
pub moved :
    (plan : Bool) (text : List ℕ) (from line : ℕ) (s : Spot) (c : Cursor) → Skipped plan text from line s →
    (c.at ≡ s.at) × (c.line ≡ s.line) × Standing plan text c → Moved plan text from line c
moved plan text from line s c k t =
    record { standing = t.2; onward = rw t.0 k.onward; same = rw (t.0, t.1) k.same }

pub first_token : (plan : Bool) (text : List ℕ) (c : Cursor) → Moved plan text 0 0 c → First plan text c
first_token plan text c m = record { standing = m.standing; same = m.same }

module _ (plan : Bool) (text : List ℕ) (c : Cursor) (p : (length text ≤ text_most) × Standing plan text c × (c.at < length text)) where
  pub line_fits : c.line ≤ text_most
  line_fits = omega (arith, p.1.lines)

  pub next_asks : (line : ℕ) → line ≤ c.line + 1 → (length text ≤ text_most) × (c.end ≤ length text) × (line ≤ c.end)
  next_asks line h = let g = p.1.grows p.2 in (p.0, p.1.within, omega (arith, p.1.lines))

pub next_token :
    (plan : Bool) (text : List ℕ) (c next : Cursor) (line : ℕ) → Standing plan text c → c.at < length text →
    line ≡ line_after (get_or text c.at 0) c.line → Moved plan text c.end line next → Next plan text c next
unfolding behind
next_token plan text c next line s h e m =
    let g = s.grows h in
    record { standing = m.standing; further = omega (arith, m.onward); same = rw (lt-ltb _ _ h, ← e) m.same }

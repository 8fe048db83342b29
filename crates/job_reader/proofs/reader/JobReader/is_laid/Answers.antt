-- The six tests are the six parts.
use Prim.Native.Nat.{ℕ, ◌≤◌}
use mathlib.Core.Path.{◌≡◌, refl}
use mathlib.Core.Bool.{true, ◌&&◌}
use lib.Dec.{leb}
use Rattle.laws.proofs.Search.{and_both}
use borrow.Author.Tests.{leb-true, le-leb}
use Rattle.job_reader.proofs.reader.JobReader.is_laid.Goals as goal

parts :
    (a b c d t u n : ℕ) → (leb a n && leb b n && leb c n && leb d n && leb t n && leb u n) ≡ true
    → (a ≤ n) × (b ≤ n) × (c ≤ n) × (d ≤ n) × (t ≤ n) × (u ≤ n)
parts a b c d t u n e =
    let p = and_both _ _ e in
    let f = and_both _ _ p.0 in
    let g = and_both _ _ f.0 in
    let h = and_both _ _ g.0 in
    let i = and_both _ _ h.0 in
    (leb-true _ _ i.0, leb-true _ _ i.1, leb-true _ _ h.1, leb-true _ _ g.1, leb-true _ _ f.1, leb-true _ _ p.1)

whole :
    (a b c d t u n : ℕ) → a ≤ n → b ≤ n → c ≤ n → d ≤ n → t ≤ n → u ≤ n
    → (leb a n && leb b n && leb c n && leb d n && leb t n && leb u n) ≡ true
whole a b c d t u n p q r s v w = rw (le-leb a n p, le-leb b n q, le-leb c n r, le-leb d n s, le-leb t n v, le-leb u n w) refl

pub returns : goal.returns
returns c =
    let steps = c.table_end.ensures in
    let conditions = c.table_end-2.ensures in
    let effects = c.table_end-3.ensures in
    let uses = c.table_end-4.ensures in
    let timed = c.table_end-5.ensures in
    let needed = c.table_end-6.ensures in (
      rw (needed, timed, uses, effects, conditions, steps) (λ e.
          let p = parts _ _ _ _ _ _ _ e in
          record { steps = p.0; conditions = p.1; effects = p.2; uses = p.3; timed = p.4; needs = p.5 }),
      rw (needed, timed, uses, effects, conditions, steps)
          (λ l. whole _ _ _ _ _ _ _ l.steps l.conditions l.effects l.uses l.timed l.needs),
    )

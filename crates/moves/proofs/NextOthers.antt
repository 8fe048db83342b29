-- The timed facts next to a place that have another value.
use Prim.Native.Nat.{ℕ, ◌+◌, ◌-◌, ◌≤◌, ◌<◌}
use mathlib.Core.Path.{◌≡◌, refl, sym, ap, subst, ◌∙◌}
use mathlib.Core.List.{List}
use native.Mathlib.Decide.{dec_lt}
use native.Mathlib.Omega.{arith}
use Rattle.std.specs.Prelude.{Some, None}
use Rattle.timeline.specs.Words.{tick_at, value_at}
use Rattle.timeline.specs.declared.walk.Cursor.{Cursor}
use Rattle.moves.specs.Others.{Passed, LastOther, NoOther, NextOther}

-- the last of those before a cursor that has another value
module _ {order : List ℕ} {from : ℕ} {cursor : Cursor} (w : Passed order from cursor) {value : ℕ} where
  pub other_none : cursor.place ≤ from → LastOther order from cursor.place value None
  other_none h = record { above = λ p a b d. absurd (omega arith); one = λ tick e. absurd (cc) }

  -- one that no other of them comes after
  other_at :
      {t : ℕ} (at : ℕ) → from ≤ at → at < cursor.place → (value ≡ value_at order at → ⊥) → t ≡ tick_at order at
      → ((p : ℕ) → from ≤ p → p < cursor.place → (value ≡ value_at order p → ⊥) → p ≤ at)
      → LastOther order from cursor.place value (Some t)
  other_at {t} at a b d q last =
      record {
        above = λ p e f g.
            let low : tick_at order p ≤ t =
            elim (dec_lt p at) [
              | yes l ↦ omega (arith, q, w.row.rises p at e l b)
              | no l ↦ omega (arith, q, last p e f g, ap (tick_at order) (let i : p ≡ at = omega (arith, last p e f g) in i))
            ]
            in
            (t, refl, low);
        one = λ tick e. let same : tick ≡ t = cc in (at, a, b, d, same ∙ q);
      }

  pub other_last :
      {v t : ℕ} → from < cursor.place → v ≡ value_at order (cursor.place - 1) → (v ≡ value → ⊥) → t ≡ tick_at order (cursor.place - 1)
      → LastOther order from cursor.place value (Some t)
  other_last h e d q =
      other_at (cursor.place - 1) (omega arith) (omega arith) (λ i. d (e ∙ sym i)) q (λ p a b g. omega arith)

  -- those of the run before it have one value
  before_run :
      {v : ℕ} → v ≡ value_at order (cursor.place - 1) → v ≡ value → (p : ℕ) → p < cursor.place → (value ≡ value_at order p → ⊥)
      → p < cursor.run
  before_run e i p b d =
      elim (dec_lt p cursor.run) [
        | yes l ↦ l
        | no l ↦ absurd (d (sym i ∙ e ∙ sym (w.run.alike p (omega arith) b)))
      ]

  pub other_same :
      {v : ℕ} → v ≡ value_at order (cursor.place - 1) → v ≡ value → cursor.run ≤ from → LastOther order from cursor.place value None
  other_same e i h =
      record { above = λ p a b d. absurd (omega (arith, before_run e i p b d)); one = λ tick z. absurd (cc z) }

  pub other_turned :
      {v t : ℕ} → v ≡ value_at order (cursor.place - 1) → v ≡ value → from < cursor.run → t ≡ tick_at order (cursor.run - 1)
      → LastOther order from cursor.place value (Some t)
  other_turned e i h q =
      other_at (cursor.run - 1) (omega arith) (omega (arith, w.run.to)) (λ z. w.run.turned h (sym z ∙ sym i ∙ e)) q
      (λ p a b d. omega (arith, before_run e i p b d))

-- no other up to a place, and none there
pub no_more :
    (order : List ℕ) (from place value t : ℕ) → NoOther order from place value t
    → ((value_at order place ≡ value → ⊥) → t < tick_at order place → ⊥)
    → NoOther order from (place + 1) value t
no_more order from place value t a d p b c e g =
    elim (dec_lt p place) [
      | yes h ↦ a p b h e g
      | no h ↦
          let q : p ≡ place = omega arith in
          d (λ z. e (sym z ∙ ap (value_at order) (sym q))) (subst (λ p. t < tick_at order p) q g)
    ]

-- none up to the end
pub no_other :
    (order : List ℕ) (from place until value t : ℕ) → from ≤ until → NoOther order from place value t → until ≤ place
    → NextOther order from until value t until
no_other order from place until value t h a l =
    record { begins = h; ends = omega arith; before = λ p b c. a p b (omega arith); here = λ g. absurd (omega arith) }

-- Bytes put one part behind the other: the fields of a record.
use Prim.Native.Nat.{ℕ, ◌+◌, ◌%◌}
use mathlib.Core.Path.{◌≡◌, refl, sym, ap, ◌∙◌}
use mathlib.Core.List.{List, ◌++◌}
use native.Mathlib.Omega.{arith}
use lib.ListN.{length}
use lib.Seq.{sets}
use Rattle.little_endian.specs.Bytes.{sign_bias, u32_values, u16_bytes, u32_bytes}
use Rattle.little_endian.proofs.Sets.{sets_behind}
use Rattle.job.specs.declared.records.Level.{Level}
use Rattle.job.specs.declared.records.Step.{Step}
use Rattle.job.specs.declared.records.Condition.{Condition}
use Rattle.job.specs.declared.records.Effect.{Effect}
use Rattle.job.specs.declared.records.Use.{Use}
use Rattle.job.specs.declared.records.Goal.{Goal}
use Rattle.job_encoding.specs.Encode.{bits, level_row, step_row, condition_row, effect_row, use_row, goal_row}

module _ (l : List ℕ) (at : ℕ) where
  -- a part put where the one before it ends
  put_next :
      (a b : List ℕ) (next : ℕ) → at + length a ≡ next → {x y : List ℕ} → x ≡ sets l at a → y ≡ sets x next b → y ≡ sets l at (a ++ b)
  put_next a b next p ex ey = ey ∙ ap (λ k. sets k next b) ex ∙ sym (sets_behind l a b at next p)

  put_three :
      (a b c : List ℕ) (second third : ℕ) → at + length a ≡ second → at + length (a ++ b) ≡ third
      → {x y z : List ℕ} → x ≡ sets l at a → y ≡ sets x second b → z ≡ sets y third c
      → z ≡ sets l at (a ++ b ++ c)
  put_three a b c second third p q ex ey ez = put_next (a ++ b) c third q (put_next a b second p ex ey) ez

  put_four :
      (a b c d : List ℕ) (second third fourth : ℕ) → at + length a ≡ second → at + length (a ++ b) ≡ third → at + length (a ++ b ++ c) ≡ fourth
      → {x y z u : List ℕ} → x ≡ sets l at a → y ≡ sets x second b → z ≡ sets y third c → u ≡ sets z fourth d
      → u ≡ sets l at (a ++ b ++ c ++ d)
  put_four a b c d second third fourth p q r ex ey ez eu =
      put_next (a ++ b ++ c) d fourth r (put_three a b c second third p q ex ey ez) eu

  -- the bits of a number do not change with whole multiples of what four bytes hold
  pub put_biased :
      (n : ℕ) {x : List ℕ} → x ≡ sets l at (u32_bytes ((n % u32_values + sign_bias) % u32_values)) → x ≡ sets l at (u32_bytes (bits n))
  put_biased n e =
      let q : (n % u32_values + sign_bias) % u32_values ≡ bits n = omega arith in e ∙ ap (λ b. sets l at (u32_bytes b)) q

  pub put_level :
      (r : Level) {x y z : List ℕ}
      → x ≡ sets l at (u32_bytes (bits r.initial))
      → y ≡ sets x (at + 4) (u32_bytes (bits r.least))
      → z ≡ sets y (at + 8) (u32_bytes (bits r.most))
      → z ≡ sets l at (level_row r)
  unfolding level_row u32_bytes u16_bytes
  put_level r =
      put_three (u32_bytes (bits r.initial)) (u32_bytes (bits r.least)) (u32_bytes (bits r.most)) (at + 4) (at + 8) refl refl

  pub put_step :
      (r : Step) {x y z : List ℕ}
      → x ≡ sets l at (u32_bytes r.start)
      → y ≡ sets x (at + 4) (u32_bytes r.length)
      → z ≡ sets y (at + 8) (u16_bytes r.fixed)
      → z ≡ sets l at (step_row r)
  unfolding step_row u32_bytes u16_bytes
  put_step r = put_three (u32_bytes r.start) (u32_bytes r.length) (u16_bytes r.fixed) (at + 4) (at + 8) refl refl

  pub put_condition :
      (r : Condition) {x y z u v : List ℕ}
      → x ≡ sets l at (u16_bytes r.step)
      → y ≡ sets x (at + 2) (u16_bytes r.fact)
      → z ≡ sets y (at + 4) (u32_bytes r.from)
      → u ≡ sets z (at + 8) (u32_bytes r.to)
      → v ≡ sets u (at + 12) (u16_bytes r.value)
      → v ≡ sets l at (condition_row r)
  unfolding condition_row u32_bytes u16_bytes
  put_condition r ex ey ez eu =
      put_next (u16_bytes r.step ++ u16_bytes r.fact ++ u32_bytes r.from ++ u32_bytes r.to) (u16_bytes r.value) (at + 12) refl
      (put_four (u16_bytes r.step) (u16_bytes r.fact) (u32_bytes r.from) (u32_bytes r.to)
      (at + 2) (at + 4) (at + 8) refl refl refl ex ey ez eu)

  pub put_effect :
      (r : Effect) {x y z u : List ℕ}
      → x ≡ sets l at (u16_bytes r.step)
      → y ≡ sets x (at + 2) (u16_bytes r.fact)
      → z ≡ sets y (at + 4) (u32_bytes r.at)
      → u ≡ sets z (at + 8) (u16_bytes r.value)
      → u ≡ sets l at (effect_row r)
  unfolding effect_row u32_bytes u16_bytes
  put_effect r =
      put_four (u16_bytes r.step) (u16_bytes r.fact) (u32_bytes r.at) (u16_bytes r.value)
      (at + 2) (at + 4) (at + 8) refl refl refl

  pub put_use :
      (r : Use) {x y z u : List ℕ}
      → x ≡ sets l at (u16_bytes r.step)
      → y ≡ sets x (at + 2) (u16_bytes r.level)
      → z ≡ sets y (at + 4) (u32_bytes r.at)
      → u ≡ sets z (at + 8) (u32_bytes (bits r.amount))
      → u ≡ sets l at (use_row r)
  unfolding use_row u32_bytes u16_bytes
  put_use r =
      put_four (u16_bytes r.step) (u16_bytes r.level) (u32_bytes r.at) (u32_bytes (bits r.amount))
      (at + 2) (at + 4) (at + 8) refl refl refl

  pub put_goal :
      (r : Goal) {x y z : List ℕ}
      → x ≡ sets l at (u16_bytes r.fact)
      → y ≡ sets x (at + 2) (u16_bytes r.value)
      → z ≡ sets y (at + 4) (u32_bytes r.deadline)
      → z ≡ sets l at (goal_row r)
  unfolding goal_row u32_bytes u16_bytes
  put_goal r = put_three (u16_bytes r.fact) (u16_bytes r.value) (u32_bytes r.deadline) (at + 2) (at + 4) refl refl

-- What is encoded reads back: the header, every count, and every record.
use Prim.Native.Nat.{ℕ, ◌+◌, ◌*◌, ◌/◌, ◌%◌, ◌≤◌, ◌<◌}
use mathlib.Core.Path.{◌≡◌, refl, sym, ap, subst, ◌∙◌}
use mathlib.Core.Bool.{cond}
use native.Mathlib.Nat.{zero-add, add-zero}
use native.Mathlib.Decide.{ℕ_discrete}
use native.Mathlib.Omega.{arith}
use borrow.Author.Tests.{eq-eqb, ne_eqb}
use lib.Dec.{eqb}
use lib.ListN.{get_or}
use Rattle.little_endian.specs.Bytes.{sign_bias, u16_values, u32_values, byte_at, u16_at, u32_at, biased_at, u16_bytes, u32_bytes}
use Rattle.little_endian.proofs.Stands.{stands_u16, stands_u32}
use Rattle.job.specs.declared.layout.Job.{Job}
use Rattle.job.specs.Layout.{serial_mark, needs_edition, shortest_header, header_width, widths, counts_of, positions_of, job_of}
use Rattle.job.specs.Model.{Model, view, model_of, level_of, step_of, condition_of, effect_of, use_of, goal_of, timed_of, need_of}
use Rattle.job_encoding.specs.Encode.{counts_in, bits, level_row, step_row, condition_row, effect_row, use_row, goal_row, timed_row, need_row, record_bytes}
use Rattle.job_encoding.specs.Encode.{added_bytes, header_bytes, encode}
use Rattle.job_encoding.specs.Fits.{Fits}
use Rattle.job_encoding.specs.Agree.{Agree}
use Rattle.job_encoding.proofs.Places.{start_of, count_of, length_header, header_width_lem, record_width, header_stands, record_stands}

-- the number that the bytes of a number give
abbrev pub two : ℕ → ℕ
two n = n % 256 + 256 * (n / 256 % 256)

abbrev pub four : ℕ → ℕ
four n = two n + 65536 * two (n / 65536)

u16_back : (n : ℕ) → n < u16_values → two n ≡ n
u16_back n h = omega arith

pub u32_back : (n : ℕ) → n < u32_values → four n ≡ n
u32_back n h = omega arith

biased_back : (n : ℕ) → n < u32_values → (bits n + sign_bias) % u32_values ≡ n
biased_back n h = omega arith

module _ (edition : ℕ) (m : Model) where
  -- a number of the header, and one that all editions have
  pub header_u16 :
      (i n : ℕ) → i + 2 ≤ header_width edition → u16_at (header_bytes edition (counts_in m)) i ≡ two n → n < u16_values
      → u16_at (encode edition m) i ≡ n
  header_u16 i n l e h =
      ap (u16_at (encode edition m)) (sym (zero-add i))
      ∙ stands_u16 (encode edition m) 0 (header_bytes edition (counts_in m)) (header_stands edition m) i
      (omega (arith, length_header edition (counts_in m)))
      ∙ e
      ∙ u16_back n h

  common_u16 :
      (i n : ℕ) → i + 2 ≤ shortest_header → u16_at (header_bytes edition (counts_in m)) i ≡ two n → n < u16_values → u16_at (encode edition m) i ≡ n
  common_u16 i n l = header_u16 i n (omega (arith, header_width_lem edition))

  -- a field of a record, which begins at its place i of the record
  module _ (t k : ℕ) (l : t < 9) (h : k < count_of edition m t) where
    abbrev field_at : ℕ → ℕ
    field_at i = start_of edition m t + get_or widths t 0 * k + i

    field_u16 :
        (i n : ℕ) {p : ℕ} → p ≡ field_at i → i + 2 ≤ get_or widths t 0 → u16_at (record_bytes m t k) i ≡ two n → n < u16_values
        → u16_at (encode edition m) p ≡ n
    field_u16 i n q r e b =
        ap (u16_at (encode edition m)) q
        ∙ stands_u16 (encode edition m) (start_of edition m t + get_or widths t 0 * k) (record_bytes m t k) (record_stands edition m t k l h) i
        (omega (arith, record_width m t k l))
        ∙ e
        ∙ u16_back n b

    field_u32 :
        (i n : ℕ) {p : ℕ} → p ≡ field_at i → i + 4 ≤ get_or widths t 0 → u32_at (record_bytes m t k) i ≡ four n → n < u32_values
        → u32_at (encode edition m) p ≡ n
    field_u32 i n q r e b =
        ap (u32_at (encode edition m)) q
        ∙ stands_u32 (encode edition m) (start_of edition m t + get_or widths t 0 * k) (record_bytes m t k) (record_stands edition m t k l h) i
        (omega (arith, record_width m t k l))
        ∙ e
        ∙ u32_back n b

    field_biased :
        (i n : ℕ) {p : ℕ} → p ≡ field_at i → i + 4 ≤ get_or widths t 0 → u32_at (record_bytes m t k) i ≡ four (bits n) → n < u32_values
        → biased_at (encode edition m) p ≡ n
    unfolding biased_at
    field_biased i n q r e b =
        ap (λ x. (x + sign_bias) % u32_values) (field_u32 i (bits n) q r e (omega arith)) ∙ biased_back n b

  -- what the header says
  abbrev pub job_in : Job
  job_in =
      record { edition = edition; count = counts_in m; at = positions_of (header_width edition) (counts_in m) }

  module _ (w : Fits edition m) where
    pub edition_back : u16_at (encode edition m) 0 ≡ edition
    unfolding header_bytes u16_bytes u16_at
    edition_back = common_u16 0 edition (omega arith) refl (omega (arith, w.edition_to))

    needs_counted : cond (eqb (u16_at (encode edition m) 0) needs_edition) (u16_at (encode edition m) 52) 0 ≡ m.needs
    unfolding counts_in header_bytes added_bytes header_width u32_bytes u16_bytes u16_at
    needs_counted =
        ap (λ n. cond (eqb n needs_edition) (u16_at (encode edition m) 52) 0) edition_back
        ∙ elim (ℕ_discrete edition needs_edition) [
          | yes q ↦
              let e : u16_at (header_bytes edition (counts_in m)) 52 ≡ two m.needs =
              subst (λ n. u16_at (header_bytes n (counts_in m)) 52 ≡ two m.needs) (sym q) refl
              in
              rw (eq-eqb edition needs_edition q) (header_u16 52 m.needs (omega (arith, ap header_width q)) e w.needs)
          | no q ↦ rw (ne_eqb edition needs_edition q) (sym (w.needs_none (omega (arith, w.edition_to))))
        ]

    counts_back : counts_of (encode edition m) ≡ counts_in m
    unfolding counts_of counts_in header_bytes u16_bytes u16_at
    counts_back =
        cc (
          common_u16 4 m.facts (omega arith) refl w.facts,
          common_u16 6 m.levels (omega arith) refl w.levels,
          common_u16 8 m.steps (omega arith) refl w.steps,
          common_u16 12 m.conditions (omega arith) refl w.conditions,
          common_u16 14 m.effects (omega arith) refl w.effects,
          common_u16 16 m.uses (omega arith) refl w.uses,
          common_u16 10 m.goals (omega arith) refl w.goals,
          common_u16 18 m.timed (omega arith) refl w.timed,
          needs_counted,
        )

    pub unmarked : serial_mark (encode edition m) ≡ 0
    unfolding header_bytes u16_bytes u16_at
    unmarked = common_u16 2 0 (omega arith) refl (omega arith)

    pub job_back : job_of (encode edition m) ≡ job_in
    unfolding job_of
    job_back = cc (edition_back, counts_back)

    abbrev back : Model
    back = view job_in (encode edition m)

    -- each record
    fact_back : (k : ℕ) → k < m.facts → back.initial k ≡ m.initial k
    unfolding positions_of counts_in record_bytes
    fact_back k h =
        ap (byte_at (encode edition m)) (sym (add-zero _))
        ∙ record_stands edition m 0 k (omega arith) h 0 (omega (arith, record_width m 0 k (omega arith)))

    level_back : (k : ℕ) → k < m.levels → level_of back k ≡ level_of m k
    unfolding positions_of counts_in record_bytes level_row u32_bytes u16_bytes u32_at u16_at
    level_back k h =
        cc (
          field_biased 1 k (omega arith) h 0 (m.level_initial k) (sym (add-zero _)) (omega arith) refl (w.level_initial k h),
          field_biased 1 k (omega arith) h 4 (m.level_least k) refl (omega arith) refl (w.level_least k h),
          field_biased 1 k (omega arith) h 8 (m.level_most k) refl (omega arith) refl (w.level_most k h),
        )

    step_back : (k : ℕ) → k < m.steps → step_of back k ≡ step_of m k
    unfolding positions_of counts_in record_bytes step_row u32_bytes u16_bytes u32_at u16_at
    step_back k h =
        cc (
          field_u32 2 k (omega arith) h 0 (m.start k) (sym (add-zero _)) (omega arith) refl (w.start k h),
          field_u32 2 k (omega arith) h 4 (m.step_length k) refl (omega arith) refl (w.step_length k h),
          field_u16 2 k (omega arith) h 8 (m.fixed k) refl (omega arith) refl (w.fixed k h),
        )

    condition_back : (k : ℕ) → k < m.conditions → condition_of back k ≡ condition_of m k
    unfolding positions_of counts_in record_bytes condition_row u32_bytes u16_bytes u32_at u16_at
    condition_back k h =
        cc (
          field_u16 3 k (omega arith) h 0 (m.condition_step k) (sym (add-zero _)) (omega arith) refl (w.condition_step k h),
          field_u16 3 k (omega arith) h 2 (m.condition_fact k) refl (omega arith) refl (w.condition_fact k h),
          field_u32 3 k (omega arith) h 4 (m.condition_from k) refl (omega arith) refl (w.condition_from k h),
          field_u32 3 k (omega arith) h 8 (m.condition_to k) refl (omega arith) refl (w.condition_to k h),
          field_u16 3 k (omega arith) h 12 (m.condition_value k) refl (omega arith) refl (w.condition_value k h),
        )

    effect_back : (k : ℕ) → k < m.effects → effect_of back k ≡ effect_of m k
    unfolding positions_of counts_in record_bytes effect_row u32_bytes u16_bytes u32_at u16_at
    effect_back k h =
        cc (
          field_u16 4 k (omega arith) h 0 (m.effect_step k) (sym (add-zero _)) (omega arith) refl (w.effect_step k h),
          field_u16 4 k (omega arith) h 2 (m.effect_fact k) refl (omega arith) refl (w.effect_fact k h),
          field_u32 4 k (omega arith) h 4 (m.effect_at k) refl (omega arith) refl (w.effect_at k h),
          field_u16 4 k (omega arith) h 8 (m.effect_value k) refl (omega arith) refl (w.effect_value k h),
        )

    use_back : (k : ℕ) → k < m.uses → use_of back k ≡ use_of m k
    unfolding positions_of counts_in record_bytes use_row u32_bytes u16_bytes u32_at u16_at
    use_back k h =
        cc (
          field_u16 5 k (omega arith) h 0 (m.use_step k) (sym (add-zero _)) (omega arith) refl (w.use_step k h),
          field_u16 5 k (omega arith) h 2 (m.use_level k) refl (omega arith) refl (w.use_level k h),
          field_u32 5 k (omega arith) h 4 (m.use_at k) refl (omega arith) refl (w.use_at k h),
          field_biased 5 k (omega arith) h 8 (m.use_amount k) refl (omega arith) refl (w.use_amount k h),
        )

    goal_back : (k : ℕ) → k < m.goals → goal_of back k ≡ goal_of m k
    unfolding positions_of counts_in record_bytes goal_row u32_bytes u16_bytes u32_at u16_at
    goal_back k h =
        cc (
          field_u16 6 k (omega arith) h 0 (m.goal_fact k) (sym (add-zero _)) (omega arith) refl (w.goal_fact k h),
          field_u16 6 k (omega arith) h 2 (m.goal_value k) refl (omega arith) refl (w.goal_value k h),
          field_u32 6 k (omega arith) h 4 (m.goal_deadline k) refl (omega arith) refl (w.goal_deadline k h),
        )

    timed_back : (k : ℕ) → k < m.timed → timed_of back k ≡ timed_of m k
    unfolding positions_of counts_in record_bytes timed_row u32_bytes u16_bytes u32_at u16_at
    timed_back k h =
        cc (
          field_u16 7 k (omega arith) h 0 (m.timed_fact k) (sym (add-zero _)) (omega arith) refl (w.timed_fact k h),
          field_u32 7 k (omega arith) h 2 (m.timed_tick k) refl (omega arith) refl (w.timed_tick k h),
          field_u16 7 k (omega arith) h 6 (m.timed_value k) refl (omega arith) refl (w.timed_value k h),
        )

    need_back : (k : ℕ) → k < m.needs → need_of back k ≡ need_of m k
    unfolding positions_of counts_in record_bytes need_row u32_bytes u16_bytes u32_at u16_at
    need_back k h =
        cc (
          field_u16 8 k (omega arith) h 0 (m.need_step k) (sym (add-zero _)) (omega arith) refl (w.need_step k h),
          field_u16 8 k (omega arith) h 2 (m.need_level k) refl (omega arith) refl (w.need_level k h),
          field_u32 8 k (omega arith) h 4 (m.need_at k) refl (omega arith) refl (w.need_at k h),
          field_biased 8 k (omega arith) h 8 (m.need_least k) refl (omega arith) refl (w.need_least k h),
        )

    -- what is encoded reads back
    pub round_trip : Agree (model_of (encode edition m)) m
    unfolding counts_in
    round_trip =
        subst (λ (j : Job). Agree (view j (encode edition m)) m) (sym job_back)
        (record {
          facts = refl;
          levels = refl;
          steps = refl;
          conditions = refl;
          effects = refl;
          uses = refl;
          goals = refl;
          timed = refl;
          needs = refl;
          each_fact = fact_back;
          each_level = level_back;
          each_step = step_back;
          each_condition = condition_back;
          each_effect = effect_back;
          each_use = use_back;
          each_goal = goal_back;
          each_timed = timed_back;
          each_need = need_back;
        })

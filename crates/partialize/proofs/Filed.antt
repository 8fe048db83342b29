-- Contents that agree have the same bytes, and lists that hold what is filed of a job have its bytes.
use Prim.Native.Nat.{ℕ, zero, suc, ◌+◌, ◌*◌, ◌-◌, ◌/◌, ◌%◌, ◌<◌}
use mathlib.Core.Path.{◌≡◌, refl, sym, ap, ap₂, ◌∙◌}
use mathlib.Core.Bool.{◌&&◌, not}
use mathlib.Core.List.{List, ◌++◌}
use native.Mathlib.Decide.{dec_lt}
use native.Mathlib.Omega.{arith}
use borrow.Author.Tests.{lt-ltb, le-ltb}
use lib.ListN.{get_or}
use lib.Dec.{ltb, eqb}
use Rattle.order_file.specs.Table.{row_width, table_size, gap_at}
use Rattle.laws.specs.Listed.{concatenate}
use Rattle.little_endian.specs.Bytes.{u16_bytes}
use Rattle.laws.specs.Nth.{count, nth}
use Rattle.laws.proofs.Nth.{count_cong, nth_cong}
use Rattle.job.specs.Model.{Model}
use Rattle.order_file.specs.Contents.{Contents}
use Rattle.order_file.specs.Encode.{header_bytes, window_bytes, order_bytes, link_bytes, gap_bits, up_to_window, up_to_order, up_to_link, encode}
use Rattle.order_file.specs.Agree.{Agree}
use Rattle.orders.specs.Links.{nth_link}
use Rattle.orders.specs.Gaps.{gap_of}
use Rattle.orders.specs.File.{ordered, pair_of, file_with}
use Rattle.order_file.specs.Held.{entered, held_in}
use Rattle.partialize.specs.Holds.{Holds}
use Rattle.orders.proofs.Satisfied.{ordered_out, pair_ordered}

concatenate_cong : (f g : ℕ → List ℕ) (n : ℕ) → ((k : ℕ) → k < n → f k ≡ g k) → concatenate n f ≡ concatenate n g
unfolding concatenate
concatenate_cong f g zero h = refl
concatenate_cong f g (suc n) h = ap₂ ◌++◌ (concatenate_cong f g n (λ k l. h k (omega arith))) (h n (omega arith))

module _ (c d : Contents) (a : Agree c d) where
  header_agrees : header_bytes c ≡ header_bytes d
  unfolding header_bytes
  header_agrees = cc (a.steps, a.orders, a.links, a.rounds)

  windows_agree : concatenate c.steps (window_bytes c) ≡ concatenate d.steps (window_bytes d)
  unfolding window_bytes
  windows_agree =
      ap (λ n. concatenate n (window_bytes c)) a.steps
      ∙ concatenate_cong (window_bytes c) (window_bytes d) d.steps (λ k h. cc (a.limit k h, a.latest k h, a.earliest k h))

  orders_agree : concatenate c.orders (order_bytes c) ≡ concatenate d.orders (order_bytes d)
  unfolding order_bytes
  orders_agree =
      ap (λ n. concatenate n (order_bytes c)) a.orders
      ∙ concatenate_cong (order_bytes c) (order_bytes d) d.orders (λ k h. cc (a.first k h, a.second k h, ap gap_bits (a.gap k h)))

  links_agree : concatenate c.links (link_bytes c) ≡ concatenate d.links (link_bytes d)
  unfolding link_bytes
  links_agree =
      ap (λ n. concatenate n (link_bytes c)) a.links
      ∙ concatenate_cong (link_bytes c) (link_bytes d) d.links (λ k h. ap u16_bytes (a.link k h))

  -- contents that agree have the same bytes
  pub encode_agree : encode c ≡ encode d
  unfolding up_to_link up_to_order up_to_window
  encode_agree = ap₂ ◌++◌ (ap₂ ◌++◌ (ap₂ ◌++◌ header_agrees windows_agree) orders_agree) links_agree

module _
    (number : ℕ → ℕ) (m : Model) (x : ℕ → ℕ) (rounds : ℕ) (limits latest earliest gaps linked : List ℕ)
    (h : Holds number m x rounds limits latest earliest gaps linked)
  where
    -- the place of an entry from its pair of steps
    place : (q : ℕ) → row_width * (q / row_width) + q % row_width ≡ q
    place q = omega arith

    entry : (q : ℕ) → q / row_width < m.steps → q % row_width < m.steps → gap_at gaps q ≡ gap_of m x (q / row_width) (q % row_width)
    entry q a b = ap (gap_at gaps) (sym (place q)) ∙ h.gap_at (q / row_width) (q % row_width) a b

    no_entry : (q : ℕ) → q < table_size → (q / row_width < m.steps → q % row_width < m.steps → ⊥) → gap_at gaps q ≡ 0
    no_entry q l n = ap (gap_at gaps) (sym (place q)) ∙ h.empty_at (q / row_width) (q % row_width) (omega arith) (omega arith) n

    -- the entries are the pairs that are ordered
    entered_ordered : (q : ℕ) → q < table_size → entered gaps q ≡ ordered m x q
    unfolding ordered
    entered_ordered q l =
        elim (dec_lt (q / row_width) m.steps) [
          | yes a ↦ counted (dec_lt (q % row_width) m.steps) a
          | no a ↦ rw (no_entry q l (λ b _. a b), le-ltb (q / row_width) m.steps (omega arith))
        ]
      where
        counted :
            Dec (q % row_width < m.steps) → q / row_width < m.steps → not
            (eqb (gap_at gaps q) 0) ≡ (ltb (q / row_width) m.steps && ltb (q % row_width) m.steps && not (eqb (gap_of m x (q / row_width) (q % row_width)) 0))
        counted (yes b) a = rw (entry q a b, lt-ltb _ _ a, lt-ltb _ _ b)
        counted (no b) a = rw (no_entry q l (λ _ c. b c), lt-ltb _ _ a, le-ltb (q % row_width) m.steps (omega arith))

    same_pair : (o : ℕ) → nth table_size (entered gaps) o ≡ pair_of m x o
    same_pair o = nth_cong (entered gaps) (ordered m x) table_size o entered_ordered

    same_gap :
        (o : ℕ) → o < count table_size (ordered m x)
        → gap_at gaps (nth table_size (entered gaps) o) ≡ gap_of m x (pair_of m x o / row_width) (pair_of m x o % row_width)
    same_gap o l =
        let p = ordered_out m x (pair_of m x o) (pair_ordered m x o l) in
        ap (gap_at gaps) (same_pair o) ∙ entry (pair_of m x o) p.0 p.1

    same_link : (j : ℕ) → j < m.conditions + m.goals → get_or linked j 0 ≡ number (nth_link m x j)
    unfolding nth_link
    same_link j l =
        elim (dec_lt j m.conditions) [
          | yes a ↦ rw (lt-ltb _ _ a) (h.condition_at j a)
          | no a ↦
              let e : m.conditions + (j - m.conditions) ≡ j = omega arith in
              rw (le-ltb j m.conditions (omega arith))
              (ap (λ k. get_or linked k 0) (sym e) ∙ h.goal_at (j - m.conditions) (omega arith))
        ]

    held_agrees : Agree (held_in m.steps (m.conditions + m.goals) rounds limits latest earliest gaps linked) (file_with number m x)
    unfolding held_in file_with
    held_agrees =
        record {
          steps = refl;
          orders = count_cong (entered gaps) (ordered m x) table_size entered_ordered;
          links = refl;
          rounds = h.round_count;
          limit = h.limit_at;
          latest = h.latest_at;
          earliest = h.earliest_at;
          first = λ o _. ap (λ q. q / row_width) (same_pair o);
          second = λ o _. ap (λ q. q % row_width) (same_pair o);
          gap = same_gap;
          link = same_link;
        }

    -- the bytes of what the lists hold are those of the file
    pub held_file : encode (held_in m.steps (m.conditions + m.goals) rounds limits latest earliest gaps linked) ≡ encode (file_with number m x)
    held_file =
        encode_agree (held_in m.steps (m.conditions + m.goals) rounds limits latest earliest gaps linked) (file_with number m x) held_agrees

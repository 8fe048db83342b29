-- What the code finds holds what is filed, and what it then does with the buffer is what is to be written.
use Prim.Native.Nat.{ℕ, ◌+◌, ◌≤◌, ◌<◌}
use mathlib.Core.Path.{◌≡◌, sym, ap, ◌∙◌}
use mathlib.Core.List.{List}
use native.Mathlib.Omega.{arith}
use native.Mathlib.Nat.{add-sub_cancel_left}
use borrow.Author.Tests.{le-leb, lt-leb, lt-ltb, le-ltb}
use lib.ListN.{length, get_or}
use Rattle.std.specs.Prelude.{Ok, Err}
use Rattle.laws.specs.Nth.{count}
use Rattle.job.specs.Model.{Model}
use Rattle.order_file.specs.Encode.{encode}
use Rattle.order_file.specs.Layout.{file_length}
use Rattle.order_file.proofs.Encode.{length_encode}
use Rattle.partialize.specs.declared.answer.Unfiled.TheVariants.{BufferTooShort}
use Rattle.orders.specs.Links.{condition_link, goal_link, nth_link}
use Rattle.orders.specs.Gaps.{gap_of}
use Rattle.orders.specs.Windows.{limit_of, latest_of}
use Rattle.rounds.specs.Rounds.{rounds, earliest}
use Rattle.order_file.specs.Contents.{gap_bias}
use Rattle.order_file.specs.Table.{gap_in, start_in, table_size}
use Rattle.laws.specs.Listed.{Filled}
use Rattle.gaps.specs.Table.{TableOf}
use Rattle.orders.specs.File.{file_with}
use Rattle.order_file.specs.Held.{entered, held_in, over}
use Rattle.partialize.specs.Holds.{Holds, Filing}
use Rattle.rounds.proofs.Same.{rounds_same, earliest_same}
use Rattle.partialize.proofs.Filed.{held_file}

module _
    (number : ℕ → ℕ) (m : Model) (x : ℕ → ℕ) (found : ℕ) (limits latest early gaps linked : List ℕ)
    (links : (j : ℕ) → j < m.conditions + m.goals → get_or linked j 0 ≡ number (nth_link m x j)) (table : TableOf m.steps (gap_of m x) gaps)
    (limit : (k : ℕ) → k < m.steps → start_in limits k ≡ limit_of m x k)
    (late : (k : ℕ) → k < m.steps → start_in latest k ≡ latest_of m x k)
    (counted : found ≡ rounds m.steps (gap_in gaps) gap_bias (start_in limits))
    (filled : Filled m.steps (earliest m.steps (gap_in gaps) gap_bias (start_in limits)) limits early)
  where
    pub found_holds : Holds number m x found limits latest early gaps linked
    unfolding nth_link
    found_holds =
        record {
          round_count = counted ∙ rounds_same m.steps (gap_in gaps) (gap_of m x) gap_bias (start_in limits) (limit_of m x) table.below limit;
          limit_at = limit;
          latest_at = late;
          earliest_at =
              λ k l. filled.below k l ∙ earliest_same m.steps (gap_in gaps) (gap_of m x) gap_bias (start_in limits) (limit_of m x) table.below limit k
              l;
          gap_at = table.below;
          empty_at = λ i k _. table.rest i k;
          condition_at = λ c l. links c (omega arith) ∙ ap number (condition_link_lem c l);
          goal_at = λ g l. links (m.conditions + g) (omega arith) ∙ ap number (goal_link_lem g);
        }
      where
        condition_link_lem : (c : ℕ) → c < m.conditions → nth_link m x c ≡ condition_link m x c
        condition_link_lem c l = unfold nth_link in simp (lt-ltb _ _ l)

        goal_link_lem : (g : ℕ) → nth_link m x (m.conditions + g) ≡ goal_link m x g
        goal_link_lem g = unfold nth_link in simp (le-ltb (m.conditions + g) m.conditions (omega arith), add-sub_cancel_left)

module _ (number : ℕ → ℕ) (m : Model) (x : ℕ → ℕ) (found : ℕ) (limits latest early gaps linked : List ℕ)
    (holds : Holds number m x found limits latest early gaps linked) where
  -- the length that the code sums is the file's
  pub found_length : file_length m.steps (count table_size (entered gaps)) (m.conditions + m.goals) ≡ length (encode (file_with number m x))
  unfolding held_in
  found_length =
      sym (length_encode (held_in m.steps (m.conditions + m.goals) found limits latest early gaps linked))
      ∙ ap length (held_file number m x found limits latest early gaps linked holds)

  pub written_short :
      (n : ℕ) (before : List ℕ) → n ≡ length (encode (file_with number m x)) → length before < n
      → Filing (file_with number m x) before before (Err BufferTooShort)
  written_short n before e h =
      let f = lt-leb (length (encode (file_with number m x))) (length before) (omega arith) in
      record { answer = simp f; buffer = simp f }

  pub written_file :
      (n : ℕ) (before after : List ℕ) → n ≡ length (encode (file_with number m x)) → n ≤ length before
      → after ≡ over (encode (held_in m.steps (m.conditions + m.goals) found limits latest early gaps linked)) before
      → Filing (file_with number m x) before after (Ok n)
  written_file n before after e h a =
      let f = le-leb (length (encode (file_with number m x))) (length before) (omega arith) in
      record {
        answer = ap (λ k. Ok k) e ∙ simp f;
        buffer = a ∙ ap (λ (b : List ℕ). over b before) (held_file number m x found limits latest early gaps linked holds) ∙ simp f;
      }

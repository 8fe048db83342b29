-- How an index grows that is searched meanwhile.
use Prim.Native.Nat.{ℕ, ◌+◌, ◌≤◌, ◌<◌}
use mathlib.Core.Path.{◌≡◌, sym, subst, ◌∙◌}
use mathlib.Core.List.{List}
use native.Mathlib.Decide.{dec_lt}
use native.Mathlib.Omega.{arith}
use lib.ListN.{length, set, get_or, replicate, length-set, length-replicate, get_or-replicate}
use lib.Seq.{get_or-set_same, get_or-set_other}
use Rattle.laws.specs.Linked.{LastBefore}
use Rattle.laws.proofs.Linked.{last_none, last_here, last_other}
use Rattle.laws.proofs.Search.{by_order}
use Rattle.timeline.specs.Indexed.{Growing, key_count, capacity, index_size, unlinked}

-- An index that grows from its first record to its last: each becomes the last of its key, after the one that was.
module _ (key : ℕ → ℕ) where
  pub growing_start : Growing key 0 (replicate index_size unlinked)
  growing_start =
      record {
        size = length-replicate {A = ℕ} index_size unlinked;
        linked =
            record {
              lasts =
                  λ f h.
                  subst (LastBefore capacity key f 0) (sym (get_or-replicate {A = ℕ} index_size f unlinked 0 (omega arith)))
                  (last_none capacity key f unlinked (omega arith));
              befores = λ k h. absurd (omega arith);
            };
      }

  module _ (k : ℕ) (few : k < capacity) (low : key k < key_count) (index : List ℕ) (growing : Growing key k index) where
    abbrev put : List ℕ
    put = set index (key_count + k) (get_or index (key k) 0)

    abbrev next : List ℕ
    next = set (set index (key_count + k) (get_or index (key k) 0)) (key k) k

    size_put : length put ≡ index_size
    size_put = length-set index (key_count + k) (get_or index (key k) 0) ∙ growing.size

    last_else : (f : ℕ) → f < key_count → (key k ≡ f → ⊥) → (f ≡ key k → ⊥) → LastBefore capacity key f (k + 1) (get_or next f 0)
    last_else f h q r =
        subst (LastBefore capacity key f (k + 1))
        (sym (get_or-set_other put (key k) f k 0 r ∙ get_or-set_other index (key_count + k) f (get_or index (key k) 0) 0 (omega arith)))
        (last_other capacity key f k (get_or index f 0) q (growing.linked.lasts f h))

    last_of : (f : ℕ) → f < key_count → LastBefore capacity key f (k + 1) (get_or next f 0)
    last_of f h =
        by_order (key k) f
        (λ l. last_else f h (omega arith) (omega arith))
        (λ l. last_else f h (omega arith) (omega arith))
        (λ q.
        subst (λ g. LastBefore capacity key g (k + 1) (get_or next g 0)) q
        (subst (LastBefore capacity key (key k) (k + 1)) (sym (get_or-set_same put (key k) k 0 (omega (arith, size_put)))) (last_here capacity key k few)))

    before_of : (j : ℕ) → j < k + 1 → LastBefore capacity key (key j) j (get_or next (key_count + j) 0)
    before_of j l =
        elim (dec_lt j k) [
          | yes g ↦
              subst (LastBefore capacity key (key j) j)
              (sym (get_or-set_other put (key k) (key_count + j) k 0 (omega arith) ∙ get_or-set_other index (key_count + k) (key_count + j)
              (get_or index (key k) 0) 0 (omega arith)))
              (growing.linked.befores j g)
          | no g ↦
              subst (λ i. LastBefore capacity key (key i) i (get_or next (key_count + i) 0)) (let q : k ≡ j = omega arith in q)
              (subst (LastBefore capacity key (key k) k)
              (sym (get_or-set_other put (key k) (key_count + k) k 0 (omega arith) ∙ get_or-set_same index (key_count + k) (get_or index (key k) 0) 0
              (omega (arith, growing.size))))
              (growing.linked.lasts (key k) low))
        ]

    linked_next : Growing key (k + 1) (set (set index (key_count + k) (get_or index (key k) 0)) (key k) k)
    linked_next =
        record {
          size = length-set put (key k) k ∙ size_put;
          linked = record { lasts = last_of; befores = before_of };
        }

  -- A loop links record k, whose key f the code has read.
  pub growing_more :
      (k f : ℕ) (index : List ℕ) {grown : List ℕ} → k < capacity → f ≡ key k → f < key_count → Growing key k index → grown ≡ set
      (set index (key_count + k) (get_or index f 0)) f k → Growing key (k + 1) grown
  growing_more k f index few e low growing q =
      subst (Growing key (k + 1)) (sym q)
      (subst (λ g. Growing key (k + 1) (set (set index (key_count + k) (get_or index g 0)) g k)) (sym e)
      (linked_next k few (omega arith) index growing))

  pub growing_end : (m k : ℕ) (index : List ℕ) → k ≤ m → m ≤ k → Growing key k index → Growing key m index
  growing_end m k index h g growing = subst (λ j. Growing key j index) (let q : k ≡ m = omega arith in q) growing

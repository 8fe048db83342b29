-- A well formed file holds contents within the limits, and the file of such contents is well formed.
use Prim.Native.Nat.{ℕ, ◌+◌, ◌-◌, ◌≤◌, ◌<◌}
use mathlib.Core.Path.{◌≡◌, sym, ap, ap₂, ◌∙◌}
use mathlib.Core.Bool.{true, ◌&&◌, or-true}
use mathlib.Core.List.{List}
use mathlib.Core.Logic.{◌⊎◌, inl, inr, ⊎_elim}
use native.Mathlib.Omega.{arith}
use borrow.Author.Tests.{lt-ltb, le-leb, eq-eqb, ne_eqb, ltb-true, leb-true, eqb-true, eqb-false, not-true}
use lib.ListN.{length, get_or}
use lib.Dec.{ltb, leb, eqb}
use Rattle.laws.specs.Search.{all}
use Rattle.little_endian.specs.Bytes.{u16_at, u32_at}
use Rattle.laws.proofs.Search.{all_intro, all_elim, and_l, and_r, or_out}
use Rattle.order_file.specs.Contents.{Contents, step_limit, order_limit, link_limit, least_gap, most_gap, last_link, initial_state}
use Rattle.order_file.specs.Layout.{file_edition, windows_at, window_at, orders_at, links_at, file_length, contents_of}
use Rattle.order_file.specs.Encode.{encode}
use Rattle.order_check.specs.WellFormed.{layout_holds, length_holds, counts_hold, order_holds, ascends}
use Rattle.order_check.specs.WellFormed.{link_holds, rounds_hold, window_holds, well_formed}
use Rattle.order_file.specs.Within.{Before, Within}
use Rattle.order_file.specs.Agree.{Agree}
use Rattle.order_file.proofs.Encode.{length_encode}
use Rattle.order_file.proofs.RoundTrip.{round_trip, edition_back, windows_at_back, orders_at_back, links_at_back}

-- each test of contents that are within the limits passes
module _ (c : Contents) (w : Within c) where
  counts_pass : counts_hold c ≡ true
  unfolding counts_hold
  counts_pass = simp (le-leb c.steps step_limit w.steps, le-leb c.orders order_limit w.orders, le-leb c.links link_limit w.links)

  order_passes : (k : ℕ) → k < c.orders → order_holds c k ≡ true
  unfolding order_holds
  order_passes k h =
      simp (
        lt-ltb (c.first k) c.steps (w.first_counted k h),
        lt-ltb (c.second k) c.steps (w.second_counted k h),
        ne_eqb (c.first k) (c.second k) (w.apart k h),
        le-leb least_gap (c.gap k) (w.gap_least k h),
        le-leb (c.gap k) most_gap (w.gap_most k h),
      )

  ascends_passes : (k : ℕ) → k < c.orders - 1 → ascends c k ≡ true
  unfolding ascends
  ascends_passes k h =
      ⊎_elim
      (λ (l : c.first k < c.first (k + 1)). simp (lt-ltb (c.first k) (c.first (k + 1)) l))
      (λ (q : (c.first k ≡ c.first (k + 1)) × (c.second k < c.second (k + 1))).
      simp (eq-eqb (c.first k) (c.first (k + 1)) q.0, lt-ltb (c.second k) (c.second (k + 1)) q.1, or-true))
      (w.ascending k (omega arith))

  link_passes : (k : ℕ) → k < c.links → link_holds c k ≡ true
  unfolding link_holds
  link_passes k h =
      ⊎_elim
      (λ (l : c.link k ≤ last_link). simp (le-leb (c.link k) last_link l))
      (λ (q : c.link k ≡ initial_state). simp (eq-eqb (c.link k) initial_state q, or-true))
      (w.linked k h)

  rounds_pass : rounds_hold c ≡ true
  unfolding rounds_hold
  rounds_pass = le-leb c.rounds c.steps w.rounds

  window_passes : (k : ℕ) → k < c.steps → window_holds c k ≡ true
  unfolding window_holds
  window_passes k h =
      simp (le-leb (c.limit k) (c.earliest k) (w.from_limit k h), le-leb (c.earliest k) (c.latest k) (w.by_latest k h))

-- bytes of the right layout and length that say contents within the limits are an order file
well_formed_in : (b : List ℕ) → layout_holds b ≡ true → length_holds b ≡ true → Within (contents_of b) → well_formed b ≡ true
unfolding well_formed
well_formed_in b l n w =
    let c = contents_of b in
    simp (
      l,
      n,
      counts_pass c w,
      all_intro (order_holds c) c.orders (order_passes c w),
      all_intro (ascends c) (c.orders - 1) (ascends_passes c w),
      all_intro (link_holds c) c.links (link_passes c w),
      rounds_pass c w,
      all_intro (window_holds c) c.steps (window_passes c w),
    )

-- contents that agree with some within the limits are within them
agree_within : (d c : Contents) → Agree d c → Within c → Within d
agree_within d c a w =
    record {
      steps = omega (arith, a.steps, w.steps);
      orders = omega (arith, a.orders, w.orders);
      links = omega (arith, a.links, w.links);
      rounds = omega (arith, a.rounds, a.steps, w.rounds);
      first_counted = λ k h. let l : k < c.orders = omega (arith, a.orders) in omega (arith, a.first k l, a.steps, w.first_counted k l);
      second_counted = λ k h. let l : k < c.orders = omega (arith, a.orders) in omega (arith, a.second k l, a.steps, w.second_counted k l);
      apart = λ k h e. let l : k < c.orders = omega (arith, a.orders) in w.apart k l (sym (a.first k l) ∙ e ∙ a.second k l);
      gap_least = λ k h. let l : k < c.orders = omega (arith, a.orders) in omega (arith, a.gap k l, w.gap_least k l);
      gap_most = λ k h. let l : k < c.orders = omega (arith, a.orders) in omega (arith, a.gap k l, w.gap_most k l);
      ascending = λ k h.
          let l : k < c.orders = omega (arith, a.orders) in
          let m : k + 1 < c.orders = omega (arith, a.orders) in
          ⊎_elim
          (λ (q : c.first k < c.first (k + 1)). inl (omega (arith, a.first k l, a.first (k + 1) m)))
          (λ (q : (c.first k ≡ c.first (k + 1)) × (c.second k < c.second (k + 1))).
          inr (omega (arith, a.first k l, a.first (k + 1) m), omega (arith, a.second k l, a.second (k + 1) m)))
          (w.ascending k m);
      linked = λ k h.
          let l : k < c.links = omega (arith, a.links) in
          ⊎_elim
          (λ (q : c.link k ≤ last_link). inl (omega (arith, a.link k l)))
          (λ (q : c.link k ≡ initial_state). inr (a.link k l ∙ q))
          (w.linked k l);
      from_limit = λ k h. let l : k < c.steps = omega (arith, a.steps) in omega (arith, a.limit k l, a.earliest k l, w.from_limit k l);
      by_latest = λ k h. let l : k < c.steps = omega (arith, a.steps) in omega (arith, a.earliest k l, a.latest k l, w.by_latest k l);
      latest_most = λ k h. let l : k < c.steps = omega (arith, a.steps) in omega (arith, a.latest k l, w.latest_most k l);
    }

module _ (c : Contents) (w : Within c) where
  layout_encoded : layout_holds (encode c) ≡ true
  unfolding layout_holds
  layout_encoded =
      let a = round_trip c w in
      simp (
        eq-eqb (u16_at (encode c) 0) file_edition (edition_back c w),
        eq-eqb (u32_at (encode c) 12) windows_at (windows_at_back c w),
        eq-eqb (u32_at (encode c) 16) (orders_at (contents_of (encode c)).steps) (orders_at_back c w ∙ ap orders_at (sym a.steps)),
        eq-eqb (u32_at (encode c) 20) (links_at (contents_of (encode c)).steps (contents_of (encode c)).orders)
            (links_at_back c w ∙ ap₂ links_at (sym a.steps) (sym a.orders)),
      )

  length_encoded : length_holds (encode c) ≡ true
  unfolding length_holds
  length_encoded =
      let a = round_trip c w in
      eq-eqb (length (encode c)) (file_length (contents_of (encode c)).steps (contents_of (encode c)).orders (contents_of (encode c)).links)
      (omega (arith, length_encode c, a.steps, a.orders, a.links))

  -- the file of contents within the limits is well formed
  pub encode_well_formed : well_formed (encode c) ≡ true
  encode_well_formed =
      well_formed_in (encode c) layout_encoded length_encoded (agree_within (contents_of (encode c)) c (round_trip c w) w)

-- what each test that passed says
module _ (c : Contents) where
  counts_say : counts_hold c ≡ true → (c.steps ≤ step_limit) × (c.orders ≤ order_limit) × (c.links ≤ link_limit)
  unfolding counts_hold
  counts_say e = (
    leb-true c.steps step_limit (search (and_l, and_r, e)),
    leb-true c.orders order_limit (search (and_l, and_r, e)),
    leb-true c.links link_limit (search (and_l, and_r, e)),
  )

  first_says : (k : ℕ) → order_holds c k ≡ true → c.first k < c.steps
  unfolding order_holds
  first_says k e = ltb-true (c.first k) c.steps (search (and_l, and_r, e))

  second_says : (k : ℕ) → order_holds c k ≡ true → c.second k < c.steps
  unfolding order_holds
  second_says k e = ltb-true (c.second k) c.steps (search (and_l, and_r, e))

  apart_says : (k : ℕ) → order_holds c k ≡ true → c.first k ≡ c.second k → ⊥
  unfolding order_holds
  apart_says k e = eqb-false (c.first k) (c.second k) (not-true (eqb (c.first k) (c.second k)) (search (and_l, and_r, e)))

  gap_says : (k : ℕ) → order_holds c k ≡ true → (least_gap ≤ c.gap k) × (c.gap k ≤ most_gap)
  unfolding order_holds
  gap_says k e = (leb-true least_gap (c.gap k) (search (and_l, and_r, e)), leb-true (c.gap k) most_gap (search (and_l, and_r, e)))

  ascends_says : (k : ℕ) → ascends c k ≡ true → Before c k (k + 1)
  unfolding ascends
  ascends_says k e =
      let f = c.first k in
      let g = c.first (k + 1) in
      let s = ltb (c.second k) (c.second (k + 1)) in
      ⊎_elim
      (λ (l : ltb f g ≡ true). inl (ltb-true f g l))
      (λ (q : (eqb f g && s) ≡ true).
      inr (eqb-true f g (and_l (eqb f g) s q), ltb-true (c.second k) (c.second (k + 1)) (and_r (eqb f g) s q)))
      (or_out (ltb f g) (eqb f g && s) e)

  link_says : (k : ℕ) → link_holds c k ≡ true → (c.link k ≤ last_link) ⊎ (c.link k ≡ initial_state)
  unfolding link_holds
  link_says k e =
      ⊎_elim
      (λ (l : leb (c.link k) last_link ≡ true). inl (leb-true (c.link k) last_link l))
      (λ (q : eqb (c.link k) initial_state ≡ true). inr (eqb-true (c.link k) initial_state q))
      (or_out (leb (c.link k) last_link) (eqb (c.link k) initial_state) e)

  rounds_say : rounds_hold c ≡ true → c.rounds ≤ c.steps
  unfolding rounds_hold
  rounds_say e = leb-true c.rounds c.steps e

  window_says : (k : ℕ) → window_holds c k ≡ true → (c.limit k ≤ c.earliest k) × (c.earliest k ≤ c.latest k)
  unfolding window_holds
  window_says k e =
      (leb-true (c.limit k) (c.earliest k) (search (and_l, e)), leb-true (c.earliest k) (c.latest k) (search (and_l, and_r, e)))

-- a u32 of bytes is below 4294967296
u32_below : (b : List ℕ) → ((i : ℕ) → get_or b i 0 < 256) → (at : ℕ) → u32_at b at < 4294967296
unfolding u32_at u16_at
u32_below b h at = omega (arith, h at, h (at + 1), h (at + 2), h (at + 2 + 1))

latest_below : (b : List ℕ) → ((i : ℕ) → get_or b i 0 < 256) → (k : ℕ) → (contents_of b).latest k < 4294967296
unfolding contents_of
latest_below b h k = u32_below b h (window_at k + 4)

-- a well formed file of bytes holds contents within the limits
pub well_formed_within : (b : List ℕ) → ((i : ℕ) → get_or b i 0 < 256) → well_formed b ≡ true → Within (contents_of b)
unfolding well_formed
well_formed_within b bytes e =
    let c = contents_of b in
    let counts = counts_say c (search (and_l, and_r, e)) in
    let orders : all c.orders (order_holds c) ≡ true = search (and_l, and_r, e) in
    let ascending : all (c.orders - 1) (ascends c) ≡ true = search (and_l, and_r, e) in
    let links : all c.links (link_holds c) ≡ true = search (and_l, and_r, e) in
    let windows : all c.steps (window_holds c) ≡ true = search (and_l, and_r, e) in
    let order = all_elim (order_holds c) c.orders orders in
    let window = all_elim (window_holds c) c.steps windows in
    record {
      steps = counts.0;
      orders = counts.1;
      links = counts.2;
      rounds = rounds_say c (search (and_l, and_r, e));
      first_counted = λ k h. first_says c k (order k h);
      second_counted = λ k h. second_says c k (order k h);
      apart = λ k h. apart_says c k (order k h);
      gap_least = λ k h. (gap_says c k (order k h)).0;
      gap_most = λ k h. (gap_says c k (order k h)).1;
      ascending = λ k h. ascends_says c k (all_elim (ascends c) (c.orders - 1) ascending k (omega arith));
      linked = λ k h. link_says c k (all_elim (link_holds c) c.links links k h);
      from_limit = λ k h. (window_says c k (window k h)).0;
      by_latest = λ k h. (window_says c k (window k h)).1;
      latest_most = λ k h. omega (arith, latest_below b bytes k);
    }

-- A group of points against one point or a row: what is due by ticks, what is noted, and what a row of leads says.
use Prim.Native.Nat.{ℕ, ◌+◌, ◌*◌, ◌-◌, ◌≤◌, ◌<◌, max}
use mathlib.Core.Path.{◌≡◌, refl, sym, ap, ap₂, subst, ◌∙◌}
use mathlib.Core.Bool.{true, false, ◌&&◌}
use mathlib.Core.List.{List}
use mathlib.Core.Logic.{inr}
use native.Mathlib.Decide.{ℕ_discrete, dec_lt}
use native.Mathlib.Omega.{arith}
use borrow.Author.Tests.{eqb-true, leb-true, eq-eqb, le-leb}
use lib.Dec.{eqb, leb}
use lib.ListN.{length, get_or, set, replicate, length-set, length-replicate, get_or-replicate, get_or-eq_default}
use lib.Seq.{get_or-set_same, get_or-set_other}
use Rattle.laws.proofs.Search.{and_both, contrary}
use Rattle.job.specs.Model.{Model, longest}
use Rattle.timeline.specs.Words.{word_step, word_value, word_number, word_tick, step_at, value_at, tick_at, value_span}
use Rattle.validity.specs.Ticks.{schedule_of}
use Rattle.orders.specs.Gaps.{strictly}
use Rattle.order_file.specs.Table.{gap_in, gap_of_entry, Gaps, row_width, table_size, entry_bias, table_bias, empty_limit}
use Rattle.order_file.specs.Contents.{step_limit, most_gap}
use Rattle.origins.specs.declared.Origin.{Origin}
use Rattle.origins.specs.declared.Turn.{Turn}
use Rattle.origins.specs.Raised.{single}
use Rattle.origins.specs.Raised.{Raised}
use Rattle.origins.specs.Points.{offset_of, offset_at, point_origin, last_origin, OriginKnown, Group, Notable, Apart, Reached, Onto, After}
use Rattle.origins.specs.Points.{lead_place, leads_with, Leads, LeadKnown, LeadsKnown, Noting, NotedBack, RowKnown, due_at, Rowed, Ahead, Rowing}
use Rattle.origins.proofs.Reached.{reached_none, reached_is, reached_one, reached_narrow, within_down, within_empty}
use Rattle.origins.proofs.Row.{rowed_each}

-- a word's value is one of two
pub value_low : (word : ℕ) → word_value word < value_span
unfolding word_value
value_low word = omega arith

-- What is known of a group's points.
module _ {n : ℕ} {starts points : List ℕ} {low high : ℕ} (group : Group n starts points low high) (few : n ≤ step_limit) where
  pub group_wide : Group row_width starts points low high
  group_wide =
      record {
        begins = group.begins;
        ends = group.ends;
        rises = group.rises;
        step = λ p a b. omega (arith, group.step p a b);
        started = group.started;
        begun = group.begun;
        near = group.near;
      }

  pub group_notable : (p : ℕ) → low ≤ p → p < high → Notable starts (get_or points p 0)
  group_notable p a b =
      record {
        step = omega (arith, group.step p a b);
        started = group.started p a b;
        begun = group.begun p a b;
        near = group.near p a b;
      }

  -- its points from a place on
  pub group_from : (p : ℕ) → low ≤ p → p ≤ high → Group n starts points p high
  group_from p a b =
      record {
        begins = b;
        ends = group.ends;
        rises = λ q r c d e. group.rises q r (omega arith) d e;
        step = λ q c d. group.step q (omega arith) d;
        started = λ q c d. group.started q (omega arith) d;
        begun = λ q c d. group.begun q (omega arith) d;
        near = λ q c d. group.near q (omega arith) d;
      }

  -- What is known of an origin that the code made from one of them.
  module _ (p : ℕ) (from : low ≤ p) (to : p < high) {origin : Origin} where
    pub point_known : (turn : Turn) → origin ≡ point_origin (schedule_of starts) turn (get_or points p 0) → OriginKnown n origin
    point_known turn e =
        subst (λ o. OriginKnown n o) (sym e) (record { step = group.step p from to; near = group.near p from to; value = omega arith })

    pub last_known :
        (m : Model) → origin ≡ last_origin m (get_or points p 0) → m.condition_to (word_number (get_or points p 0)) ≤ longest → OriginKnown n origin
    last_known m e near =
        subst (λ o. OriginKnown n o) (sym e) (record { step = group.step p from to; near = near; value = omega arith })

pub origin_wide : {n : ℕ} {origin : Origin} → n ≤ step_limit → OriginKnown n origin → OriginKnown row_width origin
origin_wide few k = record { step = omega (arith, k.step); near = k.near; value = k.value }

-- What the code's test of a point says.
module _ (origin : Origin) (word : ℕ) {v t : ℕ} (value : v ≡ word_value word) (tick : t ≡ word_tick word) where
  pub onto_passes : (eqb v origin.value && leb origin.tick t) ≡ true → (word_value word ≡ origin.value) × (origin.tick ≤ word_tick word)
  onto_passes e =
      let both = and_both (eqb v origin.value) (leb origin.tick t) e in
      (sym value ∙ eqb-true _ _ both.0, omega (arith, tick, leb-true origin.tick t both.1))

  pub onto_fails : (eqb v origin.value && leb origin.tick t) ≡ false → word_value word ≡ origin.value → origin.tick ≤ word_tick word → ⊥
  onto_fails e same late = contrary (ap₂ ◌&&◌ (eq-eqb v origin.value (value ∙ same)) (le-leb origin.tick t (omega arith))) e

-- The order to a point, made or not.
module _ (n : ℕ) (x : ℕ → ℕ) (origin : Origin) (word : ℕ) where
  pub onto_none :
      (gaps : List ℕ) → (word_value word ≡ origin.value → origin.tick ≤ word_tick word → ⊥) → Reached n (Onto x origin word) gaps gaps
  onto_none gaps d = reached_none n (Onto x origin word) gaps (λ i k gap o. d o.0 o.1)

  pub onto_one :
      (entry : ℕ) (before after : List ℕ) {step : ℕ} → n ≤ step_limit → origin.step < n → word_step word < n → word_value word ≡ origin.value
      → origin.tick ≤ word_tick word
      → step ≡ word_step word
      → gap_of_entry entry ≡ strictly origin.at (offset_of x word)
      → Raised row_width (single origin.step step (gap_of_entry entry)) before after
      → Reached n (Onto x origin word) before after
  onto_one entry before after {step} few f s same late there made w =
      reached_is n (λ i k v. (origin.step ≡ i) × (step ≡ k) × (v ≡ gap_of_entry entry)) (Onto x origin word) before after
      (reached_one n origin.step step (gap_of_entry entry) before after few f (omega arith) w)
      (λ i k v a o. inr (same, late, o.0, sym there ∙ o.1, o.2 ∙ made))
      (λ i k v a o. (gap_of_entry entry, omega (arith, o.4, made), (o.2, there ∙ o.3, refl)))

module _ (starts points : List ℕ) where
  abbrev x : ℕ → ℕ
  x = schedule_of starts

  -- the leads of what is noted say the same as the points from the origin's tick on, if nothing before is from that tick on, and all that is
  -- noted of the origin's value is
  pub ahead_after :
      (n low high noted : ℕ) (origin : Origin) (leads before after : List ℕ) → Group n starts points low high → n ≤ step_limit → low ≤ noted
      → ((p : ℕ) → low ≤ p → p < noted → tick_at points p < origin.tick)
      → ((p : ℕ) → noted ≤ p → p < high → value_at points p ≡ origin.value → origin.tick ≤ tick_at points p)
      → Leads x points noted high leads
      → Reached n (Ahead origin leads) before after
      → Reached n (After x points low high origin) before after
  ahead_after n low high noted origin leads before after group few begins early late noting w =
      reached_is n (Ahead origin leads) (After x points low high origin) before after w
      (λ i k gap a o.
      let f = noting.found (lead_place origin.value k) o.1 in
      let from : low ≤ f.0 = omega (arith, begins, f.1) in
      let step : step_at points f.0 < n = group.step f.0 from f.2 in
      let near : offset_at x points f.0 ≤ longest = group.near f.0 from f.2 in
      let under : k < n = a.1 in
      let value : value_at points f.0 ≡ origin.value = omega (arith, f.3) in
      inr (
        f.0,
        from,
        f.2,
        (
          value,
          late f.0 f.1 f.2 value,
          o.0,
          omega (arith, f.3, value),
          omega (arith, o.2, f.4),
        ),
      ))
      (λ i k gap a o.
      let from : noted ≤ o.0 = within o.0 o.1 o.3.1 in
      let near : offset_at x points o.0 ≤ longest = group.near o.0 o.1 o.2 in
      let there : get_or leads (lead_place (value_at points o.0) (step_at points o.0)) 0 ≡ get_or leads (lead_place origin.value k) 0 =
      ap₂ (λ v s. get_or leads (lead_place v s) 0) o.3.0 o.3.3
      in
      let lead : entry_bias + 1 - offset_at x points o.0 ≤ get_or leads (lead_place origin.value k) 0 =
      omega (arith, there, noting.reaches o.0 from o.2)
      in
      (gap_of_entry (origin.at + get_or leads (lead_place origin.value k) 0), omega (arith, o.3.4), (o.3.2, omega arith, refl)))
    where
      within : (p : ℕ) → low ≤ p → origin.tick ≤ tick_at points p → noted ≤ p
      within p a b =
          elim (dec_lt p noted) [
            | yes l ↦ absurd (omega (arith, early p a l))
            | no l ↦ omega arith
          ]

  -- the origin that the code made
  pub after_given :
      (n low high : ℕ) (before now : List ℕ) {origin given : Origin} → origin ≡ given → Reached n (After x points low high origin) before now
      → Reached n (After x points low high given) before now
  after_given n low high before now e w = subst (λ o. Reached n (After x points low high o) before now) e w

  -- points up to the origin's own place are not after it
  after_later :
      (n low high p : ℕ) (origin : Origin) (before now : List ℕ) → Group n starts points low high → low ≤ p → p < high
      → tick_at points p < origin.tick
      → Reached n (After x points (p + 1) high origin) before now
      → Reached n (After x points low high origin) before now
  after_later n low high p origin before now group a b late w =
      reached_is n (After x points (p + 1) high origin) (After x points low high origin) before now w
      (λ i k gap c o. inr (o.0, omega (arith, o.1), o.2, o.3))
      (λ i k gap c o. (gap, omega arith, (o.0, past o.0 o.1 o.3.1, o.2, o.3)))
    where
      past : (q : ℕ) → low ≤ q → origin.tick ≤ tick_at points q → p + 1 ≤ q
      past q c t =
          elim (dec_lt p q) [
            | yes l ↦ omega arith
            | no l ↦
                elim (ℕ_discrete q p) [
                  | yes e ↦ absurd (omega (arith, ap (tick_at points) e))
                  | no e ↦ absurd (omega (arith, group.rises q p c (omega arith) b))
                ]
          ]

  pub later_given :
      (n low high p : ℕ) (turn : Turn) (before now : List ℕ) {origin : Origin} → Group n starts points low high → low ≤ p → p < high
      → origin ≡ point_origin x turn (get_or points p 0)
      → Reached n (After x points (p + 1) high origin) before now
      → Reached n (After x points low high (point_origin x turn (get_or points p 0))) before now
  later_given n low high p turn before now {origin} group a b e w =
      after_given n low high before now e (after_later n low high p origin before now group a b (omega (arith, ap (λ o. o.tick) e)) w)

  -- Leads: of nothing, and with one more point.
  pub leads_start : (noted high : ℕ) → high ≤ noted → Leads x points noted high (replicate (value_span * row_width) 0)
  leads_start noted high h =
      record {
        size = length-replicate {A = ℕ} (value_span * row_width) 0;
        reaches = λ p a b. absurd (omega arith);
        found = λ k l. absurd (omega (arith, zeros k));
      }
    where
      zeros : (k : ℕ) → get_or {A = ℕ} (replicate (value_span * row_width) 0) k 0 ≡ 0
      zeros k =
          elim (dec_lt k (value_span * row_width)) [
            | yes h ↦ get_or-replicate {A = ℕ} (value_span * row_width) k 0 0 h
            | no h ↦
                get_or-eq_default {A = ℕ} (replicate (value_span * row_width) 0) 0 {n = k}
                (omega (arith, length-replicate {A = ℕ} (value_span * row_width) 0))
          ]

  pub leads_known :
      (n low noted high : ℕ) (leads : List ℕ) → Group n starts points low high → low ≤ noted → Leads x points noted high leads
      → (k : ℕ) → LeadKnown (get_or leads k 0)
  leads_known n low noted high leads group from w k =
      record {
        most = elim (dec_lt 0 (get_or leads k 0)) [
          | yes l ↦ omega (arith, (w.found k l).4)
          | no l ↦ omega arith
        ];
        some =
            λ l.
            let f = w.found k l in
            omega (arith, f.4, group.near f.0 (omega (arith, f.1)) f.2);
      }

  -- those of a group of n steps lead to these
  pub leads_below :
      (n low noted high : ℕ) (leads : List ℕ) → Group n starts points low high → low ≤ noted → Leads x points noted high leads
      → LeadsKnown n leads
  leads_below n low noted high leads group from w =
      record {
        each = leads_known n low noted high leads group from w;
        below =
            λ value step small l.
            let f = w.found (lead_place value step) l in
            let inside : step_at points f.0 < n = group.step f.0 (omega (arith, from, f.1)) f.2 in
            omega (arith, f.3);
      }

  -- of one step and value the earlier point lies no further into the step
  pub leads_more :
      (n low p high : ℕ) (leads : List ℕ) → Group n starts points low high → n ≤ row_width → low < p → p ≤ high → Leads x points p high leads
      → Leads x points (p - 1) high (leads_with x (get_or points (p - 1) 0) leads)
  leads_more n low p high leads group few some end w =
      record { size = length-set leads place v ∙ w.size; reaches = reaches; found = found }
    where
      place_of : ℕ → ℕ
      place_of q = lead_place (value_at points q) (step_at points q)

      place : ℕ
      place = lead_place (value_at points (p - 1)) (step_at points (p - 1))

      v : ℕ
      v = entry_bias + 1 - offset_at x points (p - 1)

      step : (q : ℕ) → low ≤ q → q < high → step_at points q < row_width
      step q a b = omega (arith, group.step q a b)

      here : get_or (set leads place v) place 0 ≡ v
      here = get_or-set_same leads place v 0 (omega (arith, w.size, value_low (get_or points (p - 1) 0), step (p - 1) (omega arith) (omega arith)))

      less : (q : ℕ) → p ≤ q → q < high → place_of q ≡ place → entry_bias + 1 - offset_at x points q ≤ v
      less q a b s =
          let same : step_at points q ≡ step_at points (p - 1) =
          omega (arith, s, step q (omega arith) b, step (p - 1) (omega arith) (omega arith)) in
          omega (arith, ap x same, group.rises (p - 1) q (omega arith) (omega arith) b)

      reaches : (q : ℕ) → p - 1 ≤ q → q < high → entry_bias + 1 - offset_at x points q ≤ get_or (set leads place v) (place_of q) 0
      reaches q a b =
          elim (ℕ_discrete q (p - 1)) [
            | yes same ↦
                subst (λ j. entry_bias + 1 - offset_at x points j ≤ get_or (set leads place v) (place_of j) 0) (sym same) (omega (arith, here))
            | no other ↦
                elim (ℕ_discrete (place_of q) place) [
                  | yes s ↦ omega (arith, less q (omega arith) b s, ap (λ j. get_or (set leads place v) j 0) s, here)
                  | no s ↦ omega (arith, w.reaches q (omega arith) b, get_or-set_other leads place (place_of q) v 0 s)
                ]
          ]

      found :
          (k : ℕ) → 0 < get_or (set leads place v) k 0
          → (q : ℕ) × (p - 1 ≤ q) × (q < high) × (place_of q ≡ k) × (get_or (set leads place v) k 0 ≡ entry_bias + 1 - offset_at x points q)
      found k l =
          elim (ℕ_discrete k place) [
            | yes s ↦ (p - 1, omega arith, omega arith, sym s, ap (λ j. get_or (set leads place v) j 0) s ∙ here)
            | no s ↦
                let same : get_or (set leads place v) k 0 ≡ get_or leads k 0 = get_or-set_other leads place k v 0 s in
                let o = w.found k (omega (arith, same, l)) in
                (o.0, omega (arith, o.1), o.2, o.3, same ∙ o.4)
          ]

-- Going back, what is not before tick t parts from what is.
module _ {starts points : List ℕ} {low high t p : ℕ} {leads : List ℕ} (w : Noting starts points low high p t leads) where
  pub noting_all : p ≤ low → NotedBack (schedule_of starts) points low high t p leads
  noting_all none =
      record {
        parts = record { from = w.from; to = w.upto; before = λ q a b. absurd (omega arith); after = w.late };
        ahead = w.ahead;
      }

  module _ {tick : ℕ} (some : low < p) (read : tick ≡ tick_at points (p - 1)) where
    pub noting_found : tick < t → NotedBack (schedule_of starts) points low high t p leads
    noting_found early =
        record {
          parts = record {
            from = w.from;
            to = w.upto;
            before = λ q a b.
                elim (ℕ_discrete q (p - 1)) [
                  | yes same ↦ omega (arith, ap (tick_at points) same, read)
                  | no other ↦ omega (arith, read, w.upto, w.group.rises q (p - 1) a (omega arith) (omega (arith, w.upto)))
                ];
            after = w.late;
          };
          ahead = w.ahead;
        }

    -- one more point is not before it
    pub noting_more :
        {more : List ℕ} → t ≤ tick → more ≡ leads_with (schedule_of starts) (get_or points (p - 1) 0) leads
        → Noting starts points low high (p - 1) t more
    noting_more late e =
        let upto : p ≤ high = w.upto in
        record {
          group = w.group;
          from = omega arith;
          upto = omega arith;
          late = λ q a b.
              elim (ℕ_discrete q (p - 1)) [
                | yes same ↦ omega (arith, ap (tick_at points) same, read)
                | no other ↦ w.late q (omega arith) b
              ];
          ahead =
              subst (λ l. Leads (schedule_of starts) points (p - 1) high l) (sym e)
              (leads_more starts points row_width low p high leads w.group (omega arith) some upto w.ahead);
        }

-- The walk back over a range of points, whose orders begin no later than those of later points.
module _ {n : ℕ} {starts points : List ℕ} {origin : ℕ → Origin} {begin end low high : ℕ} (few : n ≤ step_limit)
    (group : Group n starts points low high) where
  pub rowing_start :
      (gaps : List ℕ) → begin ≤ end
      → Rowing n (schedule_of starts) points origin begin end low high gaps (replicate (value_span * row_width) 0) high end gaps
  rowing_start gaps h =
      record {
        from = h;
        upto = omega arith;
        noted_from = group.begins;
        noted_upto = omega arith;
        ahead = λ r q a b c d. absurd (omega arith);
        led = leads_start starts points high high (omega arith);
        reached = within_empty _ _ _ _ _ (omega arith);
      }

  module _ {before leads gaps : List ℕ} {noted p : ℕ} (w : Rowing n (schedule_of starts) points origin begin end low high before leads noted p gaps)
      (some : begin < p) {o : Origin} (e : o ≡ origin (get_or points (p - 1) 0)) where
    tick : o.tick ≡ (origin (get_or points (p - 1) 0)).tick
    tick = ap (λ o. o.tick) e

    pub rowing_noting : Noting starts points low high noted o.tick leads
    rowing_noting =
        record {
          group = group_wide group few;
          from = w.noted_from;
          upto = w.noted_upto;
          late = λ q a b. omega (arith, tick, w.ahead (p - 1) q (omega arith) (omega arith) a b);
          ahead = w.led;
        }

    module _ {now : List ℕ} {next : ℕ} (back : NotedBack (schedule_of starts) points low high o.tick next now) where
      pub rowing_known : LeadsKnown n now
      rowing_known = leads_below starts points n low next high now group back.parts.from back.ahead

      pub rowing_more :
          {raised : List ℕ} → ((r s : ℕ) → begin ≤ r → r < s → s < end → (origin (get_or points r 0)).tick ≤ (origin (get_or points s 0)).tick)
          → Reached n (Ahead o now) gaps raised
          → Rowing n (schedule_of starts) points origin begin end low high before now next (p - 1) raised
      rowing_more {raised} rises r =
          let upto : p ≤ end = w.upto in
          record {
            from = omega arith;
            upto = omega arith;
            noted_from = back.parts.from;
            noted_upto = back.parts.to;
            ahead = λ s q a b c d. omega (arith, tick, back.parts.after q c d, rises s (p - 1) a b (omega arith));
            led = back.ahead;
            reached =
                within_down _ _ _ _ _ p (p - 1) _ (omega arith) upto w.reached
                (after_given starts points n low high gaps raised e
                (ahead_after starts points n low high next o now gaps raised group few back.parts.from back.parts.before
                (λ q a b v. back.parts.after q a b) back.ahead r));
          }

-- the row of an origin's step, and the leads of its value
pub row_known :
    {n : ℕ} {origin : Origin} {leads gaps : List ℕ} → n ≤ step_limit → Gaps gaps → OriginKnown n origin → LeadsKnown n leads
    → RowKnown (row_width * origin.step) (row_width * origin.value) origin.at leads gaps
row_known few whole known led =
    record {
      whole = whole;
      within = omega (arith, known.step);
      led = omega (arith, known.value);
      near = known.near;
      each = led.each;
    }

module _ (origin : Origin) (leads before : List ℕ) where
  abbrev row : ℕ → ℕ
  row j = row_width * origin.step + j

  abbrev due : ℕ → ℕ
  due = due_at (row_width * origin.value) origin.at leads

  -- the row is raised to the orders of the leads
  rowed_reached :
      (n : ℕ) (now : List ℕ) → n ≤ step_limit → OriginKnown n origin → ((j : ℕ) → LeadKnown (get_or leads j 0)) → length before ≡ table_size
      → Rowed (row_width * origin.step) due before now n
      → Reached n (Ahead origin leads) before now
  rowed_reached n now few known led whole w =
      record {
        whole = λ g. record {
          size = w.size ∙ whole;
          most =
              rowed_each w (λ v. v ≤ most_gap + table_bias) g.most
              (λ j. omega (arith, (led (lead_place origin.value j)).most, known.near));
          low = rowed_each w (λ v. v ≤ table_bias → v ≤ empty_limit) g.low due_low;
        };
        rest = λ i j h q d. ap gap_of_entry (off i j h q (λ s a. d a));
        rises = λ i j a. elim (ℕ_discrete step i) [
          | yes s ↦ omega (arith, on i j s a)
          | no s ↦ omega (arith, off i j (omega (arith, a.1)) a.2 (λ t _. s t))
        ];
        reaches = λ i j gap a o. omega (arith, on i j o.0 a, o.2);
        least = least;
      }
    where
      step : ℕ
      step = origin.step

      inside : origin.step < n
      inside = known.step

      on : (i j : ℕ) → step ≡ i → Apart n i j → get_or now (row_width * i + j) 0 ≡ max (get_or before (row_width * i + j) 0) (due j)
      on i j s a =
          subst (λ r. get_or now (row_width * r + j) 0 ≡ max (get_or before (row_width * r + j) 0) (due j)) s (w.raised j a.1)

      off :
          (i j : ℕ) → j < row_width → (i ≡ j → ⊥) → (step ≡ i → Apart n i j → ⊥)
          → get_or now (row_width * i + j) 0 ≡ get_or before (row_width * i + j) 0
      off i j h q d = w.rest (row_width * i + j) (λ l r s. d (omega arith) (omega arith, omega arith, q))

      due_low : (j : ℕ) → due j ≤ table_bias → due j ≤ empty_limit
      due_low j h =
          elim (dec_lt 0 (get_or leads (lead_place origin.value j) 0)) [
            | yes l ↦ absurd (omega (arith, (led (lead_place origin.value j)).some l))
            | no l ↦ omega (arith, known.near)
          ]

      least :
          (i j bound : ℕ) → Apart n i j → gap_in before i j ≤ bound → ((gap : ℕ) → Ahead origin leads i j gap → gap ≤ bound)
          → gap_in now i j ≤ bound
      least i j bound a h all =
          elim (ℕ_discrete step i) [
            | yes s ↦
                elim (dec_lt 0 (get_or leads (lead_place origin.value j) 0)) [
                  | yes l ↦
                      omega (arith, on i j s a, all (gap_of_entry (origin.at + get_or leads (lead_place origin.value j) 0)) (s, l, refl), h)
                  | no l ↦ omega (arith, on i j s a, known.near, h)
                ]
            | no s ↦ omega (arith, off i j (omega (arith, a.1)) a.2 (λ t _. s t))
          ]

  -- a longer row is raised no further, if the leads are those of n steps
  pub row_reached :
      (n m : ℕ) (now : List ℕ) → n ≤ m → m ≤ step_limit → OriginKnown n origin → LeadsKnown n leads → length before ≡ table_size
      → Rowed (row_width * origin.step) due before now m
      → Reached n (Ahead origin leads) before now
  row_reached n m now few wide known led whole w =
      reached_narrow n m (Ahead origin leads) before now few
      (rowed_reached m now wide (record { step = omega (arith, known.step); near = known.near; value = known.value }) led.each whole w)
      (λ i k gap a o. (omega (arith, o.0, known.step), led.below origin.value k (omega (arith, a.1)) o.1))

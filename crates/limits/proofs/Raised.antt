-- The limits to which timed facts raise the steps are those of the definition.
use Prim.Native.Nat.{ℕ, ◌+◌, ◌-◌, ◌≤◌, ◌<◌}
use mathlib.Core.Path.{◌≡◌, refl, sym, ap, subst, ◌∙◌}
use mathlib.Core.List.{List}
use mathlib.Core.Logic.{◌⊎◌, inl, inr, ⊎_elim}
use native.Mathlib.Omega.{arith}
use lib.ListN.{get_or}
use Rattle.job.specs.Model.{Model, timed_of}
use Rattle.job.specs.Clocked.{clocked}
use Rattle.job.proofs.Clocked.{clocked_form}
use Rattle.validity.specs.Ticks.{schedule_of, effect_tick}
use Rattle.points.specs.Points.{Setter, Wanting}
use Rattle.links.proofs.LinkList.{condition_link_lem, valid_named}
use Rattle.order_file.specs.Contents.{gap_bias}
use Rattle.order_file.specs.Table.{start_in}
use Rattle.orders.specs.Links.{condition_link}
use Rattle.orders.specs.Gaps.{support_gap, opposing_gap, condition_gap}
use Rattle.orders.specs.Windows.{clock_gap, clock_limit}
use Rattle.orders.proofs.Orders.{Opposer}
use Rattle.limits.specs.Timed.{TimedPoints, TimedLinks, AllAre, most_limit, ClockLimits}
use Rattle.moves.specs.Moved.{Up, Moved, Among, start_after}
use Rattle.limits.specs.Beside.{Later, OfSetters, OfWanted, LimitBy, LimitByLink, LinksNamed}
use Rattle.moves.proofs.Moved.{up_same, up_on, moved_either}
use Rattle.orders.proofs.Bounds.{support_le, support_ge, opposing_le, opposing_ge, condition_le, before_ge, clock_ge, clock_le}
use Rattle.limits.proofs.Grouped.{later_found, later_known}
use Rattle.limits.proofs.Clock.{timed_step, timed_offset, timed_tick_lem, timed_opposes, of_clock, clock_opposes, of_step_lem}
use Rattle.limits.proofs.Clock.{own_step_lem, own_fact, own_offset, own_value, own_tick}

module _ {m : Model} {starts points begins links : List ℕ} (w : TimedPoints m starts points begins) (l : TimedLinks m starts links) where
  abbrev M : Model
  M = clocked m

  abbrev x : ℕ → ℕ
  x = schedule_of starts

  pub links_named : LinksNamed m links
  links_named =
      record {
        room = omega (arith, l.room);
        named = λ c h d. valid_named M x links l.linked (clocked_form m w.form) w.valid c h d;
      }

  -- an order of rule 1, 2 or 3 from the clock to step k
  abbrev Order : ℕ → ℕ → Type 0
  Order k v = Among 0 m.timed (LimitBy m x points begins) k v ⊎ Among 0 m.conditions (LimitByLink m links) k v

  -- each is at most the definition's gap
  setter_under :
      (j k v : ℕ) → j < m.timed → OfSetters points begins (m.timed_fact j) (Later x (timed_of m j)) k v
      → v ≤ clock_gap M x m.steps k - gap_bias
  setter_under j k v h o =
      let q = later_known x m.effect_at m.effect_value m.effect_step (Setter m (m.timed_fact j)) points _ _
      (w.known.setters (m.timed_fact j) (w.form.timed_fact j h)) (timed_of m j) k v o
      in
      let f = q.0 in
      let e = q.1.0 in
      let gap = opposing_ge M x m.steps k (m.effects + j) f (omega (arith, e)) (timed_step w j) (own_step_lem w f e ∙ q.4)
      (timed_opposes w j (M.effect_fact f) (M.effect_value f) h (own_fact w f e ∙ q.1.1) (λ z. q.2 (sym (own_value w f e) ∙ z)))
      (omega (arith, timed_tick_lem w j, own_tick w f e, q.3))
      in
      omega (arith, gap, (clock_ge M x m.steps k).1, timed_offset w j, own_offset w f e, q.5)

  wanted_under :
      (j k v : ℕ) → j < m.timed → OfWanted m points begins (m.timed_fact j) (Later x (timed_of m j)) k v
      → v ≤ clock_gap M x m.steps k - gap_bias
  wanted_under j k v h o =
      let q = later_known x m.condition_from m.condition_value m.condition_step (Wanting m (m.timed_fact j)) points _ _
      (w.known.wanted (m.timed_fact j) (w.form.timed_fact j h)) (timed_of m j) k v o
      in
      let c = q.0 in
      let gap = before_ge M x m.steps k c (m.effects + j) q.1.0 (timed_step w j) q.4
      (timed_opposes w j (m.condition_fact c) (m.condition_value c) h q.1.1 q.2)
      (omega (arith, timed_tick_lem w j, q.3))
      in
      omega (arith, gap, (clock_ge M x m.steps k).2, timed_offset w j, q.5)

  link_under : (c k v : ℕ) → c < m.conditions → LimitByLink m links c k v → v ≤ clock_gap M x m.steps k - gap_bias
  link_under c k v h o =
      let link = get_or links c 0 in
      let j = link - m.effects in
      let named = links_named.named c h o.1 in
      let at : link ≡ m.effects + j = omega (arith, o.0) in
      let is : condition_link M x c ≡ m.effects + j = sym (condition_link_lem M x links l.linked c h) ∙ at in
      let gap = support_ge M x m.steps k c h (λ z. o.1 (condition_link_lem M x links l.linked c h ∙ z))
      (ap M.effect_step is ∙ timed_step w j) o.2
      in
      omega (arith, gap, (clock_ge M x m.steps k).0, ap M.effect_at is, timed_offset w j, o.3)

  under : (k v : ℕ) → Order k v → v ≤ clock_limit M x k
  unfolding clock_limit
  under k v o =
      ⊎_elim
      (λ (p : Among 0 m.timed (LimitBy m x points begins) k v).
      ⊎_elim
      (λ (q : OfSetters points begins (m.timed_fact p.0) (Later x (timed_of m p.0)) k v). setter_under p.0 k v p.2 q)
      (λ (q : OfWanted m points begins (m.timed_fact p.0) (Later x (timed_of m p.0)) k v). wanted_under p.0 k v p.2 q)
      p.3)
      (λ (p : Among 0 m.conditions (LimitByLink m links) k v). link_under p.0 k v p.2 p.3)
      o

  -- and that is at most what bounds each
  module _ (k : ℕ) (h : k < m.steps) (bound : ℕ) (all : (v : ℕ) → Order k v → v ≤ bound) where
    opposing_over : opposing_gap M x m.steps k ≤ bound + gap_bias
    opposing_over =
        opposing_le M x m.steps k (bound + gap_bias)
        (λ e f r s t o b.
        let j = of_clock w e o.known s in
        let i = of_step_lem w f k r h t in
        let at : effect_tick M x e ≡ m.timed_tick j.0 = ap (effect_tick M x) j.2 ∙ timed_tick_lem w j.0 in
        let off : M.effect_at e ≡ m.timed_tick j.0 = ap M.effect_at j.2 ∙ timed_offset w j.0 in
        let d = clock_opposes w j.0 (M.effect_fact f) (M.effect_value f) (subst (Opposer M (M.effect_fact f) (M.effect_value f)) j.2 o) in
        let fact : m.effect_fact f ≡ m.timed_fact j.0 = sym (own_fact w f i) ∙ d.0 in
        let found = later_found x m.effect_at m.effect_value m.effect_step (Setter m (m.timed_fact j.0)) points _ _
        (w.known.setters (m.timed_fact j.0) (w.form.timed_fact j.0 j.1)) (timed_of m j.0) k f (i, fact)
        (λ z. d.1 (own_value w f i ∙ z)) (omega (arith, at, own_tick w f i, b)) (sym (own_step_lem w f i) ∙ t)
        in
        omega (arith, off, own_offset w f i, all _ (inl (j.0, omega arith, j.1, inl found))))

    condition_over : condition_gap M x m.steps k ≤ bound + gap_bias
    condition_over =
        condition_le M x m.steps k (bound + gap_bias)
        (λ c e i s t o b.
        let j = of_clock w e o.known s in
        let at : effect_tick M x e ≡ m.timed_tick j.0 = ap (effect_tick M x) j.2 ∙ timed_tick_lem w j.0 in
        let off : M.effect_at e ≡ m.timed_tick j.0 = ap M.effect_at j.2 ∙ timed_offset w j.0 in
        let d = clock_opposes w j.0 (m.condition_fact c) (m.condition_value c)
        (subst (Opposer M (m.condition_fact c) (m.condition_value c)) j.2 o)
        in
        let found = later_found x m.condition_from m.condition_value m.condition_step (Wanting m (m.timed_fact j.0)) points _ _
        (w.known.wanted (m.timed_fact j.0) (w.form.timed_fact j.0 j.1)) (timed_of m j.0) k c (i, d.0)
        d.1 (omega (arith, at, b)) t
        in
        omega (arith, off, all _ (inl (j.0, omega arith, j.1, inr found))))
        (λ c e i s t o b. absurd (omega (arith, s, w.form.condition_step c i)))

    support_over : support_gap M x m.steps k ≤ bound + gap_bias
    support_over =
        support_le M x m.steps k (bound + gap_bias)
        (λ c i n s t.
        let q = condition_link_lem M x links l.linked c i in
        let named = links_named.named c i (λ z. n (sym q ∙ z)) in
        let j = of_clock w (condition_link M x c) (omega (arith, q, named)) s in
        let e : get_or links c 0 - m.effects ≡ j.0 = omega (arith, q, j.2) in
        let off : M.effect_at (condition_link M x c) ≡ m.timed_tick (get_or links c 0 - m.effects) =
        ap M.effect_at j.2 ∙ timed_offset w j.0 ∙ ap m.timed_tick (sym e)
        in
        omega (
          arith,
          off,
          all (start_after (m.timed_tick (get_or links c 0 - m.effects)) (m.condition_from c))
              (inr (c, omega arith, i, (omega (arith, q, j.2), λ z. n (sym q ∙ z), t, refl))),
        ))

    over : clock_limit M x k ≤ bound
    unfolding clock_limit
    over = omega (arith, clock_le M x m.steps k (bound + gap_bias) support_over opposing_over condition_over)

  -- the theorem: raised from 0 by timed facts and then by links
  pub limits_are :
      {before mid after : List ℕ} → AllAre 0 before → Moved Up (Among 0 m.timed (LimitBy m x points begins)) before mid
      → Moved Up (Among 0 m.conditions (LimitByLink m links)) mid after
      → ClockLimits m x after
  limits_are {before} {mid} {after} z a b =
      let whole = moved_either Up up_same up_on (Among 0 m.timed (LimitBy m x points begins)) (Among 0 m.conditions (LimitByLink m links))
      before mid after a b
      in
      let is : (k : ℕ) → k < m.steps → start_in after k ≡ clock_limit M x k =
      λ k h.
      omega (
        arith,
        whole.least k (clock_limit M x k) (omega (arith, z.each k (omega (arith, h, w.form.step_count)))) (λ v o. under k v o),
        over k h (start_in after k) (λ v o. whole.reaches k v o),
      )
      in
      record {
        size = whole.size ∙ z.size;
        each = is;
        most = λ k h.
            whole.least k most_limit (omega (arith, z.each k (omega (arith, h, w.form.step_count))))
            (λ v o. omega (arith, most k v o));
      }
    where
      most : (k v : ℕ) → Order k v → v ≤ most_limit
      most k v o =
          ⊎_elim
          (λ (p : Among 0 m.timed (LimitBy m x points begins) k v).
          ⊎_elim
          (λ (q : OfSetters points begins (m.timed_fact p.0) (Later x (timed_of m p.0)) k v).
          omega (arith, q.3.3, w.form.timed_tick p.0 p.2))
          (λ (q : OfWanted m points begins (m.timed_fact p.0) (Later x (timed_of m p.0)) k v).
          omega (arith, q.3.3, w.form.timed_tick p.0 p.2))
          p.3)
          (λ (p : Among 0 m.conditions (LimitByLink m links) k v).
          let o = p.3 in
          let named = links_named.named p.0 p.2 o.1 in
          omega (arith, o.3, w.form.timed_tick (get_or links p.0 0 - m.effects) (omega (arith, o.0, named))))
          o

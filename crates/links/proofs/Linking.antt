-- How the links are put: along the conditions of a fact, fact by fact, then goal by goal.
use Prim.Native.Nat.{ℕ, ◌+◌, ◌≤◌, ◌<◌}
use mathlib.Core.Path.{◌≡◌, refl, sym, ap, ◌∙◌}
use mathlib.Core.Bool.{false, ◌&&◌}
use mathlib.Core.List.{List}
use mathlib.Core.Logic.{inl, inr}
use native.Mathlib.Decide.{dec_lt, ℕ_discrete}
use native.Mathlib.Omega.{arith}
use lib.Dec.{eqb}
use lib.ListN.{length, get_or, set}
use Rattle.job.specs.Model.{Model}
use Rattle.timeline.specs.declared.walk.Cursor.{Cursor}
use Rattle.timeline.specs.Words.{step_span, step_at, number_at, tick_at, value_at}
use Rattle.timeline.specs.Placed.{Parted, Run}
use Rattle.timeline.proofs.Walking.{run_none}
use Rattle.points.specs.Points.{PointsKnown, Wanting, wanted_group}
use Rattle.orders.specs.Links.{nth_link}
use Rattle.links.specs.Linkable.{LinksFound}
use Rattle.links.specs.Linking.{run_link, LinkIs, LinksPut, Below, FromTo, Beside, Linking}
use Rattle.links.specs.declared.tie.Tie.{Tie}
use Rattle.links.specs.Tied.{TieAt, OwnPlace}
use Rattle.links.proofs.Tied.{tie_empty}
use Rattle.links.proofs.Supported.{TakenAt, taken_own, condition_some, condition_is}
use Rattle.links.proofs.Putting.{put_none, put_one, put_then, put_as, put_filled, links_room}

-- Along the conditions of fact f.
module _ {points begins before : List ℕ} (f : ℕ) {initial low high first end : ℕ} where
  pub linking_start :
      {m : Model} {firsts : List ℕ} → Beside m points begins f initial low high first end before → length firsts ≡ step_span
      → Linking points begins f initial low high first end first (record { place = low; run = low }) (record { from = low; end = low }) firsts
      before before
  linking_start {m} beside size =
      let known = beside.can.some.1 in
      let group = known.setters f beside.fact in
      record {
        some = (m, beside);
        from = omega arith;
        to = omega (arith, beside.wanted, beside.last, (known.wanted f beside.fact).begins);
        walking = λ _.
            record {
              ends = rw beside.next.0 group.ends;
              rises = rw (beside.begin, beside.next.0) group.rises;
              from = omega arith;
              to = omega (arith, beside.begin, beside.next.0, group.begins);
              before = λ q l i. absurd (omega arith);
              run = run_none (omega arith) (omega arith) refl;
            };
        tied = tie_empty size (omega (arith, beside.begin, group.begins, group.ends));
        put = λ n _ x known valid. put_none before (λ k q. let from = q.1 in let to = q.2 in omega arith);
      }

  module _ {p : ℕ} {cursor : Cursor} {tie : Tie} {firsts list : List ℕ}
      (so : Linking points begins f initial low high first end p cursor tie firsts before list) where
    -- at one more condition: what is known of it, and that there is room for its link
    module _ (l : p < end) where
      pub linking_room : number_at points p < length list
      linking_room =
          let beside = so.some.1 in
          let from : first ≤ p = so.from in
          let is = (beside.can.some.1.wanted f beside.fact).holds p (omega (arith, beside.wanted)) (omega (arith, beside.last)) in
          omega (arith, is.0, (links_room beside.can (so.put so.some.0 beside)).room)

      module _ {t value step place run at : ℕ} {found : Tie} {noted : List ℕ} (tick : t ≡ tick_at points p) (is : value ≡ value_at points p)
          (parts : Parted points low high t place) (ran : Run points low place run) (own : step ≡ step_at points p)
          (tied : TieAt points high run found noted) (goes : OwnPlace points found.from found.end step at) where
        -- what a job says of it whose points these are
        module _ {m : Model} (beside : Beside m points begins f initial low high first end before) where
          from : get_or begins (wanted_group m f) 0 ≤ p
          from = omega (arith, so.from, beside.wanted)

          within : p < get_or begins (wanted_group m f + 1) 0
          within = omega (arith, beside.last)

          parted : Parted points (get_or begins f 0) (get_or begins (f + 1) 0) (tick_at points p) place
          parted = rw (beside.begin, beside.next.0, tick) at parts

          takes :
              {x : ℕ → ℕ} → PointsKnown m x points begins → run < get_or begins (f + 1) 0
              → TakenAt points (λ e. m.effect_step e ≡ step_at points p) (get_or begins (f + 1) 0) run at
          takes known some =
              let whole = tied.known.whole (omega (arith, tied.begins, tied.some (omega (arith, beside.next.0)))) in
              taken_own known f beside.fact (omega (arith, ran.from, beside.begin)) (rw (tied.begins, beside.next.0) at whole)
              (rw (tied.begins, own) at goes)

          some : (eqb run low && eqb initial value) ≡ false → at < length points
          some q =
              let x = beside.can.some in
              omega (
                arith,
                condition_some x.1 beside.can.form x.2 f p beside.fact from within parted (rw beside.begin at ran) (takes x.1)
                    (rw (beside.begin, beside.initially, is) at q),
                (x.1.setters f beside.fact).ends,
              )

          one : {link : ℕ} → link ≡ run_link points initial value low run at → LinkIs m points begins (number_at points p) link
          one linked x known valid =
              (rw (beside.begin, beside.initially, is) at linked)
              ∙ condition_is known beside.can.form valid f p beside.fact from within parted (rw beside.begin at ran) (takes known)

          later : p + 1 < end → tick_at points p ≤ tick_at points (p + 1)
          later i = (beside.can.some.1.wanted f beside.fact).rises p (p + 1) from (omega arith) (omega (arith, beside.last))

        pub linking_some : (eqb run low && eqb initial value) ≡ false → at < length points
        linking_some q = some so.some.1 q

        pub linking_more :
            {c link : ℕ} → c ≡ number_at points p → link ≡ run_link points initial value low run at
            → Linking points begins f initial low high first end (p + 1) (record { place = place; run = run }) found noted before (set list c link)
        linking_more {c} {link} number linked =
            let walking = so.walking l in
            record {
              some = so.some;
              from = omega (arith, so.from);
              to = omega arith;
              walking = λ i.
                  record {
                    ends = walking.ends;
                    rises = walking.rises;
                    from = parts.from;
                    to = parts.to;
                    before = λ q j k. omega (arith, parts.before q j k, later so.some.1 i);
                    run = ran;
                  };
              tied = tied.known;
              put = λ m beside x known valid.
                  put_then (so.put m beside x known valid)
                  (put_one list c link (rw number linking_room) (one beside linked x known valid ∙ ap (nth_link m x) (sym number)))
                  (λ k q. (q.0, q.1, omega (arith, q.2), q.3))
                  (λ k q. (p, so.from, omega arith, sym number ∙ sym q))
                  (λ k q.
                  elim (ℕ_discrete k c) [
                    | yes e ↦ inl e
                    | no e ↦
                        elim (dec_lt q.0 p) [
                          | yes i ↦ inr ((q.0, q.1, i, q.3), e)
                          | no i ↦
                              let at : q.0 ≡ p = omega (arith, q.2) in
                              absurd (e (sym q.3 ∙ ap (number_at points) at ∙ sym number))
                        ]
                  ]);
            }

    -- all conditions of the fact have been passed
    pub linking_end :
        {m : Model} → Beside m points begins f initial low high first end before → end ≤ p
        → LinksPut m points begins (Wanting m f) before list
    linking_end {m} beside l x known valid =
        let group = known.wanted f beside.fact in
        put_as (so.put m beside x known valid)
        (λ k q.
        let is = group.holds q.0 (omega (arith, q.1, beside.wanted)) (omega (arith, q.2, so.to, beside.last)) in
        (rw q.3 at is.0, ap m.condition_fact (sym q.3) ∙ is.1))
        (λ k q. let at = group.found k q in (at.0, omega (arith, at.1, beside.wanted), omega (arith, at.2, beside.last), at.3))

module _ {m : Model} {points begins before : List ℕ} where
  -- Fact by fact.
  pub below_more :
      {f : ℕ} {list after : List ℕ} → LinksPut m points begins (Below m f) before list → LinksPut m points begins (Wanting m f) list after
      → LinksPut m points begins (Below m (f + 1)) before after
  below_more {f} so put x known valid =
      put_then (so x known valid) (put x known valid)
      (λ k q. (q.0, omega (arith, q.1)))
      (λ k q. (q.0, omega (arith, q.1)))
      (λ k q.
      elim (ℕ_discrete (m.condition_fact k) f) [
        | yes e ↦ inl (q.0, e)
        | no e ↦ inr ((q.0, omega (arith, q.1)), λ g. e g.1)
      ])

  -- Goal by goal.
  pub goals_more :
      (g : ℕ) {link : ℕ} {list : List ℕ} → m.conditions + g < length list → LinkIs m points begins (m.conditions + g) link
      → LinksPut m points begins (FromTo m.conditions (m.conditions + g)) before list
      → LinksPut m points begins (FromTo m.conditions (m.conditions + (g + 1))) before (set list (m.conditions + g) link)
  goals_more g {link} {list} h is so x known valid =
      put_then (so x known valid) (put_one list (m.conditions + g) link h (is x known valid))
      (λ k q. (q.0, omega (arith, q.1)))
      (λ k q. (omega arith, omega arith))
      (λ k q.
      elim (ℕ_discrete k (m.conditions + g)) [
        | yes e ↦ inl e
        | no e ↦ inr ((q.0, omega (arith, q.1)), e)
      ])

  -- conditions and goals together
  pub links_found :
      {list after : List ℕ} → LinksPut m points begins (λ c. c < m.conditions) before list
      → LinksPut m points begins (FromTo m.conditions (m.conditions + m.goals)) list after
      → LinksFound m points begins before after
  links_found conditions goals x known valid =
      put_filled
      (put_then (conditions x known valid) (goals x known valid)
      (λ k l. let r : k < m.conditions + m.goals = omega arith in r)
      (λ k q. q.1)
      (λ k l.
      elim (dec_lt k m.conditions) [
        | yes i ↦ inr (i, λ q. let from = q.0 in omega arith)
        | no i ↦ inl (omega arith, l)
      ]))

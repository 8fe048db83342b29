-- What loosening promises, of a job that the job check refuses and of one whose contents were filed. What was filed reads back, so a
-- choice satisfies the file exactly if it satisfies its contents.
use Prim.Native.Nat.{ℕ, ◌+◌, ◌≤◌, ◌<◌}
use mathlib.Core.Path.{◌≡◌, refl, sym, ap, ap₂, ◌∙◌, subst}
use mathlib.Core.Bool.{Bool, true, false, cond, ◌&&◌}
use mathlib.Core.List.{List}
use mathlib.Core.Logic.{inl, inr, ⊎_elim}
use native.Mathlib.Omega.{arith}
use borrow.Author.Tests.{eq-eqb, ne_eqb}
use lib.ListN.{length, take, drop, get_or-eq_default}
use lib.Dec.{leb, eqb}
use lib.Seq.{take-append_seam}
use Rattle.laws.proofs.Search.{either, contrary}
use Rattle.laws.proofs.Listed.{length_tabulate, get_d_tabulate}
use Rattle.std.specs.Prelude.{Result, Ok, Err}
use Rattle.std.specs.Result.{IsErrAnd}
use Rattle.std.proofs.lemmas.Result.{err_from_is_err_and}
use Rattle.verdict.specs.declared.Refusal.{Refusal}
use Rattle.verdict.specs.Verdict.{Verdict, Accepted}
use Rattle.verdict.proofs.Chain.{refusal_nonzero}
use Rattle.verdict.specs.Verdict as verdict
use Rattle.job.specs.Model.{Model, model_of, last_start}
use Rattle.job.specs.WellFormed.{WellFormed}
use Rattle.job.specs.Clocked.{clocked, with_clock, ClockedForm}
use Rattle.job.proofs.Clocked.{clocked_form, clock_start}
use Rattle.validity.specs.Ticks.{schedule_of, planned_starts, planned}
use Rattle.validity.specs.Valid.{Valid}
use Rattle.validity.specs.Checks.{job_check}
use Rattle.validity.specs.Promise.{Sound, JobPromise}
use Rattle.order_file.specs.Contents.{Contents}
use Rattle.order_file.specs.Layout.{contents_of}
use Rattle.order_file.specs.Encode.{encode}
use Rattle.order_file.specs.Within.{Within}
use Rattle.order_file.specs.Agree.{Agree}
use Rattle.orders.specs.Satisfies.{Satisfies, SatisfiesFile}
use Rattle.order_file.proofs.RoundTrip.{round_trip}
use Rattle.order_check.proofs.WellFormed.{encode_well_formed}
use Rattle.order_answers.proofs.ReadBack.{encoded_read_back}
use Rattle.validity.proofs.EndState.{valid_ends}
use Rattle.validity.proofs.Accepted.{schedule_promise}
use Rattle.partialize.specs.declared.answer.Unfiled.{Unfiled}
use Rattle.partialize.specs.declared.answer.Unfiled.TheVariants.{Refused, BufferTooShort}
use Rattle.partialize.specs.Answer.{Answer, number, place, length_of}
use Rattle.orders.specs.Obeys.{Obeys}
use Rattle.orders.specs.Limited.{Limited}
use Rattle.orders.specs.Windows.{limit_of, latest_of}
use Rattle.orders.specs.File.{earliest_of, link_number, linked_effect, file_with, file_of}
use Rattle.order_file.specs.Held.{over}
use Rattle.partialize.specs.Partialization.{loose_of, file_bytes, accepts, fits, unless_refused, answer_to, buffer_after}
use Rattle.partialize.specs.Demands.{Exact, Loose, Promise}
use Rattle.partialize.specs.Holds.{Filing}
use Rattle.orders.specs.Links.{nth_link}
use Rattle.orders.proofs.Supporter.{links_supported}
use Rattle.orders.proofs.Sound.{obeying_valid}
use Rattle.orders.proofs.End.{same_end_lem}
use Rattle.orders.proofs.Satisfied.{satisfies_obeys, planned_satisfies_lem, earliest_first, earliest_planned, earliest_satisfies}
use Rattle.orders.proofs.Within.{nth_known, file_within}
use Rattle.orders.proofs.Limited.{limits_plain, limited_same}
use Rattle.orders.proofs.Numbers.{number_initial, number_last, link_back, obeys_clock}
use Rattle.partialize.proofs.Counted.{filed_gap_lem, some_counted, last_counted, earlier_counted}

-- contents that agree are satisfied alike
module _ (c d : Contents) (a : Agree c d) (y : ℕ → ℕ) where
  agree_satisfies : Satisfies c y → Satisfies d y
  agree_satisfies s =
      record {
        from_limit = λ k h. omega (arith, a.limit k h, s.from_limit k (omega arith));
        by_latest = λ k h n. omega (arith, a.latest k h, s.by_latest k (omega arith) (λ e. n (sym (a.latest k h) ∙ e)));
        keeps = λ o h. rw (a.first o h, a.second o h, a.gap o h) at (s.keeps o (omega arith));
      }

  satisfies_agree : Satisfies d y → Satisfies c y
  satisfies_agree s =
      record {
        from_limit = λ k h. let l : k < d.steps = omega arith in omega (arith, a.limit k l, s.from_limit k l);
        by_latest = λ k h n.
            let l : k < d.steps = omega arith in
            omega (arith, a.latest k l, s.by_latest k l (λ e. n (a.latest k l ∙ e)));
        keeps = λ o h. let l : o < d.orders = omega arith in rw (a.first o l, a.second o l, a.gap o l) (s.keeps o l);
      }

-- and so are starts that agree on the steps
starts_satisfy : (c : Contents) (y z : ℕ → ℕ) → Within c → ((k : ℕ) → k < c.steps → y k ≡ z k) → Satisfies c y → Satisfies c z
starts_satisfy c y z w e s =
    record {
      from_limit = λ k h. omega (arith, e k h, s.from_limit k h);
      by_latest = λ k h n. omega (arith, e k h, s.by_latest k h n);
      keeps = λ o h.
          omega (arith, e (c.first o) (w.first_counted o h), e (c.second o) (w.second_counted o h), s.keeps o h);
    }

-- the planned schedule starts the clock at 0, and every step within the range of starts
planned_zero : (m : Model) → planned m m.steps ≡ 0
planned_zero m = get_or-eq_default (planned_starts m) 0 {n = m.steps} (omega (arith, length_tabulate m.start m.steps))

planned_early : (m : Model) → WellFormed m → (k : ℕ) → k < m.steps → planned m k ≤ last_start
planned_early m w k h = omega (arith, get_d_tabulate m.start m.steps k 0 h, w.start_range k h)

-- the file of a well-formed job whose planned schedule is valid
module _ (m : Model) (w : WellFormed m) (v : Valid (clocked m) (planned m)) where
  abbrev M : Model
  M = clocked m

  abbrev x : ℕ → ℕ
  x = planned m

  form : ClockedForm M
  form = clocked_form m w

  pub within : Within (file_of m x)
  unfolding file_of
  within = file_within M x form v (planned_zero m) (planned_early m w) (link_number m) (number_initial m) (number_last m w)

  read_back : Agree (contents_of (encode (file_of m x))) (file_of m x)
  read_back = round_trip (file_of m x) within

  file_obeys : (y : ℕ → ℕ) → SatisfiesFile (encode (file_of m x)) y → Obeys M x y
  unfolding file_of
  file_obeys y h =
      satisfies_obeys M x form (link_number m) y (agree_satisfies (contents_of (encode (file_of m x))) (file_of m x) read_back y h)

  -- so what satisfies it is sound, with the clock's start
  file_valid : (y : ℕ → ℕ) → SatisfiesFile (encode (file_of m x)) y → Valid M (with_clock m y)
  file_valid y h =
      obeying_valid M x (with_clock m y) form v (planned_zero m) (clock_start m y) (obeys_clock m x y (file_obeys y h))

  -- and so is a list with one start a step, which gives the clock none
  list_valid : (starts : List ℕ) → length starts ≡ m.steps → SatisfiesFile (encode (file_of m x)) (schedule_of starts) → Valid M (schedule_of starts)
  list_valid starts e h =
      obeying_valid M x (schedule_of starts) form v (planned_zero m) (get_or-eq_default starts 0 {n = m.steps} (omega arith))
      (file_obeys (schedule_of starts) h)

  satisfies_file : (y : ℕ → ℕ) → Satisfies (file_of m x) y → SatisfiesFile (encode (file_of m x)) y
  satisfies_file y h = satisfies_agree (contents_of (encode (file_of m x))) (file_of m x) read_back y h

  earliest_filed : (k : ℕ) → k < m.steps → (contents_of (encode (file_of m x))).earliest k ≡ earliest_of M x k
  unfolding file_of file_with
  earliest_filed = read_back.earliest

  filed_satisfies : SatisfiesFile (encode (file_of m x)) (contents_of (encode (file_of m x))).earliest
  unfolding file_of file_with
  filed_satisfies =
      satisfies_file (contents_of (encode (file_of m x))).earliest
      (starts_satisfy (file_of m x) (earliest_of M x) (contents_of (encode (file_of m x))).earliest within
      (λ k h. sym (earliest_filed k h))
      (earliest_satisfies M x form v (planned_zero m) (link_number m)))

  planned_filed : SatisfiesFile (encode (file_of m x)) x
  unfolding file_of
  planned_filed = satisfies_file x (planned_satisfies_lem M x form v (planned_zero m) (link_number m))

  rounds_filed : (contents_of (encode (file_of m x))).rounds ≤ m.steps
  unfolding file_of file_with
  rounds_filed = omega (arith, read_back.rounds, within.rounds)

  -- its limits and latest starts are those of the plain record
  filed_limits : {c : Contents} → Agree c (file_of m x) → Limited m x c.limit c.latest
  unfolding file_of file_with
  filed_limits {c} a =
      limited_same m x (limit_of M x) (latest_of M x) c.limit c.latest a.limit a.latest (limits_plain m x w v (planned_zero m))

  -- its links are read back as what supports
  filed_links :
      {c : Contents} → Agree c (file_of m x) → (j : ℕ) → j < m.conditions + m.goals → linked_effect m (c.link j) ≡ nth_link M x j
  unfolding file_of file_with
  filed_links a j h = ap (linked_effect m) (a.link j h) ∙ link_back m w (nth_link M x j) (nth_known M x form v j h)

-- demands 2 and 3 of the file of a sound job
module _ (s : List ℕ) (p : Sound s (planned (model_of s))) where
  exact_file : Exact s (encode (loose_of s))
  unfolding loose_of file_of
  exact_file =
      let m = model_of s in
      let w = p.well_formed in
      let v = p.valid in
      let a = read_back m w v in
      let c = contents_of (encode (loose_of s)) in
      record {
        readable = encode_well_formed (loose_of s) (within m w v);
        contents = a;
        returned = encoded_read_back (loose_of s) (within m w v);
        supporters =
            links_supported (clocked m) (planned m) (form m w v) v (λ j. linked_effect m (c.link j)) (filed_links m w v a);
        gaps = filed_gap_lem (link_number m) (clocked m) (planned m) (form m w v) v (planned_zero m) c a;
        windows = filed_limits m w v a;
      }

  loose_file : Loose s (encode (loose_of s))
  unfolding loose_of file_of
  loose_file =
      let m = model_of s in
      let x : ℕ → ℕ = planned m in
      let w = p.well_formed in
      let v = p.valid in
      let f = form m w v in
      let z = planned_zero m in
      let number = link_number m in
      let c = contents_of (encode (file_of m x)) in
      record {
        valid = file_valid m w v;
        accepted = λ starts e h.
            (schedule_promise s starts refl).complete e (record { form = p.form; well_formed = w; valid = list_valid m w v starts e h });
        ends = λ y h. valid_ends (clocked m) (with_clock m y) f (file_valid m w v y h);
        same_end = λ y h.
            same_end_lem (clocked m) x (with_clock m y) f v z (clock_start m y) (obeys_clock m x y (file_obeys m w v y h));
        at_or_after = λ y h k l. omega (arith, earliest_filed m w v k l, earliest_first (clocked m) x f v z y (file_obeys m w v y h) k l);
        earliest_satisfy = filed_satisfies m w v;
        at_most_planned = λ k l.
            omega (arith, earliest_filed m w v k l, earliest_planned (clocked m) x f v z k l, get_d_tabulate m.start m.steps k 0 l);
        planned_satisfies = planned_filed m w v;
        few_rounds = rounds_filed m w v;
        some_round = some_counted number (clocked m) x f v z c (read_back m w v);
        last_unchanged = last_counted number (clocked m) x f v z c (read_back m w v);
        earlier_changes = earlier_counted number (clocked m) x f v z c (read_back m w v);
      }

-- the number, the place and the length of an answer, by the cases of its definition
answer_cases : (f : Bool) (n : ℕ) (v : Verdict) → let r = unless_refused v (cond f (Ok n) (Err BufferTooShort)) in let a = eqb (verdict.number v) 0 in
    (number r ≡ cond a (cond f 0 15) (verdict.number v)) × (place r ≡ cond a verdict.nowhere (verdict.place v)) × (length_of r ≡ cond (a && f) n 0)
answer_cases true n (Ok _) = (refl, refl, refl)
answer_cases false n (Ok _) = (refl, refl, refl)
answer_cases f n (Err r) = rw (ne_eqb (verdict.refusal_number r) 0 (refusal_nonzero r)) (refl, refl, refl)

-- what `?` hands back of a check that refuses
pub handed : {A : Type 0} (result : Result A Unfiled) {r : Refusal} → IsErrAnd result (λ x. x ≡ Refused r) → result ≡ Err (Refused r)
handed result e = let p = err_from_is_err_and result e in p.1 ∙ ap (λ x. Err x) p.2

module _ (s before : List ℕ) (r : Answer) (e : r ≡ answer_to s (length before)) where
  numbered : number r ≡ cond (accepts s) (cond (fits s (length before)) 0 15) (verdict.number (job_check s))
  unfolding answer_to accepts
  numbered = ap number e ∙ (answer_cases (fits s (length before)) (length (file_bytes s)) (job_check s)).0

  placed : place r ≡ cond (accepts s) verdict.nowhere (verdict.place (job_check s))
  unfolding answer_to accepts
  placed = ap place e ∙ (answer_cases (fits s (length before)) (length (file_bytes s)) (job_check s)).1

  measured : length_of r ≡ cond (accepts s && fits s (length before)) (length (file_bytes s)) 0
  unfolding answer_to accepts
  measured = ap length_of e ∙ (answer_cases (fits s (length before)) (length (file_bytes s)) (job_check s)).2

  truly_refused : (v : Refusal) → r ≡ Err (Refused v) → verdict.refusal_number v ≡ 0 → ⊥
  truly_refused v q = refusal_nonzero v

module _ (s before : List ℕ) (v : Refusal) (j : JobPromise s (Err v)) where
  -- a refusal of the job check
  refuses : accepts s ≡ false
  unfolding accepts
  refuses = ne_eqb _ _ (λ e. refusal_nonzero v (ap verdict.number j.answer ∙ e))

  refused_answer : Err (Refused v) ≡ answer_to s (length before)
  unfolding answer_to
  refused_answer = rw (sym j.answer) refl

  pub refused_promise : Promise s before before (Err (Refused v))
  unfolding buffer_after
  refused_promise =
      let a = refused_answer in
      record {
        answer = a;
        buffer = rw refuses;
        number = numbered s before (Err (Refused v)) a;
        place = placed s before (Err (Refused v)) a;
        length = measured s before (Err (Refused v)) a;
        refused = truly_refused s before (Err (Refused v)) a;
        sound = λ e. absurd (refusal_nonzero v e);
        complete = λ h. absurd (refusal_nonzero v (j.complete h));
        exact = λ e. absurd (refusal_nonzero v e);
        loose = λ e. absurd (refusal_nonzero v e);
      }

module _ (s before after : List ℕ) (r : Answer) (j : JobPromise s Accepted) (w : Filing (loose_of s) before after r) where
  accepted : accepts s ≡ true
  unfolding accepts
  accepted = eq-eqb _ _ (sym (ap verdict.number j.answer))

  answered : r ≡ answer_to s (length before)
  unfolding answer_to fits file_bytes
  answered = rw (sym j.answer) w.answer

  buffered : after ≡ buffer_after s before
  unfolding buffer_after fits file_bytes
  buffered = rw accepted w.buffer

  -- the file fits
  fitting : leb (length (encode (loose_of s))) (length before) ≡ true → Promise s before after r
  fitting t =
      let e : r ≡ Ok (length (encode (loose_of s))) = rw t at w.answer in
      let b : after ≡ over (encode (loose_of s)) before = rw t at w.buffer in
      let f : take (length_of r) after ≡ encode (loose_of s) =
      ap₂ (λ (q : Answer) (l : List ℕ). take (length_of q) l) e b
      ∙ take-append_seam (encode (loose_of s)) (drop (length (encode (loose_of s))) before)
      in
      record {
        answer = answered;
        buffer = buffered;
        number = numbered s before r answered;
        place = placed s before r answered;
        length = measured s before r answered;
        refused = truly_refused s before r answered;
        sound = λ _. j.sound refl;
        complete = λ _. inl (ap number e);
        exact = λ _. subst (Exact s) (sym f) (exact_file s (j.sound refl));
        loose = λ _. subst (Loose s) (sym f) (loose_file s (j.sound refl));
      }

  -- it does not
  short : r ≡ Err BufferTooShort → number r ≡ 0 → ⊥
  short e n = let q : ◌≡◌ {A = ℕ} 15 0 = sym (ap number e) ∙ n in omega arith

  too_short : leb (length (encode (loose_of s))) (length before) ≡ false → Promise s before after r
  too_short t =
      let e : r ≡ Err BufferTooShort = rw t at w.answer in
      record {
        answer = answered;
        buffer = buffered;
        number = numbered s before r answered;
        place = placed s before r answered;
        length = measured s before r answered;
        refused = truly_refused s before r answered;
        sound = λ n. absurd (short e n);
        complete = λ _. inr e;
        exact = λ n. absurd (short e n);
        loose = λ n. absurd (short e n);
      }

  pub filed_promise : Promise s before after r
  filed_promise = ⊎_elim fitting too_short (either (leb (length (encode (loose_of s))) (length before)))

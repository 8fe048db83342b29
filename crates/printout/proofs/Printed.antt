-- What loosening answers with room for the longest order file: the job's file, or a refusal of the job check, so never 15. The text of
-- either is what is shown.
use Prim.Native.Nat.{ℕ, ◌≤◌}
use mathlib.Core.Path.{◌≡◌, refl, sym, ap, ap₂, ◌∙◌, subst}
use mathlib.Core.Bool.{true, false}
use mathlib.Core.List.{List, ◌++◌}
use mathlib.Core.Logic.{⊎_elim}
use native.Mathlib.Omega.{arith}
use borrow.Author.Tests.{le-leb, eqb-true}
use lib.Dec.{eqb}
use lib.ListN.{length, take, length-append}
use Rattle.std.specs.Prelude.{Ok, Err}
use Rattle.verdict.specs.declared.Refusal.{Refusal}
use Rattle.verdict.specs.Verdict as verdict
use Rattle.verdict.specs.Verdict.{Verdict}
use Rattle.verdict.proofs.Chain.{refusal_nonzero, number_zero}
use Rattle.laws.proofs.Search.{either, contrary}
use Rattle.job.specs.Model.{model_of}
use Rattle.validity.specs.Checks.{job_check}
use Rattle.validity.proofs.Accepted.{job_promise}
use Rattle.order_file.specs.Contents.{step_limit, order_limit, link_limit}
use Rattle.order_file.specs.Layout.{file_length, contents_of}
use Rattle.order_file.specs.Within.{Within}
use Rattle.order_file.proofs.Encode.{length_encode}
use Rattle.partialize.proofs.Promised.{within}
use Rattle.partialize.specs.declared.answer.Unfiled.TheVariants.{Refused}
use Rattle.partialize.specs.Answer.{Answer, number, place, length_of}
use Rattle.partialize.specs.Partialization.{loose_of, file_bytes, accepts, fits, answer_to}
use Rattle.partialize.specs.Demands.{Promise}
use Rattle.sheet.specs.Text.{sheet_text, refused_text}
use Rattle.text.specs.Put.{Written}
use Rattle.sheet.proofs.Agree.{sheet_agree}
use Rattle.sheet.proofs.Fits.{sheet_fits}
use Rattle.printout.specs.Shown.{mark_line, shown, most_text}
use Rattle.printout.proofs.Mark.{mark_short}

-- the longest order file
abbrev most_file : ℕ
most_file = file_length step_limit order_limit link_limit

-- a verdict that does not accept is a refusal
refused_by : (v : Verdict) → eqb (verdict.number v) 0 ≡ false → (x : Refusal) × (v ≡ Err x)
refused_by (Ok _) e = contrary refl e
refused_by (Err x) e = (x, refl)

module _ (s : List ℕ) (t : accepts s ≡ true) where
  loose_within : Within (loose_of s)
  unfolding accepts loose_of
  loose_within = let p = (job_promise s refl).sound (eqb-true _ _ t) in within (model_of s) p.well_formed p.valid

  file_short : length (file_bytes s) ≤ most_file
  unfolding file_bytes
  file_short = omega (arith, length_encode (loose_of s), loose_within.steps, loose_within.orders, loose_within.links)

  text_short : length (mark_line s ++ sheet_text (loose_of s)) ≤ most_text
  text_short = rw (length-append (mark_line s) (sheet_text (loose_of s))) (omega (arith, mark_short s, sheet_fits (loose_of s) loose_within))

module _ (s before after : List ℕ) (r : Answer) (p : Promise s before after r) (room : most_file ≤ length before) where
  filed : accepts s ≡ true → r ≡ Ok (length (file_bytes s))
  unfolding answer_to fits accepts
  filed t =
      rw (number_zero (job_check s) (eqb-true _ _ t), le-leb (length (file_bytes s)) (length before) (omega (arith, file_short s t))) at p.answer

  refused : accepts s ≡ false → (x : Refusal) × (r ≡ Err (Refused x)) × (job_check s ≡ Err x)
  unfolding answer_to accepts
  refused t = let q = refused_by (job_check s) t in (q.0, rw q.1 at p.answer, q.1)

  accepted : number r ≡ 0 → accepts s ≡ true
  accepted z =
      ⊎_elim
      (λ (t : accepts s ≡ true). t)
      (λ (t : accepts s ≡ false). let q = refused t in absurd (refusal_nonzero q.0 (sym (ap number q.1) ∙ z)))
      (either (accepts s))

  not_accepted : (number r ≡ 0 → ⊥) → accepts s ≡ false
  not_accepted n =
      ⊎_elim
      (λ (t : accepts s ≡ true). absurd (n (ap number (filed t))))
      (λ (t : accepts s ≡ false). t)
      (either (accepts s))

  -- the file is within the buffer
  pub filed_length : number r ≡ 0 → length_of r ≤ most_file
  filed_length z = rw (filed (accepted z)) (file_short s (accepted z))

  -- its sheet behind the mark's line is what is shown, and is no longer than the longest text
  pub sheet_shown : number r ≡ 0 → mark_line s ++ sheet_text (contents_of (take (length_of r) after)) ≡ shown s
  unfolding shown
  sheet_shown z = rw (accepted z) (ap (λ (sheet : List ℕ). mark_line s ++ sheet) (sheet_agree _ _ (p.exact z).contents))

  pub shown_short : number r ≡ 0 → length (shown s) ≤ most_text
  unfolding shown
  shown_short z = rw (accepted z) (text_short s (accepted z))

  -- the line of a refusal is what is shown
  refused_shown : (number r ≡ 0 → ⊥) → refused_text (number r) (place r) ≡ shown s
  unfolding shown
  refused_shown n =
      let q = refused (not_accepted n) in
      rw (not_accepted n)
      (ap (λ (a : Answer). refused_text (number a) (place a)) q.1
      ∙ ap (λ (v : Verdict). refused_text (verdict.number v) (verdict.place v)) (sym q.2))

  pub refused_written :
      {n p k : ℕ} {old new : List ℕ} → (number r ≡ 0 → ⊥) → n ≡ number r → p ≡ place r → Written (refused_text n p) old new k
      → Written (shown s) old new k
  refused_written {n} {p} {k} {old} {new} h e f w =
      subst (λ (text : List ℕ). Written text old new k) (ap₂ refused_text e f ∙ refused_shown h) w

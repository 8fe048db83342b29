-- The starred cases with their whole answers. The verdict and the contents of each stand in the table of crate `orders`: contents that
-- agree have the same bytes and the same text.
use Prim.Native.Nat.{ℕ, ◌≤◌}
use mathlib.Core.Path.{◌≡◌, refl, ap, ◌∙◌}
use mathlib.Core.Bool.{true, false}
use mathlib.Core.List.{List, [], ◌++◌}
use native.Mathlib.Omega.{arith}
use borrow.Author.Tests.{le-leb, lt-leb, eq-eqb, ne_eqb}
use lib.ListN.{length}
use lib.Dec.{eqb}
use Rattle.std.specs.Prelude.{Ok, Err}
use Rattle.verdict.specs.declared.Refusal.{Refusal}
use Rattle.laws.specs.Listed.{concatenate}
use Rattle.little_endian.specs.Bytes.{u16_at, u16_bytes, u32_bytes}
use Rattle.verdict.specs.Verdict.{Verdict, Accepted, number, refusal_number, refusal_place, nowhere}
use Rattle.verdict.proofs.Chain.{refusal_nonzero}
use Rattle.job.specs.Model.{model_of}
use Rattle.validity.specs.Ticks.{planned}
use Rattle.validity.specs.Checks.{job_check}
use Rattle.order_file.specs.Contents.{Contents}
use Rattle.order_file.specs.Agree.{Agree}
use Rattle.order_file.specs.Encode.{header_bytes, window_bytes, order_bytes, link_bytes, up_to_window, up_to_order, up_to_link, encode}
use Rattle.orders.specs.File.{file_of}
use Rattle.orders.specs.Starred.{job_bytes, contents_with, small, nothing, levelled, marked, starred}
use Rattle.orders.proofs.Starred.{◌also◌, starred_answers}
use Rattle.partialize.specs.declared.answer.Unfiled.TheVariants.{Refused}
use Rattle.partialize.specs.Answer as answer
use Rattle.partialize.specs.Partialization.{loose_of, file_bytes, accepts, fits, answer_to, buffer_after}
use Rattle.partialize.proofs.Filed.{encode_agree}
use Rattle.text.specs.Decimal.{digits, decimal}
use Rattle.sheet.specs.Text.{gap_text, latest_text, head_line, window_line, order_line, sheet_text, refused_text}
use Rattle.sheet.proofs.Agree.{sheet_agree}
use Rattle.printout.specs.Shown.{mark_line, shown}
use Rattle.printout.specs.Starred.{Answered, AllAnswered, codes, lines, starred_whole}

module _ (s : List ℕ) where
  -- a refused job
  module _ (v : Refusal) (e : job_check s ≡ Err v) where
    refuses : accepts s ≡ false
    unfolding accepts
    refuses = ap (λ (w : Verdict). eqb (number w) 0) e ∙ ne_eqb (refusal_number v) 0 (refusal_nonzero v)

    refused : (n : ℕ) → answer_to s n ≡ Err (Refused v)
    unfolding answer_to
    refused n = rw e

    refused_answered :
        Answered (record { job = s; number = refusal_number v; place = refusal_place v; file = []; text = refused_text (refusal_number v) (refusal_place v) })
    unfolding buffer_after shown
    refused_answered =
        record {
          number = λ n _. ap answer.number (refused n);
          place = λ n _. ap answer.place (refused n);
          length_of = λ n _. ap answer.length_of (refused n);
          short = λ _ h. absurd (omega arith);
          buffer = λ _ _. rw refuses;
          text = rw (refuses, e);
        }

  -- an accepted job, whose contents agree with some
  module _ (c : Contents) (h : (job_check s ≡ Accepted) × Agree (file_of (model_of s) (planned (model_of s))) c) where
    accepted : accepts s ≡ true
    unfolding accepts
    accepted = eq-eqb _ _ (ap number h.0)

    loose : Agree (loose_of s) c
    unfolding loose_of
    loose = h.1

    same_bytes : file_bytes s ≡ encode c
    unfolding file_bytes
    same_bytes = encode_agree (loose_of s) c loose

    filed : (n : ℕ) → length (encode c) ≤ n → answer_to s n ≡ Ok (length (encode c))
    unfolding answer_to fits
    filed n r = rw (h.0, same_bytes, le-leb _ _ r)

    filed_answered : Answered (record { job = s; number = 0; place = nowhere; file = encode c; text = mark_line s ++ sheet_text c })
    unfolding answer_to buffer_after fits shown
    filed_answered =
        record {
          number = λ n r. ap answer.number (filed n r);
          place = λ n r. ap answer.place (filed n r);
          length_of = λ n r. ap answer.length_of (filed n r);
          short = λ n r. rw (h.0, same_bytes, lt-leb _ _ r);
          buffer = λ b r. rw (accepted, same_bytes, le-leb _ _ r);
          text = rw accepted (ap (λ (sheet : List ℕ). mark_line s ++ sheet) (sheet_agree (loose_of s) c loose));
        }

-- the definitions answer the whole table as the paper does
pub starred_answered : AllAnswered starred_whole
unfolding starred_whole lines codes starred small nothing levelled marked job_bytes contents_with up_to_link up_to_order up_to_window header_bytes
    window_bytes order_bytes link_bytes concatenate u16_at u16_bytes u32_bytes mark_line sheet_text head_line window_line order_line refused_text decimal
    digits gap_text latest_text
starred_answered =
    let a0 = starred_answers in
    let a1 = a0.1 in
    let a2 = a1.1 in
    let a3 = a2.1 in
    let a4 = a3.1 in
    let a5 = a4.1 in
    let a6 = a5.1 in
    let a7 = a6.1 in
    let a8 = a7.1 in
    let a9 = a8.1 in
    let a10 = a9.1 in
    let a11 = a10.1 in
    filed_answered _ _ a0.0
    also filed_answered _ _ a1.0
    also filed_answered _ _ a2.0
    also refused_answered _ _ a3.0
    also filed_answered _ _ a4.0
    also filed_answered _ _ a5.0
    also refused_answered _ _ a6.0
    also filed_answered _ _ a7.0
    also refused_answered _ _ a8.0
    also filed_answered _ _ a9.0
    also filed_answered _ _ a10.0
    also filed_answered _ _ a11.0
    also tt

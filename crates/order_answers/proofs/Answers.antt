-- The answers: what follows from which answer it is.
use Prim.Native.Nat.{ℕ}
use mathlib.Core.Path.{◌≡◌, refl, sym, ap, ◌∙◌}
use mathlib.Core.Bool.{Bool, true, false, cond, not, ◌&&◌}
use mathlib.Core.List.{List}
use mathlib.Core.Logic.{⊎_elim}
use borrow.Author.Tests.{not-true, not-false}
use Rattle.verdict.specs.Verdict.{nowhere}
use Rattle.laws.proofs.Search.{either}
use Rattle.order_file.specs.Layout.{contents_of}
use Rattle.order_check.specs.WellFormed.{well_formed}
use Rattle.order_answers.specs.Alike.{alike_contents}
use Rattle.std.specs.Prelude.{Result, Ok, Err}
use Rattle.order_answers.specs.Answers.{no_order_file, broken, header_of, header_read, header_number, header_place, header_values, HeaderPromise}
use Rattle.order_answers.specs.Answers.{record_of, record_there, record_read, record_number, record_place, record_values, RecordPromise}
use Rattle.order_answers.specs.Answers.{alike_answer, alike_number, alike_place, alike_yes, AlikePromise}
use Rattle.order_answers.specs.declared.Header.{Header}
use Rattle.order_answers.specs.declared.Record.{Record}
use Rattle.order_answers.specs.declared.NotAnOrderFile.{NotAnOrderFile}
use Rattle.order_answers.specs.declared.BrokenFile.{BrokenFile}
use Rattle.order_answers.specs.declared.BrokenFile.TheVariants.{First, Second}

-- the number, the place and the values follow from the answer
pub header_promise : (b : List ℕ) (r : Result Header NotAnOrderFile) → r ≡ header_read b → HeaderPromise b r
unfolding header_read header_of
header_promise b r e =
    ⊎_elim
    (λ (t : well_formed b ≡ true).
    let q : r ≡ Ok (header_of b) = e ∙ simp t in
    record { answer = e; number = ap header_number q ∙ simp t; place = ap header_place q ∙ simp t; values = ap header_values q ∙ simp t })
    (λ (f : well_formed b ≡ false).
    record { answer = e; number = ap header_number e ∙ simp f; place = ap header_place e ∙ simp f; values = ap header_values e ∙ simp f })
    (either (well_formed b))

pub record_promise : (b : List ℕ) (table k : ℕ) (r : Result Record NotAnOrderFile) → r ≡ record_read b table k → RecordPromise b table k r
unfolding record_read
record_promise b table k r e =
    ⊎_elim
    (λ (t : record_there b table k ≡ true).
    let q : r ≡ Ok (record_of (contents_of b) table k) = e ∙ simp t in
    record {
      answer = e;
      number = ap record_number q ∙ simp t;
      place = ap record_place q ∙ simp t;
      values = ap record_values q ∙ simp t;
    })
    (λ (f : record_there b table k ≡ false).
    let q : r ≡ broken = e ∙ simp f in
    record { answer = e; number = ap record_number q ∙ simp f; place = ap record_place q ∙ simp f; values = ap record_values q ∙ simp f })
    (either (record_there b table k))

alike_cases : (a b same : Bool) → let r : Result Bool BrokenFile = cond a (cond b (Ok same) (Err Second)) (Err First) in
    (alike_number r ≡ cond (a && b) 0 no_order_file) × (alike_place r ≡ cond a (cond b nowhere 1) 0) × (alike_yes r ≡ (a && b && same))
alike_cases true true same = (refl, refl, refl)
alike_cases true false same = (refl, refl, refl)
alike_cases false b same = (refl, refl, refl)

pub alike_promise : (a b : List ℕ) (r : Result Bool BrokenFile) → r ≡ alike_answer a b → AlikePromise a b r
unfolding alike_answer
alike_promise a b r e =
    let same = alike_contents (contents_of a) (contents_of b) in
    let s = alike_cases (well_formed a) (well_formed b) same in
    record { answer = e; number = ap alike_number e ∙ s.0; place = ap alike_place e ∙ s.1; yes = ap alike_yes e ∙ s.2 }

-- what the code's tests of the two files say
module _ (a b : List ℕ) where
  pub first_broken : {x : Bool} → x ≡ well_formed a → not x ≡ true → AlikePromise a b (Err First)
  unfolding alike_answer
  first_broken e t = alike_promise a b (Err First) (simp (sym e ∙ not-true _ t))

  module _ {x y : Bool} (e : x ≡ well_formed a) (h : not x ≡ false) (f : y ≡ well_formed b) where
    pub second_broken : not y ≡ true → AlikePromise a b (Err Second)
    unfolding alike_answer
    second_broken t = alike_promise a b (Err Second) (simp (sym e ∙ not-false _ h, sym f ∙ not-true _ t))

    pub both_compared : not y ≡ false → {s : Bool} → s ≡ alike_contents (contents_of a) (contents_of b) → AlikePromise a b (Ok s)
    unfolding alike_answer
    both_compared g {s} q = alike_promise a b (Ok s) (simp (sym e ∙ not-false _ h, sym f ∙ not-false _ g, sym q))

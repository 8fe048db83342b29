-- What is promised of the answer follows from its definition.
use Prim.Native.Nat.{ℕ, ◌<◌}
use mathlib.Core.Path.{◌≡◌, refl, sym, ap, subst, ◌∙◌}
use mathlib.Core.Bool.{true, false}
use mathlib.Core.List.{List}
use mathlib.Core.Logic.{⊎_elim}
use native.Mathlib.Omega.{arith}
use borrow.Author.Tests.{ltb-true, ltb-false}
use lib.Dec.{ltb}
use Rattle.laws.proofs.Search.{either}
use Rattle.std.specs.Prelude.{Err}
use Rattle.verdict.specs.declared.Refusal.{Refusal}
use Rattle.verdict.specs.Verdict.{Verdict, Accepted, ◌then◌}
use Rattle.job.specs.Model.{Model, model_of}
use Rattle.header_check.specs.Header.{header_check}
use Rattle.record_check.specs.Records.{record_check}
use Rattle.against.specs.BothWays.{SetsBothWays, FirstBothWays}
use Rattle.against.specs.Pairs.{pair_search}
use Rattle.against.proofs.PairSteps.{search_found, search_none}
use Rattle.pair_search.specs.declared.answer.PairsAnswer.{PairsAnswer}
use Rattle.pair_search.specs.declared.answer.PairsAnswer.TheVariants.{NoneFound, Found, Refused}
use Rattle.pair_search.specs.Answer.{found_in, pairs_answer, PairsPromise}

-- two cases are never the same answer
found_or_none : {n k step : ℕ} → NoneFound k ≡ Found n step → ⊥
found_or_none e = let z : ◌≡◌ {A = ℕ} 0 1 = cc in omega arith

found_or_refused : {n step : ℕ} {v : Refusal} → Refused v ≡ Found n step → ⊥
found_or_refused e = let z : ◌≡◌ {A = ℕ} 0 1 = cc in omega arith

none_or_refused : {n : ℕ} {v : Refusal} → Refused v ≡ NoneFound n → ⊥
none_or_refused e = let z : ◌≡◌ {A = ℕ} 0 1 = cc in omega arith

same_step : {n k step other : ℕ} → Found k other ≡ Found n step → other ≡ step
same_step e = cc

same_refusal : {v w : Refusal} → Refused w ≡ Refused v → w ≡ v
same_refusal e = cc

module _ (m : Model) where
  in_step : (n step : ℕ) → found_in m (pair_search m) ≡ Found n step → FirstBothWays m step
  unfolding found_in
  in_step n step e =
      ⊎_elim
      (λ (t : ltb (pair_search m).step m.steps ≡ true).
      subst (FirstBothWays m) (same_step (rw t at e)) (search_found m (ltb-true _ _ t)))
      (λ (t : ltb (pair_search m).step m.steps ≡ false). absurd (found_or_none (rw t at e)))
      (either (ltb (pair_search m).step m.steps))

  in_none : (n : ℕ) → found_in m (pair_search m) ≡ NoneFound n → (step e f : ℕ) → step < m.steps → SetsBothWays m step e f → ⊥
  unfolding found_in
  in_none n q =
      ⊎_elim
      (λ (t : ltb (pair_search m).step m.steps ≡ true). absurd (found_or_none (sym (rw t at q))))
      (λ (t : ltb (pair_search m).step m.steps ≡ false). search_none m (ltb-false _ _ t))
      (either (ltb (pair_search m).step m.steps))

  never_refused : (v : Refusal) → found_in m (pair_search m) ≡ Refused v → ⊥
  unfolding found_in
  never_refused v q =
      ⊎_elim
      (λ (t : ltb (pair_search m).step m.steps ≡ true). found_or_refused (sym (rw t at q)))
      (λ (t : ltb (pair_search m).step m.steps ≡ false). none_or_refused (sym (rw t at q)))
      (either (ltb (pair_search m).step m.steps))

module _ (s : List ℕ) where
  abbrev records : Verdict
  records = header_check s then record_check (model_of s)

  pub searched : {r : PairsAnswer} → Accepted ≡ records → r ≡ found_in (model_of s) (pair_search (model_of s)) → PairsPromise s r
  unfolding pairs_answer
  searched z e =
      record {
        answer = rw (sym z) e;
        found = λ n step q. in_step (model_of s) n step (sym e ∙ q);
        none = λ n q. in_none (model_of s) n (sym e ∙ q);
        refused = λ v q. absurd (never_refused (model_of s) v (sym e ∙ q));
      }

  pub refused : {v : Refusal} → Err v ≡ records → PairsPromise s (Refused v)
  unfolding pairs_answer
  refused p =
      record {
        answer = rw (sym p) refl;
        found = λ n step q. absurd (found_or_refused q);
        none = λ n q. absurd (none_or_refused q);
        refused = λ w q. sym (ap (λ x. Err x) (same_refusal q)) ∙ p;
      }

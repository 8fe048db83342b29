-- An answer as one number: the length, the count or the yes, then the number of the refusal, then its place.
use Rattle.std.specs.Prelude.{ℕ, ◌+◌, ◌*◌, ◌^◌, Bool, cond, Result}
use Rattle.verdict.specs.Verdict.{Verdict}
use Rattle.verdict.specs.Verdict as verdict
use Rattle.order_answers.specs.declared.Header.{Header}
use Rattle.order_answers.specs.declared.Record.{Record}
use Rattle.order_answers.specs.declared.NotAnOrderFile.{NotAnOrderFile}
use Rattle.order_answers.specs.declared.BrokenFile.{BrokenFile}
use Rattle.order_answers.specs.Answers.{header_number, header_place, record_number, record_place, alike_yes, alike_number, alike_place}
use Rattle.pair_search.specs.declared.answer.PairsAnswer.{PairsAnswer}
use Rattle.pair_search.specs.Answer as pairs
use Rattle.partialize.specs.Answer.{Answer}
use Rattle.partialize.specs.Answer as loosened
use Rattle.texts_answer.specs.Answer.{TextsAnswer}
use Rattle.texts_answer.specs.Answer as texts

abbrev pub packed : ℕ → ℕ → ℕ → ℕ
packed answer number place = answer * 2 ^ 32 + number * 2 ^ 16 + place

-- of the checks, of loosening, of two texts, of the search by pairs, of the alike test and of the readers
abbrev pub packed_verdict : Verdict → ℕ
packed_verdict v = packed 0 (verdict.number v) (verdict.place v)

abbrev pub packed_answer : Answer → ℕ
packed_answer a = packed (loosened.length_of a) (loosened.number a) (loosened.place a)

abbrev pub packed_texts : TextsAnswer → ℕ
packed_texts a = packed (texts.length_of a) (texts.number a) (texts.place a)

abbrev pub packed_pairs : PairsAnswer → ℕ
packed_pairs a = packed (pairs.compared a) (pairs.number a) (pairs.place a)

abbrev pub packed_alike : Result Bool BrokenFile → ℕ
packed_alike a = packed (cond (alike_yes a) 1 0) (alike_number a) (alike_place a)

abbrev pub packed_header : Result Header NotAnOrderFile → ℕ
packed_header a = packed 0 (header_number a) (header_place a)

abbrev pub packed_record : Result Record NotAnOrderFile → ℕ
packed_record a = packed 0 (record_number a) (record_place a)

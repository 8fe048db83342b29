-- What is promised of two texts, one field a clause of the request.
use Rattle.std.specs.Prelude.{ℕ, ◌≤◌, ◌≡◌, false, List, [], ◌∷◌, ◌⊎◌, length, take, drop, Err}
use Rattle.little_endian.specs.Bytes.{u16_at}
use Rattle.spelling.specs.Tokens.{text_most}
use Rattle.verdict.specs.Verdict as verdict
use Rattle.grammar.specs.Said.{Item, on_line}
use Rattle.grammar.specs.Tree.{Text, Plan}
use Rattle.grammar.specs.Saying.{text_says, plan_says}
use Rattle.grammar.specs.Reader.{read}
use Rattle.grammar.specs.Reading.{action_reading}
use Rattle.grammar.specs.Demands.{Writes, WritesPlan, ActionDemands, PlanDemands}
use Rattle.grammar.specs.Place.{Places}
use Rattle.job.specs.Layout.{count_too_high}
use Rattle.job.specs.Model.{model_of}
use Rattle.job_encoding.specs.Encode.{counts_in, encode}
use Rattle.job_encoding.specs.Agree.{Agree}
use Rattle.validity.specs.Ticks.{planned}
use Rattle.validity.specs.Checks.{job_check}
use Rattle.validity.specs.Promise.{Sound}
use Rattle.supplied.specs.Plan.{Line, lines_of, differs}
use Rattle.supplied.specs.Names.{Kind}
use Rattle.supplied.specs.Clash.{NoClash, NamesPromise, Numbering}
use Rattle.texts_answer.specs.declared.TextsRefusal.TheVariants.{BufferTooShort}
use Rattle.texts_answer.specs.Answer.{TextsAnswer, number, length_of}
use Rattle.texts_answer.specs.FromTexts.{answer_to, buffer_after}
use Rattle.texts_answer.specs.Derived.{derived_job}

-- no line of a plan differs from the actions
abbrev pub Matching : List Item → List Line → Type 0
Matching is [] = Unit
Matching is (l ∷ ls) = (differs is l ≡ false) × Matching is ls

-- the grammar generates both texts, no name clashes, and every line names an action with its duration
pub record Derives (t : Text) (p : Plan) (actions plan : List ℕ) : Type 0 where
  pub writes : Writes t actions
  pub writes_plan : WritesPlan p plan
  pub names : NoClash (text_says t)
  pub matches : Matching (on_line 0 (text_says t)) (lines_of (on_line 0 (plan_says p)))

-- a file is the job of these texts
pub record JobOfTexts (actions plan file : List ℕ) : Type 0 where
  pub text : Text
  pub lines : Plan
  pub derives : Derives text lines actions plan
  -- of edition 1, with every count and record of the job that they describe, and nothing else
  pub edition : u16_at file 0 ≡ 1
  pub holds : Agree (model_of file) (derived_job text lines)
  -- which is sound
  pub sound : Sound file (planned (model_of file))

pub record TextsPromise (actions plan before after : List ℕ) (r : TextsAnswer) : Type 0 where
  pub answer : r ≡ answer_to actions plan (length before)
  pub buffer : after ≡ buffer_after actions plan before
  -- every text that the grammar generates is read in one way, and nothing else is; and where the others are refused
  pub actions_read : ActionDemands actions
  pub plan_read : PlanDemands plan
  pub actions_place : Places actions
  pub plan_place : Places plan
  pub names_kept : NamesPromise (action_reading actions)
  -- facts and levels are numbered as they first appear
  pub numbered : (is : List Item) (k : Kind) → action_reading actions ≡ read is → Numbering is k
  -- two derivations of the texts describe one job
  pub one : (t u : Text) (p q : Plan) → Derives t p actions plan → Derives u q actions plan → derived_job t p ≡ derived_job u q
  -- what is accepted is the job of the texts at the front of the buffer; past it every byte stays
  pub made : number r ≡ 0 → JobOfTexts actions plan (take (length_of r) after)
  pub past : drop (length_of r) after ≡ drop (length_of r) before
  -- what a derivation describes is accepted, or finds no room, where its counts and the job check pass
  pub complete :
      length actions ≤ text_most → length plan ≤ text_most → (t : Text) (p : Plan) → Derives t p actions plan
      → count_too_high (counts_in (derived_job t p)) ≡ false → verdict.number (job_check (encode 1 (derived_job t p))) ≡ 0
      → (number r ≡ 0) ⊎ (r ≡ Err BufferTooShort)
  -- a refusal changes no byte
  pub kept : (number r ≡ 0 → ⊥) → after ≡ before

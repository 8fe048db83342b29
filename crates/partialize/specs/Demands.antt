-- What loosening promises of the file that it wrote, one field a clause of the user's demands.
use Rattle.std.specs.Prelude.{ℕ, suc, ◌≤◌, ◌<◌, ◌≡◌, Bool, true, false, cond, ◌&&◌, List, ◌⊎◌, eqb, length, take, Err}
use Rattle.laws.specs.Fold.{largest}
use Rattle.verdict.specs.declared.Refusal.{Refusal}
use Rattle.verdict.specs.Verdict as verdict
use Rattle.job.specs.Model.{model_of}
use Rattle.job.specs.Clocked.{clocked, with_clock}
use Rattle.validity.specs.Ticks.{schedule_of, planned}
use Rattle.validity.specs.Checks.{job_check, schedule_check}
use Rattle.validity.specs.Valid.{Valid}
use Rattle.validity.specs.EndState.{SameEnd, EndsWith}
use Rattle.validity.specs.Promise.{Sound}
use Rattle.order_file.specs.Contents.{Contents, gap_bias}
use Rattle.order_file.specs.Agree.{Agree}
use Rattle.order_file.specs.Layout.{contents_of}
use Rattle.order_check.specs.WellFormed.{well_formed}
use Rattle.order_answers.specs.ReadBack.{ReadBack}
use Rattle.orders.specs.Supporter.{LinksSupported}
use Rattle.orders.specs.Gaps.{gap_of}
use Rattle.orders.specs.Limited.{Limited}
use Rattle.orders.specs.File.{linked_effect}
use Rattle.orders.specs.Satisfies.{SatisfiesFile}
use Rattle.partialize.specs.declared.answer.Unfiled.TheVariants.{Refused, BufferTooShort}
use Rattle.partialize.specs.Answer.{Answer, number, place, length_of}
use Rattle.rounds.specs.Rounds.{after, unchanged}
use Rattle.partialize.specs.Partialization.{loose_of, file_bytes, accepts, fits, answer_to, buffer_after}

-- the gap of the filed order from i to k plus the bias, 0 where none is filed
unfoldable pub filed_gap : Contents → ℕ → ℕ → ℕ
filed_gap c i k = largest c.orders (λ o. cond (eqb (c.first o) i && eqb (c.second o) k) (c.gap o) 0)

-- demand 2: the file passes the reader and holds exactly the supporters, orders and start limits of the rules
pub record Exact (s file : List ℕ) : Type 0 where
  pub readable : well_formed file ≡ true
  pub contents : Agree (contents_of file) (loose_of s)
  -- reading it returns them all, and nothing else
  pub returned : ReadBack (loose_of s) file
  -- the links are the supporters of rule 1, timed facts by 512 plus their number, and nothing else is linked so
  pub supporters :
      LinksSupported (clocked (model_of s)) (planned (model_of s)) (λ j. linked_effect (model_of s) ((contents_of file).link j))
  -- the orders filed between two steps have the gap of the rules, and none is filed where the rules give none
  pub gaps :
      (i k : ℕ) → i < (model_of s).steps → k < (model_of s).steps
      → filed_gap (contents_of file) i k ≡ gap_of (clocked (model_of s)) (planned (model_of s)) i k
  -- the limits and latest starts are what written starts, deadlines and timed facts ask, and no tighter
  pub windows : Limited (model_of s) (planned (model_of s)) (contents_of file).limit (contents_of file).latest

-- whether one more round changes nothing, after r rounds over the filed orders that begin with the filed limits
unfoldable pub settled_after : Contents → ℕ → Bool
settled_after c r = unchanged c.steps (filed_gap c) gap_bias (after c.steps (filed_gap c) gap_bias c.limit r)

-- demand 3: whatever starts satisfy the file are a sound timing with the planned schedule's end, timed facts acting as effects of the
-- clock, which starts at 0
pub record Loose (s file : List ℕ) : Type 0 where
  -- no condition fails, no opposing effects meet, no level passes a bound, no need stays unmet, no goal or deadline is missed,
  -- every fixed step keeps its tick
  pub valid : (y : ℕ → ℕ) → SatisfiesFile file y → Valid (clocked (model_of s)) (with_clock (model_of s) y)
  -- so the timing check accepts a list of such starts
  pub accepted :
      (starts : List ℕ) → length starts ≡ (model_of s).steps → SatisfiesFile file (schedule_of starts)
      → verdict.number (schedule_check s starts) ≡ 0
  -- it ends with the values set last and with all uses of each level
  pub ends : (y : ℕ → ℕ) → SatisfiesFile file y → EndsWith (clocked (model_of s)) (with_clock (model_of s) y)
  -- the end state is that of the job's own timing
  pub same_end :
      (y : ℕ → ℕ) → SatisfiesFile file y → SameEnd (clocked (model_of s)) (with_clock (model_of s) y) (planned (model_of s))
  -- the printed earliest times are the least
  pub at_or_after : (y : ℕ → ℕ) → SatisfiesFile file y → (k : ℕ) → k < (model_of s).steps → (contents_of file).earliest k ≤ y k
  -- are such a choice
  pub earliest_satisfy : SatisfiesFile file (contents_of file).earliest
  -- and are at most the job's own starts
  pub at_most_planned : (k : ℕ) → k < (model_of s).steps → (contents_of file).earliest k ≤ (model_of s).start k
  -- which satisfy the file too
  pub planned_satisfies : SatisfiesFile file (planned (model_of s))
  -- the rounds number at most the steps, and none only where there is no step
  pub few_rounds : (contents_of file).rounds ≤ (model_of s).steps
  pub some_round : 0 < (model_of s).steps → 0 < (contents_of file).rounds
  -- the last of them changes nothing
  pub last_unchanged : (r : ℕ) → suc r ≡ (contents_of file).rounds → settled_after (contents_of file) r ≡ true
  -- and every earlier one changes some start
  pub earlier_changes : (r : ℕ) → suc r < (contents_of file).rounds → settled_after (contents_of file) r ≡ false

-- what loosening promises of its answer and of the buffer at exit
pub record Promise (s before after : List ℕ) (r : Answer) : Type 0 where
  pub answer : r ≡ answer_to s (length before)
  pub buffer : after ≡ buffer_after s before
  -- accepted only if sound; and of a sound job nothing but a short buffer is refused
  pub sound : number r ≡ 0 → Sound s (planned (model_of s))
  pub complete : Sound s (planned (model_of s)) → (number r ≡ 0) ⊎ (r ≡ Err BufferTooShort)
  pub exact : number r ≡ 0 → Exact s (take (length_of r) after)
  pub loose : number r ≡ 0 → Loose s (take (length_of r) after)
  -- no refusal says accepted
  pub refused : (v : Refusal) → r ≡ Err (Refused v) → verdict.refusal_number v ≡ 0 → ⊥
  -- the number, the place and the length, 0 for a refusal
  pub number : number r ≡ cond (accepts s) (cond (fits s (length before)) 0 15) (verdict.number (job_check s))
  pub place : place r ≡ cond (accepts s) verdict.nowhere (verdict.place (job_check s))
  pub length : length_of r ≡ cond (accepts s && fits s (length before)) (length (file_bytes s)) 0

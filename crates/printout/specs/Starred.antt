-- Between crates: the starred cases of "A small job, and edges" with their whole answers: number and place, the order file's bytes, the text.
use Rattle.std.specs.Prelude.{ℕ, ◌≤◌, ◌<◌, ◌≡◌, List, [], ◌∷◌, ◌++◌, length, Err}
use Prim.Native.Char.{code}
use Prim.Native.String.{String, [] as []ˢ, ◌∷◌ as ◌∷ˢ◌}
use Rattle.little_endian.specs.Bytes.{u16_bytes, u32_bytes}
use Rattle.order_file.specs.Contents.{no_latest}
use Rattle.order_file.specs.Held.{over}
use Rattle.orders.specs.Starred.{goal, small, nothing, levelled, marked, negative}
use Rattle.partialize.specs.declared.answer.Unfiled.TheVariants.{BufferTooShort}
use Rattle.partialize.specs.Answer as answer
use Rattle.verdict.specs.Verdict.{nowhere}
use Rattle.partialize.specs.Partialization.{answer_to, buffer_after}
use Rattle.sheet.specs.Text.{newline}
use Rattle.printout.specs.Shown.{shown}

-- a job with its whole answer: number and place, the order file, of which a refusal has none, and what `show` prints
pub record Whole : Type 0 where
  pub job : List ℕ
  pub number : ℕ
  pub place : ℕ
  pub file : List ℕ
  pub text : List ℕ

-- the definitions answer a job so, whatever the buffer
pub record Answered (w : Whole) : Type 0 where
  pub number : (n : ℕ) → length w.file ≤ n → answer.number (answer_to w.job n) ≡ w.number
  pub place : (n : ℕ) → length w.file ≤ n → answer.place (answer_to w.job n) ≡ w.place
  pub length_of : (n : ℕ) → length w.file ≤ n → answer.length_of (answer_to w.job n) ≡ length w.file
  pub short : (n : ℕ) → n < length w.file → answer_to w.job n ≡ Err BufferTooShort
  pub buffer : (before : List ℕ) → length w.file ≤ length before → buffer_after w.job before ≡ over w.file before
  pub text : shown w.job ≡ w.text

-- and every job of a table
abbrev pub AllAnswered : List Whole → Type 0
AllAnswered [] = Unit
AllAnswered (w ∷ ws) = Answered w × AllAnswered ws

-- the codes of a line's characters, which are its bytes where all are ASCII
unfoldable pub codes : String → List ℕ
codes []ˢ = []
codes (c ∷ˢ s) = code c ∷ codes s

-- a text, line by line
unfoldable pub lines : List String → List ℕ
lines [] = []
lines (l ∷ ls) = codes l ++ newline ++ lines ls

-- the parts of an order file, "The order file": its windows begin at byte 24
abbrev pub header : ℕ → ℕ → ℕ → ℕ → ℕ → ℕ → List ℕ
header steps orders links rounds ordersFrom linksFrom =
    u16_bytes 1 ++ u16_bytes steps ++ u16_bytes orders ++ u16_bytes links
    ++ u32_bytes rounds ++ u32_bytes 24 ++ u32_bytes ordersFrom ++ u32_bytes linksFrom

abbrev pub window : ℕ → ℕ → ℕ → List ℕ
window limit latest earliest = u32_bytes limit ++ u32_bytes latest ++ u32_bytes earliest

abbrev pub order : ℕ → ℕ → ℕ → List ℕ
order first second gap = u16_bytes first ++ u16_bytes second ++ u32_bytes gap

abbrev pub link : ℕ → List ℕ
link = u16_bytes

-- the starred cases
unfoldable pub starred_whole : List Whole
starred_whole =
    -- this job
    record {
      job = small 0 20 3 0 [];
      number = 0;
      place = nowhere;
      file = header 2 1 1 2 48 56 ++ window 0 no_latest 0 ++ window 0 no_latest 6 ++ order 0 1 6 ++ link 0;
      text = lines ("steps 2 rounds 2" ∷ "step 0 earliest 0 latest none" ∷ "step 1 earliest 6 latest none" ∷ "order 0 1 6" ∷ []);
    }
    -- no steps and no goals
    ∷ record {
      job = nothing;
      number = 0;
      place = nowhere;
      file = header 0 0 0 0 24 24;
      text = lines ("steps 0 rounds 0" ∷ []);
    }
    -- step 1 at 16
    ∷ record {
      job = small 0 16 3 0 [];
      number = 0;
      place = nowhere;
      file = header 2 1 1 2 48 56 ++ window 0 no_latest 0 ++ window 0 no_latest 6 ++ order 0 1 6 ++ link 0;
      text = lines ("steps 2 rounds 2" ∷ "step 0 earliest 0 latest none" ∷ "step 1 earliest 6 latest none" ∷ "order 0 1 6" ∷ []);
    }
    -- step 1 at 15
    ∷ record { job = small 0 15 3 0 []; number = 11; place = 0; file = []; text = lines ("refused 11 place 0" ∷ []) }
    -- step 0 fixed
    ∷ record {
      job = small 1 20 3 0 [];
      number = 0;
      place = nowhere;
      file = header 2 1 1 2 48 56 ++ window 10 10 10 ++ window 0 no_latest 16 ++ order 0 1 6 ++ link 0;
      text = lines ("steps 2 rounds 2" ∷ "step 0 earliest 10 latest 10" ∷ "step 1 earliest 16 latest none" ∷ "order 0 1 6" ∷ []);
    }
    -- goal fact 1 = 1, deadline 15
    ∷ record {
      job = small 0 20 3 0 (goal 1 1 15 ∷ []);
      number = 0;
      place = nowhere;
      file = header 2 1 2 2 48 56 ++ window 0 10 0 ++ window 0 no_latest 6 ++ order 0 1 6 ++ link 0 ++ link 0;
      text = lines ("steps 2 rounds 2" ∷ "step 0 earliest 0 latest 10" ∷ "step 1 earliest 6 latest none" ∷ "order 0 1 6" ∷ []);
    }
    -- deadline 14
    ∷ record { job = small 0 20 3 0 (goal 1 1 14 ∷ []); number = 13; place = 0; file = []; text = lines ("refused 13 place 0" ∷ []) }
    -- condition from 8 after an effect at 5
    ∷ record {
      job = small 0 20 8 8 [];
      number = 0;
      place = nowhere;
      file = header 2 1 1 1 48 56 ++ window 0 no_latest 0 ++ window 0 no_latest 0 ++ order 0 1 (negative 2) ++ link 0;
      text = lines ("steps 2 rounds 1" ∷ "step 0 earliest 0 latest none" ∷ "step 1 earliest 0 latest none" ∷ "order 0 1 -2" ∷ []);
    }
    -- level 1, bounds 0 to 1, uses −1 and +1 by two steps at one tick
    ∷ record { job = levelled 1; number = 12; place = 0; file = []; text = lines ("refused 12 place 0" ∷ []) }
    -- most 2
    ∷ record {
      job = levelled 2;
      number = 0;
      place = nowhere;
      file = header 2 0 0 1 48 48 ++ window 0 no_latest 0 ++ window 0 no_latest 0;
      text = lines ("steps 2 rounds 1" ∷ "step 0 earliest 0 latest none" ∷ "step 1 earliest 0 latest none" ∷ []);
    }
    -- serial, lengths 5 and 2, starts 0 and 5: "accepted without an order"
    ∷ record {
      job = marked 5;
      number = 0;
      place = nowhere;
      file = header 2 0 0 1 48 48 ++ window 0 no_latest 0 ++ window 0 no_latest 0;
      text =
          lines
          ("serial mark ignored" ∷ "steps 2 rounds 1" ∷ "step 0 earliest 0 latest none" ∷ "step 1 earliest 0 latest none" ∷ []);
    }
    -- starts 0 and 4, the same
    ∷ record {
      job = marked 4;
      number = 0;
      place = nowhere;
      file = header 2 0 0 1 48 48 ++ window 0 no_latest 0 ++ window 0 no_latest 0;
      text =
          lines
          ("serial mark ignored" ∷ "steps 2 rounds 1" ∷ "step 0 earliest 0 latest none" ∷ "step 1 earliest 0 latest none" ∷ []);
    }
    ∷ []

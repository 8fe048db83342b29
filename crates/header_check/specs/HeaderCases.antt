-- Between crates: cases of refusals 1 to 5 in three editions: a file and its verdict.
use Rattle.std.specs.Prelude.{ℕ, ◌+◌, ◌≡◌, List, [], ◌∷◌, ◌++◌, Err}
use Rattle.little_endian.specs.Bytes.{u16_bytes, u32_bytes}
use Rattle.verdict.specs.Verdict.{Verdict, Accepted}
use Rattle.verdict.specs.declared.Refusal.TheVariants.{FileTooShort, UnknownEdition, MarkOutOfRange, CountTooHigh, LayoutDisagrees}
use Rattle.header_check.specs.Header.{header_check}

-- the first 48 bytes: a serial mark, an edition, counts of facts and of timed facts, the offset of the facts, and those of the six empty tables behind them
unfoldable pub begun : ℕ → ℕ → ℕ → ℕ → ℕ → List ℕ
begun mark edition facts timed at =
    let next = u32_bytes (at + facts) in
    u16_bytes edition ++ u16_bytes mark ++ u16_bytes facts ++ u16_bytes 0 ++ u16_bytes 0 ++ u16_bytes 0 ++ u16_bytes 0 ++ u16_bytes 0 ++ u16_bytes 0
    ++ u16_bytes timed
    ++ u32_bytes at
    ++ next
    ++ next
    ++ next
    ++ next
    ++ next
    ++ next

-- what edition 3 has behind them: the offset of timed facts, the count of needs, the number that is 0, and the offset of needs
unfoldable pub ended : ℕ → ℕ → ℕ → ℕ → List ℕ
ended timedAt needs mark needsAt = u32_bytes timedAt ++ u16_bytes needs ++ u16_bytes mark ++ u32_bytes needsAt

-- a timed fact and a need, all of whose bytes are 0
abbrev pub timed_record : List ℕ
timed_record = u32_bytes 0 ++ u32_bytes 0

abbrev pub need_record : List ℕ
need_record = u32_bytes 0 ++ u32_bytes 0 ++ u32_bytes 0

pub record HeaderCase : Type 0 where
  pub file : List ℕ
  pub verdict : Verdict

abbrev pub header_case : List ℕ → Verdict → HeaderCase
header_case file verdict = record { file = file; verdict = verdict }

abbrev pub AllFound : List HeaderCase → Type 0
AllFound [] = Unit
AllFound (c ∷ cs) = (header_check c.file ≡ c.verdict) × AllFound cs

unfoldable pub header_cases : List HeaderCase
header_cases =
    -- nothing in it, in each edition
    header_case (begun 0 1 0 0 48) Accepted
    ∷ header_case (begun 0 2 0 0 52 ++ u32_bytes 52) Accepted
    ∷ header_case (begun 0 3 0 0 60 ++ ended 60 0 0 60) Accepted
    ∷ header_case (begun 0 4 0 0 60 ++ ended 60 0 0 60) (Err UnknownEdition)
    -- the serial mark is 0 or 1
    ∷ header_case (begun 1 1 0 0 48) Accepted
    ∷ header_case (begun 2 1 0 0 48) (Err MarkOutOfRange)
    ∷ header_case (begun 256 1 0 0 48) (Err MarkOutOfRange)
    -- timed facts are counted from edition 2 on, and needs lie behind them
    ∷ header_case (begun 0 1 0 1 48 ++ timed_record) (Err MarkOutOfRange)
    ∷ header_case (begun 0 3 0 1 60 ++ ended 60 1 0 68 ++ timed_record ++ need_record) Accepted
    -- in edition 2 the facts start at byte 52: no count, no zero and no offset stands there
    ∷ header_case (begun 0 2 8 0 52 ++ u32_bytes 60 ++ u32_bytes 16843009 ++ u32_bytes 16843009) Accepted
    -- the header of edition 3 has 60 bytes
    ∷ header_case (begun 0 3 0 0 60 ++ u32_bytes 60 ++ u16_bytes 0 ++ u16_bytes 0 ++ u16_bytes 60 ++ 0 ∷ []) (Err FileTooShort)
    -- the zero behind the count of needs, that count, and both offsets
    ∷ header_case (begun 0 3 0 0 60 ++ ended 60 129 1 60) (Err MarkOutOfRange)
    ∷ header_case (begun 0 3 0 0 60 ++ ended 61 129 0 60) (Err CountTooHigh)
    ∷ header_case (begun 0 3 0 0 60 ++ ended 61 0 0 60) (Err LayoutDisagrees)
    ∷ header_case (begun 0 3 0 0 60 ++ ended 60 0 0 61) (Err LayoutDisagrees)
    ∷ []

-- Refusals 1 to 5, the header and the layout.
use Rattle.std.specs.Prelude.{ℕ, Bool, ◌&&◌, ◌||◌, not, List, length, ltb, leb, eqb}
use Rattle.little_endian.specs.Bytes.{u16_at, u32_at}
use Rattle.verdict.specs.declared.Refusal.TheVariants.{FileTooShort, UnknownEdition, MarkOutOfRange, CountTooHigh, LayoutDisagrees}
use Rattle.verdict.specs.Verdict.{Verdict, ◌then◌, refuse_if}
use Rattle.job.specs.declared.layout.Job.{Job}
use Rattle.job.specs.Layout.{latest_edition, timed_edition, needs_edition, shortest_header, header_width, serial_mark, job_of, count_too_high}

-- refusal 2, the other way round: the edition is read
unfoldable pub edition_known : ℕ → Bool
edition_known edition = leb 1 edition && leb edition latest_edition

-- refusal 3: the serial mark is neither 0 nor 1, an edition without timed facts counts some, or the number after the count of needs is not 0
unfoldable pub marks_wrong : List ℕ → Job → Bool
marks_wrong s j =
    ltb 1 (serial_mark s) || (ltb j.edition timed_edition && not (eqb j.count.timed 0))
    || (eqb j.edition needs_edition && not (eqb (u16_at s 54) 0))

-- refusal 5, the other way round: every offset of the edition and the file's length agree with the tables
unfoldable pub layout_agrees : List ℕ → Job → Bool
layout_agrees s j =
    eqb (u32_at s 20) j.at.facts && eqb (u32_at s 24) j.at.levels && eqb (u32_at s 28) j.at.steps
    && eqb (u32_at s 32) j.at.conditions
    && eqb (u32_at s 36) j.at.effects
    && eqb (u32_at s 40) j.at.uses
    && eqb (u32_at s 44) j.at.goals
    && (ltb j.edition timed_edition || eqb (u32_at s 48) j.at.timed)
    && (not (eqb j.edition needs_edition) || eqb (u32_at s 56) j.at.needs)
    && eqb (length s) j.at.end

-- refusals 1 to 5, the header and the layout: a file too short for its edition's header is refused once the edition is known
unfoldable pub header_check : List ℕ → Verdict
header_check s =
    refuse_if (ltb (length s) shortest_header) FileTooShort
    then refuse_if (not (edition_known (job_of s).edition)) UnknownEdition
    then refuse_if (ltb (length s) (header_width (job_of s).edition)) FileTooShort
    then refuse_if (marks_wrong s (job_of s)) MarkOutOfRange
    then refuse_if (count_too_high (job_of s).count) CountTooHigh
    then refuse_if (not (layout_agrees s (job_of s))) LayoutDisagrees

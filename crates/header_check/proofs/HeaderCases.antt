-- The cases of refusals 1 to 5, computed.
use mathlib.Core.Path.{refl}
use Rattle.laws.specs.Search.{any}
use Rattle.little_endian.specs.Bytes.{u16_at, u32_at, u16_bytes, u32_bytes}
use Rattle.verdict.specs.Verdict.{◌then◌, refuse_if}
use Rattle.job.specs.Layout.{header_width, counts_of, table_at, positions_of, job_of, count_too_high}
use Rattle.header_check.specs.Header.{edition_known, marks_wrong, layout_agrees, header_check}
use Rattle.header_check.specs.HeaderCases.{begun, ended, header_cases, AllFound}

pub header_verdicts : AllFound header_cases
unfolding any u16_at u32_at u16_bytes u32_bytes ◌then◌ refuse_if header_width counts_of table_at positions_of job_of count_too_high edition_known marks_wrong
    layout_agrees header_check begun ended header_cases
header_verdicts = (refl, (refl, (refl, (refl, (refl, (refl, (refl, (refl, (refl, (refl, (refl, (refl, (refl, (refl, (refl, tt)))))))))))))))

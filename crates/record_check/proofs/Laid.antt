-- Where refusals 1 to 5 pass, the tables lie within the bytes.
use Prim.Native.Nat.{ℕ}
use mathlib.Core.Path.{◌≡◌, sym, ap, subst}
use mathlib.Core.Bool.{true, ◌&&◌, ◌||◌, not}
use mathlib.Core.List.{List}
use native.Mathlib.Omega.{arith}
use borrow.Author.Tests.{eqb-true, not-false}
use lib.Dec.{ltb, eqb}
use lib.ListN.{length}
use Rattle.little_endian.specs.Bytes.{u32_at}
use Rattle.laws.proofs.Search.{and_both}
use Rattle.std.specs.Prelude.{Ok}
use Rattle.verdict.specs.Verdict.{number, ◌then◌}
use Rattle.verdict.proofs.Chain.{then_zero, refuse_zero}
use Rattle.job.specs.declared.layout.Job.{Job}
use Rattle.job.specs.Layout.{timed_edition, needs_edition, table_at, positions_of, job_of}
use Rattle.job.specs.Laid.{Laid}
use Rattle.job.specs.Model.{model_of}
use Rattle.header_check.specs.Header.{header_check, layout_agrees}
use Rattle.record_check.specs.Records.{record_check, RecordsPromise}

-- the file ends where its last table does
agrees_end : (s : List ℕ) (j : Job) → layout_agrees s j ≡ true → length s ≡ j.at.end
unfolding layout_agrees
agrees_end s j e =
    eqb-true _ _
    (and_both
    (eqb (u32_at s 20) j.at.facts && eqb (u32_at s 24) j.at.levels && eqb (u32_at s 28) j.at.steps
    && eqb (u32_at s 32) j.at.conditions
    && eqb (u32_at s 36) j.at.effects
    && eqb (u32_at s 40) j.at.uses
    && eqb (u32_at s 44) j.at.goals
    && (ltb j.edition timed_edition || eqb (u32_at s 48) j.at.timed)
    && (not (eqb j.edition needs_edition) || eqb (u32_at s 56) j.at.needs))
    _ e).1

file_ends : (s : List ℕ) → number (header_check s) ≡ 0 → length s ≡ (job_of s).at.end
unfolding header_check
file_ends s e =
    agrees_end s _ (not-false _ (refuse_zero _ _ (then_zero _ _ e).1))

pub header_laid : (s : List ℕ) → number (header_check s) ≡ 0 → Laid (job_of s) s
unfolding job_of positions_of table_at
header_laid s e =
    let n = file_ends s e in
    record {
      steps = omega (arith, n);
      conditions = omega (arith, n);
      effects = omega (arith, n);
      uses = omega (arith, n);
      timed = omega (arith, n);
      needs = omega (arith, n);
    }

-- so they do where refusals 1 to 6 pass, and of records that were read
pub passed_laid : (s : List ℕ) (job : Job) → number (header_check s then record_check (model_of s)) ≡ 0 → job ≡ job_of s → Laid job s
passed_laid s job e j = subst (λ (x : Job). Laid x s) (sym j) (header_laid s (then_zero _ _ e).0)

pub read_laid : {s : List ℕ} {job : Job} → RecordsPromise s (Ok job) → Laid job s
read_laid p = passed_laid _ _ (ap number (sym p.verdict)) p.job

-- The check of the planned starts, then their file.
use Prim.Native.Nat.{ℕ}
use mathlib.Core.Path.{◌≡◌, refl, sym, ap, ◌∙◌}
use mathlib.Core.List.{List}
use native.Mathlib.Omega.{arith}
use lib.ListN.{length, get_or-eq_default}
use Rattle.laws.proofs.Listed.{length_tabulate}
use Rattle.job.specs.Model.{Model, view}
use Rattle.job.specs.WellFormed.{WellFormed}
use Rattle.validity.specs.Ticks.{planned_starts, schedule_of}
use Rattle.schedule.proofs.Reading.{read_lies}
use Rattle.partialize.specs.Partialization.{loose_of}
use Rattle.partialize.proofs.Promised.{handed, refused_promise, filed_promise}
use Rattle.partialize.proofs.loosen_ordered.Goals as goal

-- there is one written start for each step
written_each : (m : Model) (starts : List ℕ) → starts ≡ planned_starts m → length starts ≡ m.steps
written_each m starts e = ap length e ∙ length_tabulate m.start m.steps

-- and none for the clock
written_clock : (m : Model) (starts : List ℕ) → starts ≡ planned_starts m → schedule_of starts m.steps ≡ 0
written_clock m starts e =
    get_or-eq_default starts 0 {n = m.steps} (omega (arith, written_each m starts e))

pub check_planned-requires : goal.check_planned-requires
check_planned-requires c = c.requires

pub returns-in_err-check_planned : goal.returns-in_err-check_planned
returns-in_err-check_planned c = rw (handed _ c.from_residual.ensures.1) (refused_promise _ _ _ c.in_err-check_planned.ensures)

pub file_schedule-requires : goal.file_schedule-requires
unfolding loose_of
file_schedule-requires c =
    let p = c.requires in
    let sound = c.in_ok-check_planned.ensures.sound refl in
    let form : WellFormed _ = rw p.read.header sound.well_formed in (
      record {
        valid = record {
          form = form;
          valid = rw (p.written, p.read.header) sound.valid;
          written = omega (arith, written_each (view c.args.timeline.job.head c.args.timeline.job.bytes.now) _ p.written);
          clock = written_clock (view c.args.timeline.job.head c.args.timeline.job.bytes.now) _ p.written;
        };
        known = p.known;
      },
      read_lies p.read,
    )

pub returns : goal.returns
unfolding loose_of
returns c =
    let p = c.requires in
    filed_promise _ _ _ _ c.in_ok-check_planned.ensures (rw (p.written, p.read.header) at c.file_schedule.ensures)

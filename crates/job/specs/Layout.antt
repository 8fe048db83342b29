-- "The job file", its header, the record widths, where each table starts, the highest counts.
use Rattle.std.specs.Prelude.{ℕ, zero, suc, ◌+◌, ◌*◌, Bool, cond, List, [], ◌∷◌, get_or, ltb, eqb}
use Rattle.laws.specs.Search.{any}
use Rattle.little_endian.specs.Bytes.{u16_at}
use Rattle.job.specs.declared.layout.Counts.{Counts}
use Rattle.job.specs.declared.layout.Positions.{Positions}
use Rattle.job.specs.declared.layout.Job.{Job}

-- the editions that are read: from 1 to this
abbrev pub latest_edition : ℕ
latest_edition = 3

-- the first edition that has timed facts, and the one that has needs
abbrev pub timed_edition : ℕ
timed_edition = 2

abbrev pub needs_edition : ℕ
needs_edition = 3

-- the bytes of the shortest header, of one with timed facts, which adds an offset, and of the longest: needs add a count, a zero and an offset
abbrev pub shortest_header : ℕ
shortest_header = 48

abbrev pub timed_header : ℕ
timed_header = 52

abbrev pub longest_header : ℕ
longest_header = 60

-- the bytes of an edition's header
unfoldable pub header_width : ℕ → ℕ
header_width edition = cond (eqb edition needs_edition) longest_header (cond (eqb edition timed_edition) timed_header shortest_header)

-- "Widths in bytes": a record's, table by table
abbrev pub fact_width : ℕ
fact_width = 1

abbrev pub level_width : ℕ
level_width = 12

abbrev pub step_width : ℕ
step_width = 10

abbrev pub condition_width : ℕ
condition_width = 14

abbrev pub effect_width : ℕ
effect_width = 10

abbrev pub use_width : ℕ
use_width = 12

abbrev pub goal_width : ℕ
goal_width = 8

abbrev pub timed_width : ℕ
timed_width = 8

abbrev pub need_width : ℕ
need_width = 12

-- in the tables' order
abbrev pub widths : List ℕ
widths = fact_width ∷ level_width ∷ step_width ∷ condition_width ∷ effect_width ∷ use_width ∷ goal_width ∷ timed_width
    ∷ need_width
    ∷ []

-- "Highest counts in that order"
abbrev pub most_facts : ℕ
most_facts = 256

abbrev pub most_levels : ℕ
most_levels = 16

abbrev pub most_steps : ℕ
most_steps = 64

abbrev pub most_conditions : ℕ
most_conditions = 512

abbrev pub most_effects : ℕ
most_effects = 512

abbrev pub most_uses : ℕ
most_uses = 256

abbrev pub most_goals : ℕ
most_goals = 32

abbrev pub most_timed : ℕ
most_timed = 64

abbrev pub most_needs : ℕ
most_needs = 128

abbrev pub highest : List ℕ
highest = most_facts ∷ most_levels ∷ most_steps ∷ most_conditions ∷ most_effects ∷ most_uses ∷ most_goals ∷ most_timed
    ∷ most_needs
    ∷ []

-- the counts of the header, which names goals before conditions, and timed facts and needs last: an earlier edition has no count of needs
unfoldable pub counts_of : List ℕ → Counts
counts_of s = record {
  facts = u16_at s 4;
  levels = u16_at s 6;
  steps = u16_at s 8;
  conditions = u16_at s 12;
  effects = u16_at s 14;
  uses = u16_at s 16;
  goals = u16_at s 10;
  timed = u16_at s 18;
  needs = cond (eqb (u16_at s 0) needs_edition) (u16_at s 52) 0;
}

-- the counts in the tables' order
abbrev pub count_list : Counts → List ℕ
count_list c = c.facts ∷ c.levels ∷ c.steps ∷ c.conditions ∷ c.effects ∷ c.uses ∷ c.goals ∷ c.timed
    ∷ c.needs
    ∷ []

-- "The tables follow the header without gaps", which has so many bytes: where table t starts; for t = 9, where the file ends
unfoldable pub table_at : ℕ → Counts → ℕ → ℕ
table_at header c zero = header
table_at header c (suc t) = table_at header c t + get_or widths t 0 * get_or (count_list c) t 0

-- the positions of the nine tables and of the file's end
unfoldable pub positions_of : ℕ → Counts → Positions
positions_of header c = record {
  facts = table_at header c 0;
  levels = table_at header c 1;
  steps = table_at header c 2;
  conditions = table_at header c 3;
  effects = table_at header c 4;
  uses = table_at header c 5;
  goals = table_at header c 6;
  timed = table_at header c 7;
  needs = table_at header c 8;
  end = table_at header c 9;
}

-- the serial mark: serial jobs are retired, and no job is read otherwise for it
abbrev pub serial_mark : List ℕ → ℕ
serial_mark s = u16_at s 2

-- what the header says, and where it puts the tables
unfoldable pub job_of : List ℕ → Job
job_of s =
    record {
      edition = u16_at s 0;
      count = counts_of s;
      at = positions_of (header_width (u16_at s 0)) (counts_of s);
    }

-- refusal 4: a count exceeds its highest
unfoldable pub count_too_high : Counts → Bool
count_too_high c = any 9 (λ t. ltb (get_or highest t 0) (get_or (count_list c) t 0))

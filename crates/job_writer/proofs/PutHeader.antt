-- The header's numbers, one behind the other: the counts, the tables' offsets, and all of them.
use Prim.Native.Nat.{ℕ, ◌+◌, ◌*◌}
use mathlib.Core.Path.{◌≡◌}
use mathlib.Core.List.{List}
use lib.ListN.{take, drop}
use lib.Seq.{sets}
use Rattle.little_endian.specs.Bytes.{u16_bytes, u32_bytes}
use Rattle.job.specs.declared.layout.Counts.{Counts}
use Rattle.job.specs.Layout.{shortest_header, header_width, fact_width, level_width, step_width, condition_width, effect_width, use_width, table_at}
use Rattle.job_encoding.specs.Encode.{added_bytes, header_bytes}

module _ (l : List ℕ) (n : Counts) where
  pub put_counts :
      {a b c d e f g h : List ℕ}
      → a ≡ sets l 4 (u16_bytes n.facts)
      → b ≡ sets a 6 (u16_bytes n.levels)
      → c ≡ sets b 8 (u16_bytes n.steps)
      → d ≡ sets c 10 (u16_bytes n.goals)
      → e ≡ sets d 12 (u16_bytes n.conditions)
      → f ≡ sets e 14 (u16_bytes n.effects)
      → g ≡ sets f 16 (u16_bytes n.uses)
      → h ≡ sets g 18 (u16_bytes n.timed)
      → h ≡ sets l 4 (take 16 (drop 4 (header_bytes 1 n)))
  unfolding header_bytes u32_bytes u16_bytes
  put_counts ea eb ec ed ee ef eg eh = rw (eh, eg, ef, ee, ed, ec, eb, ea)

  pub put_offsets :
      {a b c d e f g : List ℕ} {levels steps conditions effects uses goals : ℕ}
      → levels ≡ shortest_header + fact_width * n.facts
      → steps ≡ levels + level_width * n.levels
      → conditions ≡ steps + step_width * n.steps
      → effects ≡ conditions + condition_width * n.conditions
      → uses ≡ effects + effect_width * n.effects
      → goals ≡ uses + use_width * n.uses
      → a ≡ sets l 20 (u32_bytes shortest_header)
      → b ≡ sets a 24 (u32_bytes levels)
      → c ≡ sets b 28 (u32_bytes steps)
      → d ≡ sets c 32 (u32_bytes conditions)
      → e ≡ sets d 36 (u32_bytes effects)
      → f ≡ sets e 40 (u32_bytes uses)
      → g ≡ sets f 44 (u32_bytes goals)
      → g ≡ sets l 20 (drop 20 (header_bytes 1 n))
  unfolding header_bytes added_bytes header_width table_at u32_bytes u16_bytes
  put_offsets p q r s t u ea eb ec ed ee ef eg = rw (eg, ef, ee, ed, ec, eb, ea, u, t, s, r, q, p)

  pub put_header :
      {a b c d : List ℕ}
      → a ≡ sets l 0 (u16_bytes 1)
      → b ≡ sets a 2 (u16_bytes 0)
      → c ≡ sets b 4 (take 16 (drop 4 (header_bytes 1 n)))
      → d ≡ sets c 20 (drop 20 (header_bytes 1 n))
      → d ≡ sets l 0 (header_bytes 1 n)
  unfolding header_bytes added_bytes u32_bytes u16_bytes
  put_header ea eb ec ed = rw (ed, ec, eb, ea)

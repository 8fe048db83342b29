-- Compared without the bias.
use Prim.Native.Nat.{◌+◌, ◌*◌, ◌-◌, max}
use mathlib.Core.Path.{ap, ◌∙◌}
use native.Mathlib.Omega.{arith}
use Rattle.rounds.proofs.Rounds.{demand_most}
use Rattle.order_file.specs.Contents.{gap_bias, most_gap}
use Rattle.order_file.specs.Table.{row_width, gap_in}
use Rattle.windows.proofs.starts.raised_to.Goals as goal

pub demanded-requires : goal.demanded-requires
demanded-requires c = let p = c.requires in (p.0, p.1, p.2, p.3)

pub raised_over-requires : goal.raised_over-requires
raised_over-requires c =
    let a = c.args in
    let most = c.requires.0.most (row_width * a.i + a.k) in (
      omega (arith, c.requires.4),
      omega (
        arith,
        c.demanded.ensures,
        demand_most (gap_in a.gaps.now) gap_bias (most_gap - gap_bias) a.i a.k a.t (omega (arith, most)),
        c.requires.3,
      ),
    )

pub returns : goal.returns
returns c = c.raised_over.ensures ∙ ap (max _) c.demanded.ensures

-- One more link is put behind the others.
use mathlib.Core.Path.{refl}
use native.Mathlib.Omega.{arith}
use Rattle.order_file.proofs.Put.{put_start, put_size, links_more, put_end}
use Rattle.order_file.proofs.write.write_links.Goals as goal

pub loop-j-init : goal.loop-j-init
loop-j-init c = put_start _ _ _

pub put_u16_within-requires : goal.put_u16_within-requires
put_u16_within-requires c = let size = put_size _ _ _ _ c.loop-j.invariant in omega arith

pub loop-j-preserved : goal.loop-j-preserved
loop-j-preserved c =
    links_more _ _ _ _ _ c.loop-j.invariant refl c.put_u16_within.ensures

pub shape_of-out : goal.shape_of-out
shape_of-out c = put_size _ _ _ _ c.loop-j.invariant

pub returns : goal.returns
returns c = put_end _ _ _ _ _ c.loop-j.invariant (omega arith) (omega arith)

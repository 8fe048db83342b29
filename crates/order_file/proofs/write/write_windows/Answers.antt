-- One more window is put behind the others.
use native.Mathlib.Omega.{arith}
use Rattle.order_file.proofs.Put.{put_start, put_size, windows_more, put_end}
use Rattle.order_file.proofs.write.write_windows.Goals as goal

pub loop-k-init : goal.loop-k-init
loop-k-init c = put_start _ _ _

pub write_window-requires : goal.write_window-requires
write_window-requires c =
    let size = put_size _ _ _ _ c.loop-k.invariant in
    omega (arith, c.window_at.ensures.0)

pub loop-k-preserved : goal.loop-k-preserved
loop-k-preserved c =
    windows_more _ _ _ _ _ _ _ c.loop-k.invariant c.window_at.ensures.0 c.write_window.ensures

pub shape_of-out : goal.shape_of-out
shape_of-out c = put_size _ _ _ _ c.loop-k.invariant

pub returns : goal.returns
returns c = put_end _ _ _ _ _ c.loop-k.invariant (omega arith) (omega arith)

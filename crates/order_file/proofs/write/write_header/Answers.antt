-- Each number is put behind the one before it.
use Rattle.order_file.proofs.Put.{put_header}
use Rattle.order_file.proofs.write.write_header.Goals as goal

pub returns : goal.returns
returns c =
    let eighth = c in
    let seventh = eighth in
    let sixth = seventh in
    let fifth = sixth in
    let fourth = fifth in
    let third = fourth in
    let second = third in
    let first = second in
    put_header _ _ _ _ _ seventh.window_at.ensures.0 eighth.order_at.ensures.0 first.put_u16.ensures
    second.put_u16-2.ensures
    third.put_u16-3.ensures
    fourth.put_u16-4.ensures
    fifth.put_u32.ensures
    sixth.put_u32-2.ensures
    seventh.put_u32-3.ensures
    eighth.put_u32-4.ensures

-- Each number is put behind the one before it.
use Rattle.order_file.proofs.Put.{put_order}
use Rattle.order_file.proofs.write.write_order.Goals as goal

pub returns : goal.returns
returns c =
    let third = c in
    let second = third in
    let first = second in
    put_order _ _ _ _ first.requires.1 first.put_u16_within.ensures second.put_u16_within-2.ensures
    third.put_u32_within.ensures

-- Whole texts, computed.
use Prim.Native.Nat.{◌+◌}
use mathlib.Core.Path.{◌≡◌, refl}
use mathlib.Core.List.{[], ◌∷◌, ◌++◌}
use lib.ListN.{get_or}
use Rattle.laws.specs.Listed.{concatenate}
use Rattle.laws.specs.Search.{all}
use Rattle.spelling.specs.Keywords.{codes}
use Rattle.little_endian.specs.Bytes.{u16_at, u32_at, biased_at, u16_bytes, u32_bytes}
use Rattle.order_file.specs.Contents.{Contents, no_latest, gap_bias, initial_state}
use Rattle.order_file.specs.Layout.{contents_of}
use Rattle.order_file.specs.Encode.{header_bytes, window_bytes, order_bytes, link_bytes, up_to_window, up_to_order, up_to_link, encode}
use Rattle.order_check.specs.WellFormed.{layout_holds, length_holds, counts_hold, order_holds, ascends}
use Rattle.order_check.specs.WellFormed.{link_holds, rounds_hold, window_holds, well_formed}
use Rattle.text.specs.Decimal.{digits, decimal}
use Rattle.sheet.specs.Text.{gap_text, latest_text, order_line, refused_text}
use Rattle.order_text.specs.Text.{head_line, times_text, window_line, target_text, link_line, file_text, order_text}

-- two steps, the second without a latest start and 5 ticks after the first at the least; a link of each kind
sample : Contents
sample =
    record {
      steps = 2;
      orders = 1;
      links = 3;
      rounds = 2;
      limit = λ k. get_or (4 ∷ 0 ∷ []) k 0;
      latest = λ k. get_or (90 ∷ no_latest ∷ []) k 0;
      earliest = λ k. get_or (4 ∷ 9 ∷ []) k 0;
      first = λ k. 0;
      second = λ k. 1;
      gap = λ k. gap_bias + 5;
      link = λ k. get_or (initial_state ∷ 511 ∷ 512 ∷ []) k 0;
    }

sample_text :
    order_text (encode sample)
    ≡ codes "steps 2 orders 1 links 3 rounds 2\n"
    ++ codes "step 0 limit 4 latest 90 earliest 4\n"
    ++ codes "step 1 limit 0 latest none earliest 9\n"
    ++ codes "order 0 1 5\n"
    ++ codes "link 0 initial state\n"
    ++ codes "link 1 effect 511\n"
    ++ codes "link 2 timed fact 0\n"
unfolding sample order_text file_text head_line window_line times_text link_line target_text concatenate latest_text order_line gap_text decimal digits
    well_formed layout_holds length_holds counts_hold order_holds ascends link_holds rounds_hold window_holds all contents_of u16_at u32_at biased_at
    header_bytes window_bytes order_bytes link_bytes up_to_window up_to_order up_to_link u16_bytes u32_bytes
sample_text = refl

-- no bytes are no order file
nothing_text : order_text [] ≡ codes "refused 16 place 0\n"
unfolding order_text well_formed layout_holds length_holds contents_of u16_at u32_at refused_text decimal digits
nothing_text = refl

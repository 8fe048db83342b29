use Rattle.order_file.specs.Layout.{contents_of}
use Rattle.order_text.specs.Text.{window_line, window_most}
use Rattle.sheet.proofs.LineByLine.{LinesPut}
use Rattle.order_text.proofs.put_windows.Given as goal

abbrev pub invariant-loop-k : goal.invariant-loop-k
invariant-loop-k l = LinesPut (window_line (contents_of l.file)) window_most l.steps l.initial.out l.at l.k l.out l.next

use Rattle.order_file.specs.Layout.{contents_of}
use Rattle.order_text.specs.Text.{link_line, link_most}
use Rattle.sheet.proofs.LineByLine.{LinesPut}
use Rattle.order_text.proofs.put_links.Given as goal

abbrev pub invariant-loop-k : goal.invariant-loop-k
invariant-loop-k l = LinesPut (link_line (contents_of l.file)) link_most l.links l.initial.out l.at l.k l.out l.next

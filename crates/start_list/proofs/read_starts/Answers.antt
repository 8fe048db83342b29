-- Counted first, and stored only where the text is a list.
use borrow.Author.Rules.{rules}
use Rattle.start_list.proofs.Reading.{read_empty, read_none, read_list}
use Rattle.start_list.proofs.read_starts.Goals as goal

pub returns-then-text-eq0 : goal.returns-then-text-eq0
returns-then-text-eq0 c =
    let e = read_empty c.args.text.now c.args.list.now c.if-text-eq0.true in record { value = e.0; list_after = e.1 }

pub returns-in_err-n-clause-list_after : goal.returns-in_err-n-clause-list_after
returns-in_err-n-clause-list_after c = read_none _ c.count_starts.ensures _ c.in_err-n.was

pub put_starts-requires : goal.put_starts-requires
put_starts-requires c = (search rules, read_list _ c.count_starts.ensures c.in_ok-n.was)

pub returns : goal.returns
returns c = record { value = c.in_ok-n.ensures; list_after = c.put_starts.ensures }

use Rattle.yl_session.proofs.Read.{moved_to, row_fed}
use Rattle.yl_session.proofs.reading.moved_on.Goals as goal

pub returns-clause-read : goal.returns-clause-read
returns-clause-read g c =
    let rows = g.L.Lines.rows c.args.lines.now in
    let items = c.put_behind.new.items.items in
    let next = c.in_ok-next-in-Some.next in
    let moved = moved_to rows c.args.i c.args.records.now.items c.cut-above.result.items items c.args.recorder next c.in-Some.state.now c.requires.row c.requires.read c.in-Some.ensures c.in_ok-next-in-Some.ensures.at
    c.in_ok-next-in-Some.ensures.told c.cut-above.ensures c.in_ok-put_behind.ensures in
    row_fed rows c.args.i items next c.feed_text.new.self c.row.result.now c.as_str.result.now moved c.row.ensures c.as_str.ensures c.in_ok-feed_text.ensures.told c.in_ok-feed_text.ensures.count
    c.feed_text.ensures.taken c.feed_text.ensures.states c.in_ok-feed_text.ensures.goes_on

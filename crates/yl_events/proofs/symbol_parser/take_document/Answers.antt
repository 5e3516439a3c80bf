use Rattle.yl_events.proofs.Lines.{all_left, not_left, not_walked}
use Rattle.yl_events.proofs.symbol_parser.take_document.Goals as goal

pub returns-in-Some : goal.returns-in-Some
returns-in-Some g c =
    not_walked c.args.symbols.now _ c.walk.new.goals.items _ c.walk.new.events.items c.in_ok-walk.field-0 c.in-Some.place c.in_ok-walk.ensures c.in-Some.is

pub returns-then-branch : goal.returns-then-branch
returns-then-branch g c =
    all_left c.args.symbols.now _ c.walk.new.goals.items _ c.walk.new.events.items _ c.in_ok-walk.field-0 c.in_ok-finish-in-None.field-0 c.in_ok-walk.ensures c.in-None.is
    c.in_ok-finish-in-None.ensures c.if-branch.true

pub returns-else-branch : goal.returns-else-branch
returns-else-branch g c =
    not_left c.args.symbols.now _ c.walk.new.goals.items _ c.walk.new.events.items _ c.in_ok-walk.field-0 c.in_ok-finish-in-None.field-0 _ c.in_ok-walk.ensures c.in-None.is
    c.in_ok-finish-in-None.ensures c.if-branch.false c.lexeme_count.ensures

use Rattle.std.proofs.Common.{◌≡◌, ◌+◌, ◌-◌, ◌∙◌, ap, sym, true, false, arith, rules, tests}
use Rattle.std.specs.Prelude.{is_some}
use Rattle.std.specs.Io.KnownBytes.{prepend_known}
use Rattle.yl_text.specs.Watched.{device_of}
use Rattle.yl_frames.specs.declared.field.HeaderLine.TheVariants.{Empty, Length, Other, Bad}
use Rattle.yl_frames.specs.Header.{line_of}
use Rattle.yl_frames.proofs.Headers.{header_bad, header_ends, header_goes_on, header_says, header_says_twice, header_stops, header_too_long}
use Rattle.yl_frames.proofs.header.read_header.Goals as goal

pub returns-in-None-clause-header : goal.returns-in-None-clause-header
returns-in-None-clause-header g c =
    let given = prepend_known c.args.ahead.now (g.R.Read.remaining (device_of c.args.input.now)) in
    let mid = prepend_known c.loop.ahead (g.R.Read.remaining (device_of c.loop.input)) in
    header_stops (65 - c.loop.counter) given mid c.loop.length c.loop.invariant.begun (rw c.in-None.is at c.in_ok-line.ensures.line)

pub returns-in-Empty-clause-header : goal.returns-in-Empty-clause-header
returns-in-Empty-clause-header g c =
    let given = prepend_known c.args.ahead.now (g.R.Read.remaining (device_of c.args.input.now)) in
    let mid = prepend_known c.loop.ahead (g.R.Read.remaining (device_of c.loop.input)) in
    let new = prepend_known c.read_line.new.ahead (g.R.Read.remaining (device_of c.read_line.new.input)) in
    let kind : line_of c.in-Some.line.items ≡ Empty = ap line_of (sym c.as_slice.ensures.value) ∙ sym c.line_of.ensures ∙ c.in-Empty.is in
    header_ends (65 - c.loop.counter) (65 - (c.loop.counter + 1)) given mid new c.loop.length c.in-Some.line.items (omega arith) c.loop.invariant.begun (rw c.in-Some.is at c.in_ok-line.ensures.line) kind

pub returns-in-Bad-clause-header : goal.returns-in-Bad-clause-header
returns-in-Bad-clause-header g c =
    let given = prepend_known c.args.ahead.now (g.R.Read.remaining (device_of c.args.input.now)) in
    let mid = prepend_known c.loop.ahead (g.R.Read.remaining (device_of c.loop.input)) in
    let new = prepend_known c.read_line.new.ahead (g.R.Read.remaining (device_of c.read_line.new.input)) in
    let kind : line_of c.in-Some.line.items ≡ Bad = ap line_of (sym c.as_slice.ensures.value) ∙ sym c.line_of.ensures ∙ c.in-Bad.is in
    header_bad (65 - c.loop.counter) (65 - (c.loop.counter + 1)) given mid new c.loop.length c.in-Some.line.items (omega arith) c.loop.invariant.begun (rw c.in-Some.is at c.in_ok-line.ensures.line) kind

pub returns-then-is_some-clause-header : goal.returns-then-is_some-clause-header
returns-then-is_some-clause-header g c =
    let given = prepend_known c.args.ahead.now (g.R.Read.remaining (device_of c.args.input.now)) in
    let mid = prepend_known c.loop.ahead (g.R.Read.remaining (device_of c.loop.input)) in
    let new = prepend_known c.read_line.new.ahead (g.R.Read.remaining (device_of c.read_line.new.input)) in
    let kind : line_of c.in-Some.line.items ≡ Length c.in-Length.n = ap line_of (sym c.as_slice.ensures.value) ∙ sym c.line_of.ensures ∙ c.in-Length.is in
    let twice : is_some c.loop.length ≡ true = search (rules, tests) in
    header_says_twice (65 - c.loop.counter) (65 - (c.loop.counter + 1)) c.in-Length.n given mid new c.loop.length c.in-Some.line.items (omega arith) twice c.loop.invariant.begun (rw c.in-Some.is at c.in_ok-line.ensures.line) kind

pub loop-preserved-in-Other : goal.loop-preserved-in-Other
loop-preserved-in-Other g c =
    let given = prepend_known c.args.ahead.now (g.R.Read.remaining (device_of c.args.input.now)) in
    let mid = prepend_known c.loop.ahead (g.R.Read.remaining (device_of c.loop.input)) in
    let new = prepend_known c.read_line.new.ahead (g.R.Read.remaining (device_of c.read_line.new.input)) in
    let kind : line_of c.in-Some.line.items ≡ Other = ap line_of (sym c.as_slice.ensures.value) ∙ sym c.line_of.ensures ∙ c.in-Other.is in
    record {
      quiet = search rules;
      begun = header_goes_on (65 - c.loop.counter) (65 - (c.loop.counter + 1)) given mid new c.loop.length c.in-Some.line.items (omega arith) c.loop.invariant.begun (rw c.in-Some.is at c.in_ok-line.ensures.line) kind;
    }

pub loop-preserved : goal.loop-preserved
loop-preserved g c =
    let given = prepend_known c.args.ahead.now (g.R.Read.remaining (device_of c.args.input.now)) in
    let mid = prepend_known c.loop.ahead (g.R.Read.remaining (device_of c.loop.input)) in
    let new = prepend_known c.read_line.new.ahead (g.R.Read.remaining (device_of c.read_line.new.input)) in
    let kind : line_of c.in-Some.line.items ≡ Length c.in-Length.n = ap line_of (sym c.as_slice.ensures.value) ∙ sym c.line_of.ensures ∙ c.in-Length.is in
    let none : is_some c.loop.length ≡ false = search (rules, tests) in
    record {
      quiet = search rules;
      begun = header_says (65 - c.loop.counter) (65 - (c.loop.counter + 1)) c.in-Length.n given mid new c.loop.length c.in-Some.line.items (omega arith) none c.loop.invariant.begun (rw c.in-Some.is at c.in_ok-line.ensures.line) kind;
    }

pub returns-clause-header : goal.returns-clause-header
returns-clause-header g c =
    let given = prepend_known c.args.ahead.now (g.R.Read.remaining (device_of c.args.input.now)) in
    let mid = prepend_known c.loop.ahead (g.R.Read.remaining (device_of c.loop.input)) in
    header_too_long (65 - c.loop.counter) given mid c.loop.length (omega arith) c.loop.invariant.begun

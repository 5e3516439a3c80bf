use Rattle.std.proofs.Common.{arith, rules}
use Rattle.std.specs.Str.{IsUtf8}
use Rattle.yl_text.specs.Edit.{IsInText, IsEditRange, offset}
use Rattle.yl_text.specs.Places.{IsBytePlace, IsBehind}
use Rattle.yl_text.proofs.LineEdits.{behind_later, not_behind, place_within, length_edited}
use Rattle.yl_text.proofs.store.LineStore.check.Goals as goal

pub returns-then-is_behind : goal.returns-then-is_behind
returns-then-is_behind g c =
    let ps = g.Self.Lines.rows c.args.self.now in
    let first = c.in-Some.first in
    let last = c.in-Some-byte_place.last in
    let utf8 : IsUtf8 c.args.bytes.now = search rules in
    let at : IsBytePlace ps (offset ps c.args.from) first.line first.byte = search rules in
    let to : IsBytePlace ps (offset ps c.args.to) last.line last.byte = search rules in
    let behind : IsBehind first.line first.byte last.line last.byte = search rules in
    let less = behind_later ps (offset ps c.args.from) (offset ps c.args.to) first.line first.byte last.line last.byte at to behind in
    (utf8, λ r. let o = r.ordered in omega arith)

pub bytes_from_to-requires-clause-ordered : goal.bytes_from_to-requires-clause-ordered
bytes_from_to-requires-clause-ordered g c =
    let ps = g.Self.Lines.rows c.args.self.now in
    let first = c.in-Some.first in
    let last = c.in-Some-byte_place.last in
    let at : IsBytePlace ps (offset ps c.args.from) first.line first.byte = search rules in
    let to : IsBytePlace ps (offset ps c.args.to) last.line last.byte = search rules in
    let not : ¬ (IsBehind first.line first.byte last.line last.byte) = search rules in
    omega (arith, at.place, to.place, (not_behind ps (offset ps c.args.from) (offset ps c.args.to) first.line first.byte last.line last.byte at to not).1)

pub bytes_from_to-requires-clause-first : goal.bytes_from_to-requires-clause-first
bytes_from_to-requires-clause-first g c =
    let ps = g.Self.Lines.rows c.args.self.now in
    let first = c.in-Some.first in
    let last = c.in-Some-byte_place.last in
    let at : IsBytePlace ps (offset ps c.args.from) first.line first.byte = search rules in
    let to : IsBytePlace ps (offset ps c.args.to) last.line last.byte = search rules in
    let not : ¬ (IsBehind first.line first.byte last.line last.byte) = search rules in
    (not_behind ps (offset ps c.args.from) (offset ps c.args.to) first.line first.byte last.line last.byte at to not).0

pub overflow_sub-kept : goal.overflow_sub-kept
overflow_sub-kept g c =
    let ps = g.Self.Lines.rows c.args.self.now in
    let last = c.in-Some-byte_place.last in
    let to : IsBytePlace ps (offset ps c.args.to) last.line last.byte = search rules in
    omega (arith, c.bytes.ensures, c.bytes_from_to.ensures, to.place, place_within ps (offset ps c.args.to) last.line last.byte to)

pub returns-then-kept-bytes : goal.returns-then-kept-bytes
returns-then-kept-bytes g c =
    let ps = g.Self.Lines.rows c.args.self.now in
    let first = c.in-Some.first in
    let last = c.in-Some-byte_place.last in
    let utf8 : IsUtf8 c.args.bytes.now = search rules in
    let from : IsInText ps c.args.from = search rules in
    let into : IsInText ps c.args.to = search rules in
    let at : IsBytePlace ps (offset ps c.args.from) first.line first.byte = search rules in
    let to : IsBytePlace ps (offset ps c.args.to) last.line last.byte = search rules in
    let not : ¬ (IsBehind first.line first.byte last.line last.byte) = search rules in
    let ordered = (not_behind ps (offset ps c.args.from) (offset ps c.args.to) first.line first.byte last.line last.byte at to not).1 in
    let range : IsEditRange ps c.args.from c.args.to = record { first = from; last = into; ordered = ordered } in
    let within = place_within ps (offset ps c.args.to) last.line last.byte to in
    (utf8, range, omega (arith, length_edited ps c.args.from c.args.to c.args.bytes.now ordered within, c.bytes.ensures, c.bytes_from_to.ensures, at.place, to.place, within))

pub returns : goal.returns
returns g c =
    let ps = g.Self.Lines.rows c.args.self.now in
    let first = c.in-Some.first in
    let last = c.in-Some-byte_place.last in
    let utf8 : IsUtf8 c.args.bytes.now = search rules in
    let from : IsInText ps c.args.from = search rules in
    let into : IsInText ps c.args.to = search rules in
    let at : IsBytePlace ps (offset ps c.args.from) first.line first.byte = search rules in
    let to : IsBytePlace ps (offset ps c.args.to) last.line last.byte = search rules in
    let not : ¬ (IsBehind first.line first.byte last.line last.byte) = search rules in
    let ordered = (not_behind ps (offset ps c.args.from) (offset ps c.args.to) first.line first.byte last.line last.byte at to not).1 in
    let within = place_within ps (offset ps c.args.to) last.line last.byte to in
    record {
      utf8 = utf8;
      range = record { first = from; last = into; ordered = ordered };
      short = omega (arith, length_edited ps c.args.from c.args.to c.args.bytes.now ordered within, c.bytes.ensures, c.bytes_from_to.ensures, at.place, to.place, within);
    }

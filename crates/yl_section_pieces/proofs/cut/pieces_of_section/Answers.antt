use Rattle.std.proofs.Common.{◌≡◌, ◌<◌, ◌∙◌, Bor, List, None, ap, arith, false, length, map, subst, sym}
use Rattle.std.specs.Prelude.{IsPermutation, is_some, vec_len}
use Rattle.std.specs.List.Sorted.{IsNonDecreasingBy}
use Rattle.yl_text.specs.Finding.{FindingValue}
use Rattle.yl_record.specs.Records.{RecordValue}
use Rattle.yl_report.proofs.With.{ok_then}
use Rattle.yl_section_pieces.proofs.CutKept.{kept_cut, kept_whole, none_kept, some_items}
use Rattle.yl_section_pieces.proofs.cut.pieces_of_section.Goals as goal

pub returns-then-is_empty : goal.returns-then-is_empty
returns-then-is_empty g c =
    let rs = map (λ (r : Bor RecordValue). r.now) c.args.rows.now in
    ok_then c.whole-then-is_empty.result (λ ps e is. kept_whole c.args.config.now rs c.args.kept is ps.items e) c.whole-then-is_empty.ensures

pub returns : goal.returns
returns g c =
    let rs = map (λ (r : Bor RecordValue). r.now) c.args.rows.now in
    let k = c.args.kept in
    let found : List FindingValue = map (λ (f : Bor FindingValue). f.now) c.deref.result.now in
    let given : map (λ (f : Bor FindingValue). f.now) c.in_ok-found.found.items ≡ found = ap (λ (fs : List (Bor FindingValue)). map (λ (f : Bor FindingValue). f.now) fs) (sym c.deref.ensures.value) in
    let same : IsPermutation k.found found
    = subst (λ (fs : List FindingValue). IsPermutation fs found) c.found.ensures (subst (λ (fs : List FindingValue). IsPermutation c.found.result.now fs) given c.in_ok-found.ensures.same) in
    let sorted : IsNonDecreasingBy (λ (f : FindingValue). f.line) found = subst (λ (fs : List FindingValue). IsNonDecreasingBy (λ (f : FindingValue). f.line) fs) given c.in_ok-found.ensures.sorted in
    let sound : is_some c.fault.result ≡ false = sym c.is_some.ensures ∙ c.if-is_some.false in
    let none : k.fault ≡ None = none_kept c.fault.result k.fault sound c.fault.ensures in
    let some : 0 < k.rows = omega (arith, c.rows.ensures, c.if-rows-le-PIECE_ROWS.false) in
    let borders = c.in_ok-borders.borders in
    let more : 0 < length borders.items = some_items borders.items (vec_len borders) c.is_empty.result borders.ok.0 c.is_empty.ensures c.if-is_empty.false in
    ok_then c.cut_at.result (λ ps e is. kept_cut c.args.config.now rs k is ps.items found c.in_ok-borders.borders.items e none some same sorted c.in_ok-borders.ensures more) c.cut_at.ensures

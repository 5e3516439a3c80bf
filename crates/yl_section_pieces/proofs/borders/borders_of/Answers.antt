use Rattle.std.proofs.Common.{◌≡◌, ◌<◌, ◌+◌, ◌++◌, ◌∷◌, ◌∙◌, [], Bor, List, ap, arith, drop, length, map, subst, sym, take}
use Rattle.std.proofs.lemmas.List.{drop_more, get_or-map, length-map, take-append-drop, take_more}
use Rattle.yl_record.specs.Records.{RecordValue}
use Rattle.yl_section_pieces.specs.BorderJudge.{HasReadRows}
use Rattle.yl_section_pieces.specs.Borders.{AreDue}
use Rattle.yl_section_pieces.proofs.borders.borders_of.Goals as goal

pub loop-row-init : goal.loop-row-init
loop-row-init g c = record { judged = c.in_ok-judge.ensures; due = c.new-borders.ensures (map (λ r. r.now) c.args.rows.now) }

pub loop-row-preserved : goal.loop-row-preserved
loop-row-preserved g c =
    let config = c.args.config.now in
    let now = λ (r : Bor RecordValue). r.now in
    let all = c.args.rows.now in
    let rs = map now all in
    let i = c.loop-row.row-index in
    let x = c.row-item.result in
    let many : length rs ≡ length all = length-map all now in
    let inside : i < length rs = omega (arith, many, c.loop-row-test.true) in
    let same = get_or-map now all i x x.now c.loop-row-test.true ∙ ap now (sym c.row-item.is) in
    let left : drop i rs ≡ x.now ∷ drop (i + 1) rs = drop_more rs i x.now inside ∙ ap (λ (r : RecordValue). r ∷ drop (i + 1) rs) same in
    let whole : take i rs ++ x.now ∷ drop (i + 1) rs ≡ rs = ap (λ (zs : List RecordValue). take i rs ++ zs) (sym left) ∙ take-append-drop i rs in
    let next : take (i + 1) rs ≡ take i rs ++ x.now ∷ [] = take_more rs i x.now inside ∙ ap (λ (r : RecordValue). take i rs ++ r ∷ []) same in
    record {
      judged = subst (λ (zs : List RecordValue). HasReadRows config zs c.read.new.self) (sym next) (c.in_ok-read.ensures config (take i rs) c.loop-row.invariant.judged);
      due =
          subst (λ (zs : List RecordValue). AreDue zs c.note.new.self.due c.note.new.self.all.items) whole
          (c.in_ok-note.ensures config (take i rs) (drop (i + 1) rs) c.loop-row.invariant.judged
          (subst (λ (zs : List RecordValue). AreDue zs c.loop-row.borders.due c.loop-row.borders.all.items) (sym whole) c.loop-row.invariant.due));
    }

use Rattle.std.proofs.Common.{◌≡◌, ◌+◌, ◌-◌, ℕ, Bor, List, map, take, drop, ap, sym, ◌∙◌, subst, arith}
use Rattle.std.specs.Prelude.{IfOk}
use Rattle.std.proofs.lemmas.List.{drop-map, take-map}
use Rattle.yl_record.specs.Records.{RecordValue}
use Rattle.yl_sections.specs.Judge.{kept_of_section}
use Rattle.yl_section_pieces.specs.Pieces.{IsKeptSection}
use Rattle.yl_piece_list.proofs.cutting.pieces_at.Goals as goal

between : (rows : List (Bor RecordValue)) (row end n : ℕ) → end ≡ row + n → map (λ (r : Bor RecordValue). r.now) (take (end - row) (drop row rows)) ≡ take n (drop row (map (λ (r : Bor RecordValue). r.now) rows))
between rows row end n e =
    let long : end - row ≡ n = omega (arith, e) in
    ap (λ m. map (λ (r : Bor RecordValue). r.now) (take m (drop row rows))) long
    ∙ (sym (take-map (λ (r : Bor RecordValue). r.now) n (drop row rows)) ∙ ap (λ (es : List RecordValue). take n es) (sym (drop-map (λ (r : Bor RecordValue). r.now) row rows)))

pub returns : goal.returns
returns g c =
    subst (λ (es : List RecordValue). IfOk c.pieces_of_section.result (λ ps. c.args.kept ≡ kept_of_section c.args.config.now es → IsKeptSection c.args.config.now es ps.items))
    (between c.args.rows.now c.args.row c.end_of-end.result c.args.kept.rows c.end_of-end.ensures) c.pieces_of_section.ensures

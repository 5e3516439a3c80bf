-- The rows of a text, one after another: what is found in them, and their records.
use Rattle.std.proofs.Common.{◌≡◌, ℕ, ◌+◌, ◌<◌, ◌≤◌, List, [], ◌∷◌, Some, drop, length, ap, sym, ◌∙◌, add-one, arith}
use Rattle.std.proofs.Math.Seq.{drop-cons}
use Rattle.std.proofs.lemmas.Option.{slice_get_within, get_or_from_slice_get}
use Rattle.std.specs.List.{slice_get}
use Rattle.yl_text.specs.Lines.{RowValue}
use Rattle.yl_text.specs.declared.row.Break.{Break}
use Rattle.yl_row.specs.Entries.{RowEntry}
use Rattle.yl_record.specs.Records.{records_with}

pub rows_at : (rows : List RowValue) (i : ℕ) (row : RowValue) → slice_get rows i ≡ Some row → drop i rows ≡ row ∷ drop (i + 1) rows
rows_at rows i row e =
    let l : i < length rows = slice_get_within rows i row e in
    rw (add-one i, drop-cons rows i row, get_or_from_slice_get rows i row row e)

-- a line more is passed
pub passed_more : {X Y : Type 0} (left : X → List RowValue → Y) (rows : List RowValue) (i : ℕ) (row : RowValue) (text : List ℕ) (end : Break) (old new : X) (total : Y)
    → slice_get rows i ≡ Some row → text ≡ row.text → end ≡ row.end
    → ((rest : List RowValue) → left new rest ≡ left old (record { text = text; end = end } ∷ rest))
    → left old (drop i rows) ≡ total → left new (drop (i + 1) rows) ≡ total
passed_more left rows i row text end old new total at same_text same_end told whole =
    let rest = drop (i + 1) rows in
    told rest
    ∙ (ap (λ (t : List ℕ). left old (record { text = t; end = end } ∷ rest)) same_text
    ∙ (ap (λ (e : Break). left old (record { text = row.text; end = e } ∷ rest)) same_end
    ∙ (ap (left old) (sym (rows_at rows i row at)) ∙ whole)))

-- no more records than indentations
pub few_with : (ns : List ℕ) (es : List RowEntry) → length (records_with ns es) ≤ length ns
few_with [] es = omega arith
few_with (n ∷ ns) [] = omega arith
few_with (n ∷ ns) (e ∷ es) = omega (arith, few_with ns es)

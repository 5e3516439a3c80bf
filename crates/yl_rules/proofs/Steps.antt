-- A walk over the lines of a text, of which each is judged by those before it and those behind it.
use Rattle.std.proofs.Common.{◌≡◌, ◌<◌, ℕ, ◌+◌, ◌-◌, length, List, [], ◌∷◌, ◌++◌, drop, Some, refl, sym, ◌∙◌, ap, add-one, add_comm, arith}
use Rattle.std.specs.Prelude.{if◌then◌else◌}
use Rattle.std.specs.List.{slice_get, prefix_len}
use Rattle.std.proofs.Math.Seq.{drop-cons}
use Rattle.std.proofs.lemmas.List.{append-nil}
use Rattle.std.proofs.lemmas.Option.{slice_get_within, get_or_from_slice_get}
use Rattle.yl_text.specs.Finding.{FindingValue, at_each}
use Rattle.yl_text.specs.Lines.{RowValue}
use Rattle.yl_text.specs.declared.row.Break.{Break}
use Rattle.yl_rules.specs.EmptyLines.{is_break_only, at_end_of_run, empty_lines_at}
use Rattle.yl_rules.specs.EndOfFile.{end_of_file, end_of_file_at}
use Rattle.yl_rules.specs.Runs.{run_findings}
use Rattle.yl_rules.specs.RunsLeft.{RunReaderValue, next_run, empty_lines_left, end_of_file_left, runs_left}
use Rattle.yl_rules.specs.declared.empty_lines.EmptyLinesOptions.{EmptyLinesOptions}
use Rattle.yl_rules.specs.declared.options.RunOptions.{RunOptions}

-- what begins at a place
pub drop_here : {X : Type 0} (xs : List X) (i : ℕ) (x : X) → slice_get xs i ≡ Some x → drop i xs ≡ x ∷ drop (i + 1) xs
drop_here xs i x e =
    let h : i < length xs = slice_get_within xs i x e in
    rw (add-one i, drop-cons xs i x, get_or_from_slice_get xs i x x e)

-- the run that ends before these lines, and those in them
empty_lines_so : (o : EmptyLinesOptions) (before rows : List RowValue)
    → at_end_of_run o (prefix_len is_break_only before) (length before) rows ++ at_each (empty_lines_at o) before rows
    ≡ empty_lines_left o (prefix_len is_break_only before) (length before) rows
empty_lines_so o before [] = append-nil _
empty_lines_so o before (row ∷ rows) =
    let run = prefix_len is_break_only before in
    let more : prefix_len is_break_only (row ∷ before) ≡ next_run run row = ap (λ (n : ℕ). if is_break_only row then n else 0) (add_comm 1 run) in
    let count : length (row ∷ before) ≡ length before + 1 = omega arith in
    let here = at_end_of_run o (prefix_len is_break_only before) (length before) (row ∷ rows) in
    ap (λ (fs : List FindingValue). here ++ fs)
    (ap (λ (n : ℕ). at_end_of_run o (prefix_len is_break_only (row ∷ before)) n rows ++ at_each (empty_lines_at o) (row ∷ before) rows) (sym count)
    ∙ (empty_lines_so o (row ∷ before) rows
    ∙ (ap (λ (n : ℕ). empty_lines_left o n (length (row ∷ before)) rows) more ∙ ap (λ (n : ℕ). empty_lines_left o (next_run run row) n rows) count)))

-- the last line is the one behind all others
last_line : (count : ℕ) (row : RowValue) (rows : List RowValue)
    → end_of_file_left (count + 1) row.text rows ≡ end_of_file_at (count + 1 + length rows) (slice_get (row ∷ rows) (length rows))
last_line count row [] =
    let places : count + 1 ≡ count + 1 + 0 = omega arith in
    ap (λ (n : ℕ). end_of_file_at n (Some row)) places
last_line count row (next ∷ rows) =
    let places : count + 1 + 1 + length rows ≡ count + 1 + length (next ∷ rows) = omega arith in
    last_line (count + 1) next rows ∙ ap (λ (n : ℕ). end_of_file_at n (slice_get (next ∷ rows) (length rows))) places

end_of_file_so : (rows : List RowValue) → end_of_file_left 0 [] rows ≡ end_of_file rows
end_of_file_so [] = refl
end_of_file_so (row ∷ rows) =
    let places : 0 + 1 + length rows ≡ length (row ∷ rows) = omega arith in
    let before : length rows ≡ length (row ∷ rows) - 1 = omega arith in
    last_line 0 row rows
    ∙ (ap (λ (n : ℕ). end_of_file_at n (slice_get (row ∷ rows) (length rows))) places
    ∙ ap (λ (n : ℕ). end_of_file_at (length (row ∷ rows)) (slice_get (row ∷ rows) n)) before)

-- at a text's start all is still to come
pub all_left : (o : RunOptions) (rows : List RowValue) → runs_left (record { options = o; count = 0; run = 0; last = [] }) rows ≡ run_findings o rows
all_left o rows = rw (sym (empty_lines_so o.empty_lines [] rows), end_of_file_so rows) refl

-- a line more is passed
pub left_more : (left : RunReaderValue → List RowValue → List FindingValue) (rows : List RowValue) (i : ℕ) (row : RowValue) (text : List ℕ) (end : Break) (old new : RunReaderValue) (found now total : List FindingValue)
    → slice_get rows i ≡ Some row → text ≡ row.text → end ≡ row.end
    → ((rest : List RowValue) → now ++ left new rest ≡ found ++ left old (record { text = text; end = end } ∷ rest))
    → found ++ left old (drop i rows) ≡ total → now ++ left new (drop (i + 1) rows) ≡ total
left_more left rows i row text end old new found now total at same_text same_end told whole =
    let rest = drop (i + 1) rows in
    told rest
    ∙ (ap (λ (t : List ℕ). found ++ left old (record { text = t; end = end } ∷ rest)) same_text
    ∙ (ap (λ (e : Break). found ++ left old (record { text = row.text; end = e } ∷ rest)) same_end
    ∙ (ap (λ (rs : List RowValue). found ++ left old rs) (sym (drop_here rows i row at)) ∙ whole)))

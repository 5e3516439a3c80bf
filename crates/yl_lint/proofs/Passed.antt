-- What is found in lines that are passed one after another.
use Rattle.std.proofs.Common.{◌≡◌, ℕ, ◌+◌, ◌-◌, ◌≤◌, Result, Ok, Err, List, [], ◌∷◌, ◌++◌, length, refl, ap, sym, ◌∙◌, append_assoc, subst, length-append, arith}
use Rattle.std.proofs.lemmas.List.{append-nil}
use Rattle.std.specs.List.{slice_get}
use Rattle.std.specs.Prelude.{IfOk}
use Rattle.std.specs.Str.{chars}
use Rattle.std.specs.Option.{option_map_or}
use Rattle.yl_text.specs.declared.position.Pos.{Pos}
use Rattle.yl_text.specs.Finding.{FindingValue}
use Rattle.yl_text.specs.Lines.{RowValue, break_bytes, text_of, IsLines, lines_of}
use Rattle.yl_text.specs.Store.{end_of_lines}
use Rattle.yl_text.proofs.Computed.{lines_of-IsLines}
use Rattle.yl_text.proofs.Fitting.{length-chars}
use Rattle.yl_rules.specs.declared.options.RowOptions.{RowOptions}
use Rattle.yl_rules.specs.Rows.{row_findings}
use Rattle.yl_rules.specs.RunsLeft.{RunReaderValue, runs_left}
use Rattle.yl_config.specs.declared.config.Config.{Config}
use Rattle.yl_config.specs.Config.{options_of}
use Rattle.yl_sections.specs.Kept.{KeptValue}
use Rattle.yl_lint.specs.TextReport.{findings_from, findings_in_lines, first_text, report_of_kept}
use Rattle.yl_lint.specs.Computed.{kept_of_text, report}

-- a line more is passed by a reader
pub line_passed : (o : RowOptions) (old new : RunReaderValue) (found found' runs runs' : List FindingValue) (row : RowValue) (rows : List RowValue)
    → found' ≡ found ++ row_findings o (old.count + 1) row → new.count ≡ old.count + 1 → runs' ++ runs_left new rows ≡ runs ++ runs_left old (row ∷ rows)
    → (found' ++ findings_from o (new.count + 1) rows) ++ (runs' ++ runs_left new rows) ≡ (found ++ findings_from o (old.count + 1) (row ∷ rows)) ++ (runs ++ runs_left old (row ∷ rows))
line_passed o old new found found' runs runs' row rows more count told =
    let rest = findings_from o (old.count + 1 + 1) rows in
    ap (λ (fs : List FindingValue). (found' ++ findings_from o (new.count + 1) rows) ++ fs) told
    ∙ (ap (λ (n : ℕ). (found' ++ findings_from o (n + 1) rows) ++ (runs ++ runs_left old (row ∷ rows))) count
    ∙ (ap (λ (fs : List FindingValue). (fs ++ rest) ++ (runs ++ runs_left old (row ∷ rows))) more
    ∙ ap (λ (fs : List FindingValue). fs ++ (runs ++ runs_left old (row ∷ rows))) (append_assoc found (row_findings o (old.count + 1) row) rest)))

-- where lines end, of which so many were passed, the last with this text
abbrev pub end_left : ℕ → List ℕ → List RowValue → Pos
end_left count last [] = record { line = count - 1; col = length (chars last) }
end_left count last (row ∷ rows) = end_left (count + 1) row.text rows

last_end : (count : ℕ) (row : RowValue) (rows : List RowValue)
    → end_left (count + 1) row.text rows ≡ record { line = count + length rows; col = option_map_or (λ (row : RowValue). length (chars row.text)) (slice_get (row ∷ rows) (length rows)) 0 }
last_end count row [] =
    let places : count + 1 - 1 ≡ count + 0 = omega arith in
    ap (λ (n : ℕ). record { line = n; col = length (chars row.text) }) places
last_end count row (next ∷ rows) =
    let places : count + 1 + length rows ≡ count + length (next ∷ rows) = omega arith in
    last_end (count + 1) next rows ∙ ap (λ (n : ℕ). record { line = n; col = option_map_or (λ (row : RowValue). length (chars row.text)) (slice_get (next ∷ rows) (length rows)) 0 }) places

pub whole_end : (row : RowValue) (rows : List RowValue) → end_left 0 [] (row ∷ rows) ≡ end_of_lines (row ∷ rows)
whole_end row rows =
    let places : 0 + length rows ≡ length (row ∷ rows) - 1 = omega arith in
    let before : length rows ≡ length (row ∷ rows) - 1 = omega arith in
    last_end 0 row rows
    ∙ (ap (λ (n : ℕ). record { line = n; col = option_map_or (λ (row : RowValue). length (chars row.text)) (slice_get (row ∷ rows) (length rows)) 0 }) places
    ∙ ap (λ (n : ℕ). record { line = length (row ∷ rows) - 1; col = option_map_or (λ (row : RowValue). length (chars row.text)) (slice_get (row ∷ rows) n) 0 }) before)

-- the first line of a text has no more bytes than the text
pub first_short : (t : List ℕ) (p : RowValue) (ps : List RowValue) → lines_of t ≡ p ∷ ps → length p.text ≤ length t
first_short t p ps first =
    let lines : IsLines t (p ∷ ps) = subst (λ (qs : List RowValue). IsLines t qs) first (lines_of-IsLines t) in
    let own : length (text_of (p ∷ ps)) ≡ (length p.text + length (break_bytes p.end)) + length (text_of ps) =
    length-append (p.text ++ break_bytes p.end) (text_of ps) ∙ ap (λ n. n + length (text_of ps)) (length-append p.text (break_bytes p.end)) in
    omega (arith, own, ap length lines.joined)

-- and no more characters
pub first_fits : (t : List ℕ) (p : RowValue) (ps : List RowValue) → lines_of t ≡ p ∷ ps → length (chars p.text) ≤ length t
first_fits t p ps first = omega (arith, length-chars p.text, first_short t p ps first)

-- where no line follows, both lists are put together
pub no_more : (runs : RunReaderValue) (found in_runs in_runs' all : List FindingValue) → all ≡ found ++ in_runs' → in_runs' ≡ in_runs ++ runs_left runs []
    → all ≡ (found ++ []) ++ (in_runs ++ runs_left runs [])
no_more runs found in_runs in_runs' all put told =
    put ∙ (ap (λ (fs : List FindingValue). found ++ fs) told ∙ ap (λ (fs : List FindingValue). fs ++ (in_runs ++ runs_left runs [])) (sym (append-nil found)))

-- the report, from its parts
pub report_so : (config : Config) (rows : List RowValue) (found : List FindingValue) (first : List ℕ) (end : Pos) (kept : List KeptValue)
    → found ≡ findings_in_lines (options_of config) rows → first_text rows ≡ first → end ≡ end_of_lines rows → kept ≡ kept_of_text config rows
    → report_of_kept config found first end kept ≡ report config rows
unfolding report
report_so config rows found first end kept in_lines in_first at_end in_sections = rw (in_lines, sym in_first, at_end, in_sections) refl

-- an answer, by what is the same
pub if_same : {T E Y : Type 0} (r : Result T E) (items : T → Y) (x y : Y) → x ≡ y → IfOk r (λ v. items v ≡ x) → IfOk r (λ v. items v ≡ y)
if_same (Ok v) items x y same is = is ∙ same
if_same (Err e) items x y same is = tt

-- where lines end, once a line more is passed
pub end_more : (old new : RunReaderValue) (text : List ℕ) (row : RowValue) (rows : List RowValue) → new.count ≡ old.count + 1 → new.last ≡ text → row.text ≡ text
    → end_left new.count new.last rows ≡ end_left old.count old.last (row ∷ rows)
end_more old new text row rows count last is =
    ap (λ (n : ℕ). end_left n new.last rows) count ∙ ap (λ (t : List ℕ). end_left (old.count + 1) t rows) (last ∙ sym is)

pub start_end : (r : RunReaderValue) (row : RowValue) (rows : List RowValue) → r.count ≡ 0 → r.last ≡ [] → end_left r.count r.last (row ∷ rows) ≡ end_of_lines (row ∷ rows)
start_end r row rows count last =
    ap (λ (n : ℕ). end_left n r.last (row ∷ rows)) count ∙ (ap (λ (t : List ℕ). end_left 0 t (row ∷ rows)) last ∙ whole_end row rows)

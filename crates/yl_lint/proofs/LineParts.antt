-- What the rules on lines find in lines that stand one after another: where no run of empty lines can go on from the first to the second, each part by itself.
use Rattle.std.proofs.Common.{◌≡◌, ℕ, suc, ◌+◌, ◌-◌, ◌<◌, ◌≤◌, ◌==◌, Bool, true, false, List, [], ◌∷◌, ◌++◌, length, map, Option, Some, None, refl, ap, sym, ◌∙◌, arith, append_assoc, if◌then◌else◌, cond, get_or, length-append, append-nil}
use Rattle.std.specs.Prelude.{◌&&◌, ◌||◌, not}
use Rattle.std.specs.List.{AllByRecursion, slice_get, prefix_len}
use Rattle.std.specs.Str.{chars}
use Rattle.std.proofs.lemmas.List.{map-append, places}
use Rattle.std.proofs.lemmas.Bool.{eq-eqb, ne_eqb}
use Rattle.std.proofs.lemmas.Option.{slice_get-get_or}
use Rattle.yl_text.specs.Character.{starts_by}
use Rattle.yl_text.specs.Finding.{FindingValue, one_finding, at_each}
use Rattle.yl_text.specs.Lines.{RowValue}
use Rattle.yl_text.specs.declared.finding.RuleId.{RuleId}
use Rattle.yl_text.specs.declared.row.Break.TheVariants.{No}
use Rattle.yl_rules.specs.declared.empty_lines.EmptyLinesOptions.{EmptyLinesOptions}
use Rattle.yl_rules.specs.declared.new_lines.NewLine.{NewLine}
use Rattle.yl_rules.specs.declared.options.RowOptions.{RowOptions}
use Rattle.yl_rules.specs.EmptyLines.{is_break_only, is_text_end, too_many_blank_lines, empty_lines_at, at_end_of_run, empty_lines, run_findings_of}
use Rattle.yl_rules.specs.EndOfFile.{end_of_file_at, end_of_file}
use Rattle.yl_rules.specs.NewLines.{new_lines}
use Rattle.yl_rules.specs.Rows.{row_findings}
use Rattle.yl_rules.specs.TrailingSpaces.{trailing_spaces}
use Rattle.yl_rules.specs.LineLength.{line_length}
use Rattle.yl_sections.specs.Kept.{items_if}
use Rattle.yl_lint.specs.TextReport.{moved, findings_from}

-- in lines behind one, up to another
abbrev pub Between : ℕ → ℕ → List FindingValue → Type 0
Between low high fs = AllByRecursion (λ f. (low < f.line) × (f.line ≤ high)) fs

pub between_both : (low high : ℕ) (xs ys : List FindingValue) → Between low high xs → Between low high ys → Between low high (xs ++ ys)
between_both low high [] ys h k = k
between_both low high (x ∷ xs) ys h k = (h.0, between_both low high xs ys h.1 k)

unless_between : (low high line column : ℕ) (r : RuleId) (m : List ℕ) (b : Bool) → low < line → line ≤ high → Between low high (if b then [] else one_finding r line column m)
unless_between low high line column r m true l h = tt
unless_between low high line column r m false l h = ((l, h), tt)

unless_moved : (n line column : ℕ) (r : RuleId) (m : List ℕ) (b : Bool) → (if b then [] else one_finding r (n + line) column m) ≡ map (moved n) (if b then [] else one_finding r line column m)
unless_moved n line column r m true = refl
unless_moved n line column r m false = refl

-- ---- the rules that look at one line

row_between : (o : RowOptions) (low high line : ℕ) (row : RowValue) → low < line → line ≤ high → Between low high (row_findings o line row)
row_between o low high line row l h =
    between_both low high (trailing_spaces line (chars row.text)) (line_length o line (chars row.text)) (unless_between low high line _ _ _ _ l h) (unless_between low high line _ _ _ _ l h)

pub rows_between : (o : RowOptions) (low high line : ℕ) (rows : List RowValue) → low < line → line + length rows ≤ high + 1 → Between low high (findings_from o line rows)
rows_between o low high line [] l h = tt
rows_between o low high line (row ∷ rows) l h =
    between_both low high (row_findings o line row) (findings_from o (line + 1) rows) (row_between o low high line row l (omega (arith, h))) (rows_between o low high (line + 1) rows (omega (arith, l)) (omega (arith, h)))

row_moved : (o : RowOptions) (n line : ℕ) (row : RowValue) → row_findings o (n + line) row ≡ map (moved n) (row_findings o line row)
row_moved o n line row =
    let cs = chars row.text in
    ap (λ (fs : List FindingValue). fs ++ line_length o (n + line) cs) (unless_moved n line _ _ _ _)
    ∙ (ap (λ (fs : List FindingValue). map (moved n) (trailing_spaces line cs) ++ fs) (unless_moved n line _ _ _ _) ∙ sym (map-append (moved n) (trailing_spaces line cs) (line_length o line cs)))

rows_moved : (o : RowOptions) (n line there : ℕ) (rows : List RowValue) → there ≡ n + line → findings_from o there rows ≡ map (moved n) (findings_from o line rows)
rows_moved o n line there [] e = refl
rows_moved o n line there (row ∷ rows) e =
    ap (λ (fs : List FindingValue). row_findings o there row ++ fs) (rows_moved o n (line + 1) (there + 1) rows (omega (arith, e)))
    ∙ (ap (λ k. row_findings o k row ++ map (moved n) (findings_from o (line + 1) rows)) e
    ∙ (ap (λ (fs : List FindingValue). fs ++ map (moved n) (findings_from o (line + 1) rows)) (row_moved o n line row) ∙ sym (map-append (moved n) (row_findings o line row) (findings_from o (line + 1) rows))))

rows_both : (o : RowOptions) (line there : ℕ) (xs ys : List RowValue) → there ≡ line + length xs → findings_from o line (xs ++ ys) ≡ findings_from o line xs ++ findings_from o there ys
rows_both o line there [] ys e = ap (λ k. findings_from o k ys) (omega (arith, e))
rows_both o line there (x ∷ xs) ys e =
    ap (λ (fs : List FindingValue). row_findings o line x ++ fs) (rows_both o (line + 1) there xs ys (omega (arith, e)))
    ∙ sym (append_assoc (row_findings o line x) (findings_from o (line + 1) xs) (findings_from o there ys))

pub rows_apart : (o : RowOptions) (xs ys : List RowValue) → findings_from o 1 (xs ++ ys) ≡ findings_from o 1 xs ++ map (moved (length xs)) (findings_from o 1 ys)
rows_apart o xs ys =
    rows_both o 1 (length xs + 1) xs ys (omega arith) ∙ ap (λ (fs : List FindingValue). findings_from o 1 xs ++ fs) (rows_moved o (length xs) 1 (length xs + 1) ys refl)

-- ---- runs of empty lines

-- the lines passed, before these
abbrev onto : List RowValue → List RowValue → List RowValue
onto [] before = before
onto (x ∷ xs) before = onto xs (x ∷ before)

length_onto : (xs before : List RowValue) → length (onto xs before) ≡ length xs + length before
length_onto [] before = omega arith
length_onto (x ∷ xs) before = omega (arith, length_onto xs (x ∷ before))

before_some : (o : EmptyLinesOptions) (before xs ys : List RowValue) (row y : RowValue) → (length y.text == 0) ≡ false → empty_lines_at o before row (xs ++ y ∷ ys) ≡ empty_lines_at o before row xs
before_some o before [] ys row y h = rw h refl
before_some o before (x ∷ xs) ys row y h = refl

runs_front : (o : EmptyLinesOptions) (before xs ys : List RowValue) (y : RowValue) → (length y.text == 0) ≡ false
    → at_each (empty_lines_at o) before (xs ++ y ∷ ys) ≡ at_each (empty_lines_at o) before xs ++ at_each (empty_lines_at o) (onto xs before) (y ∷ ys)
runs_front o before [] ys y h = refl
runs_front o before (x ∷ xs) ys y h =
    ap (λ (fs : List FindingValue). fs ++ at_each (empty_lines_at o) (x ∷ before) (xs ++ y ∷ ys)) (before_some o before xs ys x y h)
    ∙ (ap (λ (fs : List FindingValue). empty_lines_at o before x xs ++ fs) (runs_front o (x ∷ before) xs ys y h)
    ∙ sym (append_assoc (empty_lines_at o before x xs) (at_each (empty_lines_at o) (x ∷ before) xs) (at_each (empty_lines_at o) (onto xs (x ∷ before)) (y ∷ ys))))

abbrev run_of : List RowValue → ℕ
run_of rows = prefix_len is_break_only rows

stops_by : (b : Bool) (m n l : ℕ) → (n < l → m ≡ n) → cond b (1 + n) 0 < suc l → cond b (1 + m) 0 ≡ cond b (1 + n) 0
stops_by true m n l h k = omega (arith, h (omega (arith, k)))
stops_by false m n l h k = refl

stops : (zs ws : List RowValue) → run_of zs < length zs → run_of (zs ++ ws) ≡ run_of zs
stops [] ws h = absurd (omega (arith, h))
stops (z ∷ zs) ws h = stops_by (is_break_only z) (run_of (zs ++ ws)) (run_of zs) (length zs) (λ l. stops zs ws l) h

shorter_by : (b : Bool) (n l : ℕ) → n < l → cond b (1 + n) 0 < suc l
shorter_by true n l h = omega (arith, h)
shorter_by false n l h = omega arith

judged_moved : (o : EmptyLinesOptions) (n run line : ℕ) (at_end : Bool) → run < line → 1 < line → run_findings_of o run (n + line) at_end ≡ map (moved n) (run_findings_of o run line at_end)
judged_moved o n run line at_end l m =
    rw (ne_eqb (n + line) 1 (λ e. omega (arith, e, m)), ne_eqb run (n + line) (λ e. omega (arith, e, l)), ne_eqb line 1 (λ e. omega (arith, e, m)), ne_eqb run line (λ e. omega (arith, e, l)))
    (unless_moved n line _ _ _ _)

ended_moved : (o : EmptyLinesOptions) (n run line : ℕ) (on at_end : Bool) → run < line → 1 < line
    → (if on then [] else run_findings_of o run (n + line) at_end) ≡ map (moved n) (if on then [] else run_findings_of o run line at_end)
ended_moved o n run line true at_end l m = refl
ended_moved o n run line false at_end l m = judged_moved o n run line at_end l m

step_moved : (o : EmptyLinesOptions) (base zs after : List RowValue) (row : RowValue) → run_of zs < length zs → empty_lines_at o (zs ++ base) row after ≡ map (moved (length base)) (empty_lines_at o zs row after)
step_moved o base zs after row h =
    let shorter : run_of (row ∷ zs) < suc (length zs) = shorter_by (is_break_only row) (run_of zs) (length zs) h in
    let line : length (zs ++ base) + 1 ≡ length base + (length zs + 1) = omega (arith, length-append zs base) in
    ap (λ k. at_end_of_run o k (length (zs ++ base) + 1) after) (stops (row ∷ zs) base shorter)
    ∙ (ap (λ k. at_end_of_run o (run_of (row ∷ zs)) k after) line
    ∙ ended_moved o (length base) (run_of (row ∷ zs)) (length zs + 1) (run_of (row ∷ zs) == 0 || starts_by is_break_only after) (is_text_end after) (omega (arith, shorter)) (omega (arith, h)))

runs_moved : (o : EmptyLinesOptions) (base zs rows : List RowValue) → run_of zs < length zs → at_each (empty_lines_at o) (zs ++ base) rows ≡ map (moved (length base)) (at_each (empty_lines_at o) zs rows)
runs_moved o base zs [] h = refl
runs_moved o base zs (row ∷ rows) h =
    ap (λ (fs : List FindingValue). fs ++ at_each (empty_lines_at o) (row ∷ (zs ++ base)) rows) (step_moved o base zs rows row h)
    ∙ (ap (λ (fs : List FindingValue). map (moved (length base)) (empty_lines_at o zs row rows) ++ fs) (runs_moved o base (row ∷ zs) rows (shorter_by (is_break_only row) (run_of zs) (length zs) h))
    ∙ sym (map-append (moved (length base)) (empty_lines_at o zs row rows) (at_each (empty_lines_at o) (row ∷ zs) rows)))

first_none : (o : EmptyLinesOptions) (before ys : List RowValue) (y : RowValue) → (length y.text == 0) ≡ false → empty_lines_at o before y ys ≡ []
first_none o before ys y h = rw h refl

no_run : (y : RowValue) → (length y.text == 0) ≡ false → run_of (y ∷ []) < 1
no_run y h = rw h (omega arith)

runs_back : (o : EmptyLinesOptions) (base ys : List RowValue) (y : RowValue) → (length y.text == 0) ≡ false → at_each (empty_lines_at o) base (y ∷ ys) ≡ map (moved (length base)) (empty_lines o (y ∷ ys))
runs_back o base ys y h =
    ap (λ (fs : List FindingValue). fs ++ at_each (empty_lines_at o) (y ∷ base) ys) (first_none o base ys y h)
    ∙ (runs_moved o base (y ∷ []) ys (no_run y h)
    ∙ ap (λ (fs : List FindingValue). map (moved (length base)) (fs ++ at_each (empty_lines_at o) (y ∷ []) ys)) (sym (first_none o [] ys y h)))

empty_lines_apart : (o : EmptyLinesOptions) (xs ys : List RowValue) (y : RowValue) → (length y.text == 0) ≡ false
    → empty_lines o (xs ++ y ∷ ys) ≡ empty_lines o xs ++ map (moved (length xs)) (empty_lines o (y ∷ ys))
empty_lines_apart o xs ys y h =
    runs_front o [] xs ys y h
    ∙ ap (λ (fs : List FindingValue). empty_lines o xs ++ fs) (runs_back o (onto xs []) ys y h ∙ ap (λ k. map (moved k) (empty_lines o (y ∷ ys))) (omega (arith, length_onto xs [])))

run_between : (o : EmptyLinesOptions) (low high run line : ℕ) (on at_end : Bool) → low < line → line ≤ high → Between low high (if on then [] else run_findings_of o run line at_end)
run_between o low high run line true at_end l h = tt
run_between o low high run line false at_end l h = judged (line == 1 && at_end)
  where
    judged : (b : Bool) → Between low high (if b then [] else too_many_blank_lines run (if at_end then o.max_end else if run == line then o.max_start else o.max) line)
    judged true = tt
    judged false = unless_between low high line _ _ _ _ l h

pub empty_lines_between : (o : EmptyLinesOptions) (low high : ℕ) (before rows : List RowValue) → low ≤ length before → length before + length rows ≤ high → Between low high (at_each (empty_lines_at o) before rows)
empty_lines_between o low high before [] l h = tt
empty_lines_between o low high before (row ∷ rows) l h =
    between_both low high (empty_lines_at o before row rows) (at_each (empty_lines_at o) (row ∷ before) rows)
    (run_between o low high (run_of (row ∷ before)) (length before + 1) (run_of (row ∷ before) == 0 || starts_by is_break_only rows) (is_text_end rows) (omega (arith, l)) (omega (arith, h)))
    (empty_lines_between o low high (row ∷ before) rows (omega (arith, l)) (omega (arith, h)))

-- ---- the first line and the last one

when_between : (low high line column : ℕ) (r : RuleId) (m : List ℕ) (b : Bool) → low < line → line ≤ high → Between low high (if b then one_finding r line column m else [])
when_between low high line column r m true l h = ((l, h), tt)
when_between low high line column r m false l h = tt

pub new_lines_between : (wanted : NewLine) (rows : List RowValue) → Between 0 (length rows) (new_lines wanted rows)
new_lines_between wanted [] = tt
new_lines_between wanted (row ∷ rows) = when_between 0 (length (row ∷ rows)) 1 _ _ _ _ (omega arith) (omega arith)

at_end_between : (low high line : ℕ) (o : Option RowValue) → low < line → line ≤ high → Between low high (end_of_file_at line o)
at_end_between low high line None l h = tt
at_end_between low high line (Some row) l h = unless_between low high line _ _ _ _ l h

pub end_of_file_between : (rows : List RowValue) → Between 0 (length rows) (end_of_file rows)
end_of_file_between [] = tt
end_of_file_between (row ∷ rows) = at_end_between 0 (length (row ∷ rows)) (length (row ∷ rows)) (slice_get (row ∷ rows) (length (row ∷ rows) - 1)) (omega arith) (omega arith)

end_moved : (n line : ℕ) (o : Option RowValue) → end_of_file_at (n + line) o ≡ map (moved n) (end_of_file_at line o)
end_moved n line None = refl
end_moved n line (Some row) = unless_moved n line _ _ _ _

abbrev no_row : RowValue
no_row = record { text = []; end = No }

last_get : (xs ys : List RowValue) (y : RowValue) → get_or (xs ++ y ∷ ys) (length (xs ++ y ∷ ys) - 1) no_row ≡ get_or (y ∷ ys) (length (y ∷ ys) - 1) no_row
last_get xs ys y = grind (arith, places)

last_row : (xs ys : List RowValue) (y : RowValue) → slice_get (xs ++ y ∷ ys) (length (xs ++ y ∷ ys) - 1) ≡ slice_get (y ∷ ys) (length (y ∷ ys) - 1)
last_row xs ys y =
    slice_get-get_or (xs ++ y ∷ ys) (length (xs ++ y ∷ ys) - 1) no_row (omega (arith, length-append xs (y ∷ ys)))
    ∙ (ap Some (last_get xs ys y) ∙ sym (slice_get-get_or (y ∷ ys) (length (y ∷ ys) - 1) no_row (omega arith)))

end_of_file_apart : (xs ys : List RowValue) (y : RowValue) → end_of_file (xs ++ y ∷ ys) ≡ map (moved (length xs)) (end_of_file (y ∷ ys))
end_of_file_apart xs ys y =
    ap (λ (o : Option RowValue). end_of_file_at (length (xs ++ y ∷ ys)) o) (last_row xs ys y)
    ∙ (ap (λ k. end_of_file_at k (slice_get (y ∷ ys) (length (y ∷ ys) - 1))) (length-append xs (y ∷ ys)) ∙ end_moved (length xs) (length (y ∷ ys)) (slice_get (y ∷ ys) (length (y ∷ ys) - 1)))

-- ---- either part, which may have no line

-- whether it is so where there is no line
abbrev pub if_none : List RowValue → Bool → Bool
if_none [] b = b
if_none (row ∷ rows) b = false

-- no run of empty lines goes on from the first lines to the second
abbrev pub is_seam : List RowValue → List RowValue → Bool
is_seam [] ys = true
is_seam (x ∷ xs) [] = true
is_seam (x ∷ xs) (y ∷ ys) = not (length y.text == 0)

not_empty : (b : Bool) → not b ≡ true → b ≡ false
not_empty true h = sym h
not_empty false h = refl

same_finding : (f : FindingValue) → f ≡ moved 0 f
same_finding f =
    let line : f.line ≡ 0 + f.line = omega arith in
    λ i. record { line = line i; column = f.column; rule = f.rule; message = f.message }

not_moved : (fs : List FindingValue) → fs ≡ map (moved 0) fs
not_moved [] = refl
not_moved (f ∷ fs) = ap (λ (g : FindingValue). g ∷ fs) (same_finding f) ∙ ap (λ (gs : List FindingValue). moved 0 f ∷ gs) (not_moved fs)

nothing_if : (b : Bool) → items_if {X = FindingValue} b [] ≡ []
nothing_if true = refl
nothing_if false = refl

if_moved : (n : ℕ) (b : Bool) (fs gs : List FindingValue) → gs ≡ map (moved n) fs → items_if b gs ≡ map (moved n) (items_if b fs)
if_moved n true fs gs h = h
if_moved n false fs gs h = refl

pub first_apart : (wanted : NewLine) (b : Bool) (xs ys : List RowValue)
    → items_if b (new_lines wanted (xs ++ ys)) ≡ items_if b (new_lines wanted xs) ++ map (moved (length xs)) (items_if (if_none xs b) (new_lines wanted ys))
first_apart wanted b [] ys = if_moved 0 b (new_lines wanted ys) (new_lines wanted ys) (not_moved (new_lines wanted ys)) ∙ ap (λ (fs : List FindingValue). fs ++ map (moved 0) (items_if b (new_lines wanted ys))) (sym (nothing_if b))
first_apart wanted b (x ∷ xs) ys = sym (append-nil (items_if b (new_lines wanted (x ∷ xs))))

pub last_apart : (b : Bool) (xs ys : List RowValue) → items_if b (end_of_file (xs ++ ys)) ≡ items_if (if_none ys b) (end_of_file xs) ++ map (moved (length xs)) (items_if b (end_of_file ys))
last_apart b xs [] =
    ap (λ (rows : List RowValue). items_if b (end_of_file rows)) (append-nil xs)
    ∙ (sym (append-nil (items_if b (end_of_file xs))) ∙ ap (λ (fs : List FindingValue). items_if b (end_of_file xs) ++ map (moved (length xs)) fs) (sym (nothing_if b)))
last_apart b xs (y ∷ ys) = if_moved (length xs) b (end_of_file (y ∷ ys)) (end_of_file (xs ++ y ∷ ys)) (end_of_file_apart xs ys y)

pub runs_apart : (o : EmptyLinesOptions) (xs ys : List RowValue) → is_seam xs ys ≡ true → empty_lines o (xs ++ ys) ≡ empty_lines o xs ++ map (moved (length xs)) (empty_lines o ys)
runs_apart o [] ys h = not_moved (empty_lines o ys)
runs_apart o (x ∷ xs) [] h = ap (empty_lines o) (append-nil (x ∷ xs)) ∙ sym (append-nil (empty_lines o (x ∷ xs)))
runs_apart o (x ∷ xs) (y ∷ ys) h = empty_lines_apart o (x ∷ xs) ys y (not_empty (length y.text == 0) h)

-- where there are lines, only the next line counts
pub seam_more : (xs ys zs : List RowValue) (y : RowValue) → is_seam xs (y ∷ ys) ≡ true → is_seam xs (y ∷ zs) ≡ true
seam_more [] ys zs y h = refl
seam_more (x ∷ xs) ys zs y h = h

pub seam_behind : (xs ps zs : List RowValue) (x p : RowValue) → is_seam (x ∷ xs) zs ≡ true → is_seam (p ∷ ps) zs ≡ true
seam_behind xs ps [] x p h = refl
seam_behind xs ps (z ∷ zs) x p h = h

-- whether there is no line, by two numbers
pub none_by : (rows : List RowValue) (n m : ℕ) → (length rows ≡ 0 → n ≡ m) → (n ≡ m → length rows ≡ 0) → (n == m) ≡ if_none rows true
none_by [] n m h g = eq-eqb n m (h refl)
none_by (row ∷ rows) n m h g = ne_eqb n m (λ e. omega (arith, g e))

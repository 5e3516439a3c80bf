-- Lines alike leave what the rules on lines find in a text as it is.
use Rattle.std.proofs.Common.{◌≡◌, ℕ, ◌+◌, ◌-◌, ◌<◌, ◌≤◌, ◌==◌, ◌⊎◌, ◌||◌, Bool, List, [], ◌∷◌, ◌++◌, length, map, take, drop, Option, Some, refl, ap, sym, subst, ◌∙◌, arith, rules, inl, inr, if◌then◌else◌, get_or}
use Rattle.std.specs.List.{splice, slice_get, prefix_len}
use Rattle.std.proofs.lemmas.List.{same_lists, places, map-append, length-map, take-append-drop, length-take}
use Rattle.std.proofs.lemmas.Bool.{ne_eqb, eqb-true}
use Rattle.std.proofs.lemmas.Option.{slice_get-get_or, slice_get_read}
use Rattle.yl_text.specs.Character.{starts_by}
use Rattle.std.specs.Option.{option_map_or}
use Rattle.std.specs.Str.{chars}
use Rattle.yl_text.specs.Finding.{FindingValue, at_each}
use Rattle.yl_text.specs.Lines.{RowValue}
use Rattle.yl_text.specs.Store.{end_of_lines}
use Rattle.yl_text.specs.declared.position.Pos.{Pos}
use Rattle.yl_text.specs.declared.row.Break.{Break}
use Rattle.yl_text.specs.declared.row.Break.TheVariants.{No}
use Rattle.yl_rules.specs.declared.empty_lines.EmptyLinesOptions.{EmptyLinesOptions}
use Rattle.yl_rules.specs.declared.options.RowOptions.{RowOptions}
use Rattle.yl_rules.specs.declared.options.RunOptions.{RunOptions}
use Rattle.yl_rules.specs.EmptyLines.{is_break_only, is_text_end, empty_lines_at, empty_lines, run_findings_of}
use Rattle.yl_rules.specs.EndOfFile.{end_of_file_at, end_of_file}
use Rattle.yl_rules.specs.declared.new_lines.NewLine.{NewLine}
use Rattle.yl_rules.specs.NewLines.{new_lines}
use Rattle.yl_rules.specs.Rows.{row_findings}
use Rattle.yl_rules.specs.Runs.{run_findings}
use Rattle.yl_config.specs.declared.config.Config.{Config}
use Rattle.yl_config.specs.Config.{options_of}
use Rattle.yl_lint.specs.TextReport.{findings_from, findings_in_lines}
use Rattle.yl_lint.proofs.Rows.{rows_at}
use Rattle.yl_edited_lines.specs.Alike.{IsAlike, AreAlike, AreReadAlike}

-- ---- what the rule on empty lines looks at

abbrev shape_text : List ℕ → List ℕ
shape_text [] = []
shape_text (c ∷ cs) = 0 ∷ []

abbrev with_parts : List ℕ → Break → RowValue
with_parts text end = record { text = text; end = end }

abbrev place : ℕ → ℕ → Pos
place line col = record { line = line; col = col }

abbrev shape : RowValue → RowValue
shape row = record { text = shape_text row.text; end = row.end }

empty_shape : (t : List ℕ) → (length (shape_text t) == 0) ≡ (length t == 0)
empty_shape [] = refl
empty_shape (c ∷ cs) = ne_eqb 1 0 (λ e. omega (arith, e)) ∙ sym (ne_eqb (length (c ∷ cs)) 0 (λ e. omega (arith, e)))

none_of : (n : ℕ) → 0 < n → (0 == 0) ≡ (n == 0) → ⊥
none_of n l h = let e : n ≡ 0 = eqb-true n 0 (sym h) in omega (arith, e, l)

same_shape : (s t : List ℕ) → (length s == 0) ≡ (length t == 0) → shape_text s ≡ shape_text t
same_shape [] [] h = refl
same_shape [] (c ∷ cs) h = absurd (none_of (length (c ∷ cs)) (omega arith) h)
same_shape (c ∷ cs) [] h = absurd (none_of (length (c ∷ cs)) (omega arith) (sym h))
same_shape (c ∷ cs) (d ∷ ds) h = refl

shape_alike : (o : RowOptions) (line : ℕ) (p q : RowValue) → IsAlike o line p q → shape q ≡ shape p
shape_alike o line p q h =
    ap (λ (t : List ℕ). with_parts t q.end) (sym (same_shape p.text q.text h.empty))
    ∙ ap (λ (e : Break). with_parts (shape_text p.text) e) (sym h.end)

break_shape : (row : RowValue) → is_break_only (shape row) ≡ is_break_only row
break_shape row = rw (empty_shape row.text) refl

goes_shape : (rows : List RowValue) → starts_by is_break_only (map shape rows) ≡ starts_by is_break_only rows
goes_shape [] = refl
goes_shape (row ∷ rows) = break_shape row

end_shape : (rows : List RowValue) → is_text_end (map shape rows) ≡ is_text_end rows
end_shape [] = refl
end_shape (row ∷ rows) = rw (empty_shape row.text) refl

prefix_shape : (rows : List RowValue) → prefix_len is_break_only (map shape rows) ≡ prefix_len is_break_only rows
prefix_shape [] = refl
prefix_shape (row ∷ rows) = rw (break_shape row, prefix_shape rows) refl

abbrev run_at : EmptyLinesOptions → ℕ → ℕ → Bool → Bool → List FindingValue
run_at o run line on end = if run == 0 || on then [] else run_findings_of o run line end

step_shape : (o : EmptyLinesOptions) (before : List RowValue) (row : RowValue) (after : List RowValue)
    → empty_lines_at o (map shape before) (shape row) (map shape after) ≡ empty_lines_at o before row after
step_shape o before row after =
    ap (λ n. run_at o n (length (map shape before) + 1) (starts_by is_break_only (map shape after)) (is_text_end (map shape after))) (prefix_shape (row ∷ before))
    ∙ (ap (λ n. run_at o (prefix_len is_break_only (row ∷ before)) (n + 1) (starts_by is_break_only (map shape after)) (is_text_end (map shape after))) (length-map before shape)
    ∙ (ap (λ b. run_at o (prefix_len is_break_only (row ∷ before)) (length before + 1) b (is_text_end (map shape after))) (goes_shape after)
    ∙ ap (λ b. run_at o (prefix_len is_break_only (row ∷ before)) (length before + 1) (starts_by is_break_only after) b) (end_shape after)))

each_shape : (o : EmptyLinesOptions) (before rows : List RowValue) → at_each (empty_lines_at o) (map shape before) (map shape rows) ≡ at_each (empty_lines_at o) before rows
each_shape o before [] = refl
each_shape o before (row ∷ rows) =
    ap (λ (fs : List FindingValue). fs ++ at_each (empty_lines_at o) (map shape (row ∷ before)) (map shape rows)) (step_shape o before row rows)
    ∙ ap (λ (fs : List FindingValue). empty_lines_at o before row rows ++ fs) (each_shape o (row ∷ before) rows)

empty_same : (o : EmptyLinesOptions) (ps qs : List RowValue) → map shape ps ≡ map shape qs → empty_lines o ps ≡ empty_lines o qs
empty_same o ps qs h = sym (each_shape o [] ps) ∙ (ap (λ (rs : List RowValue). at_each (empty_lines_at o) [] rs) h ∙ each_shape o [] qs)

-- ---- new lines and the old ones behind them

findings_alike : (o : RowOptions) (line : ℕ) (old new : List RowValue) → AreAlike o line old new
    → findings_from o line (new ++ drop (length new) old) ≡ findings_from o line old
findings_alike o line old [] h = refl
findings_alike o line [] (q ∷ qs) h = absurd h
findings_alike o line (p ∷ ps) (q ∷ qs) h =
    ap (λ (fs : List FindingValue). fs ++ findings_from o (line + 1) (qs ++ drop (length qs) ps)) (sym h.0.found)
    ∙ ap (λ (fs : List FindingValue). row_findings o line p ++ fs) (findings_alike o (line + 1) ps qs h.1)

shapes_alike : (o : RowOptions) (line : ℕ) (old new : List RowValue) → AreAlike o line old new
    → map shape (new ++ drop (length new) old) ≡ map shape old
shapes_alike o line old [] h = refl
shapes_alike o line [] (q ∷ qs) h = absurd h
shapes_alike o line (p ∷ ps) (q ∷ qs) h =
    ap (λ (r : RowValue). r ∷ map shape (qs ++ drop (length qs) ps)) (shape_alike o line p q h.0)
    ∙ ap (λ (rs : List RowValue). shape p ∷ rs) (shapes_alike o (line + 1) ps qs h.1)

findings_front : (o : RowOptions) (line n : ℕ) (xs ys zs : List RowValue) → n ≡ line + length xs → findings_from o n ys ≡ findings_from o n zs
    → findings_from o line (xs ++ ys) ≡ findings_from o line (xs ++ zs)
findings_front o line n [] ys zs e h =
    let here : n ≡ line = omega (arith, e) in
    ap (λ m. findings_from o m ys) (sym here) ∙ (h ∙ ap (λ m. findings_from o m zs) here)
findings_front o line n (x ∷ xs) ys zs e h =
    ap (λ (fs : List FindingValue). row_findings o line x ++ fs) (findings_front o (line + 1) n xs ys zs (omega (arith, e)) h)

-- ---- the whole text

length_same : {X : Type 0} (xs ns : List X) (a b : ℕ) → a ≤ b → b ≤ length xs → b ≡ a + length ns → length (splice xs a b ns) ≡ length xs
length_same xs ns a b o l e = search (rules, places)

abbrev no_row : RowValue
no_row = with_parts [] No

one_same : (xs ns : List RowValue) (a b i : ℕ) → b ≡ a + length ns → (i < a) ⊎ (b ≤ i) → i < length xs → b ≤ length xs → get_or (splice xs a b ns) i no_row ≡ get_or xs i no_row
one_same xs ns a b i e (inl h) l m = grind (arith, places)
one_same xs ns a b i e (inr h) l m = grind (arith, places)

row_same : (xs ns : List RowValue) (a b i : ℕ) → b ≡ a + length ns → (i < a) ⊎ (b ≤ i) → i < length xs → b ≤ length xs → slice_get (splice xs a b ns) i ≡ slice_get xs i
row_same xs ns a b i e o l m =
    let len : length (splice xs a b ns) ≡ length xs = length_same xs ns a b (omega (arith, e)) m e in
    slice_get-get_or (splice xs a b ns) i no_row (omega (arith, len, l)) ∙ (ap Some (one_same xs ns a b i e o l m) ∙ sym (slice_get-get_or xs i no_row l))

behind_is : (xs ns : List RowValue) (a b : ℕ) → b ≡ a + length ns → drop b xs ≡ drop (length ns) (drop a xs)
behind_is xs ns a b e = same_lists _ _ (search (rules, places)) (λ k d h. grind (arith, places))

-- what is the same of a text
record AreSame (config : Config) (old new : List RowValue) : Type 0 where
  found : findings_from (options_of config).row 1 new ≡ findings_from (options_of config).row 1 old
  shapes : map shape new ≡ map shape old
  first : slice_get new 0 ≡ slice_get old 0
  last : slice_get new (length new - 1) ≡ slice_get old (length old - 1)
  count : length new ≡ length old

are_same_texts : (config : Config) (rows new : List RowValue) (a b : ℕ) → 0 < a → b < length rows → b ≡ a + length new → AreAlike (options_of config).row (a + 1) (drop a rows) new → AreSame config rows (splice rows a b new)
are_same_texts config rows new a b z l e h =
    let o = (options_of config).row in
    let back : new ++ drop b rows ≡ new ++ drop (length new) (drop a rows) = ap (λ (rs : List RowValue). new ++ rs) (behind_is rows new a b e) in
    let whole : take a rows ++ drop a rows ≡ rows = take-append-drop a rows in
    let front : a + 1 ≡ 1 + length (take a rows) = omega (arith, length-take a rows, e, l) in
    let len : length (splice rows a b new) ≡ length rows = length_same rows new a b (omega (arith, e)) (omega (arith, l)) e in
    record {
      found =
          ap (λ (rs : List RowValue). findings_from o 1 (take a rows ++ rs)) back
          ∙ (findings_front o 1 (a + 1) (take a rows) (new ++ drop (length new) (drop a rows)) (drop a rows) front (findings_alike o (a + 1) (drop a rows) new h)
          ∙ ap (λ (rs : List RowValue). findings_from o 1 rs) whole);
      shapes =
          ap (λ (rs : List RowValue). map shape (take a rows ++ rs)) back
          ∙ (map-append shape (take a rows) (new ++ drop (length new) (drop a rows))
          ∙ (ap (λ (rs : List RowValue). map shape (take a rows) ++ rs) (shapes_alike o (a + 1) (drop a rows) new h)
          ∙ (sym (map-append shape (take a rows) (drop a rows)) ∙ ap (λ (rs : List RowValue). map shape rs) whole)));
      first = row_same rows new a b 0 e (inl z) (omega (arith, l)) (omega (arith, l));
      last =
          ap (λ n. slice_get (splice rows a b new) (n - 1)) len
          ∙ row_same rows new a b (length rows - 1) e (inr (omega (arith, l))) (omega (arith, l)) (omega (arith, l));
      count = len;
    }

-- the rule looks at the first line alone
same_first : (wanted : NewLine) (old new : List RowValue) → slice_get new 0 ≡ slice_get old 0 → new_lines wanted new ≡ new_lines wanted old
same_first wanted [] [] e = refl
same_first wanted (x ∷ xs) [] e = cc
same_first wanted [] (y ∷ ys) e = cc
same_first wanted (x ∷ xs) (y ∷ ys) e = let same : y ≡ x = cc in ap (λ (row : RowValue). new_lines wanted (row ∷ [])) same

runs_same : (config : Config) (o : RunOptions) (old new : List RowValue) → AreSame config old new → run_findings o new ≡ run_findings o old
runs_same config o old new s =
    ap (λ (fs : List FindingValue). fs ++ (empty_lines o.empty_lines new ++ end_of_file new)) (same_first o.new_line old new s.first)
    ∙ (ap (λ (fs : List FindingValue). new_lines o.new_line old ++ (fs ++ end_of_file new)) (empty_same o.empty_lines new old s.shapes)
    ∙ (ap (λ (r : Option RowValue). new_lines o.new_line old ++ (empty_lines o.empty_lines old ++ end_of_file_at (length new) r)) s.last
    ∙ ap (λ n. new_lines o.new_line old ++ (empty_lines o.empty_lines old ++ end_of_file_at n (slice_get old (length old - 1)))) s.count))

end_same : (config : Config) (old new : List RowValue) → AreSame config old new → end_of_lines new ≡ end_of_lines old
end_same config old new s =
    ap (λ n. place (n - 1) (option_map_or (λ (row : RowValue). length (chars row.text)) (slice_get new (length new - 1)) 0)) s.count
    ∙ ap (λ (r : Option RowValue). place (length old - 1) (option_map_or (λ (row : RowValue). length (chars row.text)) r 0)) s.last

lines_same : (config : Config) (old new : List RowValue) → AreSame config old new → findings_in_lines (options_of config) new ≡ findings_in_lines (options_of config) old
lines_same config old new s =
    let o = options_of config in
    ap (λ (fs : List FindingValue). fs ++ run_findings o.run new) s.found ∙ ap (λ (fs : List FindingValue). findings_from o.row 1 old ++ fs) (runs_same config o.run old new s)

-- an edit within a text
pub edit_reads_alike : (config : Config) (rows new : List RowValue) (a b : ℕ) → 0 < a → b < length rows → b ≡ a + length new → AreAlike (options_of config).row (a + 1) (drop a rows) new → AreReadAlike config rows (splice rows a b new)
edit_reads_alike config rows new a b z l e h =
    let same = are_same_texts config rows new a b z l e h in
    record { found = lines_same config rows (splice rows a b new) same; first = ap (λ (r : Option RowValue). option_map_or (λ (row : RowValue). row.text) r []) same.first; end = end_same config rows (splice rows a b new) same }

-- ---- lists compared

-- one more line
pub alike_more : (o : RowOptions) (line i j : ℕ) (old new : List RowValue) (p q : RowValue) → slice_get old j ≡ Some p → slice_get new i ≡ Some q → IsAlike o line p q
    → AreAlike o (line + 1) (drop (j + 1) old) (drop (i + 1) new) → AreAlike o line (drop j old) (drop i new)
alike_more o line i j old new p q at_old at_new here more = rw (rows_at old j p at_old, rows_at new i q at_new) (here, more)

pub alike_next : (o : RowOptions) (a i : ℕ) (old new : List RowValue) (p q : RowValue) → i < length new → slice_get old (a + i) ≡ Some p → q ≡ get_or new i q → IsAlike o (a + i + 1) p q
    → AreAlike o (a + (i + 1) + 1) (drop (a + (i + 1)) old) (drop (i + 1) new) → AreAlike o (a + i + 1) (drop (a + i) old) (drop i new)
alike_next o a i old new p q l at_old at_new here more =
    let next : a + (i + 1) ≡ a + i + 1 = omega arith in
    alike_more o (a + i + 1) i (a + i) old new p q at_old (slice_get_read new (length new) i q refl l at_new) here
    (subst (λ n. AreAlike o (n + 1) (drop n old) (drop (i + 1) new)) next more)

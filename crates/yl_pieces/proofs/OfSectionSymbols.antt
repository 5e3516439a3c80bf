-- The symbols of a document are those of its rows, and then the marks that close what is open after
-- them.
use Rattle.std.specs.Prelude.{◌≡◌, ◌+◌, refl, Bool, true, false, List, [], ◌∷◌, ◌++◌, length}
use Rattle.std.proofs.Common.{sym, ◌∙◌, ap, append_assoc, arith}
use Rattle.std.proofs.lemmas.List.{length-append}
use Rattle.yl_marks.specs.declared.symbol.Symbol.{Symbol}
use Rattle.yl_marks.specs.declared.symbol.Symbol.TheVariants.{One}
use Rattle.yl_marks.specs.declared.token.Token.{Token}
use Rattle.yl_marks.specs.Marks.{closings_of_all}
use Rattle.yl_marks.specs.ByLine.{MarkerValue, behind_line, by_line, marks_by_lines, marks_of_line}
use Rattle.yl_marks.specs.FactsByLine.{KeyMarkerValue, behind_keyed_line}
use Rattle.yl_marks.specs.MarksAlike.{after_rows, marks_of_rows}
use Rattle.yl_marks.proofs.Runs.{joined, joined_lines}
use Rattle.yl_events.specs.Derives.{lexeme_count}
use Rattle.yl_events.specs.SymbolParsing.{is_whole}
use Rattle.yl_events.proofs.Counts.{line_count, line_whole}

-- ---- to the document's end

pub closed_after : (k : KeyMarkerValue) (rows : List (List Token)) → marks_by_lines k.marks rows ≡ marks_of_rows k.marks rows ++ closings_of_all (after_rows k rows).marks.open_ones
closed_after k [] = refl
closed_after k (x ∷ rows) =
    let next = behind_keyed_line k x in
    ap (λ (ws : List Symbol). marks_of_line k.marks x ++ ws) (closed_after next rows)
    ∙ sym (append_assoc (marks_of_line k.marks x) (marks_of_rows next.marks rows) (closings_of_all (after_rows next rows).marks.open_ones))

-- ---- no mark comes after the last lexeme of rows

whole_both : (b : Bool) (ws vs : List Symbol) → is_whole b ws ≡ true → is_whole b (ws ++ vs) ≡ is_whole true vs
whole_both b [] vs h = ap (λ c. is_whole c vs) h
whole_both b (One kind i ∷ ws) vs h = whole_both true ws vs h
whole_both b (w ∷ ws) vs h = whole_both false ws vs h

pub rows_whole : (m : MarkerValue) (rows : List (List Token)) → is_whole true (marks_of_rows m rows) ≡ true
rows_whole m [] = refl
rows_whole m (x ∷ rows) =
    whole_both true (marks_of_line m x) (marks_of_rows (behind_line m x) rows) (line_whole m x) ∙ rows_whole (behind_line m x) rows

-- ---- how many lexemes rows have

count_both : (ws vs : List Symbol) → lexeme_count (ws ++ vs) ≡ lexeme_count ws + lexeme_count vs
count_both [] vs = omega arith
count_both (One kind i ∷ ws) vs = omega (arith, count_both ws vs)
count_both (w ∷ ws) vs = count_both ws vs

count_joined : (m : MarkerValue) (rows : List (List Token)) → lexeme_count (marks_of_rows m rows) ≡ length (joined rows)
count_joined m [] = refl
count_joined m (x ∷ rows) =
    omega (
      arith,
      count_both (marks_of_line m x) (marks_of_rows (behind_line m x) rows),
      line_count m x,
      count_joined (behind_line m x) rows,
      length-append x (joined rows),
    )

pub rows_count : (m : MarkerValue) (xs : List Token) → lexeme_count (marks_of_rows m (by_line xs)) ≡ length xs
rows_count m xs = count_joined m (by_line xs) ∙ ap (λ (ts : List Token). length ts) (joined_lines xs)

-- The documents of a text's sections are those of all its lexemes.
use Rattle.std.proofs.Common.{◌≡◌, ◌≤◌, ℕ, ◌+◌, Bool, true, false, List, [], ◌∷◌, ◌++◌, length, map, refl, ap, sym, subst, ◌∙◌, None, arith}
use Rattle.std.proofs.lemmas.List.{length-map}
use Rattle.std.specs.List.{AllByRecursion}
use Rattle.yl_text.specs.Character.{indentation}
use Rattle.yl_lexeme.specs.declared.lexeme.Kind.{Kind}
use Rattle.yl_lexeme.specs.Lexeme.{LexemeValue}
use Rattle.yl_lexeme.specs.Known.{no_surroundings}
use Rattle.yl_lexeme.specs.Directives.{directives_in_place}
use Rattle.yl_marks.specs.Keys.{lexeme_at_line}
use Rattle.yl_row.specs.Entries.{RowEntry, entries}
use Rattle.yl_row.specs.Directives.{kinds_of}
use Rattle.yl_row.proofs.Agree.{run-entries}
use Rattle.yl_row.proofs.Placed.{directives_stand_in_place}
use Rattle.yl_scan.specs.Output.{at_line, output_of_entries}
use Rattle.yl_events.specs.Documents.{is_document_start, is_document_end}
use Rattle.yl_events.specs.Cut.{is_beginning}
use Rattle.yl_events.proofs.ByTwo.{cuts_by_two}
use Rattle.yl_config.specs.TextReading.{lexeme_in_text, reading_of}
use Rattle.yl_config.specs.TextDocuments.{cut_at, documents_of}
use Rattle.yl_record.specs.Records.{RecordValue, records, records_with}
use Rattle.yl_sections.specs.Sections.{lexemes_from, sections}
use Rattle.yl_sections.specs.Documents.{moved_down, section_documents, with_document, SectionsAreDocuments}
use Rattle.yl_sections.proofs.Last.{run_count}
use Rattle.yl_sections.proofs.Inside.{IsInner, OfOne, HoldsOne, rows_hold_one}
use Rattle.yl_sections.proofs.Groups.{Groups, kinds, grouped_by_two, placed_documents, IsUnbroken, Unbroken, rows_grouped}

-- ---- lines

joined_map : {X Y : Type 0} (f : X → Y) (xs ys : List X) → map f (xs ++ ys) ≡ map f xs ++ map f ys
joined_map f [] ys = refl
joined_map f (x ∷ xs) ys = ap (λ zs. f x ∷ zs) (joined_map f xs ys)

moved_lexeme : (n line : ℕ) (x : LexemeValue) → moved_down n (lexeme_at_line line x) ≡ lexeme_at_line (n + line) x
moved_lexeme n line x =
    let same : n + (line + x.end.line) ≡ n + line + x.end.line = omega arith in
    ap (λ (l : ℕ). let y : LexemeValue = record { kind = x.kind; start = record { line = n + line; col = x.start.col }; end = record { line = l; col = x.end.col }; value = x.value } in y) same

moved_row : (n line : ℕ) (xs : List LexemeValue) → map (moved_down n) (map (lexeme_at_line line) xs) ≡ map (lexeme_at_line (n + line)) xs
moved_row n line [] = refl
moved_row n line (x ∷ xs) = rw (moved_lexeme n line x, moved_row n line xs) refl

joined : (xs ys zs ws : List LexemeValue) → xs ≡ ys → zs ≡ ws → xs ++ zs ≡ ys ++ ws
joined xs ys zs ws a b = rw (a, b)

moved_lexemes : (n line : ℕ) (rs : List RecordValue) → map (moved_down n) (lexemes_from line rs) ≡ lexemes_from (n + line) rs
moved_lexemes n line [] = refl
moved_lexemes n line (r ∷ rs) =
    let further : n + (line + 1) ≡ n + line + 1 = omega arith in
    joined_map (moved_down n) (map (lexeme_at_line line) r.entry.lexemes) (lexemes_from (line + 1) rs)
    ∙ joined _ _ _ _ (moved_row n line r.entry.lexemes) (moved_lexemes n (line + 1) rs ∙ ap (λ l. lexemes_from l rs) further)

moved_documents : (line : ℕ) (rss : List (List RecordValue)) → section_documents line rss ≡ placed_documents line rss
moved_documents line [] = refl
moved_documents line (rs ∷ rss) =
    let here : line + 0 ≡ line = omega arith in
    ap (λ (xs : List LexemeValue). with_document xs (section_documents (line + length rs) rss)) (moved_lexemes line 0 rs ∙ ap (λ l. lexemes_from l rs) here)
    ∙ ap (λ (xss : List (List LexemeValue)). with_document (lexemes_from line rs) xss) (moved_documents (line + length rs) rss)

-- ---- the lexemes of a text

in_text : (line : ℕ) (xs : List LexemeValue) → map lexeme_in_text (map (at_line line) xs) ≡ map (lexeme_at_line line) xs
in_text line [] = refl
in_text line (x ∷ xs) = ap (λ (ys : List LexemeValue). lexeme_at_line line x ∷ ys) (in_text line xs)

read_lexemes : (line : ℕ) (ns : List ℕ) (es : List RowEntry) → length es ≤ length ns → map lexeme_in_text (output_of_entries line es).lexemes ≡ lexemes_from line (records_with ns es)
read_lexemes line [] [] h = refl
read_lexemes line (n ∷ ns) [] h = refl
read_lexemes line [] (e ∷ es) h = absurd (omega (arith, h))
read_lexemes line (n ∷ ns) (e ∷ es) h =
    joined_map lexeme_in_text (map (at_line line) e.lexemes) (output_of_entries (line + 1) es).lexemes
    ∙ joined _ _ _ _ (in_text line e.lexemes) (read_lexemes (line + 1) ns es (omega (arith, h)))

row_kinds : (line : ℕ) (xs : List LexemeValue) → kinds (map (lexeme_at_line line) xs) ≡ kinds xs
row_kinds line [] = refl
row_kinds line (x ∷ xs) = ap (λ (ks : List Kind). x.kind ∷ ks) (row_kinds line xs)

joined_kinds : (js ks ls ms : List Kind) → js ≡ ks → ls ≡ ms → js ++ ls ≡ ks ++ ms
joined_kinds js ks ls ms a b = rw (a, b)

kinds_in_text : (line : ℕ) (ns : List ℕ) (es : List RowEntry) → length es ≤ length ns → kinds (lexemes_from line (records_with ns es)) ≡ kinds_of es
kinds_in_text line [] [] h = refl
kinds_in_text line (n ∷ ns) [] h = refl
kinds_in_text line [] (e ∷ es) h = absurd (omega (arith, h))
kinds_in_text line (n ∷ ns) (e ∷ es) h =
    joined_map (λ (x : LexemeValue). x.kind) (map (lexeme_at_line line) e.lexemes) (lexemes_from (line + 1) (records_with ns es))
    ∙ joined_kinds _ _ _ _ (row_kinds line e.lexemes) (kinds_in_text (line + 1) ns es (omega (arith, h)))

-- ---- rows

none_begins : (last k : Kind) → is_document_end last ≡ false → is_document_start k ≡ false → is_beginning last k ≡ false
none_begins last k e s = rw (e, s) refl

inner_unbroken : (last : Kind) (xs : List LexemeValue) → is_document_end last ≡ false → AllByRecursion (λ (x : LexemeValue). IsInner x.kind) xs → Unbroken last xs
inner_unbroken last [] e h = tt
inner_unbroken last (x ∷ xs) e h = (none_begins last x.kind e h.0.start, inner_unbroken x.kind xs h.0.end h.1)

one_unbroken : (xs : List LexemeValue) → OfOne xs → IsUnbroken xs
one_unbroken [] h = tt
one_unbroken (x ∷ xs) h = by_end (is_document_end x.kind) refl
  where
    by_end : (b : Bool) → is_document_end x.kind ≡ b → Unbroken x.kind xs
    by_end true e = subst (λ (ys : List LexemeValue). Unbroken x.kind ys) (sym (h.1 e)) tt
    by_end false e = inner_unbroken x.kind xs e h.0

rows_unbroken : (ns : List ℕ) (es : List RowEntry) → AllByRecursion HoldsOne es → AllByRecursion (λ (r : RecordValue). IsUnbroken r.entry.lexemes) (records_with ns es)
rows_unbroken [] es h = tt
rows_unbroken (n ∷ ns) [] h = tt
rows_unbroken (n ∷ ns) (e ∷ es) h = (one_unbroken e.lexemes h.0, rows_unbroken ns es h.1)

-- ---- the law

pub sections_are_documents : SectionsAreDocuments
sections_are_documents text =
    let rs = records text in
    let xs = lexemes_from 0 rs in
    let many : length (entries text) ≤ length (map indentation text) = omega (arith, sym (ap length (run-entries text)) ∙ run_count true 0 0 no_surroundings text, length-map text indentation) in
    let in_place : directives_in_place None (kinds xs) ≡ true = ap (directives_in_place None) (kinds_in_text 0 (map indentation text) (entries text) many) ∙ directives_stand_in_place text in
    let read : (reading_of text).lexemes ≡ xs = read_lexemes 0 (map indentation text) (entries text) many in
    moved_documents 0 (sections rs)
    ∙ (ap (λ (g : Groups). with_document g.here g.later) (sym (rows_grouped None 0 rs (rows_unbroken (map indentation text) (entries text) (rows_hold_one text))))
    ∙ (sym (grouped_by_two xs)
    ∙ (ap (λ (ps : List ℕ). cut_at ps xs) (cuts_by_two (kinds xs) in_place) ∙ ap documents_of (sym read))))

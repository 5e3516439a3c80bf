-- All that is kept of a section, but what the rules on keys and anchors find, is told of its rows.
use Rattle.std.specs.Prelude.{ℕ, ◌≡◌, ◌≤◌, ◌-◌, refl, List, [], ◌∷◌, ◌++◌, length, map, take, Option, Some, None, option_map, option_and_then, slice_get}
use Rattle.std.specs.Option.{option_map_or}
use Rattle.std.proofs.Common.{sym, ◌∙◌, ap, append-nil, arith}
use Rattle.std.proofs.Math.Seq.{take-length}
use Rattle.std.proofs.lemmas.Option.{slice_get_past}
use Rattle.yl_lexeme.specs.Lexeme.{LexemeValue}
use Rattle.yl_marks.specs.declared.facts.KeyFacts.{KeyFacts}
use Rattle.yl_marks.specs.declared.symbol.Symbol.{Symbol}
use Rattle.yl_marks.specs.Keys.{token_of}
use Rattle.yl_marks.specs.Marks.{closings_of_all, marked_lexemes}
use Rattle.yl_marks.specs.ByLine.{by_line, marker_at_start, marks_by_lines}
use Rattle.yl_marks.specs.FactsByLine.{facts_by_lines, key_marker_at_start}
use Rattle.yl_marks.proofs.FactsByLines.{told_by_lines}
use Rattle.yl_marks.proofs.Indices.{no_indices}
use Rattle.yl_events.specs.declared.fault.ParseFault.{ParseFault}
use Rattle.yl_events.specs.declared.fault.PlacedParseFault.{PlacedParseFault}
use Rattle.yl_indentation.specs.declared.fact.Fact.{Fact}
use Rattle.yl_indentation.specs.Context.{nothing_open}
use Rattle.yl_indentation.specs.Facts.{indent_facts}
use Rattle.yl_indentation.specs.SymbolFacts.{behind_symbols, facts_left}
use Rattle.yl_indentation.proofs.BySymbols.{go_on, none_counts}
use Rattle.yl_lexeme_rules.specs.declared.options.LexemeOptions.{LexemeOptions}
use Rattle.yl_lexeme_rules.specs.Lexemes.{findings_behind, lexeme_findings}
use Rattle.yl_lexeme_rules.specs.Version.{is_1_2_document}
use Rattle.yl_record.specs.Records.{RecordValue}
use Rattle.yl_sections.specs.Judge.{document_of}
use Rattle.yl_sections.specs.Judging.{spaces_of}
use Rattle.yl_sections.specs.Kept.{comment_lines, comments_from, counted_of, lexeme_options_of}
use Rattle.yl_sections.specs.Sections.{lexemes_of}
use Rattle.yl_sections.proofs.DocumentJudging.{facts_at_start}
use Rattle.yl_pieces.specs.Laws.{SectionIsTold, document_fault, fault_after}
use Rattle.yl_pieces.specs.State.{start_state}
use Rattle.yl_pieces.specs.Told.{ToldFault, fault_in, told_fault}
use Rattle.yl_pieces.proofs.OfSectionSymbols.{closed_after}
use Rattle.yl_pieces.proofs.OfSectionFault.{fault_among, fault_at_end, fault_is, fault_or, open_at_end, symbols_of}

-- ---- how many lexemes count

abbrev counted_in : List LexemeValue → ℕ
counted_in xs = option_map_or (λ f. f.place) (fault_among xs) (length xs)

-- a fault after all lexemes hides none of them
all_counted : (n : ℕ) (o : Option PlacedParseFault) (end : Option ParseFault) → option_map_or (λ f. f.place) (fault_or o (fault_after n end)) n ≡ option_map_or (λ f. f.place) o n
all_counted n (Some f) end = refl
all_counted n None (Some kind) = refl
all_counted n None None = refl

counted_same : (xs : List LexemeValue) → counted_of xs (document_of xs).fault ≡ counted_in xs
counted_same [] = refl
counted_same (x ∷ xs) =
    let ys = x ∷ xs in
    ap (counted_of ys) (fault_is ys (omega arith)) ∙ all_counted (length ys) (fault_among ys) (fault_at_end ys)

-- ---- what is found

found_same : (o : LexemeOptions) (xs : List LexemeValue) → lexeme_findings o (counted_of xs (document_of xs).fault) xs
    ≡ findings_behind (is_1_2_document xs) o None (take (counted_in xs) xs) (facts_by_lines key_marker_at_start (by_line (map token_of xs)))
found_same o xs =
    ap (λ n. lexeme_findings o n xs) (counted_same xs)
    ∙ ap (λ (ks : List KeyFacts). findings_behind (is_1_2_document xs) o None (take (counted_in xs) xs) ks) (sym (told_by_lines (map token_of xs)))

-- ---- the facts

-- what closes at the end has none
facts_at_rows : (xs : List LexemeValue) (ns : List ℕ) (n : ℕ) → facts_left nothing_open (map token_of xs) n ns (marks_by_lines marker_at_start (by_line (map token_of xs)))
    ≡ facts_left nothing_open (map token_of xs) n ns (symbols_of xs)
facts_at_rows xs ns n =
    let ts = map token_of xs in
    let ws = symbols_of xs in
    let ends = closings_of_all (open_at_end xs) in
    ap (λ (vs : List Symbol). facts_left nothing_open ts n ns vs) (closed_after key_marker_at_start (by_line ts))
    ∙ go_on ts ns nothing_open n ws ends
    ∙ ap (λ (gs : List Fact). facts_left nothing_open ts n ns ws ++ gs) (none_counts ts ns (behind_symbols ts ns nothing_open ws) n ends (no_indices (λ i. n ≤ i) (open_at_end xs)))
    ∙ append-nil (facts_left nothing_open ts n ns ws)

facts_same : (xs : List LexemeValue) (ns : List ℕ) → indent_facts (map token_of xs) (marked_lexemes xs) (counted_of xs (document_of xs).fault) ns
    ≡ facts_left nothing_open (map token_of xs) (counted_in xs) ns (symbols_of xs)
facts_same xs ns =
    ap (λ n. indent_facts (map token_of xs) (marked_lexemes xs) n ns) (counted_same xs)
    ∙ sym (facts_at_start xs ns nothing_open key_marker_at_start (counted_in xs) refl refl)
    ∙ facts_at_rows xs ns (counted_in xs)

-- ---- the rows whose comments are shown

abbrev rows_above : List RecordValue → Option ToldFault → List RecordValue
rows_above rs f = option_map_or (λ f. take (f.place.line - 0) rs) f rs

-- above the lexeme at which there is a fault
above_lexeme : (rs : List RecordValue) (kind : ParseFault) (x : Option LexemeValue)
    → take (option_map_or (λ x. x.start.line) x (length rs)) rs ≡ rows_above rs (option_map (λ x. record { place = x.start; kind = kind }) x)
above_lexeme rs kind None = take-length rs
above_lexeme rs kind (Some x) = let line : x.start.line ≡ x.start.line - 0 = omega arith in ap (λ n. take n rs) line

-- or all of them
above_fault : (rs : List RecordValue) (xs : List LexemeValue) (o : Option PlacedParseFault) (end : Option ParseFault)
    → take (comment_lines (length rs) xs (fault_or o (fault_after (length xs) end))) rs ≡ rows_above rs (option_and_then (told_fault xs) o)
above_fault rs xs (Some f) end = above_lexeme rs f.kind (slice_get xs f.place)
above_fault rs xs None (Some kind) =
    ap (λ (x : Option LexemeValue). take (option_map_or (λ x. x.start.line) x (length rs)) rs) (slice_get_past xs (length xs) (omega arith)) ∙ take-length rs
above_fault rs xs None None = take-length rs

rows_same : (rs : List RecordValue) (xs : List LexemeValue) → take (comment_lines (length rs) xs (document_of xs).fault) rs ≡ rows_above rs (option_and_then (told_fault xs) (fault_among xs))
rows_same rs [] = take-length rs
rows_same rs (x ∷ xs) =
    let ys = x ∷ xs in
    ap (λ (f : Option PlacedParseFault). take (comment_lines (length rs) ys f) rs) (fault_is ys (omega arith))
    ∙ above_fault rs ys (fault_among ys) (fault_at_end ys)

-- ---- the law

fault_in_words : (rs : List RecordValue) (o : Option PlacedParseFault) → fault_or o (document_fault rs None) ≡ document_fault rs o
fault_in_words rs (Some f) = refl
fault_in_words rs None = refl

pub told_of_section : SectionIsTold
told_of_section config rs =
    let xs = lexemes_of rs in
    record {
      fault = λ h. fault_is xs h ∙ fault_in_words rs (fault_in start_state 0 rs);
      found = found_same (lexeme_options_of config) xs;
      facts = facts_same xs (spaces_of rs);
      comments = ap (λ (shown : List RecordValue). comments_from None 0 shown) (rows_same rs xs);
    }

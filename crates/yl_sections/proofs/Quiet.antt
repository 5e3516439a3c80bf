-- What is kept of a section once rows in which nothing is read come behind it: the same, but for how many rows it has.
use Rattle.std.proofs.Common.{◌≡◌, ◌<◌, ◌++◌, ◌+◌, ℕ, zero, suc, List, [], ◌∷◌, map, length, take, take_all, refl, ap, sym, subst, ◌∙◌, Option, Some, None, arith, length-append}
use Rattle.std.specs.Prelude.{slice_get, slice_index}
use Rattle.std.specs.List.{AllByRecursion}
use Rattle.std.specs.Option.{option_map_or, option_map, option_or}
use Rattle.yl_text.specs.declared.finding.RuleId.TheVariants.{Indentation}
use Rattle.yl_lexeme.specs.Lexeme.{LexemeValue, CommentValue, PlacedCommentValue}
use Rattle.yl_marks.specs.declared.token.Token.{Token}
use Rattle.yl_marks.specs.declared.symbol.Marked.{Marked}
use Rattle.yl_marks.specs.declared.symbol.Marked.TheVariants.{Open, Close, Lexeme}
use Rattle.yl_marks.specs.Keys.{lexeme_at_line, token_of}
use Rattle.yl_marks.specs.Marks.{marked_lexemes}
use Rattle.yl_row.specs.declared.fault.PlacedScanFault.{PlacedScanFault}
use Rattle.yl_events.specs.declared.fault.PlacedParseFault.{PlacedParseFault}
use Rattle.yl_indentation.specs.declared.element.Element.{Element}
use Rattle.yl_indentation.specs.Elements.{element_of, lexeme_element}
use Rattle.yl_indentation.specs.Facts.{facts_after}
use Rattle.yl_config.specs.declared.config.Config.{Config}
use Rattle.yl_record.specs.Records.{RecordValue}
use Rattle.yl_scan.specs.Restart.{IsQuiet}
use Rattle.yl_sections.specs.declared.comments.LexemeEnd.{LexemeEnd}
use Rattle.yl_sections.specs.Sections.{lexemes_from, lexemes_of}
use Rattle.yl_sections.specs.Kept.{KeptValue, SectionFaultValue, scan_fault_from, section_fault, counted_of, comment_lines, last_lexeme_end, comment_at, comments_from, shown_comments, is_on, facts_of, kept_with, document_count, scan_fault_at, items_if}
use Rattle.yl_sections.specs.Judge.{document_of, kept_of_section}

-- nothing is read in a row
abbrev pub IsQuietRow : RecordValue → Type 0
IsQuietRow r = IsQuiet r.entry

-- ---- lexemes

quiet_lexemes : (line : ℕ) (qs : List RecordValue) → AllByRecursion IsQuietRow qs → lexemes_from line qs ≡ []
quiet_lexemes line [] h = refl
quiet_lexemes line (q ∷ qs) h =
    ap (λ (xs : List LexemeValue). map (lexeme_at_line line) xs ++ lexemes_from (line + 1) qs) h.0.lexemes ∙ quiet_lexemes (line + 1) qs h.1

lexemes_before : (line : ℕ) (xs qs : List RecordValue) → AllByRecursion IsQuietRow qs → lexemes_from line (xs ++ qs) ≡ lexemes_from line xs
lexemes_before line [] qs h = quiet_lexemes line qs h
lexemes_before line (x ∷ xs) qs h = ap (λ (ys : List LexemeValue). map (lexeme_at_line line) x.entry.lexemes ++ ys) (lexemes_before (line + 1) xs qs h)

pub same_lexemes : (xs qs : List RecordValue) → AllByRecursion IsQuietRow qs → lexemes_of (xs ++ qs) ≡ lexemes_of xs
same_lexemes xs qs h = lexemes_before 0 xs qs h

pub same_documents : (xs qs : List RecordValue) → AllByRecursion IsQuietRow qs → document_count (lexemes_of (xs ++ qs)) ≡ document_count (lexemes_of xs)
same_documents xs qs h = ap (λ (ys : List LexemeValue). document_count ys) (same_lexemes xs qs h)

-- ---- comments

quiet_comments : (last : Option LexemeEnd) (line l : ℕ) (qs : List RecordValue) → AllByRecursion IsQuietRow qs → comments_from last line (take l qs) ≡ []
quiet_comments last line zero qs h = refl
quiet_comments last line (suc l) [] h = refl
quiet_comments last line (suc l) (q ∷ qs) h =
    let end = last_lexeme_end last line q.entry.lexemes in
    ap (λ (c : Option CommentValue). comment_at line end c ++ comments_from end (line + 1) (take l qs)) h.0.comment ∙ quiet_comments end (line + 1) l qs h.1

comments_before : (last : Option LexemeEnd) (line l : ℕ) (xs qs : List RecordValue) → AllByRecursion IsQuietRow qs → comments_from last line (take l (xs ++ qs)) ≡ comments_from last line (take l xs)
comments_before last line zero xs qs h = refl
comments_before last line (suc l) [] qs h = quiet_comments last line (suc l) qs h
comments_before last line (suc l) (x ∷ xs) qs h =
    let end = last_lexeme_end last line x.entry.lexemes in
    ap (λ (cs : List PlacedCommentValue). comment_at line end x.entry.comment ++ cs) (comments_before end (line + 1) l xs qs h)

all_comments : (xs qs : List RecordValue) → AllByRecursion IsQuietRow qs → shown_comments (length (xs ++ qs)) (xs ++ qs) ≡ shown_comments (length xs) xs
all_comments xs qs h =
    let many : length (xs ++ qs) ≡ length xs + length qs = length-append xs qs in
    comments_before None 0 (length (xs ++ qs)) xs qs h
    ∙ ap (λ (rs : List RecordValue). comments_from None 0 rs) (take_all (length (xs ++ qs)) xs (omega (arith, many)) ∙ sym (take_all (length xs) xs (omega arith)))

lines_shown : (xs qs : List RecordValue) → AllByRecursion IsQuietRow qs → (o : Option LexemeValue) → shown_comments (option_map_or (λ (x : LexemeValue). x.start.line) o (length (xs ++ qs))) (xs ++ qs) ≡ shown_comments (option_map_or (λ (x : LexemeValue). x.start.line) o (length xs)) xs
lines_shown xs qs h None = all_comments xs qs h
lines_shown xs qs h (Some x) = comments_before None 0 x.start.line xs qs h

comments_shown : (xs qs : List RecordValue) (ls : List LexemeValue) → AllByRecursion IsQuietRow qs → (f : Option PlacedParseFault)
    → shown_comments (comment_lines (length (xs ++ qs)) ls f) (xs ++ qs) ≡ shown_comments (comment_lines (length xs) ls f) xs
comments_shown xs qs ls h None = all_comments xs qs h
comments_shown xs qs ls h (Some f) = lines_shown xs qs h (slice_get ls f.place)

-- ---- the scan fault

quiet_scan : (line : ℕ) (qs : List RecordValue) → AllByRecursion IsQuietRow qs → scan_fault_from line qs ≡ None
quiet_scan line [] h = refl
quiet_scan line (q ∷ qs) h = ap (λ (f : Option PlacedScanFault). option_or (option_map (scan_fault_at line) f) (scan_fault_from (line + 1) qs)) h.0.fault ∙ quiet_scan (line + 1) qs h.1

same_scan : (line : ℕ) (xs qs : List RecordValue) → AllByRecursion IsQuietRow qs → scan_fault_from line (xs ++ qs) ≡ scan_fault_from line xs
same_scan line [] qs h = quiet_scan line qs h
same_scan line (x ∷ xs) qs h = ap (λ (f : Option SectionFaultValue). option_or (option_map (scan_fault_at line) x.entry.fault) f) (same_scan (line + 1) xs qs h)

-- ---- indentation

abbrev IsAbove : ℕ → LexemeValue → Type 0
IsAbove m x = x.start.line < m

above_onto : (m : ℕ) (xs ys : List LexemeValue) → AllByRecursion (IsAbove m) xs → AllByRecursion (IsAbove m) ys → AllByRecursion (IsAbove m) (xs ++ ys)
above_onto m [] ys a b = b
above_onto m (x ∷ xs) ys a b = (a.0, above_onto m xs ys a.1 b)

above_line : (m line : ℕ) (xs : List LexemeValue) → line < m → AllByRecursion (IsAbove m) (map (lexeme_at_line line) xs)
above_line m line [] l = tt
above_line m line (x ∷ xs) l = (l, above_line m line xs l)

above_all : (line : ℕ) (rs : List RecordValue) → AllByRecursion (IsAbove (line + length rs)) (lexemes_from line rs)
above_all line [] = tt
above_all line (r ∷ rs) =
    let e : line + 1 + length rs ≡ line + suc (length rs) = omega arith in
    above_onto (line + suc (length rs)) (map (lexeme_at_line line) r.entry.lexemes) (lexemes_from (line + 1) rs) (above_line (line + suc (length rs)) line r.entry.lexemes (omega arith))
    (subst (λ m. AllByRecursion (IsAbove m) (lexemes_from (line + 1) rs)) e (above_all (line + 1) rs))

abbrev indentations : List RecordValue → List ℕ
indentations rs = map (λ (r : RecordValue). r.indentation) rs

same_indent : (i : ℕ) (xs qs : List RecordValue) → i < length xs → slice_index (indentations (xs ++ qs)) i ≡ slice_index (indentations xs) i
same_indent i [] qs l = absurd (omega (arith, l))
same_indent zero (x ∷ xs) qs l = refl
same_indent (suc i) (x ∷ xs) qs l = same_indent i xs qs (omega (arith, l))

-- lines that begin alike in both
abbrev BeginAlike : List ℕ → List ℕ → Token → Type 0
BeginAlike ms ns t = slice_index ms t.start.line ≡ slice_index ns t.start.line

tokens_alike : (ms ns : List ℕ) (n : ℕ) (xs : List LexemeValue) → AllByRecursion (IsAbove n) xs → ((i : ℕ) → i < n → slice_index ms i ≡ slice_index ns i) → AllByRecursion (BeginAlike ms ns) (map token_of xs)
tokens_alike ms ns n [] h same = tt
tokens_alike ms ns n (x ∷ xs) h same = (same x.start.line h.0, tokens_alike ms ns n xs h.1 same)

token_alike : (ms ns : List ℕ) (ts : List Token) (i : ℕ) (t : Token) → AllByRecursion (BeginAlike ms ns) ts → slice_get ts i ≡ Some t → BeginAlike ms ns t
token_alike ms ns [] i t h e = absurd (cc)
token_alike ms ns (x ∷ ts) zero t h e = let same : x ≡ t = cc in subst (BeginAlike ms ns) same h.0
token_alike ms ns (x ∷ ts) (suc i) t h e = token_alike ms ns ts i t h.1 e

module _ (ms ns : List ℕ) (ts : List Token) (counted : ℕ) (alike : AllByRecursion (BeginAlike ms ns) ts) where
  at_token : (i : ℕ) (o : Option Token) → slice_get ts i ≡ o → lexeme_element ts counted ms i o ≡ lexeme_element ts counted ns i o
  at_token i None e = refl
  at_token i (Some t) e = let same = token_alike ms ns ts i t alike e in rw same refl

  elements_alike : (m : Marked) → element_of ts counted ms m ≡ element_of ts counted ns m
  elements_alike (Open collection column) = refl
  elements_alike Close = refl
  elements_alike (Lexeme i begins) = at_token i (slice_get ts i) refl

  all_alike : (marks : List Marked) → map (element_of ts counted ms) marks ≡ map (element_of ts counted ns) marks
  all_alike [] = refl
  all_alike (m ∷ marks) = ap (λ (e : Element). e ∷ map (element_of ts counted ms) marks) (elements_alike m) ∙ ap (λ (es : List Element). element_of ts counted ns m ∷ es) (all_alike marks)

same_facts : (config : Config) (xs qs : List RecordValue) (counted : ℕ) → facts_of config (xs ++ qs) (lexemes_of xs) counted ≡ facts_of config xs (lexemes_of xs) counted
same_facts config xs qs counted =
    let ls = lexemes_of xs in
    let none : 0 + length xs ≡ length xs = omega arith in
    let above : AllByRecursion (IsAbove (length xs)) ls = subst (λ m. AllByRecursion (IsAbove m) ls) none (above_all 0 xs) in
    let alike = tokens_alike (indentations (xs ++ qs)) (indentations xs) (length xs) ls above (λ i l. same_indent i xs qs l) in
    ap (λ (es : List Element). items_if (is_on config Indentation) (facts_after [] es)) (all_alike (indentations (xs ++ qs)) (indentations xs) (map token_of ls) counted alike (marked_lexemes ls))

-- ---- what is kept

-- so many rows more
abbrev pub with_rows : ℕ → KeptValue → KeptValue
with_rows n k = record k { rows = k.rows + n }

pub kept_longer : (config : Config) (xs qs : List RecordValue) → AllByRecursion IsQuietRow qs → kept_of_section config (xs ++ qs) ≡ with_rows (length qs) (kept_of_section config xs)
unfolding kept_of_section
kept_longer config xs qs h =
    let ls = lexemes_of xs in
    let b = document_of ls in
    ap (λ (ys : List LexemeValue). kept_with config (xs ++ qs) ys (document_of ys) (section_fault ys (document_of ys).fault (scan_fault_from 0 (xs ++ qs)))) (same_lexemes xs qs h)
    ∙ rw (same_scan 0 xs qs h, comments_shown xs qs ls h b.fault, same_facts config xs qs (counted_of ls b.fault), length-append xs qs) refl

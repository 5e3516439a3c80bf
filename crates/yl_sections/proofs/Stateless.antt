-- What is kept of sections does not depend on the states of their rows.
use Rattle.std.proofs.Common.{◌≡◌, ℕ, ◌+◌, Bool, true, false, List, [], ◌∷◌, ◌++◌, length, map, take, Option, None, refl, ap, ◌∙◌}
use Rattle.std.proofs.lemmas.List.{length-map}
use Rattle.std.specs.List.{take-map}
use Rattle.std.specs.Option.{option_map, option_or}
use Rattle.yl_text.specs.Character.{indentation}
use Rattle.yl_lexeme.specs.declared.lexeme.Kind.{Kind}
use Rattle.yl_lexeme.specs.Lexeme.{LexemeValue, PlacedCommentValue}
use Rattle.yl_marks.specs.Keys.{lexeme_at_line}
use Rattle.yl_row.specs.Entries.{RowEntry, entries}
use Rattle.yl_config.specs.declared.config.Config.{Config}
use Rattle.yl_record.specs.Records.{RecordValue, records, records_with}
use Rattle.yl_record.specs.Recorded.{without_state, records_without_states}
use Rattle.yl_sections.specs.declared.comments.LexemeEnd.{LexemeEnd}
use Rattle.yl_sections.specs.Kept.{KeptValue, BuiltValue, SectionFaultValue, scan_fault_from, comment_lines, last_lexeme_end, comment_at, comments_from, shown_comments, document_count, kept_of, documents_in, scan_fault_at}
use Rattle.yl_sections.specs.Judge.{document_of, kept_of_section}
use Rattle.yl_sections.specs.Sections.{Parts, last_kind_from, is_section_start, with_row, parts, sections, lexemes_from, lexemes_of}

-- the record without its state
abbrev pub bare : RecordValue → RecordValue
bare r = record { indentation = r.indentation; entry = without_state r.entry }

bare_records : (ns : List ℕ) (es : List RowEntry) → records_with ns (map without_state es) ≡ map bare (records_with ns es)
bare_records [] es = refl
bare_records (n ∷ ns) [] = refl
bare_records (n ∷ ns) (e ∷ es) = ap (λ (rs : List RecordValue). bare (record { indentation = n; entry = e }) ∷ rs) (bare_records ns es)

pub without_states : (rows : List (List ℕ)) → records_without_states rows ≡ map bare (records rows)
without_states rows = bare_records (map indentation rows) (entries rows)

-- ---- sections

abbrev bare_parts : Parts → Parts
bare_parts p = record { here = map bare p.here; later = map (λ (rs : List RecordValue). map bare rs) p.later }

bare_row : (b : Bool) (r : RecordValue) (p : Parts) → with_row b (bare r) (bare_parts p) ≡ bare_parts (with_row b r p)
bare_row true r p = refl
bare_row false r p = refl

parts_bare : (last : Option Kind) (rs : List RecordValue) → parts last (map bare rs) ≡ bare_parts (parts last rs)
parts_bare last [] = refl
parts_bare last (r ∷ rs) =
    let k = last_kind_from last r.entry.lexemes in
    ap (with_row (is_section_start last r.entry.lexemes) (bare r)) (parts_bare k rs) ∙ bare_row (is_section_start last r.entry.lexemes) r (parts k rs)

sections_bare : (rs : List RecordValue) → sections (map bare rs) ≡ map (λ (s : List RecordValue). map bare s) (sections rs)
sections_bare rs = ap (λ (p : Parts). p.here ∷ p.later) (parts_bare None rs)

-- ---- what is kept of one

scan_bare : (line : ℕ) (rs : List RecordValue) → scan_fault_from line (map bare rs) ≡ scan_fault_from line rs
scan_bare line [] = refl
scan_bare line (r ∷ rs) = ap (λ (f : Option SectionFaultValue). option_or (option_map (scan_fault_at line) r.entry.fault) f) (scan_bare (line + 1) rs)

comments_bare : (last : Option LexemeEnd) (line : ℕ) (rs : List RecordValue) → comments_from last line (map bare rs) ≡ comments_from last line rs
comments_bare last line [] = refl
comments_bare last line (r ∷ rs) =
    let end = last_lexeme_end last line r.entry.lexemes in ap (λ (cs : List PlacedCommentValue). comment_at line end r.entry.comment ++ cs) (comments_bare end (line + 1) rs)

shown_bare : (n : ℕ) (rs : List RecordValue) → shown_comments n (map bare rs) ≡ shown_comments n rs
shown_bare n rs = ap (λ (xs : List RecordValue). comments_from None 0 xs) (take-map bare n rs) ∙ comments_bare None 0 (take n rs)

lexemes_bare : (line : ℕ) (rs : List RecordValue) → lexemes_from line (map bare rs) ≡ lexemes_from line rs
lexemes_bare line [] = refl
lexemes_bare line (r ∷ rs) = ap (λ (xs : List LexemeValue). map (lexeme_at_line line) r.entry.lexemes ++ xs) (lexemes_bare (line + 1) rs)

indentations_bare : (rs : List RecordValue) → map (λ (r : RecordValue). r.indentation) (map bare rs) ≡ map (λ (r : RecordValue). r.indentation) rs
indentations_bare [] = refl
indentations_bare (r ∷ rs) = ap (λ (ns : List ℕ). r.indentation ∷ ns) (indentations_bare rs)

kept_of_bare : (config : Config) (rs : List RecordValue) (b : BuiltValue) → kept_of config (map bare rs) b ≡ kept_of config rs b
kept_of_bare config rs b =
    rw (lexemes_bare 0 rs, scan_bare 0 rs, length-map rs bare, shown_bare (comment_lines (length rs) (lexemes_of rs) b.fault) rs, indentations_bare rs) refl

kept_bare : (config : Config) (rs : List RecordValue) → kept_of_section config (map bare rs) ≡ kept_of_section config rs
unfolding kept_of_section
kept_bare config rs = kept_of_bare config rs (document_of (lexemes_of (map bare rs))) ∙ ap (λ (xs : List LexemeValue). kept_of config rs (document_of xs)) (lexemes_bare 0 rs)

all_bare : (config : Config) (ss : List (List RecordValue)) → map (kept_of_section config) (map (λ (s : List RecordValue). map bare s) ss) ≡ map (kept_of_section config) ss
all_bare config [] = refl
all_bare config (s ∷ ss) = cons (kept_bare config s) (all_bare config ss) where
  cons : {x y : KeptValue} {xs ys : List KeptValue} → x ≡ y → xs ≡ ys → x ∷ xs ≡ y ∷ ys
  cons a b = rw (a, b) refl

pub kept_without_states : (config : Config) (rows : List (List ℕ)) → map (kept_of_section config) (sections (records_without_states rows)) ≡ map (kept_of_section config) (sections (records rows))
kept_without_states config rows =
    ap (λ (rs : List RecordValue). map (kept_of_section config) (sections rs)) (without_states rows)
    ∙ (ap (map (kept_of_section config)) (sections_bare (records rows)) ∙ all_bare config (sections (records rows)))

documents_bare : (ss : List (List RecordValue)) → documents_in (map (λ (s : List RecordValue). map bare s) ss) ≡ documents_in ss
documents_bare [] = refl
documents_bare (s ∷ ss) =
    ap (λ (xs : List LexemeValue). document_count xs + documents_in (map (λ (x : List RecordValue). map bare x) ss)) (lexemes_bare 0 s) ∙ ap (λ (n : ℕ). document_count (lexemes_of s) + n) (documents_bare ss)

pub documents_without_states : (rows : List (List ℕ)) → documents_in (sections (records_without_states rows)) ≡ documents_in (sections (records rows))
documents_without_states rows =
    ap (λ (rs : List RecordValue). documents_in (sections rs)) (without_states rows) ∙ (ap documents_in (sections_bare (records rows)) ∙ documents_bare (sections (records rows)))

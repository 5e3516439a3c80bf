-- Rows that a document's judge takes without a fault are one section.
use Rattle.std.proofs.Common.{◌≡◌, ◌<◌, ◌+◌, ℕ, Bool, false, List, [], ◌∷◌, ◌++◌, length, map, Option, Some, None, refl, ◌∙◌, ap, subst, arith, zero-add}
use Rattle.yl_lexeme.specs.declared.lexeme.Kind.{Kind}
use Rattle.yl_lexeme.specs.Lexeme.{LexemeValue}
use Rattle.yl_marks.specs.Keys.{lexeme_at_line}
use Rattle.yl_events.specs.DocumentOutcome.{steps}
use Rattle.yl_record.specs.Records.{RecordValue}
use Rattle.yl_sections.specs.Local.{kind_after}
use Rattle.yl_sections.specs.Sections.{Parts, all_parts, is_section_start, last_kind_from, lexemes_from, parts, sections, with_row}
use Rattle.yl_pieces.specs.State.{start_state}
use Rattle.yl_pieces.specs.Told.{fault_in, symbols_in}
use Rattle.yl_pieces.specs.Laws.{AreClosed}
use Rattle.yl_pieces.specs.Edit.{after_front}
use Rattle.yl_pieces.specs.OneSection.{LastKindIsHeld, LastKindIsOfNext, RowsAreOneSection, RowsGoOnAsOneSection}
use Rattle.yl_pieces.proofs.JoinedParser.{taken_all}
use Rattle.yl_pieces.proofs.JoinedSound.{sound_both}
use Rattle.yl_pieces.proofs.OneSectionSymbols.{NoneBegins, none_begins}
use Rattle.yl_pieces.proofs.OneSectionKinds.{kinds_in, kinds_of}
use Rattle.yl_pieces.proofs.LastKinds.{kind_alone, kind_both, latest_is}

-- ---- the lexemes of a row, and those of the rows below

passed : (line : ℕ) (last : Option Kind) (xs ys : List LexemeValue) → NoneBegins last (kinds_of (map (lexeme_at_line line) xs ++ ys)) → NoneBegins (last_kind_from last xs) (kinds_of ys)
passed line last [] ys h = h
passed line last (x ∷ xs) ys h = passed line (Some x.kind) xs ys h.1

not_at_row : (line : ℕ) (last : Option Kind) (xs ys : List LexemeValue) → NoneBegins last (kinds_of (map (lexeme_at_line line) xs ++ ys)) → is_section_start last xs ≡ false
not_at_row line last [] ys h = refl
not_at_row line last (x ∷ xs) ys h = h.0

-- ---- rows

abbrev whole : List RecordValue → Parts
whole rs = record { here = rs; later = [] }

one_part : (line : ℕ) (last : Option Kind) (rs : List RecordValue) → NoneBegins last (kinds_of (lexemes_from line rs)) → parts last rs ≡ whole rs
one_part line last [] h = refl
one_part line last (r ∷ rs) h =
    let next = last_kind_from last r.entry.lexemes in
    ap (λ (b : Bool). with_row b r (parts next rs)) (not_at_row line last r.entry.lexemes (lexemes_from (line + 1) rs) h)
    ∙ ap (λ (p : Parts). with_row false r p) (one_part (line + 1) next rs (passed line last r.entry.lexemes (lexemes_from (line + 1) rs) h))

pub one_section : RowsAreOneSection
one_section rs sound =
    let ws = symbols_in start_state 0 rs in
    let t = taken_all start_state.parser ws (steps ws start_state.parser.goals []) sound in
    ap all_parts (one_part 0 None rs (subst (λ (ks : List Kind). NoneBegins None ks) (kinds_in start_state 0 rs) (none_begins ws [] t.0 t.1)))

-- ---- rows and those after them

after_some : (front next : List RecordValue) → AreClosed front → 0 < length front → fault_in start_state 0 front ≡ None → fault_in (after_front front) (length front) next ≡ None
    → sections (front ++ next) ≡ (front ++ next) ∷ []
after_some front next closed some sound sound_next =
    one_section (front ++ next)
    (sound_both start_state 0 front next closed (omega (arith, some)) sound (ap (λ (k : ℕ). fault_in (after_front front) k next) (zero-add (length front)) ∙ sound_next))

pub goes_on : RowsGoOnAsOneSection
goes_on [] next closed sound sound_next = one_section next sound_next
goes_on (r ∷ rs) next closed sound sound_next = after_some (r ∷ rs) next closed (omega arith) sound sound_next

-- ---- the kind of the last lexeme

pub kind_of_next : LastKindIsOfNext
kind_of_next last front next some = kind_both last front next ∙ kind_alone (kind_after last front) None next some

pub kind_held : LastKindIsHeld
kind_held s line rs = latest_is s line rs

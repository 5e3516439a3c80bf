-- What stays of a section where its first rows stay, with rows in which no scan fault begins in place of others.
use Rattle.std.proofs.Common.{◌≡◌, ◌<◌, ◌+◌, ℕ, true, List, [], ◌∷◌, ◌++◌, length, Option, Some, None, refl, sym, ◌∙◌, ap, subst, arith, append-nil}
use Rattle.std.specs.Prelude.{option_map, slice_get}
use Rattle.std.specs.Option.{option_map_or, option_or}
use Rattle.std.proofs.lemmas.List.{length-append}
use Rattle.yl_text.proofs.Every.{all_back, all_both, all_front, all_then}
use Rattle.yl_lexeme.specs.Lexeme.{LexemeValue}
use Rattle.yl_events.specs.declared.fault.PlacedParseFault.{PlacedParseFault}
use Rattle.yl_events.specs.Faults as parse
use Rattle.yl_config.specs.declared.config.Config.{Config}
use Rattle.yl_record.specs.Records.{RecordValue}
use Rattle.yl_sections.specs.Judge.{document_of, kept_of_section}
use Rattle.yl_sections.specs.Kept.{SectionFaultValue, Behind, Here, scan_fault_at, scan_fault_from, section_fault}
use Rattle.yl_sections.specs.Sections.{lexemes_from, lexemes_of}
use Rattle.yl_sections.proofs.RowJudging.{lexemes_of_both}
use Rattle.yl_pieces.specs.Told.{is_border}
use Rattle.yl_pieces.specs.Laws.{AreClosed}
use Rattle.yl_pieces.specs.Edit.{after_front}
use Rattle.yl_piece_names.proofs.RowsPatched.{some_lexeme}
use Rattle.yl_section_pieces.specs.Edit.{AreSound}

-- ---- rows in which each lexeme ends

pub closed_below : (front more : List RecordValue) → AreClosed (front ++ more) → AreClosed more
closed_below [] more h = h
closed_below (r ∷ front) more h = closed_below front more h.1

pub closed_both : (front more : List RecordValue) → AreClosed front → AreClosed more → AreClosed (front ++ more)
closed_both [] more h g = g
closed_both (r ∷ front) more h g =
    let rows : length (front ++ more) ≡ length front + length more = length-append front more in (
      all_then (λ (x : LexemeValue). x.end.line < length (r ∷ front))
          (λ (x : LexemeValue). x.end.line < length (r ∷ (front ++ more))) r.entry.lexemes (λ x l. omega (arith, l, rows)) h.0,
      closed_both front more h.1 g,
    )

-- ---- the first lexeme

got_first : {X : Type 0} (xs ys : List X) → 0 < length xs → slice_get (xs ++ ys) 0 ≡ slice_get xs 0
got_first [] ys h = absurd (omega (arith, h))
got_first (x ∷ xs) ys h = refl

abbrev column : Option LexemeValue → ℕ
column x = option_map_or (λ (x : LexemeValue). x.start.col) x 0

some_front : (front : List RecordValue) → is_border (after_front front) ≡ true → 0 < length (lexemes_from 0 front)
some_front front border = subst (λ (rs : List RecordValue). 0 < length (lexemes_of rs)) (append-nil front) (some_lexeme front [] border)

first_of : (config : Config) (front more : List RecordValue) → is_border (after_front front) ≡ true
    → (kept_of_section config (front ++ more)).first ≡ column (slice_get (lexemes_from 0 front) 0)
unfolding kept_of_section
first_of config front more border =
    ap (λ (xs : List LexemeValue). column (slice_get xs 0)) (lexemes_of_both 0 front more)
    ∙ ap column (got_first (lexemes_from 0 front) (lexemes_from (0 + length front) more) (some_front front border))

-- a lexeme stands above a border, so that the column of the first one stays
pub first_stays : (config : Config) (front old new : List RecordValue) → is_border (after_front front) ≡ true
    → (kept_of_section config (front ++ old)).first ≡ (kept_of_section config (front ++ new)).first
first_stays config front old new border = first_of config front old border ∙ sym (first_of config front new border)

-- ---- the fault

abbrev pub IsSound : RecordValue → Type 0
IsSound r = r.entry.fault ≡ None

-- a section without a fault has none of the document, and none of a scan
no_fault : (xs : List LexemeValue) (f : Option PlacedParseFault) (scanned : Option SectionFaultValue) → section_fault xs f scanned ≡ None
    → (f ≡ None) × (scanned ≡ None)
no_fault xs None scanned e = (refl, e)
no_fault xs (Some f) scanned e = absurd (by (slice_get xs f.place) scanned e)
  where
    by : (x : Option LexemeValue) (o : Option SectionFaultValue)
        → option_or (option_map (λ (x : LexemeValue). Here x.start (parse.fault_text f.kind)) x)
        (option_or o (Some (Behind (parse.fault_text f.kind)))) ≡ None → ⊥
    by (Some x) o e = cc
    by None (Some g) e = cc
    by None None e = cc

none_or : {X Y : Type 0} (g : X → Y) (f : Option X) (more : Option Y) → option_or (option_map g f) more ≡ None → (f ≡ None) × (more ≡ None)
none_or g None more e = (refl, e)
none_or g (Some x) more e = cc

sound_rows : (line : ℕ) (rs : List RecordValue) → scan_fault_from line rs ≡ None → AreSound rs
sound_rows line [] e = tt
sound_rows line (r ∷ rs) e =
    let none = none_or (scan_fault_at line) r.entry.fault (scan_fault_from (line + 1) rs) e in
    (none.0, sound_rows (line + 1) rs none.1)

none_scanned : (line : ℕ) (rs : List RecordValue) → AreSound rs → scan_fault_from line rs ≡ None
none_scanned line [] h = refl
none_scanned line (r ∷ rs) h =
    ap (λ f. option_or (option_map (scan_fault_at line) f) (scan_fault_from (line + 1) rs)) h.0 ∙ none_scanned (line + 1) rs h.1

section_none : (config : Config) (rs : List RecordValue) → (kept_of_section config rs).fault ≡ None
    → ((document_of (lexemes_of rs)).fault ≡ None) × (scan_fault_from 0 rs ≡ None)
unfolding kept_of_section
section_none config rs e = no_fault (lexemes_of rs) (document_of (lexemes_of rs)).fault (scan_fault_from 0 rs) e

pub document_sound : (config : Config) (rs : List RecordValue) → (kept_of_section config rs).fault ≡ None → (document_of (lexemes_of rs)).fault ≡ None
document_sound config rs e = (section_none config rs e).0

sound_section : (config : Config) (rs : List RecordValue) → (document_of (lexemes_of rs)).fault ≡ None → AreSound rs
    → (kept_of_section config rs).fault ≡ None
unfolding kept_of_section
sound_section config rs none h =
    ap (λ (f : Option PlacedParseFault). section_fault (lexemes_of rs) f (scan_fault_from 0 rs)) none ∙ none_scanned 0 rs h

-- rows in place of others: the document has no fault now either
pub still_sound : (config : Config) (front old new rest : List RecordValue) → (kept_of_section config (front ++ (old ++ rest))).fault ≡ None
    → (document_of (lexemes_of (front ++ (new ++ rest)))).fault ≡ None → AreSound new → (kept_of_section config (front ++ (new ++ rest))).fault ≡ None
still_sound config front old new rest e none h =
    let all : AreSound (front ++ (old ++ rest)) = sound_rows 0 (front ++ (old ++ rest)) (section_none config (front ++ (old ++ rest)) e).1 in
    sound_section config (front ++ (new ++ rest)) none
    (all_both IsSound front (new ++ rest) (all_front IsSound front (old ++ rest) all)
    (all_both IsSound new rest h (all_back IsSound old rest (all_back IsSound front (old ++ rest) all))))

-- The anchors and aliases of rows, where they stand, and those of a document's rows.
use Rattle.std.proofs.Common.{◌≡◌, ℕ, ◌+◌, ◌-◌, ◌<◌, arith, List, [], ◌∷◌, ◌++◌, map, length, Some, None, refl, sym, ◌∙◌, ap, subst, zero-add}
use Rattle.std.specs.List.{AllByRecursion, flat_map}
use Rattle.std.proofs.lemmas.Grind.{flat_map-append}
use Rattle.std.proofs.lemmas.List.{map-append}
use Rattle.yl_text.specs.declared.position.Pos.{Pos}
use Rattle.yl_text.proofs.Every.{all_flat_map}
use Rattle.yl_lexeme.specs.declared.lexeme.Kind.{Kind}
use Rattle.yl_lexeme.specs.Lexeme.{LexemeValue}
use Rattle.yl_events.specs.Built.{Builds}
use Rattle.yl_lexeme_rules.specs.LexemesAlike.{lexeme_below}
use Rattle.yl_record.specs.Records.{RecordValue}
use Rattle.yl_sections.specs.Judge.{document_of}
use Rattle.yl_sections.specs.Sections.{lexemes_from, lexemes_of}
use Rattle.yl_sections.proofs.Documents.{document_built}
use Rattle.yl_sections.proofs.RowJudging.{lexemes_of_both}
use Rattle.yl_pieces.specs.DuplicatesOfRuns.{place_below}
use Rattle.yl_pieces.specs.References.{NamedReference, DeclaresName, UsesName, named_reference, reference_of_lexeme, references_of_event}
use Rattle.yl_pieces.proofs.PatchedLists.{map_moved}
use Rattle.yl_pieces.proofs.ReferencesNamed.{aliases_have_no_anchors, anchors_are_lexemes}
use Rattle.yl_pieces.proofs.ToldBelowRows.{lexemes_moved}
use Rattle.yl_piece_names.specs.Moved.{IsIn, place_of_reference, reference_below, reference_moved}
use Rattle.yl_piece_names.specs.AnchorsPatched.{AreApart}
use Rattle.yl_piece_names.specs.RowsPatched.{events_of_rows, references_in}
use Rattle.yl_piece_names.proofs.RowsEvents.{StartsIn, lexemes_in, place_onto, places_onto}

-- ---- where they stand

module _ (line rows : ℕ) where
  kind_in : (kind : Kind) (name : List ℕ) (start : Pos) → IsIn line rows (Some start) → AllByRecursion (λ r. IsIn line rows (place_of_reference r)) (named_reference kind name start)
  kind_in Kind.Anchor name start h = (h, tt)
  kind_in Kind.Alias name start h = (h, tt)
  kind_in _ name start h = tt

pub references_stand : (line : ℕ) (rs : List RecordValue) → AllByRecursion (λ r. IsIn line (length rs) (place_of_reference r)) (references_in line rs)
references_stand line rs =
    all_flat_map (λ r. IsIn line (length rs) (place_of_reference r)) (StartsIn line (length rs)) reference_of_lexeme (lexemes_from line rs)
    (λ x h. kind_in line (length rs) x.kind x.value x.start h) (lexemes_in line rs)

-- ---- further down

kind_below : (n : ℕ) (kind : Kind) (name : List ℕ) (start : Pos) → named_reference kind name (place_below n start) ≡ map (reference_below n) (named_reference kind name start)
kind_below n Kind.Anchor name start = refl
kind_below n Kind.Alias name start = refl
kind_below n _ name start = refl

all_below : (n : ℕ) (xs : List LexemeValue) → flat_map reference_of_lexeme (map (lexeme_below n) xs) ≡ map (reference_below n) (flat_map reference_of_lexeme xs)
all_below n [] = refl
all_below n (x ∷ xs) =
    (λ i. kind_below n x.kind x.value x.start i ++ all_below n xs i) ∙ sym (map-append (reference_below n) (reference_of_lexeme x) (flat_map reference_of_lexeme xs))

rows_below : (n line : ℕ) (rs : List RecordValue) → references_in (n + line) rs ≡ map (reference_below n) (references_in line rs)
rows_below n line rs = ap (flat_map reference_of_lexeme) (lexemes_moved n line rs) ∙ all_below n (lexemes_from line rs)

pub references_from_1 : (line : ℕ) (rs : List RecordValue) → 0 < line → references_in line rs ≡ map (reference_below (line - 1)) (references_in 1 rs)
references_from_1 line rs far =
    let there : line ≡ line - 1 + 1 = omega (arith, far) in
    ap (λ k. references_in k rs) there ∙ rows_below (line - 1) 1 rs

module _ (old new : ℕ) where
  one_onto : (r : NamedReference) → reference_moved old new (reference_below old r) ≡ reference_below new r
  one_onto (DeclaresName name place) = ap (DeclaresName name) (place_onto old new place)
  one_onto (UsesName name place) = ap (UsesName name) (places_onto old new place)

  pub references_onto : (n : ℕ) (rs : List RecordValue) → map (reference_moved old new) (references_in (n + old) rs) ≡ references_in (n + new) rs
  references_onto n rs =
      let down : n + old ≡ old + n = omega arith in
      let up : n + new ≡ new + n = omega arith in
      ap (λ k. map (reference_moved old new) (references_in k rs)) down
      ∙ ap (map (reference_moved old new)) (rows_below old n rs)
      ∙ map_moved (reference_below old) (reference_below new) (reference_moved old new) one_onto (references_in n rs)
      ∙ sym (rows_below new n rs)
      ∙ ap (λ k. references_in k rs) (sym up)

-- ---- a document's

pub builds : (xs : List LexemeValue) → 0 < length xs → (document_of xs).fault ≡ None → Builds xs (document_of xs).events None
builds [] h none = absurd (omega (arith, h))
builds (x ∷ xs) h none = subst (λ f. Builds (x ∷ xs) (document_of (x ∷ xs)).events f) none (document_built (x ∷ xs))

module _ (rs : List RecordValue) (some : 0 < length (lexemes_of rs)) (none : (document_of (lexemes_of rs)).fault ≡ None) where
  pub rows_apart : AreApart (events_of_rows rs)
  rows_apart = aliases_have_no_anchors (lexemes_of rs) (events_of_rows rs) (builds (lexemes_of rs) some none)

  pub rows_refer : flat_map references_of_event (events_of_rows rs) ≡ references_in 0 rs
  rows_refer = anchors_are_lexemes (lexemes_of rs) (events_of_rows rs) (builds (lexemes_of rs) some none)

two_parts : (line : ℕ) (rs more : List RecordValue) → references_in line (rs ++ more) ≡ references_in line rs ++ references_in (line + length rs) more
two_parts line rs more =
    ap (flat_map reference_of_lexeme) (lexemes_of_both line rs more) ∙ flat_map-append reference_of_lexeme (lexemes_from line rs) (lexemes_from (line + length rs) more)

pub three_parts : (front rows rest : List RecordValue) → references_in 0 (front ++ (rows ++ rest)) ≡ references_in 0 front ++ (references_in (length front) rows ++ references_in (length front + length rows) rest)
three_parts front rows rest =
    two_parts 0 front (rows ++ rest)
    ∙ ap (λ k. references_in 0 front ++ references_in k (rows ++ rest)) (zero-add (length front))
    ∙ ap (λ qs. references_in 0 front ++ qs) (two_parts (length front) rows rest)

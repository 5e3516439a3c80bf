-- Rows of which each is plain.
use Rattle.std.proofs.Common.{◌≡◌, ℕ, suc, ◌+◌, ◌-◌, ◌<◌, ◌≤◌, false, List, [], ◌∷◌, ◌++◌, length, map, drop, get_or, drop-cons, add-one, refl, sym, ◌∙◌, subst, arith, Bor}
use Rattle.std.proofs.lemmas.List.{drop_all, length-drop}
use Rattle.std.proofs.lemmas.Grind.{flat_map-append}
use Rattle.std.specs.List.{AllByRecursion, flat_map}
use Rattle.yl_text.specs.declared.position.Pos.{Pos}
use Rattle.yl_lexeme.specs.declared.lexeme.Kind.{Kind}
use Rattle.yl_lexeme.specs.Lexeme.{LexemeValue}
use Rattle.yl_marks.specs.Keys.{lexeme_at_line}
use Rattle.yl_record.specs.Records.{RecordValue}
use Rattle.yl_sections.specs.Sections.{lexemes_from}
use Rattle.yl_sections.proofs.Rows.{length-seen, next, none_left, seen}
use Rattle.yl_pieces.specs.Laws.{AreClosed, EndWithin}
use Rattle.yl_pieces.specs.References.{named_reference, reference_of_lexeme}
use Rattle.yl_piece_names.specs.RowsPatched.{references_in}
use Rattle.yl_section_pieces.specs.Edit.{AreSound}
use Rattle.yl_section_pieces.specs.PlainRows.{ArePlain, IsPlainLexeme, IsPlainRow, is_reference_kind}

-- ---- loops over items that pass a test, by what is left to show

module _ {X : Type 0} (P : X → Type 0) (xs : List X) (i : ℕ) where
  pub all_on : (x : X) → i < length xs → x ≡ get_or xs i x → P x → (AllByRecursion P (drop i xs) → AllByRecursion P xs) → AllByRecursion P (drop (i + 1) xs) → AllByRecursion P xs
  all_on x within is here left rest =
      let cut : drop i xs ≡ x ∷ drop (i + 1) xs =
      drop-cons xs i x within ∙ (λ j. sym is j ∷ drop (sym (add-one i) j) xs) in
      left (subst (λ (ys : List X). AllByRecursion P ys) (sym cut) (here, rest))

  pub all_done : length xs ≤ i → (AllByRecursion P (drop i xs) → AllByRecursion P xs) → AllByRecursion P xs
  all_done past left = left (subst (λ (ys : List X). AllByRecursion P ys) (sym (drop_all i xs past)) tt)

module _ (rs : List (Bor RecordValue)) (i : ℕ) where
  pub plain_on : (x : Bor RecordValue) → i < length rs → x ≡ get_or rs i x → IsPlainRow (length rs - i) x.now → (ArePlain (drop i (seen rs)) → ArePlain (seen rs))
      → ArePlain (drop (i + 1) (seen rs)) → ArePlain (seen rs)
  plain_on x within is here left rest =
      let count : length rs - i ≡ suc (length (drop (i + 1) (seen rs))) = omega (arith, within, length-seen rs, length-drop (i + 1) (seen rs)) in
      left (subst (λ (ys : List RecordValue). ArePlain ys) (sym (next rs i x within is)) (subst (λ n. IsPlainRow n x.now) count here, rest))

  pub plain_done : length rs ≤ i → (ArePlain (drop i (seen rs)) → ArePlain (seen rs)) → ArePlain (seen rs)
  plain_done past left = left (subst (λ (ys : List RecordValue). ArePlain ys) (sym (none_left rs i past)) tt)

-- ---- what follows

ends : (rows : ℕ) (xs : List LexemeValue) → AllByRecursion (IsPlainLexeme rows) xs → AllByRecursion (λ (x : LexemeValue). x.end.line < rows) xs
ends rows [] h = tt
ends rows (x ∷ xs) h = (h.0.ends, ends rows xs h.1)

end_within : (rs : List RecordValue) → ArePlain rs → EndWithin (length rs) rs
end_within [] h = tt
end_within (r ∷ rs) h = (ends (suc (length rs)) r.entry.lexemes h.0.lexemes, end_within rs h.1)

pub plain_closed : (rs : List RecordValue) → ArePlain rs → AreClosed rs
plain_closed rs h = end_within rs h

pub plain_sound : (rs : List RecordValue) → ArePlain rs → AreSound rs
plain_sound [] h = tt
plain_sound (r ∷ rs) h = (h.0.sound, plain_sound rs h.1)

no_reference : (kind : Kind) (name : List ℕ) (start : Pos) → is_reference_kind kind ≡ false → named_reference kind name start ≡ []
no_reference Kind.Anchor name start h = absurd (cc)
no_reference Kind.Alias name start h = absurd (cc)
no_reference _ name start h = refl

no_references : (line rows : ℕ) (xs : List LexemeValue) → AllByRecursion (IsPlainLexeme rows) xs → flat_map reference_of_lexeme (map (lexeme_at_line line) xs) ≡ []
no_references line rows [] h = refl
no_references line rows (x ∷ xs) h =
    let y = lexeme_at_line line x in λ i. no_reference y.kind y.value y.start h.0.refers i ++ no_references line rows xs h.1 i

pub plain_references : (line : ℕ) (rs : List RecordValue) → ArePlain rs → references_in line rs ≡ []
plain_references line [] h = refl
plain_references line (r ∷ rs) h =
    flat_map-append reference_of_lexeme (map (lexeme_at_line line) r.entry.lexemes) (lexemes_from (line + 1) rs)
    ∙ (λ i. no_references line (suc (length rs)) r.entry.lexemes h.0.lexemes i ++ plain_references (line + 1) rs h.1 i)

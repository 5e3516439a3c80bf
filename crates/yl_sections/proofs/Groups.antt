-- The documents of lexemes, cut between each two of them; the documents of rows' lexemes are those of their sections.
use Rattle.std.proofs.Common.{◌≡◌, ℕ, suc, ◌+◌, ◌-◌, Bool, true, false, cond, List, [], ◌∷◌, ◌++◌, length, map, take, drop, Option, Some, None, refl, ap, sym, ◌∙◌, append_assoc, append-nil, arith}
use Rattle.std.proofs.Math.Seq.{take-append_seam, drop-append_seam}
use Rattle.std.proofs.lemmas.List.{length-append}
use Rattle.std.specs.List.{AllByRecursion}
use Rattle.std.specs.Option.{option_map_or}
use Rattle.yl_lexeme.specs.declared.lexeme.Kind.{Kind}
use Rattle.yl_lexeme.specs.Lexeme.{LexemeValue}
use Rattle.yl_marks.specs.Keys.{lexeme_at_line}
use Rattle.yl_events.specs.Cut.{is_beginning, beginnings_behind, beginnings_by_two}
use Rattle.yl_config.specs.TextDocuments.{cut_behind, cut_at}
use Rattle.yl_record.specs.Records.{RecordValue}
use Rattle.yl_sections.specs.Sections.{Parts, last_kind_from, is_section_start, with_row, parts, lexemes_from}
use Rattle.yl_sections.specs.Documents.{with_document}

-- ---- lexemes

-- the lexemes that belong to the document before, and the documents that begin after them
pub record Groups : Type 0 where
  pub here : List LexemeValue
  pub later : List (List LexemeValue)

abbrev pub begins : Option Kind → Kind → Bool
begins last k = option_map_or (λ l. is_beginning l k) last false

abbrev pub with_lexeme : Bool → LexemeValue → Groups → Groups
with_lexeme true x g = record { here = []; later = (x ∷ g.here) ∷ g.later }
with_lexeme false x g = record { here = x ∷ g.here; later = g.later }

abbrev pub groups : Option Kind → List LexemeValue → Groups
groups last [] = record { here = []; later = [] }
groups last (x ∷ xs) = with_lexeme (begins last x.kind) x (groups (Some x.kind) xs)

abbrev pub kinds : List LexemeValue → List Kind
kinds xs = map (λ x. x.kind) xs

consed : (xs ys : List LexemeValue) (xss yss : List (List LexemeValue)) → xs ≡ ys → xss ≡ yss → xs ∷ xss ≡ ys ∷ yss
consed xs ys xss yss a b = rw (a, b)

abbrev with_front : List LexemeValue → Groups → List (List LexemeValue)
with_front ys g = (ys ++ g.here) ∷ g.later

-- the next lexeme begins a document, or belongs to that of these
module _ (p q : ℕ) (x : LexemeValue) (ys xs : List LexemeValue) (h : length ys + p ≡ suc q) where
  abbrev places : List ℕ
  places = beginnings_behind (suc q) x.kind (kinds xs)

  one_more : (b : Bool) → cut_behind (suc q) places (x ∷ xs) ≡ with_front (x ∷ []) (groups (Some x.kind) xs)
      → cut_behind p places ((ys ++ x ∷ []) ++ xs) ≡ with_front (ys ++ x ∷ []) (groups (Some x.kind) xs)
      → cut_behind p (cond b (suc q ∷ places) places) (ys ++ x ∷ xs) ≡ with_front ys (with_lexeme b x (groups (Some x.kind) xs))
  one_more true cut more =
      let many : suc q - p ≡ length ys = omega (arith, h) in
      ap (λ n. take n (ys ++ x ∷ xs) ∷ cut_behind (suc q) places (drop n (ys ++ x ∷ xs))) many
      ∙ consed _ _ _ _ (take-append_seam ys (x ∷ xs) ∙ sym (append-nil ys)) (ap (cut_behind (suc q) places) (drop-append_seam ys (x ∷ xs)) ∙ cut)
  one_more false cut more =
      ap (cut_behind p places) (sym (append_assoc ys (x ∷ []) xs))
      ∙ (more ∙ ap (λ (zs : List LexemeValue). zs ∷ (groups (Some x.kind) xs).later) (append_assoc ys (x ∷ []) (groups (Some x.kind) xs).here))

cut_groups : (p q : ℕ) (last : Kind) (ys xs : List LexemeValue) → length ys + p ≡ suc q → cut_behind p (beginnings_behind q last (kinds xs)) (ys ++ xs) ≡ with_front ys (groups (Some last) xs)
cut_groups p q last ys [] h = refl
cut_groups p q last ys (x ∷ xs) h =
    one_more p q x ys xs h (is_beginning last x.kind) (cut_groups (suc q) (suc q) x.kind (x ∷ []) xs (omega arith))
    (cut_groups p (suc q) x.kind (ys ++ x ∷ []) xs (omega (arith, h, length-append ys (x ∷ []))))

pub grouped_by_two : (xs : List LexemeValue) → cut_at (beginnings_by_two (kinds xs)) xs ≡ with_document (groups None xs).here (groups None xs).later
grouped_by_two [] = refl
grouped_by_two (x ∷ xs) = cut_groups 0 0 x.kind (x ∷ []) xs (omega arith)

-- ---- the lexemes of a row

-- after a lexeme of this kind none of these begins a document
abbrev pub Unbroken : Kind → List LexemeValue → Type 0
Unbroken last [] = Unit {0}
Unbroken last (x ∷ xs) = (is_beginning last x.kind ≡ false) × Unbroken x.kind xs

abbrev pub IsUnbroken : List LexemeValue → Type 0
IsUnbroken [] = Unit {0}
IsUnbroken (x ∷ xs) = Unbroken x.kind xs

abbrev with_lexemes : Bool → List LexemeValue → Groups → Groups
with_lexemes true xs g = record { here = []; later = (xs ++ g.here) ∷ g.later }
with_lexemes false xs g = record { here = xs ++ g.here; later = g.later }

rest_grouped : (last : Kind) (xs ys : List LexemeValue) → Unbroken last xs → groups (Some last) (xs ++ ys) ≡ with_lexemes false xs (groups (last_kind_from (Some last) xs) ys)
rest_grouped last [] ys h = refl
rest_grouped last (x ∷ xs) ys h =
    ap (λ (b : Bool). with_lexeme b x (groups (Some x.kind) (xs ++ ys))) h.0 ∙ ap (λ (g : Groups). with_lexeme false x g) (rest_grouped x.kind xs ys h.1)

first_onto : (b : Bool) (x : LexemeValue) (xs : List LexemeValue) (g : Groups) → with_lexeme b x (with_lexemes false xs g) ≡ with_lexemes b (x ∷ xs) g
first_onto true x xs g = refl
first_onto false x xs g = refl

row_grouped : (last : Option Kind) (x : LexemeValue) (xs ys : List LexemeValue) → Unbroken x.kind xs → groups last (x ∷ (xs ++ ys)) ≡ with_lexemes (begins last x.kind) (x ∷ xs) (groups (last_kind_from last (x ∷ xs)) ys)
row_grouped last x xs ys h =
    ap (λ (g : Groups). with_lexeme (begins last x.kind) x g) (rest_grouped x.kind xs ys h) ∙ first_onto (begins last x.kind) x xs (groups (last_kind_from last (x ∷ xs)) ys)

-- at a line the kinds are the same
placed_unbroken : (line : ℕ) (last : Kind) (xs : List LexemeValue) → Unbroken last xs → Unbroken last (map (lexeme_at_line line) xs)
placed_unbroken line last [] h = tt
placed_unbroken line last (x ∷ xs) h = (h.0, placed_unbroken line x.kind xs h.1)

placed_last : (line : ℕ) (last : Option Kind) (xs : List LexemeValue) → last_kind_from last (map (lexeme_at_line line) xs) ≡ last_kind_from last xs
placed_last line last [] = refl
placed_last line last (x ∷ xs) = placed_last line (Some x.kind) xs

-- ---- the lexemes of rows

-- the documents of sections, the first of which begins at this line
abbrev pub placed_documents : ℕ → List (List RecordValue) → List (List LexemeValue)
placed_documents line [] = []
placed_documents line (rs ∷ rss) = with_document (lexemes_from line rs) (placed_documents (line + length rs) rss)

abbrev pub grouped : ℕ → Parts → Groups
grouped line p = record { here = lexemes_from line p.here; later = placed_documents (line + length p.here) p.later }

same_groups : (xs ys : List LexemeValue) (xss yss : List (List LexemeValue)) → xs ≡ ys → xss ≡ yss → (let g : Groups = record { here = xs; later = xss } in let f : Groups = record { here = ys; later = yss } in g ≡ f)
same_groups xs ys xss yss a b = rw (a, b)

module _ (line : ℕ) (r : RecordValue) (p : Parts) where
  abbrev below : Groups
  below = grouped (line + 1) p

  abbrev placed : List LexemeValue → List LexemeValue
  placed xs = map (lexeme_at_line line) xs

  next_line : line + 1 + length p.here ≡ line + length (r ∷ p.here)
  next_line = omega arith

  section_onto : (x : LexemeValue) (xs : List LexemeValue) → r.entry.lexemes ≡ x ∷ xs → with_document (placed r.entry.lexemes ++ below.here) (placed_documents (line + length (r ∷ p.here)) p.later) ≡ (placed (x ∷ xs) ++ below.here) ∷ below.later
  section_onto x xs e =
      ap (λ (ys : List LexemeValue). with_document (placed ys ++ below.here) (placed_documents (line + length (r ∷ p.here)) p.later)) e
      ∙ ap (λ n. (placed (x ∷ xs) ++ below.here) ∷ placed_documents n p.later) (sym next_line)

  onto : (b : Bool) (x : LexemeValue) (xs : List LexemeValue) → r.entry.lexemes ≡ x ∷ xs → with_lexemes b (placed (x ∷ xs)) below ≡ grouped line (with_row b r p)
  onto true x xs e =
      let here : line + 0 ≡ line = omega arith in
      same_groups _ _ _ _ refl (sym (ap (λ n. with_document (lexemes_from n (r ∷ p.here)) (placed_documents (n + length (r ∷ p.here)) p.later)) here ∙ section_onto x xs e))
  onto false x xs e = same_groups _ _ _ _ (ap (λ (ys : List LexemeValue). placed ys ++ below.here) (sym e)) (ap (λ n. placed_documents n p.later) next_line)

  none_onto : r.entry.lexemes ≡ [] → below ≡ grouped line (with_row false r p)
  none_onto e = same_groups _ _ _ _ (ap (λ (ys : List LexemeValue). placed ys ++ below.here) (sym e)) (ap (λ n. placed_documents n p.later) next_line)

  row_onto : (last : Option Kind) (gs xs : List LexemeValue) → r.entry.lexemes ≡ xs → IsUnbroken xs → groups (last_kind_from last xs) gs ≡ below → groups last (placed xs ++ gs) ≡ grouped line (with_row (is_section_start last xs) r p)
  row_onto last gs [] e h ih = ih ∙ none_onto e
  row_onto last gs (x ∷ xs) e h ih =
      row_grouped last (lexeme_at_line line x) (placed xs) gs (placed_unbroken line x.kind xs h)
      ∙ (ap (λ (k : Option Kind). with_lexemes (begins last x.kind) (placed (x ∷ xs)) (groups k gs)) (placed_last line last (x ∷ xs))
      ∙ (ap (λ (g : Groups). with_lexemes (begins last x.kind) (placed (x ∷ xs)) g) ih ∙ onto (begins last x.kind) x xs e))

pub rows_grouped : (last : Option Kind) (line : ℕ) (rs : List RecordValue) → AllByRecursion (λ (r : RecordValue). IsUnbroken r.entry.lexemes) rs → groups last (lexemes_from line rs) ≡ grouped line (parts last rs)
rows_grouped last line [] h = refl
rows_grouped last line (r ∷ rs) h =
    row_onto line r (parts (last_kind_from last r.entry.lexemes) rs) last (lexemes_from (line + 1) rs) r.entry.lexemes refl h.0 (rows_grouped (last_kind_from last r.entry.lexemes) (line + 1) rs h.1)

-- Lexemes without marks.
use Rattle.std.proofs.Common.{append_assoc, ◌≡◌, ◌||◌, ◌&&◌, ◌==◌, ◌++◌, ℕ, nat_lt, Bool, true, false, cond, not, List, [], ◌∷◌, Option, Some, None, is_some, refl, ◌∙◌, ap}
use Rattle.yl_lexeme.specs.Lexeme.{is_document_marker, is_entry, is_key, is_value}
use Rattle.yl_marks.specs.declared.symbol.Symbol.{Symbol}
use Rattle.yl_marks.specs.declared.symbol.Symbol.TheVariants.{Close, One}
use Rattle.yl_marks.specs.declared.symbol.Marking.{Marking}
use Rattle.yl_marks.specs.declared.symbol.OpenBlock.{OpenBlock}
use Rattle.yl_marks.specs.Marks.{closes_collection, closings, collection_to_open, collections_left, is_in, is_in_mapping, key_mark, marks_at, open_behind, opening, with_collection}
use Rattle.yl_marks.specs.Unmarked.{may_have_marks}

left_false : (a b : Bool) → (a || b) ≡ false → a ≡ false
left_false true b h = cc
left_false false b h = refl

right_false : (a b : Bool) → (a || b) ≡ false → b ≡ false
right_false true b h = cc
right_false false b h = h

not_closed : (marker first d r : Bool) → marker ≡ false → first ≡ false → (marker || (d && first && r)) ≡ false
not_closed true first d r h g = cc
not_closed false true d r h g = cc
not_closed false false true r h g = refl
not_closed false false false r h g = refl

not_opened : (a mapping x entry y : Bool) → mapping ≡ false → entry ≡ false → cond {A = Option Bool} a None (cond (mapping && x) (Some true) (cond (entry && y) (Some false) None)) ≡ None
not_opened true mapping x entry y h g = refl
not_opened false true x entry y h g = cc
not_opened false false x true y h g = cc
not_opened false false x false y h g = refl

module _ (m : Marking) (none : may_have_marks m ≡ false) where
  mapping : is_in_mapping m ≡ false
  mapping = right_false (m.piece.is_first || is_document_marker m.piece.kind || is_entry m.piece.kind) (is_in_mapping m) none

  but_mapping : (m.piece.is_first || is_document_marker m.piece.kind || is_entry m.piece.kind) ≡ false
  but_mapping = left_false (m.piece.is_first || is_document_marker m.piece.kind || is_entry m.piece.kind) (is_in_mapping m) none

  entry : is_entry m.piece.kind ≡ false
  entry = right_false (m.piece.is_first || is_document_marker m.piece.kind) (is_entry m.piece.kind) but_mapping

  but_entry : (m.piece.is_first || is_document_marker m.piece.kind) ≡ false
  but_entry = left_false (m.piece.is_first || is_document_marker m.piece.kind) (is_entry m.piece.kind) but_mapping

  marker : is_document_marker m.piece.kind ≡ false
  marker = right_false m.piece.is_first (is_document_marker m.piece.kind) but_entry

  first : m.piece.is_first ≡ false
  first = left_false m.piece.is_first (is_document_marker m.piece.kind) but_entry

  begins : m.begins_key ≡ false
  begins = left_false m.begins_key (is_key m.piece.kind)
      (left_false (m.begins_key || is_key m.piece.kind) (is_value m.piece.kind && not (is_some m.piece.key)) mapping)

  stays : (c : OpenBlock) → closes_collection m c ≡ false
  stays c = not_closed (is_document_marker m.piece.kind) m.piece.is_first (m.piece.depth == 0) _ marker first

  no_closings : (cs : List OpenBlock) → closings m cs ≡ []
  no_closings [] = refl
  no_closings (c ∷ cs) = ap (λ b. cond b (Close ∷ closings m cs) []) (stays c)

  all_left : (cs : List OpenBlock) → collections_left m cs ≡ cs
  all_left [] = refl
  all_left (c ∷ cs) = ap (λ b. cond b (collections_left m cs) (c ∷ cs)) (stays c)

  no_opening : (cs : List OpenBlock) → collection_to_open m cs ≡ None
  no_opening cs = not_opened (nat_lt 0 m.piece.depth || is_document_marker m.piece.kind) (is_in_mapping m) (not (is_in true m.piece.start.col cs)) (is_entry m.piece.kind) (not (is_in false m.piece.start.col cs)) mapping entry

  open_is : (cs : List OpenBlock) → open_behind m cs ≡ cs
  open_is cs = ap (λ new. with_collection new m.piece.start.col (collections_left m cs)) (no_opening (collections_left m cs)) ∙ all_left cs

  marks_are : (i : ℕ) (cs : List OpenBlock) → marks_at m i cs ≡ One m.piece.kind i ∷ []
  marks_are i cs =
      ap (λ ws. ws ++ opening (collection_to_open m (collections_left m cs)) i ++ key_mark m.begins_key i ++ One m.piece.kind i ∷ []) (no_closings cs)
      ∙ ap (λ new. opening new i ++ key_mark m.begins_key i ++ One m.piece.kind i ∷ []) (no_opening (collections_left m cs))
      ∙ ap (λ b. key_mark b i ++ One m.piece.kind i ∷ []) begins

pub unmarked_open : (m : Marking) (cs : List OpenBlock) → may_have_marks m ≡ false → open_behind m cs ≡ cs
unmarked_open m cs none = open_is m none cs

pub unmarked_marks : (m : Marking) (i : ℕ) (cs : List OpenBlock) → may_have_marks m ≡ false → marks_at m i cs ≡ One m.piece.kind i ∷ []
unmarked_marks m i cs none = marks_are m none i cs

pub with_marks : (ws closed opened key one marked all : List Symbol) → marked ≡ ws ++ closed ++ opened ++ key → all ≡ marked ++ one → all ≡ ws ++ (closed ++ opened ++ key ++ one)
with_marks ws closed opened key one marked all h g =
    g ∙ ap (λ l. l ++ one) h ∙ ap (λ l. l ++ key ++ one) (append_assoc ws closed opened) ∙ ap (λ l. l ++ one) (append_assoc ws (closed ++ opened) key)
    ∙ append_assoc ws (closed ++ opened ++ key) one

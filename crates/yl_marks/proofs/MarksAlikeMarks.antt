-- Marks and facts of keyed lexemes do not depend on lines, and move with the indices of the
-- lexemes.
use Rattle.std.proofs.Common.{◌≡◌, ◌+◌, ℕ, suc, Bool, true, false, cond, not, ◌&&◌, ◌||◌, List, [], ◌∷◌, ◌++◌, Option, Some, None, refl, sym, ◌∙◌, ap, arith, eqb, ltb, map, slice_get}
use Rattle.std.proofs.lemmas.List.{map-append}
use Rattle.yl_lexeme.specs.Lexeme.{is_document_marker, is_entry, is_key, is_value}
use Rattle.yl_marks.specs.declared.symbol.Symbol.{Symbol}
use Rattle.yl_marks.specs.declared.symbol.Symbol.TheVariants.{Close, One}
use Rattle.yl_marks.specs.declared.symbol.KeyedToken.{KeyedToken}
use Rattle.yl_marks.specs.declared.symbol.OpenBlock.{OpenBlock}
use Rattle.yl_marks.specs.declared.symbol.Marking.{Marking}
use Rattle.yl_marks.specs.declared.facts.KeyFacts.{KeyFacts}
use Rattle.yl_marks.specs.Marks.{is_in_mapping, closes_collection, collections_left, closings, is_in, collection_to_open, with_collection, opening, is_at, begins_key, key_mark, marks_at, open_behind, marking, marks, open_behind_all, closings_of_all}
use Rattle.yl_marks.specs.FactsByLine.{has_key, fact_by, next_ahead, facts_ahead, ahead_of_all}
use Rattle.yl_marks.specs.MarksAlike.{symbol_after}
use Rattle.yl_marks.proofs.MarksAlikeKeys.{same_place, is_some-map, choice}
use Rattle.yl_marks.proofs.MarksAlikePieces.{key_after, piece_after, pieces_after}

abbrev pub symbols_after : ℕ → List Symbol → List Symbol
symbols_after n ws = map (symbol_after n) ws

abbrev marking_after : ℕ → Marking → Marking
marking_after n m = record { piece = piece_after n m.piece; begins_key = m.begins_key }

module _ (n : ℕ) where
  -- ---- whether a key begins at a lexeme

  at_moved : (i : ℕ) (key : Option ℕ) → is_at (n + i) (key_after n key) ≡ is_at i key
  at_moved i None = refl
  at_moved i (Some k) = same_place n k i

  begins_moved : (i : ℕ) (ps : List KeyedToken) → begins_key (n + i) (pieces_after n ps) ≡ begins_key i ps
  begins_moved i [] = refl
  begins_moved i (p ∷ ps) = ap (λ b. b || begins_key (n + i) (pieces_after n ps)) (at_moved i p.key) ∙ ap (λ b. is_at i p.key || b) (begins_moved i ps)

  marking_moved : (all : List KeyedToken) (i : ℕ) (p : KeyedToken) → marking (pieces_after n all) (n + i) (piece_after n p) ≡ marking_after n (marking all i p)
  marking_moved all i p = ap (λ b. record { piece = piece_after n p; begins_key = b }) (begins_moved i all)

  -- ---- what a lexeme closes and opens

  mapping_moved : (m : Marking) → is_in_mapping (marking_after n m) ≡ is_in_mapping m
  mapping_moved m = ap (λ b. m.begins_key || is_key m.piece.kind || (is_value m.piece.kind && not b)) (is_some-map (λ k. n + k) m.piece.key)

  closes_moved : (m : Marking) (c : OpenBlock) → closes_collection (marking_after n m) c ≡ closes_collection m c
  closes_moved m c =
      ap (λ b. is_document_marker m.piece.kind || (eqb m.piece.depth 0 && m.piece.is_first
      && (ltb m.piece.start.col c.column || (eqb c.column m.piece.start.col && not (is_entry m.piece.kind || (c.is_mapping && b)))))) (mapping_moved m)

  left_moved : (m : Marking) (cs : List OpenBlock) → collections_left (marking_after n m) cs ≡ collections_left m cs
  left_moved m [] = refl
  left_moved m (c ∷ cs) =
      ap (λ b. cond b (collections_left (marking_after n m) cs) (c ∷ cs)) (closes_moved m c)
      ∙ ap (λ os. cond (closes_collection m c) os (c ∷ cs)) (left_moved m cs)

  to_open_moved : (m : Marking) (cs : List OpenBlock) → collection_to_open (marking_after n m) cs ≡ collection_to_open m cs
  to_open_moved m cs =
      ap (λ b. cond (ltb 0 m.piece.depth || is_document_marker m.piece.kind) None
      (cond (b && not (is_in true m.piece.start.col cs)) (Some true)
      (cond (is_entry m.piece.kind && not (is_in false m.piece.start.col cs)) (Some false) None))) (mapping_moved m)

  new_moved : (m : Marking) (cs : List OpenBlock) → collection_to_open (marking_after n m) (collections_left (marking_after n m) cs) ≡ collection_to_open m (collections_left m cs)
  new_moved m cs = ap (collection_to_open (marking_after n m)) (left_moved m cs) ∙ to_open_moved m (collections_left m cs)

  open_moved : (m : Marking) (cs : List OpenBlock) → open_behind (marking_after n m) cs ≡ open_behind m cs
  open_moved m cs =
      ap (λ new. with_collection new m.piece.start.col (collections_left (marking_after n m) cs)) (new_moved m cs)
      ∙ ap (with_collection (collection_to_open m (collections_left m cs)) m.piece.start.col) (left_moved m cs)

  -- ---- the marks of a lexeme

  closings_moved : (m : Marking) (cs : List OpenBlock) → closings (marking_after n m) cs ≡ symbols_after n (closings m cs)
  closings_moved m [] = refl
  closings_moved m (c ∷ cs) =
      ap (λ b. cond b (Close ∷ closings (marking_after n m) cs) []) (closes_moved m c)
      ∙ choice (symbols_after n) (closes_collection m c) (Close ∷ closings m cs) [] _ _ (ap (λ ws. Close ∷ ws) (closings_moved m cs)) refl

  opening_moved : (new : Option Bool) (i : ℕ) → opening new (n + i) ≡ symbols_after n (opening new i)
  opening_moved None i = refl
  opening_moved (Some true) i = refl
  opening_moved (Some false) i = refl

  key_moved : (b : Bool) (i : ℕ) → key_mark b (n + i) ≡ symbols_after n (key_mark b i)
  key_moved true i = refl
  key_moved false i = refl

  pub closed_alike : (cs : List OpenBlock) → symbols_after n (closings_of_all cs) ≡ closings_of_all cs
  closed_alike [] = refl
  closed_alike (c ∷ cs) = ap (λ ws. Close ∷ ws) (closed_alike cs)

  pub both_moved : (vs ws xs ys : List Symbol) → vs ≡ symbols_after n xs → ws ≡ symbols_after n ys → vs ++ ws ≡ symbols_after n (xs ++ ys)
  both_moved vs ws xs ys p q = ap (λ l. l ++ ws) p ∙ ap (λ l. symbols_after n xs ++ l) q ∙ sym (map-append (symbol_after n) xs ys)

  one_moved : (m : Marking) (i : ℕ) (cs : List OpenBlock) → marks_at (marking_after n m) (n + i) cs ≡ symbols_after n (marks_at m i cs)
  one_moved m i cs =
      let new = collection_to_open m (collections_left m cs) in
      let opened = ap (λ o. opening o (n + i)) (new_moved m cs) ∙ opening_moved new i in
      both_moved _ _ (closings m cs ++ opening new i ++ key_mark m.begins_key i) (One m.piece.kind i ∷ [])
      (both_moved _ _ (closings m cs ++ opening new i) (key_mark m.begins_key i) (both_moved _ _ (closings m cs) (opening new i) (closings_moved m cs) opened) (key_moved m.begins_key i)) refl

  -- ---- of all

  pub marks_moved : (all : List KeyedToken) (cs : List OpenBlock) (i : ℕ) (ps : List KeyedToken) →
      marks (pieces_after n all) cs (n + i) (pieces_after n ps) ≡ symbols_after n (marks all cs i ps)
  marks_moved all cs i [] = refl
  marks_moved all cs i (p ∷ ps) =
      let m = marking all i p in
      let rest = pieces_after n ps in
      ap (λ r. marks_at r (n + i) cs ++ marks (pieces_after n all) (open_behind r cs) (suc (n + i)) rest) (marking_moved all i p)
      ∙ ap (λ os. marks_at (marking_after n m) (n + i) cs ++ marks (pieces_after n all) os (suc (n + i)) rest) (open_moved m cs)
      ∙ ap (λ k. marks_at (marking_after n m) (n + i) cs ++ marks (pieces_after n all) (open_behind m cs) k rest) {x = suc (n + i)} {y = n + suc i} (omega arith)
      ∙ both_moved _ _ (marks_at m i cs) (marks all (open_behind m cs) (suc i) ps) (one_moved m i cs) (marks_moved all (open_behind m cs) (suc i) ps)

  pub all_open_moved : (all : List KeyedToken) (cs : List OpenBlock) (i : ℕ) (ps : List KeyedToken) →
      open_behind_all (pieces_after n all) cs (n + i) (pieces_after n ps) ≡ open_behind_all all cs i ps
  all_open_moved all cs i [] = refl
  all_open_moved all cs i (p ∷ ps) =
      let m = marking all i p in
      let rest = pieces_after n ps in
      ap (λ r. open_behind_all (pieces_after n all) (open_behind r cs) (suc (n + i)) rest) (marking_moved all i p)
      ∙ ap (λ os. open_behind_all (pieces_after n all) os (suc (n + i)) rest) (open_moved m cs)
      ∙ ap (λ k. open_behind_all (pieces_after n all) (open_behind m cs) k rest) {x = suc (n + i)} {y = n + suc i} (omega arith)
      ∙ all_open_moved all (open_behind m cs) (suc i) ps

  next_moved : (ps : List KeyedToken) → has_key (slice_get (pieces_after n ps) 0) ≡ has_key (slice_get ps 0)
  next_moved [] = refl
  next_moved (p ∷ ps) = is_some-map (λ k. n + k) p.key

  pub facts_moved : (ahead : KeyFacts) (all : List KeyedToken) (i : ℕ) (ps : List KeyedToken) →
      facts_ahead ahead (pieces_after n all) (n + i) (pieces_after n ps) ≡ facts_ahead ahead all i ps
  facts_moved ahead all i [] = refl
  facts_moved ahead all i (p ∷ ps) =
      let m = marking all i p in
      let rest = pieces_after n ps in
      ap (λ r. fact_by ahead r (slice_get rest 0) ∷ facts_ahead (next_ahead ahead r) (pieces_after n all) (suc (n + i)) rest) (marking_moved all i p)
      ∙ ap (λ b. record { is_key = b || ahead.is_key; has_tag = not m.begins_key && ahead.has_tag } ∷ facts_ahead (next_ahead ahead m) (pieces_after n all) (suc (n + i)) rest) (next_moved ps)
      ∙ ap (λ k. fact_by ahead m (slice_get ps 0) ∷ facts_ahead (next_ahead ahead m) (pieces_after n all) k rest) {x = suc (n + i)} {y = n + suc i} (omega arith)
      ∙ ap (λ fs. fact_by ahead m (slice_get ps 0) ∷ fs) (facts_moved (next_ahead ahead m) all (suc i) ps)

  pub ahead_moved : (ahead : KeyFacts) (all : List KeyedToken) (i : ℕ) (ps : List KeyedToken) →
      ahead_of_all ahead (pieces_after n all) (n + i) (pieces_after n ps) ≡ ahead_of_all ahead all i ps
  ahead_moved ahead all i [] = refl
  ahead_moved ahead all i (p ∷ ps) =
      let m = marking all i p in
      let rest = pieces_after n ps in
      ap (λ r. ahead_of_all (next_ahead ahead r) (pieces_after n all) (suc (n + i)) rest) (marking_moved all i p)
      ∙ ap (λ k. ahead_of_all (next_ahead ahead m) (pieces_after n all) k rest) {x = suc (n + i)} {y = n + suc i} (omega arith)
      ∙ ahead_moved (next_ahead ahead m) all (suc i) ps

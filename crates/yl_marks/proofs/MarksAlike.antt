-- Rows after equal states are marked alike.
use Rattle.std.proofs.Common.{◌≡◌, ◌+◌, ℕ, List, [], ◌∷◌, ◌++◌, Option, length, refl, sym, ◌∙◌, ap, arith}
use Rattle.std.specs.Prelude.{option_map}
use Rattle.std.proofs.lemmas.List.{length-map, map-append}
use Rattle.yl_lexeme.specs.declared.lexeme.Kind.{Kind}
use Rattle.yl_marks.specs.declared.token.Token.{Token}
use Rattle.yl_marks.specs.declared.symbol.Symbol.{Symbol}
use Rattle.yl_marks.specs.declared.symbol.KeyedToken.{KeyedToken}
use Rattle.yl_marks.specs.declared.symbol.OpenBlock.{OpenBlock}
use Rattle.yl_marks.specs.declared.facts.KeyFacts.{KeyFacts}
use Rattle.yl_marks.specs.Marks.{marks, open_behind_all, closings_of_all}
use Rattle.yl_marks.specs.ByLine.{depth_behind_all, keyed_tokens_of_line, marks_of_line, marks_by_lines}
use Rattle.yl_marks.specs.FactsByLine.{KeyMarkerValue, facts_ahead, ahead_of_all, facts_of_line, behind_keyed_line, facts_by_lines}
use Rattle.yl_marks.specs.MarksAlike.{token_below, row_below, rows_below, symbol_after, KeyMarkerState, key_marker_state, IsAbove, after_rows, marks_of_rows, AreMarkedAlike}
use Rattle.yl_marks.proofs.MarksAlikePieces.{pieces_after, AreLatestAlike, above_alike, ArePiecesAlike, pieces_alike, depth_below}
use Rattle.yl_marks.proofs.MarksAlikeMarks.{symbols_after, closed_alike, both_moved, marks_moved, all_open_moved, facts_moved, ahead_moved}

-- na lexemes more than a counts are as many as nb more than b counts, and of rows below lines i and
-- j both say the same
pub record AreAlike (na nb i j : ℕ) (a b : KeyMarkerValue) : Type 0 where
  pub count : na + a.marks.count ≡ nb + b.marks.count
  pub depth : a.marks.depth ≡ b.marks.depth
  pub latest : AreLatestAlike i j a.marks.latest b.marks.latest
  pub open_ones : a.marks.open_ones ≡ b.marks.open_ones
  pub ahead : a.ahead ≡ b.ahead

abbrev state_of : ℕ → Option Kind → List OpenBlock → KeyFacts → KeyMarkerState
state_of depth latest open_ones ahead = record { marks = record { depth = depth; latest = latest; open_ones = open_ones }; ahead = ahead }

module _ (na nb i j : ℕ) where
  -- ---- a row

  module _ (a b : KeyMarkerValue) (h : AreAlike na nb i j a b) (xs : List Token) where
    abbrev ps : List KeyedToken
    ps = keyed_tokens_of_line a.marks (row_below i xs)

    abbrev qs : List KeyedToken
    qs = keyed_tokens_of_line b.marks (row_below j xs)

    row : ArePiecesAlike na nb i j ps qs a.marks.latest b.marks.latest
    row = pieces_alike na nb i j a.marks.count b.marks.count a.marks.depth b.marks.depth a.marks.latest b.marks.latest [] [] xs h.count h.depth h.latest refl

    pub marks_of_row : symbols_after na (marks_of_line a.marks (row_below i xs)) ≡ symbols_after nb (marks_of_line b.marks (row_below j xs))
    marks_of_row =
        sym (marks_moved na ps a.marks.open_ones a.marks.count ps)
        ∙ ap (λ l. marks l a.marks.open_ones (na + a.marks.count) l) row.pieces
        ∙ ap (λ os. marks (pieces_after nb qs) os (na + a.marks.count) (pieces_after nb qs)) h.open_ones
        ∙ ap (λ n. marks (pieces_after nb qs) b.marks.open_ones n (pieces_after nb qs)) h.count
        ∙ marks_moved nb qs b.marks.open_ones b.marks.count qs

    pub facts_of_row : facts_of_line a (row_below i xs) ≡ facts_of_line b (row_below j xs)
    facts_of_row =
        sym (facts_moved na a.ahead ps a.marks.count ps)
        ∙ ap (λ l. facts_ahead a.ahead l (na + a.marks.count) l) row.pieces
        ∙ ap (λ f. facts_ahead f (pieces_after nb qs) (na + a.marks.count) (pieces_after nb qs)) h.ahead
        ∙ ap (λ n. facts_ahead b.ahead (pieces_after nb qs) n (pieces_after nb qs)) h.count
        ∙ facts_moved nb b.ahead qs b.marks.count qs

    open_after : open_behind_all ps a.marks.open_ones a.marks.count ps ≡ open_behind_all qs b.marks.open_ones b.marks.count qs
    open_after =
        sym (all_open_moved na ps a.marks.open_ones a.marks.count ps)
        ∙ ap (λ l. open_behind_all l a.marks.open_ones (na + a.marks.count) l) row.pieces
        ∙ ap (λ os. open_behind_all (pieces_after nb qs) os (na + a.marks.count) (pieces_after nb qs)) h.open_ones
        ∙ ap (λ n. open_behind_all (pieces_after nb qs) b.marks.open_ones n (pieces_after nb qs)) h.count
        ∙ all_open_moved nb qs b.marks.open_ones b.marks.count qs

    ahead_after : ahead_of_all a.ahead ps a.marks.count ps ≡ ahead_of_all b.ahead qs b.marks.count qs
    ahead_after =
        sym (ahead_moved na a.ahead ps a.marks.count ps)
        ∙ ap (λ l. ahead_of_all a.ahead l (na + a.marks.count) l) row.pieces
        ∙ ap (λ f. ahead_of_all f (pieces_after nb qs) (na + a.marks.count) (pieces_after nb qs)) h.ahead
        ∙ ap (λ n. ahead_of_all b.ahead (pieces_after nb qs) n (pieces_after nb qs)) h.count
        ∙ ahead_moved nb b.ahead qs b.marks.count qs

    pub alike_after : AreAlike na nb i j (behind_keyed_line a (row_below i xs)) (behind_keyed_line b (row_below j xs))
    alike_after = record {
      count =
          let n : length (row_below i xs) ≡ length xs = length-map xs (token_below i) in
          let m : length (row_below j xs) ≡ length xs = length-map xs (token_below j) in
          let c : na + a.marks.count ≡ nb + b.marks.count = h.count in
          omega arith;
      depth = depth_below i a.marks.depth xs ∙ ap (λ d. depth_behind_all d xs) h.depth ∙ sym (depth_below j b.marks.depth xs);
      latest = row.latest;
      open_ones = open_after;
      ahead = ahead_after;
    }

  -- ---- rows

  both_alike : (vs ws xs ys : List Symbol) → symbols_after na vs ≡ symbols_after nb xs → symbols_after na ws ≡ symbols_after nb ys → symbols_after na (vs ++ ws) ≡ symbols_after nb (xs ++ ys)
  both_alike vs ws xs ys p q = map-append (symbol_after na) vs ws ∙ both_moved nb (symbols_after na vs) (symbols_after na ws) xs ys p q

  pub marks_alike : (a b : KeyMarkerValue) (rows : List (List Token)) → AreAlike na nb i j a b →
      symbols_after na (marks_by_lines a.marks (rows_below i rows)) ≡ symbols_after nb (marks_by_lines b.marks (rows_below j rows))
  marks_alike a b [] h = closed_alike na a.marks.open_ones ∙ ap (λ os. closings_of_all os) h.open_ones ∙ sym (closed_alike nb b.marks.open_ones)
  marks_alike a b (x ∷ rows) h =
      both_alike (marks_of_line a.marks (row_below i x)) _ (marks_of_line b.marks (row_below j x)) _ (marks_of_row a b h x)
      (marks_alike (behind_keyed_line a (row_below i x)) (behind_keyed_line b (row_below j x)) rows (alike_after a b h x))

  pub marks_alone_alike : (a b : KeyMarkerValue) (rows : List (List Token)) → AreAlike na nb i j a b →
      symbols_after na (marks_of_rows a.marks (rows_below i rows)) ≡ symbols_after nb (marks_of_rows b.marks (rows_below j rows))
  marks_alone_alike a b [] h = refl
  marks_alone_alike a b (x ∷ rows) h =
      both_alike (marks_of_line a.marks (row_below i x)) _ (marks_of_line b.marks (row_below j x)) _ (marks_of_row a b h x)
      (marks_alone_alike (behind_keyed_line a (row_below i x)) (behind_keyed_line b (row_below j x)) rows (alike_after a b h x))

  pub facts_alike : (a b : KeyMarkerValue) (rows : List (List Token)) → AreAlike na nb i j a b → facts_by_lines a (rows_below i rows) ≡ facts_by_lines b (rows_below j rows)
  facts_alike a b [] h = refl
  facts_alike a b (x ∷ rows) h =
      let a' = behind_keyed_line a (row_below i x) in
      let b' = behind_keyed_line b (row_below j x) in
      ap (λ fs. fs ++ facts_by_lines a' (rows_below i rows)) (facts_of_row a b h x)
      ∙ ap (λ fs. facts_of_line b (row_below j x) ++ fs) (facts_alike a' b' rows (alike_after a b h x))

  pub state_alike : (a b : KeyMarkerValue) (rows : List (List Token)) → AreAlike na nb i j a b →
      key_marker_state (after_rows a (rows_below i rows)) ≡ key_marker_state (after_rows b (rows_below j rows))
  state_alike a b [] h =
      ap (λ d. state_of d (option_map (λ p. p.kind) a.marks.latest) a.marks.open_ones a.ahead) h.depth
      ∙ ap (λ k. state_of b.marks.depth k a.marks.open_ones a.ahead) h.latest.kinds
      ∙ ap (λ os. state_of b.marks.depth (option_map (λ p. p.kind) b.marks.latest) os a.ahead) h.open_ones
      ∙ ap (λ f. state_of b.marks.depth (option_map (λ p. p.kind) b.marks.latest) b.marks.open_ones f) h.ahead
  state_alike a b (x ∷ rows) h = state_alike (behind_keyed_line a (row_below i x)) (behind_keyed_line b (row_below j x)) rows (alike_after a b h x)

pub marked_alike : (a b : KeyMarkerValue) (i j : ℕ) (rows : List (List Token)) →
    key_marker_state a ≡ key_marker_state b → IsAbove i a.marks → IsAbove j b.marks → AreMarkedAlike a b i j rows
marked_alike a b i j rows e g h =
    let alike : AreAlike b.marks.count a.marks.count i j a b = record {
      count = omega arith;
      depth = ap (λ s. s.marks.depth) e;
      latest = above_alike i j a.marks.latest b.marks.latest (ap (λ s. s.marks.latest) e) g h;
      open_ones = ap (λ s. s.marks.open_ones) e;
      ahead = ap (λ s. s.ahead) e;
    } in
    record {
      marks = marks_alike b.marks.count a.marks.count i j a b rows alike;
      alone = marks_alone_alike b.marks.count a.marks.count i j a b rows alike;
      facts = facts_alike b.marks.count a.marks.count i j a b rows alike;
      after = state_alike b.marks.count a.marks.count i j a b rows alike;
    }

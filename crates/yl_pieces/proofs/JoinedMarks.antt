-- The marks of rows and then those of the rows after them, and what is known of the lexemes then.
use Rattle.std.proofs.Common.{◌≡◌, ◌≤◌, ◌<◌, ◌+◌, ℕ, suc, Bool, true, false, List, [], ◌∷◌, ◌++◌, length, map, Option, Some, None, refl, sym, ◌∙◌, ap, append_assoc, zero-add, arith}
use Rattle.std.specs.Prelude.{IfSome, option_map}
use Rattle.std.specs.List.{AllByRecursion}
use Rattle.std.proofs.lemmas.List.{length-append}
use Rattle.yl_text.proofs.Every.{all_back, all_front}
use Rattle.yl_lexeme.specs.declared.lexeme.Kind.{Kind}
use Rattle.yl_lexeme.specs.Keys.{Spot, key_start}
use Rattle.yl_marks.specs.declared.token.Token.{Token}
use Rattle.yl_marks.specs.declared.symbol.Symbol.{Symbol}
use Rattle.yl_marks.specs.declared.symbol.Symbol.TheVariants.{OpenSequence, OpenMapping, BeginKey, Close, One}
use Rattle.yl_marks.specs.declared.symbol.KeyedToken.{KeyedToken}
use Rattle.yl_marks.specs.declared.symbol.KeyStart.{KeyStart}
use Rattle.yl_marks.specs.declared.facts.KeyFacts.{KeyFacts}
use Rattle.yl_marks.specs.Keys.{depth_behind, keyed_token_at, place_of}
use Rattle.yl_marks.specs.ByLine.{HaveIndices, MarkerValue, behind_line, by_line, latest_of, line_pieces, marks_of_line}
use Rattle.yl_marks.specs.FactsByLine.{KeyMarkerValue, behind_keyed_line, facts_by_lines, facts_of_line}
use Rattle.yl_marks.specs.MarksAlike.{IsAbove, KeyMarkerState, after_rows, key_marker_state, marks_of_rows, symbol_after}
use Rattle.yl_marks.proofs.Indices.{indices_of_both, indices_of_line}
use Rattle.yl_marks.proofs.Runs.{joined, joined_lines}
use Rattle.yl_events.specs.Derives.{lexeme_count}
use Rattle.yl_events.specs.SymbolParsing.{is_whole}
use Rattle.yl_events.proofs.Counts.{line_count, line_whole}
use Rattle.yl_indentation.specs.LineFacts.{NameIndices}
use Rattle.yl_indentation.proofs.NamedIndices.{names_of_both, names_of_line}
use Rattle.yl_sections.proofs.Lines.{keys_long}
use Rattle.yl_pieces.specs.State.{keyed_above, marker_from}
use Rattle.yl_pieces.proofs.JoinedLines.{StandsAbove}

-- ---- rows after one another

pub marks_both : (k : KeyMarkerValue) (front rest : List (List Token)) → marks_of_rows k.marks (front ++ rest) ≡ marks_of_rows k.marks front ++ marks_of_rows (after_rows k front).marks rest
marks_both k [] rest = refl
marks_both k (x ∷ front) rest =
    let here = marks_of_line k.marks x in
    let next = behind_keyed_line k x in
    ap (λ (ws : List Symbol). here ++ ws) (marks_both next front rest)
    ∙ sym (append_assoc here (marks_of_rows next.marks front) (marks_of_rows (after_rows next front).marks rest))

pub keys_both : (k : KeyMarkerValue) (front rest : List (List Token)) → facts_by_lines k (front ++ rest) ≡ facts_by_lines k front ++ facts_by_lines (after_rows k front) rest
keys_both k [] rest = refl
keys_both k (x ∷ front) rest =
    let here = facts_of_line k x in
    let next = behind_keyed_line k x in
    ap (λ (ks : List KeyFacts). here ++ ks) (keys_both next front rest)
    ∙ sym (append_assoc here (facts_by_lines next front) (facts_by_lines (after_rows next front) rest))

pub rows_both : (k : KeyMarkerValue) (front rest : List (List Token)) → after_rows k (front ++ rest) ≡ after_rows (after_rows k front) rest
rows_both k [] rest = refl
rows_both k (x ∷ front) rest = rows_both (behind_keyed_line k x) front rest

-- ---- counts

pub count_after : (k : KeyMarkerValue) (rows : List (List Token)) → (after_rows k rows).marks.count ≡ k.marks.count + length (joined rows)
count_after k [] = omega arith
count_after k (x ∷ rows) = omega (arith, count_after (behind_keyed_line k x) rows, length-append x (joined rows))

count_both : (ws vs : List Symbol) → lexeme_count (ws ++ vs) ≡ lexeme_count ws + lexeme_count vs
count_both [] vs = omega arith
count_both (One kind i ∷ ws) vs = omega (arith, count_both ws vs)
count_both (w ∷ ws) vs = count_both ws vs

pub marks_count : (m : MarkerValue) (rows : List (List Token)) → lexeme_count (marks_of_rows m rows) ≡ length (joined rows)
marks_count m [] = refl
marks_count m (x ∷ rows) =
    omega (arith, count_both (marks_of_line m x) (marks_of_rows (behind_line m x) rows), line_count m x, marks_count (behind_line m x) rows, length-append x (joined rows))

pub keys_count : (k : KeyMarkerValue) (rows : List (List Token)) → length (facts_by_lines k rows) ≡ length (joined rows)
keys_count k [] = refl
keys_count k (x ∷ rows) =
    omega (arith, length-append (facts_of_line k x) (facts_by_lines (behind_keyed_line k x) rows), keys_long k x, keys_count (behind_keyed_line k x) rows, length-append x (joined rows))

pub length-joined : (xs : List Token) → length (joined (by_line xs)) ≡ length xs
length-joined xs = ap (λ (ys : List Token). length ys) (joined_lines xs)

-- ---- no mark stands after the last lexeme

whole_both : (b : Bool) (ws vs : List Symbol) → is_whole b ws ≡ true → is_whole true vs ≡ true → is_whole b (ws ++ vs) ≡ true
whole_both b [] vs h g = ap (λ (c : Bool). is_whole c vs) h ∙ g
whole_both b (One kind i ∷ ws) vs h g = whole_both true ws vs h g
whole_both b (w ∷ ws) vs h g = whole_both false ws vs h g

pub marks_whole : (m : MarkerValue) (rows : List (List Token)) → is_whole true (marks_of_rows m rows) ≡ true
marks_whole m [] = refl
marks_whole m (x ∷ rows) = whole_both true (marks_of_line m x) (marks_of_rows (behind_line m x) rows) (line_whole m x) (marks_whole (behind_line m x) rows)

-- ---- the indices of the rows' lexemes

module _ (Is : ℕ → Type 0) where
  pub indices_of_rows : (m : MarkerValue) (rows : List (List Token)) → ((j : ℕ) → m.count ≤ j → j < m.count + length (joined rows) → Is j) → HaveIndices Is (marks_of_rows m rows)
  indices_of_rows m [] h = tt
  indices_of_rows m (x ∷ rows) h =
      let n : length (x ++ joined rows) ≡ length x + length (joined rows) = length-append x (joined rows) in
      indices_of_both Is (marks_of_line m x) (marks_of_rows (behind_line m x) rows) (indices_of_line Is m x (λ j l k. h j l (omega (arith, k, n))))
      (indices_of_rows (behind_line m x) rows
      (λ j l k. h j (let least : m.count + length x ≤ j = l in omega (arith, least)) (let most : j < m.count + length x + length (joined rows) = k in omega (arith, most, n))))

  more_named : (Other : ℕ → Type 0) → ((i : ℕ) → Other i → Is i) → (ws : List Symbol) → NameIndices Other ws → NameIndices Is ws
  more_named Other f [] h = tt
  more_named Other f (OpenSequence i ∷ ws) h = (f i h.0, more_named Other f ws h.1)
  more_named Other f (OpenMapping i ∷ ws) h = (f i h.0, more_named Other f ws h.1)
  more_named Other f (BeginKey i ∷ ws) h = more_named Other f ws h
  more_named Other f (Close ∷ ws) h = more_named Other f ws h
  more_named Other f (One kind i ∷ ws) h = (f i h.0, more_named Other f ws h.1)

  pub names_of_rows : (m : MarkerValue) (rows : List (List Token)) → ((j : ℕ) → m.count ≤ j → j < m.count + length (joined rows) → Is j) → NameIndices Is (marks_of_rows m rows)
  names_of_rows m [] h = tt
  names_of_rows m (x ∷ rows) h =
      let n : length (x ++ joined rows) ≡ length x + length (joined rows) = length-append x (joined rows) in
      names_of_both Is (marks_of_line m x) (marks_of_rows (behind_line m x) rows)
      (more_named (λ i. (m.count ≤ i) × (i < m.count + length x)) (λ j l. h j l.0 (let most : j < m.count + length x = l.1 in omega (arith, most, n))) (marks_of_line m x)
      (names_of_line m x m.count (length x) refl refl))
      (names_of_rows (behind_line m x) rows
      (λ j l k. h j (let least : m.count + length x ≤ j = l in omega (arith, least)) (let most : j < m.count + length x + length (joined rows) = k in omega (arith, most, n))))

-- ---- the latest lexeme stands above

module _ (high : ℕ) where
  abbrev EndsUp : Option KeyedToken → Type 0
  EndsUp latest = IfSome latest (λ p. (p.start.line < high) × (p.end_line < high))

  latest_above : (count depth : ℕ) (latest : Option KeyedToken) (line : List (Spot KeyStart)) (xs : List Token) → EndsUp latest → AllByRecursion (StandsAbove high) xs
      → EndsUp (latest_of latest (line_pieces count depth latest line xs))
  latest_above count depth latest line [] h a = h
  latest_above count depth latest line (x ∷ xs) h a =
      let p = keyed_token_at x depth latest (key_start line) in
      latest_above (suc count) (depth_behind x.kind depth) (Some p) (record { kind = x.kind; start = place_of count p } ∷ line) xs a.0 a.1

  pub rows_above : (k : KeyMarkerValue) (rows : List (List Token)) → IsAbove high k.marks → AllByRecursion (StandsAbove high) (joined rows) → IsAbove high (after_rows k rows).marks
  rows_above k [] h a = h
  rows_above k (x ∷ rows) h a =
      rows_above (behind_keyed_line k x) rows (latest_above k.marks.count k.marks.depth k.marks.latest [] x h (all_front (StandsAbove high) x (joined rows) a))
      (all_back (StandsAbove high) x (joined rows) a)

  kinds_above : (latest : Option Kind) → 0 < high → EndsUp (option_map keyed_above latest)
  kinds_above None h = tt
  kinds_above (Some kind) h = (h, h)

  pub from_above : (s : KeyMarkerState) → 0 < high → IsAbove high (marker_from s).marks
  from_above s h = kinds_above s.marks.latest h

-- ---- a marker with a state has that state

same_kind : (latest : Option Kind) → option_map (λ (p : KeyedToken). p.kind) (option_map keyed_above latest) ≡ latest
same_kind None = refl
same_kind (Some kind) = refl

abbrev with_latest : KeyMarkerState → Option Kind → KeyMarkerState
with_latest s latest = record s { marks = record s.marks { latest = latest } }

pub same_marker : (s : KeyMarkerState) → key_marker_state (marker_from s) ≡ s
same_marker s = ap (with_latest s) (same_kind s.marks.latest)

-- ---- symbols of which no lexeme is counted before

same_symbol : (w : Symbol) → symbol_after 0 w ≡ w
same_symbol (OpenSequence i) = ap OpenSequence (zero-add i)
same_symbol (OpenMapping i) = ap OpenMapping (zero-add i)
same_symbol (BeginKey i) = ap BeginKey (zero-add i)
same_symbol Close = refl
same_symbol (One kind i) = ap (One kind) (zero-add i)

pub same_symbols : (ws : List Symbol) → map (symbol_after 0) ws ≡ ws
same_symbols [] = refl
same_symbols (w ∷ ws) = ap (λ (v : Symbol). v ∷ map (symbol_after 0) ws) (same_symbol w) ∙ ap (λ (vs : List Symbol). w ∷ vs) (same_symbols ws)

-- Machines that go on from a state tell of rows what that state tells.
use Rattle.std.proofs.Common.{◌≡◌, ◌<◌, ◌+◌, ℕ, Bool, false, cond, ◌&&◌, ◌||◌, List, [], ◌++◌, Option, Some, None, length, map, replicate, take, refl, sym, ◌∙◌, ap, arith}
use Rattle.std.specs.Prelude.{IfSome, option_map}
use Rattle.std.specs.Option.{option_map_or}
use Rattle.std.proofs.lemmas.List.{length-map, length-replicate, map-append, take-map}
use Rattle.yl_text.specs.Finding.{FindingValue}
use Rattle.yl_lexeme.specs.declared.lexeme.Kind.{Kind}
use Rattle.yl_lexeme.specs.Lexeme.{LexemeValue}
use Rattle.yl_marks.specs.declared.facts.KeyFacts.{KeyFacts}
use Rattle.yl_marks.specs.declared.symbol.OpenBlock.{OpenBlock}
use Rattle.yl_marks.specs.declared.symbol.Symbol.{Symbol}
use Rattle.yl_marks.specs.declared.token.Token.{Token}
use Rattle.yl_marks.specs.Keys.{token_of}
use Rattle.yl_marks.specs.ByLine.{by_line}
use Rattle.yl_marks.specs.FactsByLine.{facts_by_lines}
use Rattle.yl_marks.specs.MarksAlike as marks
use Rattle.yl_marks.specs.MarksAlike.{AreMarkedAlike, KeyMarkerState, key_marker_state, marks_of_rows, symbol_after, token_below}
use Rattle.yl_marks.proofs.MarksAlike.{marked_alike}
use Rattle.yl_events.specs.ParsedAlike.{symbols_after}
use Rattle.yl_indentation.specs.FactsAlike as facts
use Rattle.yl_indentation.specs.FactsAlike.{AreToldAlike, ContextState, context_state}
use Rattle.yl_indentation.specs.SymbolFacts.{behind_symbols, facts_left}
use Rattle.yl_indentation.proofs.FactsAlike.{facts_are_alike}
use Rattle.yl_indentation.proofs.RowFacts.{after_first, facts_of_first}
use Rattle.yl_lexeme_rules.specs.declared.options.LexemeOptions.{LexemeOptions}
use Rattle.yl_lexeme_rules.specs.declared.state.LexemeRulesState.{LexemeRulesState}
use Rattle.yl_lexeme_rules.specs.Lexemes.{findings_behind, first_span}
use Rattle.yl_lexeme_rules.specs.LexemesAlike.{after_lexemes, lexeme_below, lexemes_state}
use Rattle.yl_lexeme_rules.specs.LexemesLeft.{IsVersion, findings_at_indicator, findings_waiting, lexemes_left}
use Rattle.yl_lexeme_rules.specs.Version.{is_1_2_document}
use Rattle.yl_lexeme_rules.proofs.LexemesAlike.{judged_alike}
use Rattle.yl_record.specs.Records.{RecordValue}
use Rattle.yl_sections.specs.Judging.{spaces_of}
use Rattle.yl_sections.specs.Sections.{lexemes_from}
use Rattle.yl_pieces.specs.State.{DocumentState, context_from, keyed_above, lexemes_from_state, marker_from, span_above, token_above}
use Rattle.yl_pieces.specs.Told.{keys_in, spaces_in, state_after, symbols_in, tokens_in, version_in}
use Rattle.yl_pieces.specs.Piece.{GoOnFrom, Machines, any_lexeme, lines_of, symbols_by, tokens_by}
use Rattle.yl_pieces.proofs.PieceMoved.{facts_there, findings_there, lexemes_there, lines_there, same_symbols, tokens_there}

-- ---- the machines of the definitions have that state

same_kind : (o : Option Kind) → option_map (λ p. p.kind) (option_map keyed_above o) ≡ o
same_kind None = refl
same_kind (Some k) = refl

abbrev marker_with : ℕ → Option Kind → List OpenBlock → KeyFacts → KeyMarkerState
marker_with depth latest open_ones ahead = record { marks = record { depth = depth; latest = latest; open_ones = open_ones }; ahead = ahead }

marker_there : (t : KeyMarkerState) → key_marker_state (marker_from t) ≡ t
marker_there t = ap (λ (k : Option Kind). marker_with t.marks.depth k t.marks.open_ones t.ahead) (same_kind t.marks.latest)

marker_above : (o : Option Kind) → IfSome (option_map keyed_above o) (λ p. (p.start.line < 1) × (p.end_line < 1))
marker_above None = tt
marker_above (Some k) = (omega arith, omega arith)

same_token : (o : Option Kind) → option_map (λ x. x.kind) (option_map token_above o) ≡ o
same_token None = refl
same_token (Some k) = refl

context_there : (t : ContextState) → context_state (context_from t) ≡ t
context_there t = ap (λ (k : Option Kind). record { open_ones = t.open_ones; latest = k; just_opened = t.just_opened }) (same_token t.latest)

context_above : (o : Option Kind) → IfSome (option_map token_above o) (λ x. x.end_line < 1)
context_above None = tt
context_above (Some k) = omega arith

same_span : (o : Option Kind) → option_map (λ x. x.kind) (option_map span_above o) ≡ o
same_span None = refl
same_span (Some k) = refl

lexemes_at : (t : LexemeRulesState) → lexemes_state (lexemes_from_state t) ≡ t
lexemes_at t = ap (λ (k : Option Kind). record { latest = k; is_1_2 = t.is_1_2; in_directives = t.in_directives }) (same_span t.latest)

lexemes_above : (o : Option Kind) → IfSome (option_map span_above o) (λ x. (x.start.line < 1) × (x.end_line < 1))
lexemes_above None = tt
lexemes_above (Some k) = (omega arith, omega arith)

-- ---- rows

module _ (s : DocumentState) (m : Machines) (h : GoOnFrom s m) (rs : List RecordValue) where
  abbrev first : List (List Token)
  first = by_line (tokens_in 0 rs)

  marked : AreMarkedAlike m.marker (marker_from s.marker) 1 1 first
  marked = marked_alike m.marker (marker_from s.marker) 1 1 first (h.marker.state ∙ sym (marker_there s.marker)) h.marker.above (marker_above s.marker.marks.latest)

  pub symbols_are : symbols_by m rs ≡ symbols_after m.marker.marks.count (symbols_in s 1 rs)
  symbols_are =
      sym (same_symbols (symbols_by m rs))
      ∙ (ap (λ (ls : List (List Token)). map (symbol_after 0) (marks_of_rows m.marker.marks ls)) (lines_there rs)
      ∙ (marked.alone ∙ ap (λ (ls : List (List Token)). map (symbol_after m.marker.marks.count) (marks_of_rows (marker_from s.marker).marks ls)) (sym (lines_there rs))))

  pub keys_are : facts_by_lines m.marker (lines_of rs) ≡ keys_in s 1 rs
  keys_are =
      ap (λ (ls : List (List Token)). facts_by_lines m.marker ls) (lines_there rs)
      ∙ (marked.facts ∙ ap (λ (ls : List (List Token)). facts_by_lines (marker_from s.marker) ls) (sym (lines_there rs)))

  pub marker_is : key_marker_state (marks.after_rows m.marker (lines_of rs)) ≡ (state_after s 1 rs).marker
  marker_is =
      ap (λ (ls : List (List Token)). key_marker_state (marks.after_rows m.marker ls)) (lines_there rs)
      ∙ (marked.after ∙ ap (λ (ls : List (List Token)). key_marker_state (marks.after_rows (marker_from s.marker) ls)) (sym (lines_there rs)))

  -- ---- the rule indentation

  abbrev above : List Token
  above = map token_of (replicate m.marker.marks.count any_lexeme)

  above_len : length above ≡ m.marker.marks.count
  above_len = length-map (replicate m.marker.marks.count any_lexeme) token_of ∙ length-replicate m.marker.marks.count any_lexeme

  told_alike : (counted : ℕ) → AreToldAlike m.context (context_from s.context) above [] (tokens_in 0 rs) (replicate 1 0) (replicate 1 0) (spaces_of rs) counted (symbols_in s 1 rs)
  told_alike counted =
      facts_are_alike m.context (context_from s.context) above [] (tokens_in 0 rs) (replicate 1 0) (replicate 1 0) (spaces_of rs) counted (symbols_in s 1 rs)
      (h.context ∙ sym (context_there s.context)) h.context_above (context_above s.context.latest)

  all_tokens : tokens_by m rs ≡ above ++ map (token_below 1) (tokens_in 0 rs)
  all_tokens = map-append token_of (replicate m.marker.marks.count any_lexeme) (lexemes_from 1 rs) ∙ ap (λ (ts : List Token). above ++ ts) (tokens_there rs)

  pub facts_are : (counted : ℕ) → facts_left m.context (tokens_by m rs) (m.marker.marks.count + counted) (spaces_in 1 rs) (symbols_by m rs)
      ≡ facts_left (context_from s.context) (tokens_in 1 rs) counted (spaces_in 1 rs) (symbols_in s 1 rs)
  facts_are counted =
      let c = m.context in
      let ns = spaces_in 1 rs in
      let ts = above ++ map (token_below 1) (tokens_in 0 rs) in
      let ws = symbols_in s 1 rs in
      ap (λ (us : List Token). facts_left c us (m.marker.marks.count + counted) ns (symbols_by m rs)) all_tokens
      ∙ (ap (λ (vs : List Symbol). facts_left c ts (m.marker.marks.count + counted) ns vs) symbols_are
      ∙ (ap (λ n. facts_left c ts (n + counted) ns (map (symbol_after n) ws)) (sym above_len)
      ∙ (facts_there (facts.facts_of_rows c above (replicate 1 0) (tokens_in 0 rs) counted (spaces_of rs) ws)
      (facts.facts_of_rows (context_from s.context) [] (replicate 1 0) (tokens_in 0 rs) counted (spaces_of rs) ws) (told_alike counted).facts
      ∙ (facts_of_first (replicate 1 0) (tokens_in 0 rs) (spaces_of rs) (context_from s.context) counted ws
      ∙ ap (λ (us : List Token). facts_left (context_from s.context) us counted ns ws) (sym (tokens_there rs))))))

  pub context_is : context_state (behind_symbols (tokens_by m rs) (spaces_in 1 rs) m.context (symbols_by m rs)) ≡ (state_after s 1 rs).context
  context_is =
      let c = m.context in
      let ns = spaces_in 1 rs in
      let ts = above ++ map (token_below 1) (tokens_in 0 rs) in
      let ws = symbols_in s 1 rs in
      ap (λ (us : List Token). context_state (behind_symbols us ns c (symbols_by m rs))) all_tokens
      ∙ (ap (λ (vs : List Symbol). context_state (behind_symbols ts ns c vs)) symbols_are
      ∙ (ap (λ n. context_state (behind_symbols ts ns c (map (symbol_after n) ws))) (sym above_len)
      ∙ ((told_alike 0).after
      ∙ (ap context_state (after_first (replicate 1 0) (tokens_in 0 rs) (spaces_of rs) (context_from s.context) ws)
      ∙ ap (λ (us : List Token). context_state (behind_symbols us ns (context_from s.context) ws)) (sym (tokens_there rs))))))

  -- ---- the rules on lexemes

  pub version_is : (xs : List LexemeValue) → IsVersion (version_in s xs) m.lexemes xs
  version_is xs =
      ap (λ (t : LexemeRulesState). t.is_1_2 || (t.in_directives && is_1_2_document xs)) (sym h.lexemes)

  none_waits : (o : LexemeOptions) (xs : List LexemeValue) → findings_waiting o m.lexemes (first_span xs) ≡ []
  none_waits o xs = ap (λ (b : Bool). cond b (option_map_or (λ x. findings_at_indicator o m.lexemes.earlier x (first_span xs)) m.lexemes.latest []) []) h.none_waits

  pub left_is : (v : Bool) (o : LexemeOptions) (counted : ℕ) (ks : List KeyFacts) → lexemes_left v o m.lexemes (take counted (lexemes_from 1 rs)) ks
      ≡ findings_behind v o (lexemes_from_state s.lexemes).latest (take counted (lexemes_from 1 rs)) ks
  left_is v o counted ks =
      let b = lexemes_from_state s.lexemes in
      let xs = take counted (lexemes_from 1 rs) in
      let ys = take counted (lexemes_from 0 rs) in
      let there : xs ≡ map (lexeme_below 1) ys = ap (take counted) (lexemes_there rs) ∙ take-map (lexeme_below 1) counted (lexemes_from 0 rs) in
      let alike = judged_alike v o m.lexemes b 1 1 ys ks (h.lexemes ∙ sym (lexemes_at s.lexemes)) h.lexemes_above (lexemes_above s.lexemes.latest) in
      ap (λ (fs : List FindingValue). fs ++ findings_behind v o m.lexemes.latest xs ks) (none_waits o xs)
      ∙ (ap (λ (zs : List LexemeValue). findings_behind v o m.lexemes.latest zs ks) there
      ∙ (findings_there (findings_behind v o m.lexemes.latest (map (lexeme_below 1) ys) ks) (findings_behind v o b.latest (map (lexeme_below 1) ys) ks) alike.rest
      ∙ ap (λ (zs : List LexemeValue). findings_behind v o b.latest zs ks) (sym there)))

  pub lexemes_are : lexemes_state (after_lexemes m.lexemes (lexemes_from 1 rs)) ≡ (state_after s 1 rs).lexemes
  lexemes_are =
      let b = lexemes_from_state s.lexemes in
      let o : LexemeOptions = record { braces = None; brackets = None; colons = None; commas = None; hyphens = None; document_start = None; truthy = None; quoted_strings = None } in
      let alike = judged_alike false o m.lexemes b 1 1 (lexemes_from 0 rs) [] (h.lexemes ∙ sym (lexemes_at s.lexemes)) h.lexemes_above (lexemes_above s.lexemes.latest) in
      ap (λ (xs : List LexemeValue). lexemes_state (after_lexemes m.lexemes xs)) (lexemes_there rs)
      ∙ (alike.after ∙ ap (λ (xs : List LexemeValue). lexemes_state (after_lexemes b xs)) (sym (lexemes_there rs)))

-- What is told of rows without a fault.
use Rattle.std.proofs.Common.{◌≡◌, ◌+◌, Bool, true, false, List, [], ◌∷◌, ◌++◌, Option, None, length, map, take, refl, sym, ◌∙◌, ap, subst, append_assoc, append-nil, arith}
use Rattle.std.proofs.lemmas.List.{take_all}
use Rattle.yl_text.specs.Finding.{FindingValue}
use Rattle.yl_lexeme.specs.Lexeme.{LexemeValue}
use Rattle.yl_marks.specs.declared.facts.KeyFacts.{KeyFacts}
use Rattle.yl_marks.specs.FactsByLine.{KeyMarkerValue, facts_by_lines}
use Rattle.yl_marks.specs.Keys.{token_of}
use Rattle.yl_marks.specs.ByLine.{by_line}
use Rattle.yl_marks.specs.MarksAlike as marks
use Rattle.yl_marks.specs.MarksAlike.{KeyMarkerState, key_marker_state, marks_of_rows}
use Rattle.yl_events.specs.declared.fault.PlacedParseFault.{PlacedParseFault}
use Rattle.yl_events.specs.DocumentOutcome.{steps}
use Rattle.yl_events.specs.State.{parser_state}
use Rattle.yl_events.specs.SymbolParsing.{SymbolParserValue, outcome_of_symbols}
use Rattle.yl_events.specs.Trail.{trail_after}
use Rattle.yl_indentation.specs.Context.{ContextValue}
use Rattle.yl_indentation.specs.FactsAlike.{ContextState, context_state}
use Rattle.yl_indentation.specs.SymbolFacts.{behind_symbols, facts_left}
use Rattle.yl_lexeme_rules.specs.declared.state.LexemeRulesState.{LexemeRulesState}
use Rattle.yl_lexeme_rules.specs.LexemesAlike.{after_lexemes, lexemes_state}
use Rattle.yl_lexeme_rules.specs.LexemesLeft.{IsVersion, LexemesRead, lexemes_left}
use Rattle.yl_config.specs.declared.config.Config.{Config}
use Rattle.yl_record.specs.Records.{RecordValue}
use Rattle.yl_sections.specs.JudgedRow.{GoesOn, HasNone}
use Rattle.yl_sections.specs.Kept.{comments_from, lexeme_options_of}
use Rattle.yl_sections.specs.Sections.{lexemes_from}
use Rattle.yl_sections.specs.declared.row_judge.RowJudge.{RowJudge}
use Rattle.yl_pieces.specs.State.{DocumentState}
use Rattle.yl_pieces.specs.Told.{Told, fault_in, keys_in, spaces_in, state_after, symbols_in, told, told_by, version_in}
use Rattle.yl_pieces.specs.Piece.{Begins, GoOnFrom, HasRead, Machines, goals_of, lines_of, symbols_by, tokens_by}
use Rattle.yl_pieces.proofs.PieceAlike.{context_is, facts_are, keys_are, left_is, lexemes_are, marker_is, symbols_are, version_is}
use Rattle.yl_pieces.proofs.PieceLines.{no_lexemes}
use Rattle.yl_pieces.proofs.PieceMoved.{same_symbols}
use Rattle.yl_pieces.proofs.PieceSteps.{no_fault, parser_after, taken_alike}

-- ---- before the first row

abbrev pub machines_of : {A : Type 0} → RowJudge A → Machines
machines_of d = record { marker = d.reader.marker; parser = d.reader.parser; context = d.places; lexemes = d.rules }

pub none_read : {A : Type 0} (config : Config) (d : RowJudge A) → HasNone config d → d.reader.is_counted ≡ false → HasRead config (machines_of d) [] d
none_read config d none counted = record {
  options = none.options;
  marker = refl;
  counted = λ known. let no : false ≡ true = sym counted ∙ known in absurd (cc);
  count = omega arith;
  goals = refl;
  trail = refl;
  fails = λ later f e. e;
  context = λ more. refl;
  facts = λ more n most. none.facts;
  lexemes = refl;
  version = λ v rest n. n;
  found = λ v rest more ks n. ap (λ (fs : List FindingValue). fs ++ lexemes_left v (lexeme_options_of config) d.rules more ks) none.found;
}

pub begins : {A : Type 0} (config : Config) (s : DocumentState) (d : RowJudge A) → GoesOn config s d → Begins config s [] d
begins config s d h = record {
  from = machines_of d;
  go_on = record { marker = h.marker; parser = h.parser; context = h.context; context_above = h.context_above; lexemes = h.lexemes; lexemes_above = h.lexemes_above; none_waits = h.none_waits };
  read = none_read config d h.none h.counted;
}

-- ---- rows

module _ {A : Type 0} (config : Config) (s : DocumentState) (m : Machines) (go : GoOnFrom s m) (rs : List RecordValue) (d : RowJudge A) (h : HasRead config m rs d) where
  pub none_there : fault_in s 1 rs ≡ None
  none_there =
      let ws = symbols_in s 1 rs in
      no_fault s.parser ws d.reader.parser.goals (taken_alike m.parser s.parser m.marker.marks.count (symbols_by m rs) ws d.reader.parser.goals go.parser (symbols_are s m go rs) (same_symbols ws) h.goals)

  told_whole : told config s 1 rs ≡ told_by config s 1 rs None
  told_whole = ap (λ (q : Option PlacedParseFault). told_by config s 1 rs q) none_there

  pub found_all : (found : List FindingValue) → ((v : Bool) (ks : List KeyFacts) → found ≡ d.found.items ++ lexemes_left v d.options d.rules [] ks) → found ≡ (told config s 1 rs).found
  found_all found told =
      let xs = lexemes_from 1 rs in
      let v = version_in s xs in
      let opts = lexeme_options_of config in
      let keys = facts_by_lines m.marker (lines_of rs) in
      let all : take (length xs) xs ≡ xs = take_all (length xs) xs (omega arith) in
      let hv : IsVersion v m.lexemes (xs ++ []) = subst (λ (zs : List LexemeValue). IsVersion v m.lexemes zs) (sym (append-nil xs)) (version_is s m go rs xs) in
      told v []
      ∙ (ap (λ p. d.found.items ++ lexemes_left v p d.rules [] []) h.options
      ∙ (h.found v [] [] [] hv
      ∙ (ap (λ (zs : List LexemeValue). lexemes_left v opts m.lexemes zs (keys ++ [])) (append-nil xs ∙ sym all)
      ∙ (ap (λ (ks : List KeyFacts). lexemes_left v opts m.lexemes (take (length xs) xs) ks) (append-nil keys ∙ keys_are s m go rs)
      ∙ (left_is s m go rs v opts (length xs) (keys_in s 1 rs) ∙ sym (ap (λ (t : Told). t.found) told_whole))))))

  pub facts_all : d.facts.items ≡ (told config s 1 rs).facts
  facts_all =
      let n = length (lexemes_from 1 rs) in
      let here : rs ++ [] ≡ rs = append-nil rs in
      let facts : d.facts.items ≡ facts_left m.context (tokens_by m rs) (m.marker.marks.count + n) (spaces_in 1 rs) (symbols_by m rs) =
      subst (λ (es : List RecordValue). d.facts.items ≡ facts_left m.context (tokens_by m es) (m.marker.marks.count + n) (spaces_in 1 es) (symbols_by m rs)) here
      (h.facts [] (m.marker.marks.count + n) (omega (arith, h.count))) in
      facts ∙ (facts_are s m go rs n ∙ sym (ap (λ (t : Told). t.facts) told_whole))

  pub comments_all : (told config s 1 rs).comments ≡ comments_from None 1 rs
  comments_all = ap (λ (t : Told). t.comments) told_whole

  pub fault_none : (told config s 1 rs).fault ≡ None
  fault_none = ap (λ (t : Told). t.fault) told_whole

  -- ---- the state after them

  pub state_is : (a : KeyMarkerState) (p : SymbolParserValue) (c : ContextState) (l : LexemeRulesState) → a ≡ key_marker_state d.reader.marker → p ≡ parser_state d.reader.parser → c ≡ context_state d.places
      → l ≡ lexemes_state d.rules → record { marker = a; parser = p; context = c; lexemes = l } ≡ state_after s 1 rs
  state_is a p c l e1 e2 e3 e4 =
      let t = state_after s 1 rs in
      let ws = symbols_in s 1 rs in
      let marker : a ≡ t.marker = e1 ∙ (ap (λ (j : KeyMarkerValue). key_marker_state j) h.marker ∙ marker_is s m go rs) in
      let parser : p ≡ t.parser = e2 ∙ parser_after m.parser s.parser m.marker.marks.count (symbols_by m rs) ws d.reader.parser go.parser (symbols_are s m go rs) (same_symbols ws) h.goals h.trail in
      let there : d.places ≡ behind_symbols (tokens_by m rs) (spaces_in 1 rs) m.context (symbols_by m rs) =
      subst (λ (es : List RecordValue). d.places ≡ behind_symbols (tokens_by m es) (spaces_in 1 es) m.context (symbols_by m rs)) (append-nil rs) (h.context []) in
      let context : c ≡ t.context = e3 ∙ (ap (λ (b : ContextValue). context_state b) there ∙ context_is s m go rs) in
      let lexemes : l ≡ t.lexemes = e4 ∙ (ap (λ (b : LexemesRead). lexemes_state b) h.lexemes ∙ lexemes_are s m go rs) in
      ap (λ (x : KeyMarkerState). record { marker = x; parser = p; context = c; lexemes = l }) marker
      ∙ (ap (λ (x : SymbolParserValue). record { marker = t.marker; parser = x; context = c; lexemes = l }) parser
      ∙ (ap (λ (x : ContextState). record { marker = t.marker; parser = t.parser; context = x; lexemes = l }) context
      ∙ ap (λ (x : LexemeRulesState). record { marker = t.marker; parser = t.parser; context = t.context; lexemes = x }) lexemes))

  -- ---- a row without lexemes

  pub quiet_row : (r : RecordValue) → r.entry.lexemes ≡ [] → HasRead config m (rs ++ r ∷ []) d
  quiet_row r none =
      let rows = rs ++ r ∷ [] in
      let same : lexemes_from 1 rs ≡ lexemes_from 1 rows = sym (no_lexemes 1 rs r none) in
      record {
        options = h.options;
        counted = h.counted;
        marker = h.marker ∙ ap (λ (zs : List LexemeValue). marks.after_rows m.marker (by_line (map token_of zs))) same;
        count = h.count ∙ ap (λ (zs : List LexemeValue). m.marker.marks.count + length zs) same;
        goals = ap (λ (zs : List LexemeValue). goals_of (steps (marks_of_rows m.marker.marks (by_line (map token_of zs))) m.parser.goals [])) (sym same) ∙ h.goals;
        trail = h.trail ∙ ap (λ (zs : List LexemeValue). trail_after m.parser.trail (marks_of_rows m.marker.marks (by_line (map token_of zs)))) same;
        fails = λ later f e. ap (λ (zs : List LexemeValue). outcome_of_symbols m.parser m.marker.marks.count [] (marks_of_rows m.marker.marks (by_line (map token_of zs)) ++ later)) (sym same) ∙ h.fails later f e;
        context = λ more.
            subst (λ (es : List RecordValue). d.places ≡ behind_symbols (tokens_by m es) (spaces_in 1 es) m.context (symbols_by m rows)) (sym (append_assoc rs (r ∷ []) more))
            (h.context (r ∷ more) ∙ ap (λ (zs : List LexemeValue). behind_symbols (tokens_by m (rs ++ r ∷ more)) (spaces_in 1 (rs ++ r ∷ more)) m.context (marks_of_rows m.marker.marks (by_line (map token_of zs)))) same);
        facts = λ more counted most.
            subst (λ (es : List RecordValue). d.facts.items ≡ facts_left m.context (tokens_by m es) counted (spaces_in 1 es) (symbols_by m rows)) (sym (append_assoc rs (r ∷ []) more))
            (h.facts (r ∷ more) counted most ∙ ap (λ (zs : List LexemeValue). facts_left m.context (tokens_by m (rs ++ r ∷ more)) counted (spaces_in 1 (rs ++ r ∷ more)) (marks_of_rows m.marker.marks (by_line (map token_of zs)))) same);
        lexemes = h.lexemes ∙ ap (λ (zs : List LexemeValue). after_lexemes m.lexemes zs) same;
        version = λ v rest n. h.version v rest (subst (λ (zs : List LexemeValue). IsVersion v m.lexemes (zs ++ rest)) (sym same) n);
        found = λ v rest more ks n. h.found v rest more ks (subst (λ (zs : List LexemeValue). IsVersion v m.lexemes (zs ++ rest)) (sym same) n)
            ∙ ap (λ (zs : List LexemeValue). lexemes_left v (lexeme_options_of config) m.lexemes (zs ++ more) (facts_by_lines m.marker (by_line (map token_of zs)) ++ ks)) same;
      }

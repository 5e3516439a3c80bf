-- The same rows further down report the same, so many lines below.
use Rattle.std.proofs.Common.{◌≡◌, ◌+◌, ◌-◌, ◌<◌, ◌&&◌, ◌||◌, ℕ, Bool, false, List, [], map, length, take, replicate, Option, Some, None, IfSome, refl, sym, ◌∙◌, ap, subst, arith}
use Rattle.std.specs.Prelude.{option_map, option_and_then, slice_get}
use Rattle.std.specs.Option.{option_map_or}
use Rattle.std.proofs.lemmas.List.{length-replicate}
use Rattle.std.proofs.lemmas.Option.{slice_get-map}
use Rattle.yl_text.specs.Finding.{FindingValue}
use Rattle.yl_lexeme.specs.declared.lexeme.Kind.{Kind}
use Rattle.yl_lexeme.specs.Lexeme.{LexemeValue, PlacedCommentValue}
use Rattle.yl_marks.specs.declared.token.Token.{Token}
use Rattle.yl_marks.specs.declared.symbol.Symbol.{Symbol}
use Rattle.yl_marks.specs.declared.facts.KeyFacts.{KeyFacts}
use Rattle.yl_marks.specs.ByLine.{by_line}
use Rattle.yl_marks.specs.FactsByLine.{KeyMarkerValue, facts_by_lines}
use Rattle.yl_marks.specs.MarksAlike.{AreMarkedAlike, KeyMarkerState, after_rows, key_marker_state, marks_of_rows, rows_below, token_below}
use Rattle.yl_marks.specs.MarksAlike as marking
use Rattle.yl_marks.proofs.MarksAlike.{marked_alike}
use Rattle.yl_events.specs.declared.fault.PlacedParseFault.{PlacedParseFault}
use Rattle.yl_events.specs.DocumentOutcome.{steps}
use Rattle.yl_events.specs.SymbolParsing.{SymbolParserValue}
use Rattle.yl_indentation.specs.declared.fact.Fact.{Fact}
use Rattle.yl_indentation.specs.Context.{ContextValue}
use Rattle.yl_indentation.specs.FactsAlike.{AreToldAlike, ContextState, context_state, fact_below, facts_of_rows}
use Rattle.yl_indentation.specs.FactsAlike as indenting
use Rattle.yl_indentation.specs.SymbolFacts.{behind_symbols, facts_left}
use Rattle.yl_indentation.proofs.FactsAlike.{facts_are_alike}
use Rattle.yl_indentation.proofs.RowFacts.{after_first, facts_of_first}
use Rattle.yl_lexeme_rules.specs.declared.options.LexemeOptions.{LexemeOptions}
use Rattle.yl_lexeme_rules.specs.declared.state.LexemeRulesState.{LexemeRulesState}
use Rattle.yl_lexeme_rules.specs.Lexemes.{findings_behind}
use Rattle.yl_lexeme_rules.specs.LexemesAlike.{AreJudgedAlike, after_lexemes, finding_below, lexeme_below, lexemes_state}
use Rattle.yl_lexeme_rules.specs.LexemesAlike as judging
use Rattle.yl_lexeme_rules.specs.LexemesLeft.{LexemesRead}
use Rattle.yl_lexeme_rules.proofs.LexemesAlike.{judged_alike}
use Rattle.yl_config.specs.declared.config.Config.{Config}
use Rattle.yl_record.specs.Records.{RecordValue}
use Rattle.yl_sections.specs.Judging.{spaces_of}
use Rattle.yl_sections.specs.Kept.{comments_from, lexeme_options_of}
use Rattle.yl_sections.specs.Sections.{lexemes_from, lexemes_of}
use Rattle.yl_pieces.specs.State.{DocumentState, context_from, keyed_above, lexemes_from_state, marker_from, span_above, token_above}
use Rattle.yl_pieces.specs.Told.{Told, ToldFault, fault_at, fault_in, goals_after, keys_in, spaces_in, state_after, symbols_in, told, told_by, told_fault, tokens_in, version_in}
use Rattle.yl_pieces.specs.Laws.{AreToldBelow, RowsAreToldBelow, fault_below, told_below}
use Rattle.yl_pieces.proofs.ToldBelowLists.{facts_onto, findings_onto, same_by_count}
use Rattle.yl_pieces.proofs.ToldBelowRows.{comments_moved, count_there, lexemes_moved, lexemes_there, lines_there, taken_there, tokens_there, version_there}

-- ---- the latest lexeme, above a line

pub record AreAbove (s : DocumentState) (line : ℕ) : Type 0 where
  pub marker : marking.IsAbove line (marker_from s.marker).marks
  pub context : indenting.IsAbove line (context_from s.context)
  pub lexemes : judging.IsAbove line (lexemes_from_state s.lexemes)

keyed_line : (line : ℕ) (kind : Option Kind) → 0 < line → IfSome (option_map keyed_above kind) (λ p. (p.start.line < line) × (p.end_line < line))
keyed_line line None h = tt
keyed_line line (Some kind) h = (h, h)

token_line : (line : ℕ) (kind : Option Kind) → 0 < line → IfSome (option_map token_above kind) (λ x. x.end_line < line)
token_line line None h = tt
token_line line (Some kind) h = h

span_line : (line : ℕ) (kind : Option Kind) → 0 < line → IfSome (option_map span_above kind) (λ x. (x.start.line < line) × (x.end_line < line))
span_line line None h = tt
span_line line (Some kind) h = (h, h)

above_line : (s : DocumentState) (line : ℕ) → 0 < line → AreAbove s line
above_line s line h = record {
  marker = keyed_line line s.marker.marks.latest h;
  context = token_line line s.context.latest h;
  lexemes = span_line line s.lexemes.latest h;
}

-- ---- equal in each part

abbrev told_of : List FindingValue → List Fact → List PlacedCommentValue → Option ToldFault → Told
told_of found facts comments fault = record { found = found; facts = facts; comments = comments; fault = fault }

same_told : (t u : Told) → t.found ≡ u.found → t.facts ≡ u.facts → t.comments ≡ u.comments → t.fault ≡ u.fault → t ≡ u
same_told t u found facts comments fault =
    ap (λ fs. told_of fs t.facts t.comments t.fault) found
    ∙ ap (λ fs. told_of u.found fs t.comments t.fault) facts
    ∙ ap (λ cs. told_of u.found u.facts cs t.fault) comments
    ∙ ap (λ f. told_of u.found u.facts u.comments f) fault

abbrev state_of : KeyMarkerState → SymbolParserValue → ContextState → LexemeRulesState → DocumentState
state_of marker parser context lexemes = record { marker = marker; parser = parser; context = context; lexemes = lexemes }

same_state : (s t : DocumentState) → s.marker ≡ t.marker → s.parser ≡ t.parser → s.context ≡ t.context → s.lexemes ≡ t.lexemes → s ≡ t
same_state s t marker parser context lexemes =
    ap (λ m. state_of m s.parser s.context s.lexemes) marker
    ∙ ap (λ p. state_of t.marker p s.context s.lexemes) parser
    ∙ ap (λ c. state_of t.marker t.parser c s.lexemes) context
    ∙ ap (λ r. state_of t.marker t.parser t.context r) lexemes

-- ---- the fault's place, and the rows above it

abbrev placed : PlacedParseFault → LexemeValue → ToldFault
placed f x = record { place = x.start; kind = f.kind }

placed_moved : (n : ℕ) (f : PlacedParseFault) (x : Option LexemeValue) → option_map (placed f) (option_map (lexeme_below n) x) ≡ option_map (fault_below n) (option_map (placed f) x)
placed_moved n f None = refl
placed_moved n f (Some x) = refl

-- the rows above a fault, or all
abbrev rows_shown : ℕ → List RecordValue → Option ToldFault → List RecordValue
rows_shown line rs fault = option_map_or (λ f. take (f.place.line - line) rs) fault rs

shown_stay : (n line : ℕ) (rs : List RecordValue) (fault : Option ToldFault) → rows_shown (n + line) rs (option_map (fault_below n) fault) ≡ rows_shown line rs fault
shown_stay n line rs None = refl
shown_stay n line rs (Some f) =
    let same : n + f.place.line - (n + line) ≡ f.place.line - line = omega arith in
    ap (λ (k : ℕ). take k rs) same

module _ (n line : ℕ) (rs : List RecordValue) where
  fault_moves : (f : PlacedParseFault) → told_fault (lexemes_from (n + line) rs) f ≡ option_map (fault_below n) (told_fault (lexemes_from line rs) f)
  fault_moves f =
      let xs = lexemes_from line rs in
      ap (λ (ys : List LexemeValue). told_fault ys f) (lexemes_moved n line rs)
      ∙ ap (λ (x : Option LexemeValue). option_map (placed f) x) (slice_get-map (lexeme_below n) xs f.place)
      ∙ placed_moved n f (slice_get xs f.place)

  there_moves : (fault : Option PlacedParseFault) → option_and_then (told_fault (lexemes_from (n + line) rs)) fault ≡ option_map (fault_below n) (option_and_then (told_fault (lexemes_from line rs)) fault)
  there_moves None = refl
  there_moves (Some f) = fault_moves f

-- ---- two places, below the latest lexeme

module _ (config : Config) (s : DocumentState) (n line : ℕ) (rs : List RecordValue) (far : AreAbove s (n + line)) (near : AreAbove s line) where
  -- ---- marks

  abbrev before : KeyMarkerValue
  before = marker_from s.marker

  abbrev rows : List (List Token)
  rows = by_line (tokens_in 0 rs)

  are_marked : AreMarkedAlike before before (n + line) line rows
  are_marked = marked_alike before before (n + line) line rows refl far.marker near.marker

  symbols_at : (i : ℕ) → symbols_in s i rs ≡ marks_of_rows before.marks (rows_below i rows)
  symbols_at i = ap (λ (ls : List (List Token)). marks_of_rows before.marks ls) (lines_there i rs)

  symbols_stay : symbols_in s (n + line) rs ≡ symbols_in s line rs
  symbols_stay =
      symbols_at (n + line)
      ∙ same_by_count (marks_of_rows before.marks (rows_below (n + line) rows)) (marks_of_rows before.marks (rows_below line rows)) are_marked.alone
      ∙ sym (symbols_at line)

  keys_at : (i : ℕ) → keys_in s i rs ≡ facts_by_lines before (rows_below i rows)
  keys_at i = ap (λ (ls : List (List Token)). facts_by_lines before ls) (lines_there i rs)

  keys_stay : keys_in s (n + line) rs ≡ keys_in s line rs
  keys_stay = keys_at (n + line) ∙ are_marked.facts ∙ sym (keys_at line)

  marker_at : (i : ℕ) → key_marker_state (after_rows before (by_line (tokens_in i rs))) ≡ key_marker_state (after_rows before (rows_below i rows))
  marker_at i = ap (λ (ls : List (List Token)). key_marker_state (after_rows before ls)) (lines_there i rs)

  marker_stays : key_marker_state (after_rows before (by_line (tokens_in (n + line) rs))) ≡ key_marker_state (after_rows before (by_line (tokens_in line rs)))
  marker_stays = marker_at (n + line) ∙ are_marked.after ∙ sym (marker_at line)

  -- ---- the fault

  fault_stays : fault_in s (n + line) rs ≡ fault_in s line rs
  fault_stays = ap (λ (ws : List Symbol). fault_at s.parser ws (steps ws s.parser.goals [])) symbols_stay

  parser_stays : goals_after (steps (symbols_in s (n + line) rs) s.parser.goals []) s.parser (symbols_in s (n + line) rs) ≡ goals_after (steps (symbols_in s line rs) s.parser.goals []) s.parser (symbols_in s line rs)
  parser_stays = ap (λ (ws : List Symbol). goals_after (steps ws s.parser.goals []) s.parser ws) symbols_stay

  -- ---- facts of the rule indentation

  abbrev context : ContextValue
  context = context_from s.context

  abbrev tokens : List Token
  tokens = tokens_in 0 rs

  abbrev spaces : List ℕ
  spaces = spaces_of rs

  abbrev above : ℕ → List ℕ
  above i = replicate i 0

  long : (i : ℕ) → length (above i) ≡ i
  long i = length-replicate {A = ℕ} i 0

  ends_above : (i : ℕ) → indenting.IsAbove i context → indenting.IsAbove (length (above i)) context
  ends_above i h = subst (λ (k : ℕ). indenting.IsAbove k context) (sym (long i)) h

  are_indented : (counted : ℕ) (ws : List Symbol) → AreToldAlike context context [] [] tokens (above (n + line)) (above line) spaces counted ws
  are_indented counted ws = facts_are_alike context context [] [] tokens (above (n + line)) (above line) spaces counted ws refl (ends_above (n + line) far.context) (ends_above line near.context)

  facts_at : (i counted : ℕ) (ws : List Symbol) → facts_of_rows context [] (above i) tokens counted spaces ws ≡ facts_left context (tokens_in i rs) counted (spaces_in i rs) ws
  facts_at i counted ws =
      facts_of_first (above i) tokens spaces context counted ws
      ∙ ap (λ (k : ℕ). facts_left context (map (token_below k) tokens) counted (spaces_in i rs) ws) (long i)
      ∙ ap (λ (ts : List Token). facts_left context ts counted (spaces_in i rs) ws) (sym (tokens_there i rs))

  facts_move : (counted : ℕ) (ws : List Symbol) →
      facts_left context (tokens_in (n + line) rs) counted (spaces_in (n + line) rs) ws ≡ map (fact_below n) (facts_left context (tokens_in line rs) counted (spaces_in line rs) ws)
  facts_move counted ws =
      let fs = facts_of_rows context [] (above (n + line)) tokens counted spaces ws in
      let gs = facts_of_rows context [] (above line) tokens counted spaces ws in
      let moved : map (fact_below line) fs ≡ map (fact_below (n + line)) gs =
      sym (ap (λ (k : ℕ). map (fact_below k) fs) (long line)) ∙ (are_indented counted ws).facts ∙ ap (λ (k : ℕ). map (fact_below k) gs) (long (n + line)) in
      sym (facts_at (n + line) counted ws) ∙ facts_onto n line fs gs moved ∙ ap (λ (hs : List Fact). map (fact_below n) hs) (facts_at line counted ws)

  after_at : (i : ℕ) (ws : List Symbol) → indenting.after_rows context [] (above i) tokens spaces ws ≡ behind_symbols (tokens_in i rs) (spaces_in i rs) context ws
  after_at i ws =
      after_first (above i) tokens spaces context ws
      ∙ ap (λ (k : ℕ). behind_symbols (map (token_below k) tokens) (spaces_in i rs) context ws) (long i)
      ∙ ap (λ (ts : List Token). behind_symbols ts (spaces_in i rs) context ws) (sym (tokens_there i rs))

  context_stays : (ws : List Symbol) →
      context_state (behind_symbols (tokens_in (n + line) rs) (spaces_in (n + line) rs) context ws) ≡ context_state (behind_symbols (tokens_in line rs) (spaces_in line rs) context ws)
  context_stays ws =
      sym (ap (λ (c : ContextValue). context_state c) (after_at (n + line) ws)) ∙ (are_indented 0 ws).after ∙ ap (λ (c : ContextValue). context_state c) (after_at line ws)

  -- ---- what the rules on lexemes find

  abbrev options : LexemeOptions
  options = lexeme_options_of config

  abbrev read : LexemesRead
  read = lexemes_from_state s.lexemes

  abbrev version : Bool
  version = version_in s (lexemes_of rs)

  are_judged : (v : Bool) (xs : List LexemeValue) (ks : List KeyFacts) → AreJudgedAlike v options read read (n + line) line xs ks
  are_judged v xs ks = judged_alike v options read read (n + line) line xs ks refl far.lexemes near.lexemes

  lexemes_at : (i : ℕ) → lexemes_state (after_lexemes read (lexemes_from i rs)) ≡ lexemes_state (after_lexemes read (map (lexeme_below i) (lexemes_of rs)))
  lexemes_at i = ap (λ (xs : List LexemeValue). lexemes_state (after_lexemes read xs)) (lexemes_there i rs)

  lexemes_stay : lexemes_state (after_lexemes read (lexemes_from (n + line) rs)) ≡ lexemes_state (after_lexemes read (lexemes_from line rs))
  lexemes_stay = lexemes_at (n + line) ∙ (are_judged false (lexemes_of rs) []).after ∙ sym (lexemes_at line)

  version_at : (i : ℕ) → version_in s (lexemes_from i rs) ≡ version
  version_at i = ap (λ (b : Bool). s.lexemes.is_1_2 || (s.lexemes.in_directives && b)) (version_there i rs)

  found_at : (i counted : ℕ) (ks : List KeyFacts) →
      findings_behind (version_in s (lexemes_from i rs)) options read.latest (take counted (lexemes_from i rs)) ks
      ≡ findings_behind version options read.latest (map (lexeme_below i) (take counted (lexemes_of rs))) ks
  found_at i counted ks =
      ap (λ (v : Bool). findings_behind v options read.latest (take counted (lexemes_from i rs)) ks) (version_at i)
      ∙ ap (λ (xs : List LexemeValue). findings_behind version options read.latest xs ks) (taken_there i counted rs)

  found_moves : (counted : ℕ) →
      findings_behind (version_in s (lexemes_from (n + line) rs)) options read.latest (take counted (lexemes_from (n + line) rs)) (keys_in s (n + line) rs)
      ≡ map (finding_below n) (findings_behind (version_in s (lexemes_from line rs)) options read.latest (take counted (lexemes_from line rs)) (keys_in s line rs))
  found_moves counted =
      let xs = take counted (lexemes_of rs) in
      let ks = keys_in s line rs in
      found_at (n + line) counted (keys_in s (n + line) rs)
      ∙ ap (λ (l : List KeyFacts). findings_behind version options read.latest (map (lexeme_below (n + line)) xs) l) keys_stay
      ∙ findings_onto n line (findings_behind version options read.latest (map (lexeme_below (n + line)) xs) ks) (findings_behind version options read.latest (map (lexeme_below line) xs) ks)
      (are_judged version xs ks).rest
      ∙ sym (ap (λ (fs : List FindingValue). map (finding_below n) fs) (found_at line counted ks))

  -- ---- all that is told

  abbrev counted_in : ℕ → Option PlacedParseFault → ℕ
  counted_in i fault = option_map_or (λ f. f.place) fault (length (lexemes_from i rs))

  counts_stay : (fault : Option PlacedParseFault) → counted_in (n + line) fault ≡ counted_in line fault
  counts_stay fault = ap (λ (k : ℕ). option_map_or (λ f. f.place) fault k) (count_there (n + line) rs ∙ sym (count_there line rs))

  told_moves : (fault : Option PlacedParseFault) → told_by config s (n + line) rs fault ≡ told_below n (told_by config s line rs fault)
  told_moves fault =
      let counted = counted_in line fault in
      let there = option_and_then (told_fault (lexemes_from line rs)) fault in
      same_told (told_by config s (n + line) rs fault) (told_below n (told_by config s line rs fault))
      (ap (λ (k : ℕ). findings_behind (version_in s (lexemes_from (n + line) rs)) options read.latest (take k (lexemes_from (n + line) rs)) (keys_in s (n + line) rs)) (counts_stay fault)
      ∙ found_moves counted)
      (ap (λ (k : ℕ). facts_left context (tokens_in (n + line) rs) k (spaces_in (n + line) rs) (symbols_in s (n + line) rs)) (counts_stay fault)
      ∙ ap (λ (ws : List Symbol). facts_left context (tokens_in (n + line) rs) counted (spaces_in (n + line) rs) ws) symbols_stay
      ∙ facts_move counted (symbols_in s line rs))
      (ap (λ (f : Option ToldFault). comments_from None (n + line) (rows_shown (n + line) rs f)) (there_moves n line rs fault)
      ∙ ap (λ (shown : List RecordValue). comments_from None (n + line) shown) (shown_stay n line rs there)
      ∙ comments_moved n line None (rows_shown line rs there))
      (there_moves n line rs fault)

  told_is : told config s (n + line) rs ≡ told_below n (told config s line rs)
  told_is = ap (λ (fault : Option PlacedParseFault). told_by config s (n + line) rs fault) fault_stays ∙ told_moves (fault_in s line rs)

  state_is : state_after s (n + line) rs ≡ state_after s line rs
  state_is =
      same_state (state_after s (n + line) rs) (state_after s line rs) marker_stays parser_stays
      (ap (λ (ws : List Symbol). context_state (behind_symbols (tokens_in (n + line) rs) (spaces_in (n + line) rs) context ws)) symbols_stay ∙ context_stays (symbols_in s line rs))
      lexemes_stay

  pub are_told : AreToldBelow config s n line rs
  are_told = record { told_is = told_is; state = state_is }

-- ---- the law

pub told_below_it : RowsAreToldBelow
told_below_it = λ config s n line rs h. let further : 0 < n + line = omega (arith, h) in are_told config s n line rs (above_line s (n + line) further) (above_line s line h)

-- What is told of rows, and then of the rows after them, by the state between.
use Rattle.std.proofs.Common.{◌≡◌, ◌≤◌, ◌<◌, ◌+◌, ◌-◌, ℕ, Bool, true, false, List, [], ◌++◌, length, map, take, Option, Some, None, refl, sym, ◌∙◌, ap, subst, append-nil, arith}
use Rattle.std.specs.Prelude.{IfSome, nat_lt, not, ◌&&◌, option_map, slice_get}
use Rattle.std.specs.List.{AllByRecursion}
use Rattle.std.specs.Option.{option_map_or}
use Rattle.std.proofs.Math.Seq.{take-append-add}
use Rattle.std.proofs.lemmas.Bool.{lt-ltb, not-true}
use Rattle.std.proofs.lemmas.List.{length-append, length-map, take-map, take_all}
use Rattle.yl_text.specs.Finding.{FindingValue}
use Rattle.yl_text.proofs.Every.{all_got}
use Rattle.yl_lexeme.specs.Lexeme.{LexemeValue, PlacedCommentValue}
use Rattle.yl_marks.specs.declared.token.Token.{Token}
use Rattle.yl_marks.specs.declared.symbol.Symbol.{Symbol}
use Rattle.yl_marks.specs.declared.facts.KeyFacts.{KeyFacts}
use Rattle.yl_marks.specs.Keys.{token_of}
use Rattle.yl_marks.specs.ByLine.{HaveIndices, by_line}
use Rattle.yl_marks.specs.FactsByLine.{KeyMarkerValue, facts_by_lines}
use Rattle.yl_marks.specs.MarksAlike.{AreMarkedAlike, KeyMarkerState, after_rows, key_marker_state, marks_of_rows, rows_below, symbol_after, token_below}
use Rattle.yl_marks.proofs.MarksAlike.{marked_alike}
use Rattle.yl_marks.proofs.Runs as runs
use Rattle.yl_marks.proofs.Runs.{joined_lines}
use Rattle.yl_events.specs.declared.fault.PlacedParseFault.{PlacedParseFault}
use Rattle.yl_events.specs.Derives.{lexeme_count}
use Rattle.yl_events.specs.DocumentOutcome.{steps}
use Rattle.yl_events.specs.Machine.{ParserState}
use Rattle.yl_events.specs.SymbolParsing.{SymbolParserValue, is_whole}
use Rattle.yl_indentation.specs.declared.fact.Fact.{Fact}
use Rattle.yl_indentation.specs.Context.{ContextValue}
use Rattle.yl_indentation.specs.FactsAlike as rows
use Rattle.yl_indentation.specs.FactsAlike.{ContextState, context_state}
use Rattle.yl_indentation.specs.LineFacts.{NameIndices}
use Rattle.yl_indentation.specs.SymbolFacts.{behind_symbols, facts_left}
use Rattle.yl_indentation.proofs.RowFacts.{above_after}
use Rattle.yl_lexeme_rules.specs.declared.options.LexemeOptions.{LexemeOptions}
use Rattle.yl_lexeme_rules.specs.declared.state.LexemeRulesState.{LexemeRulesState}
use Rattle.yl_lexeme_rules.specs.Lexemes.{findings_behind}
use Rattle.yl_lexeme_rules.specs.LexemesLeft.{LexemesRead}
use Rattle.yl_lexeme_rules.specs.LexemesAlike as layout
use Rattle.yl_lexeme_rules.specs.LexemesAlike.{after_lexemes, is_settled, lexeme_below, lexemes_state}
use Rattle.yl_config.specs.declared.config.Config.{Config}
use Rattle.yl_record.specs.Records.{RecordValue}
use Rattle.yl_sections.specs.Judging.{spaces_of}
use Rattle.yl_sections.specs.Kept.{comments_from, lexeme_options_of}
use Rattle.yl_sections.specs.Sections.{lexemes_from}
use Rattle.yl_sections.proofs.Lines.{get_after}
use Rattle.yl_sections.proofs.RowJudging.{lexemes_of_both}
use Rattle.yl_pieces.specs.State.{DocumentState, context_from, lexemes_from_state, marker_from}
use Rattle.yl_pieces.specs.Told.{Told, ToldFault, fault_at, fault_in, goals_after, is_border, keys_in, spaces_in, state_after, symbols_in, tokens_in, told, told_by, told_fault, version_in}
use Rattle.yl_pieces.specs.Laws.{AreClosed, AreJoined, RowsAreJoined, joined}
use Rattle.yl_pieces.proofs.JoinedLines.{Apart, StandsAbove, all_above, all_below, apart_rows, closed_above, length-spaces_in, lexemes_there, lines_both, lines_there, spaces_both, tokens_above, tokens_both, tokens_there}
use Rattle.yl_pieces.proofs.JoinedMarks.{count_after, from_above, indices_of_rows, keys_both, keys_count, length-joined, marks_both, marks_count, marks_whole, names_of_rows, rows_above, rows_both, same_marker, same_symbols}
use Rattle.yl_pieces.proofs.JoinedParser.{fault_after, fault_later, goals_on, held, taken_all}
use Rattle.yl_pieces.proofs.JoinedFacts as facts
use Rattle.yl_pieces.proofs.JoinedFindings as findings
use Rattle.yl_pieces.proofs.JoinedComments.{comments_joined}

-- ---- records of equal parts

abbrev pub told_of : List FindingValue → List Fact → List PlacedCommentValue → Option ToldFault → Told
told_of found facts comments fault = record { found = found; facts = facts; comments = comments; fault = fault }

pub same_told : (f f' : List FindingValue) (g g' : List Fact) (c c' : List PlacedCommentValue) (t t' : Option ToldFault) → f ≡ f' → g ≡ g' → c ≡ c' → t ≡ t' → told_of f g c t ≡ told_of f' g' c' t'
same_told f f' g g' c c' t t' p q r e =
    ap (λ (x : List FindingValue). told_of x g c t) p ∙ ap (λ (x : List Fact). told_of f' x c t) q ∙ ap (λ (x : List PlacedCommentValue). told_of f' g' x t) r ∙ ap (told_of f' g' c') e

abbrev state_of : KeyMarkerState → SymbolParserValue → ContextState → LexemeRulesState → DocumentState
state_of marker parser context lexemes = record { marker = marker; parser = parser; context = context; lexemes = lexemes }

same_state : (m m' : KeyMarkerState) (p p' : SymbolParserValue) (c c' : ContextState) (l l' : LexemeRulesState) → m ≡ m' → p ≡ p' → c ≡ c' → l ≡ l' → state_of m p c l ≡ state_of m' p' c' l'
same_state m m' p p' c c' l l' e f g h =
    ap (λ (x : KeyMarkerState). state_of x p c l) e ∙ ap (λ (x : SymbolParserValue). state_of m' x c l) f ∙ ap (λ (x : ContextState). state_of m' p' x l) g ∙ ap (state_of m' p' c') h

both_true : (b c : Bool) → (b && c) ≡ true → (b ≡ true) × (c ≡ true)
both_true true c h = (refl, h)
both_true false c h = cc

-- ---- the rows' symbols

abbrev joined_of : List Token → List Token
joined_of xs = runs.joined (by_line xs)

-- how many lexemes there are, by their symbols
pub symbols_count : (s : DocumentState) (line : ℕ) (rs : List RecordValue) → lexeme_count (symbols_in s line rs) ≡ length (tokens_in line rs)
symbols_count s line rs = marks_count (marker_from s.marker).marks (by_line (tokens_in line rs)) ∙ length-joined (tokens_in line rs)

pub symbols_whole : (s : DocumentState) (line : ℕ) (rs : List RecordValue) → is_whole true (symbols_in s line rs) ≡ true
symbols_whole s line rs = marks_whole (marker_from s.marker).marks (by_line (tokens_in line rs))

pub symbols_named : (s : DocumentState) (line : ℕ) (rs : List RecordValue) → NameIndices (λ i. i < length (tokens_in line rs)) (symbols_in s line rs)
symbols_named s line rs =
    let n : length (joined_of (tokens_in line rs)) ≡ length (tokens_in line rs) = length-joined (tokens_in line rs) in
    names_of_rows (λ i. i < length (tokens_in line rs)) (marker_from s.marker).marks (by_line (tokens_in line rs))
    (λ j l k. let most : j < 0 + length (joined_of (tokens_in line rs)) = k in omega (arith, most, n))

pub symbols_have : (Is : ℕ → Type 0) (s : DocumentState) (line : ℕ) (rs : List RecordValue) → ((i : ℕ) → i < length (tokens_in line rs) → Is i) → HaveIndices Is (symbols_in s line rs)
symbols_have Is s line rs h =
    let n : length (joined_of (tokens_in line rs)) ≡ length (tokens_in line rs) = length-joined (tokens_in line rs) in
    indices_of_rows Is (marker_from s.marker).marks (by_line (tokens_in line rs))
    (λ j l k. h j (let most : j < 0 + length (joined_of (tokens_in line rs)) = k in omega (arith, most, n)))

pub keys_many : (s : DocumentState) (line : ℕ) (rs : List RecordValue) → length (lexemes_from line rs) ≡ length (keys_in s line rs)
keys_many s line rs =
    sym (keys_count (marker_from s.marker) (by_line (tokens_in line rs)) ∙ length-joined (tokens_in line rs) ∙ length-map (lexemes_from line rs) token_of)

-- ---- rows after one another

module _ (s : DocumentState) (line : ℕ) (front rest : List RecordValue) where
  abbrev pub high : ℕ
  high = line + length front

  abbrev pub marker : KeyMarkerValue
  marker = marker_from s.marker

  abbrev pub lines : List (List Token)
  lines = by_line (tokens_in line front)

  abbrev pub lower : List (List Token)
  lower = by_line (tokens_in high rest)

  abbrev pub after : KeyMarkerValue
  after = after_rows marker lines

  pub apart : Apart (tokens_in line front) (tokens_in high rest)
  apart = apart_rows line high front rest (omega arith)

  pub lines_all : by_line (tokens_in line (front ++ rest)) ≡ lines ++ lower
  lines_all = ap by_line (tokens_both line front rest) ∙ lines_both (tokens_in line front) (tokens_in high rest) apart

  pub symbols_all : symbols_in s line (front ++ rest) ≡ symbols_in s line front ++ marks_of_rows after.marks lower
  symbols_all = ap (marks_of_rows marker.marks) lines_all ∙ marks_both marker lines lower

  pub keys_all : keys_in s line (front ++ rest) ≡ keys_in s line front ++ facts_by_lines after lower
  keys_all = ap (facts_by_lines marker) lines_all ∙ keys_both marker lines lower

  pub count_here : after.marks.count ≡ length (tokens_in line front)
  count_here = let n : after.marks.count ≡ 0 + length (joined_of (tokens_in line front)) = count_after marker lines in omega (arith, n, length-joined (tokens_in line front))

  pub within : AllByRecursion (λ (x : Token). x.start.line < high) (tokens_in line front)
  within = tokens_above high (lexemes_from line front) (all_above line front)

-- ---- by the state between

module _ (config : Config) (s : DocumentState) (line : ℕ) (front rest : List RecordValue) (closed : AreClosed front) (some : 0 < line + length front)
    (sound : fault_in s line front ≡ None) (border : is_border (state_after s line front) ≡ true) where
  abbrev below : ℕ
  below = line + length front

  abbrev next : DocumentState
  next = state_after s line front

  abbrev read : KeyMarkerValue
  read = after s line front rest

  abbrev top : List (List Token)
  top = by_line (tokens_in 0 rest)

  abbrev ts : List Token
  ts = tokens_in line front

  abbrev us : List Token
  us = tokens_in below rest

  abbrev ws : List Symbol
  ws = symbols_in s line front

  abbrev vs : List Symbol
  vs = symbols_in next below rest

  -- ---- the marker

  up : AllByRecursion (StandsAbove below) ts
  up = closed_above line front closed

  alike : AreMarkedAlike read (marker_from next.marker) below below top
  alike =
      marked_alike read (marker_from next.marker) below below top (sym (same_marker next.marker))
      (rows_above below (marker_from s.marker) (by_line ts) (from_above below s.marker some) (subst (λ (xs : List Token). AllByRecursion (StandsAbove below) xs) (sym (joined_lines ts)) up))
      (from_above below next.marker some)

  symbols_are : symbols_in s line (front ++ rest) ≡ ws ++ map (symbol_after (length ts)) vs
  symbols_are =
      symbols_all s line front rest
      ∙ ap (λ (xs : List Symbol). ws ++ xs)
      (ap (marks_of_rows read.marks) (lines_there below rest)
      ∙ sym (same_symbols (marks_of_rows read.marks (rows_below below top)))
      ∙ alike.alone
      ∙ ap (λ (ls : List (List Token)). map (symbol_after read.marks.count) (marks_of_rows (marker_from next.marker).marks ls)) (sym (lines_there below rest))
      ∙ ap (λ (n : ℕ). map (symbol_after n) vs) (count_here s line front rest))

  keys_are : keys_in s line (front ++ rest) ≡ keys_in s line front ++ keys_in next below rest
  keys_are =
      keys_all s line front rest
      ∙ ap (λ (ks : List KeyFacts). keys_in s line front ++ ks)
      (ap (facts_by_lines read) (lines_there below rest) ∙ alike.facts ∙ ap (facts_by_lines (marker_from next.marker)) (sym (lines_there below rest)))

  marker_is : (state_after s line (front ++ rest)).marker ≡ (state_after next below rest).marker
  marker_is =
      ap (λ (ls : List (List Token)). key_marker_state (after_rows (marker_from s.marker) ls)) (lines_all s line front rest)
      ∙ ap key_marker_state (rows_both (marker_from s.marker) (by_line ts) (by_line us))
      ∙ ap (λ (ls : List (List Token)). key_marker_state (after_rows read ls)) (lines_there below rest)
      ∙ alike.after
      ∙ ap (λ (ls : List (List Token)). key_marker_state (after_rows (marker_from next.marker) ls)) (sym (lines_there below rest))

  -- ---- the parser

  taken : (t : ParserState) × (steps ws s.parser.goals [] ≡ Some t)
  taken = taken_all s.parser ws (steps ws s.parser.goals []) sound

  whole : is_whole true ws ≡ true
  whole = symbols_whole s line front

  many : lexeme_count ws ≡ length ts
  many = symbols_count s line front

  parser_held : next.parser ≡ held s.parser ws vs taken.0 whole taken.1
  parser_held = ap (λ (r : Option ParserState). goals_after r s.parser ws) taken.1

  abbrev fault_of : SymbolParserValue → List Symbol → Option PlacedParseFault
  fault_of p xs = fault_at p xs (steps xs p.goals [])

  fault_is : fault_in s line (front ++ rest) ≡ option_map (fault_later (length ts)) (fault_in next below rest)
  fault_is =
      ap (fault_of s.parser) symbols_are
      ∙ ap (λ (n : ℕ). fault_of s.parser (ws ++ map (symbol_after n) vs)) (sym many)
      ∙ fault_after s.parser ws vs taken.0 whole taken.1
      ∙ ap (λ (p : SymbolParserValue). option_map (fault_later (lexeme_count ws)) (fault_of p vs)) (sym parser_held)
      ∙ ap (λ (n : ℕ). option_map (fault_later n) (fault_in next below rest)) many

  abbrev goals_of : SymbolParserValue → List Symbol → SymbolParserValue
  goals_of p xs = goals_after (steps xs p.goals []) p xs

  parser_is : fault_in next below rest ≡ None → (state_after s line (front ++ rest)).parser ≡ (state_after next below rest).parser
  parser_is none =
      ap (goals_of s.parser) symbols_are
      ∙ ap (λ (n : ℕ). goals_of s.parser (ws ++ map (symbol_after n) vs)) (sym many)
      ∙ goals_on s.parser ws vs taken.0 whole taken.1 (ap (λ (p : SymbolParserValue). fault_of p vs) (sym parser_held) ∙ none)
      ∙ ap (λ (p : SymbolParserValue). goals_of p vs) (sym parser_held)

  -- ---- facts

  abbrev ns : List ℕ
  ns = spaces_in line front

  abbrev start : ContextValue
  start = context_from s.context

  tokens_apart : Apart ts (map (token_below below) (tokens_in 0 rest))
  tokens_apart = subst (Apart ts) (tokens_there below rest) (apart s line front rest)

  tokens_are : tokens_in line (front ++ rest) ≡ ts ++ map (token_below below) (tokens_in 0 rest)
  tokens_are = tokens_both line front rest ∙ ap (λ (xs : List Token). ts ++ xs) (tokens_there below rest)

  ends_up : (o : Option Token) → IfSome o (StandsAbove below) → IfSome o (λ x. x.end_line < below)
  ends_up None h = tt
  ends_up (Some x) h = h.1

  context_up : rows.IsAbove below (behind_symbols ts ns start ws)
  context_up =
      above_after ts ns below start ws (facts.context_above below s.context some)
      (symbols_have (λ i. IfSome (slice_get ts i) (λ x. x.end_line < below)) s line front (λ i h. ends_up (slice_get ts i) (all_got (StandsAbove below) ts i up)))

  counts : (k : ℕ) → HaveIndices (λ i. nat_lt i (length ts + k) ≡ nat_lt i (length ts)) ws
  counts k = symbols_have (λ i. nat_lt i (length ts + k) ≡ nat_lt i (length ts)) s line front (λ i h. lt-ltb i (length ts + k) (omega (arith, h)) ∙ sym (lt-ltb i (length ts) h))

  facts_are : (k : ℕ) → facts_left start (tokens_in line (front ++ rest)) (length ts + k) (spaces_in line (front ++ rest)) (symbols_in s line (front ++ rest))
      ≡ facts_left start ts (length ts) ns ws ++ facts_left (context_from next.context) us k (spaces_in below rest) vs
  facts_are k =
      let n = length ts + k in
      ap (λ (xs : List Token). facts_left start xs n (spaces_in line (front ++ rest)) (symbols_in s line (front ++ rest))) tokens_are
      ∙ ap (λ (ms : List ℕ). facts_left start (ts ++ map (token_below below) (tokens_in 0 rest)) n ms (symbols_in s line (front ++ rest))) (spaces_both line front rest)
      ∙ ap (facts_left start (ts ++ map (token_below below) (tokens_in 0 rest)) n (ns ++ spaces_of rest)) symbols_are
      ∙ facts.facts_joined ts ns (tokens_in 0 rest) (spaces_of rest) ws vs start below (length-spaces_in line front) tokens_apart (within s line front rest) (symbols_named s line front) context_up some k (counts k)
      ∙ ap (λ (xs : List Token). facts_left start ts (length ts) ns ws ++ facts_left (context_from next.context) xs k (spaces_in below rest) vs) (sym (tokens_there below rest))

  context_is : (state_after s line (front ++ rest)).context ≡ (state_after next below rest).context
  context_is =
      ap (λ (xs : List Token). context_state (behind_symbols xs (spaces_in line (front ++ rest)) start (symbols_in s line (front ++ rest)))) tokens_are
      ∙ ap (λ (ms : List ℕ). context_state (behind_symbols (ts ++ map (token_below below) (tokens_in 0 rest)) ms start (symbols_in s line (front ++ rest)))) (spaces_both line front rest)
      ∙ ap (λ (xs : List Symbol). context_state (behind_symbols (ts ++ map (token_below below) (tokens_in 0 rest)) (ns ++ spaces_of rest) start xs)) symbols_are
      ∙ facts.context_joined ts ns (tokens_in 0 rest) (spaces_of rest) ws vs start below (length-spaces_in line front) tokens_apart (within s line front rest) (symbols_named s line front) context_up some
      ∙ ap (λ (xs : List Token). context_state (behind_symbols xs (spaces_in below rest) (context_from next.context) vs)) (sym (tokens_there below rest))

  -- ---- findings

  abbrev xs : List LexemeValue
  xs = lexemes_from line front

  abbrev ys : List LexemeValue
  ys = lexemes_from below rest

  abbrev o : LexemeOptions
  o = lexeme_options_of config

  abbrev r : LexemesRead
  r = lexemes_from_state s.lexemes

  abbrev last : LexemesRead
  last = after_lexemes r xs

  last_up : layout.IsAbove below last
  last_up = findings.lexemes_above below r xs (findings.state_above below s.lexemes some) up

  settled : is_settled (lexemes_state last) ≡ true
  settled = (both_true (is_settled next.lexemes) (not next.lexemes.in_directives) border).0

  ended : last.in_directives ≡ false
  ended = not-true last.in_directives (both_true (is_settled next.lexemes) (not next.lexemes.in_directives) border).1

  lexemes_are : lexemes_from line (front ++ rest) ≡ xs ++ ys
  lexemes_are = lexemes_of_both line front rest

  version_all : version_in s (xs ++ ys) ≡ last.is_1_2
  version_all = findings.version_told (version_in s (xs ++ ys)) last ys (findings.version_after (version_in s (xs ++ ys)) r xs ys refl) ended

  version_front : version_in s xs ≡ last.is_1_2
  version_front =
      findings.version_told (version_in s xs) last []
      (findings.version_after (version_in s xs) r xs [] (ap (version_in s) (sym (append-nil xs)))) ended

  version_rest : version_in next ys ≡ last.is_1_2
  version_rest = findings.version_told (version_in next ys) last ys refl ended

  abbrev found : Bool → List LexemeValue → List KeyFacts → List FindingValue
  found v zs ks = findings_behind v o r.latest zs ks

  abbrev found_next : Bool → List LexemeValue → List FindingValue
  found_next v zs = findings_behind v o (lexemes_from_state next.lexemes).latest zs (keys_in next below rest)

  part_is : (k : ℕ) → take (length xs + k) (xs ++ ys) ≡ xs ++ map (lexeme_below below) (take k (lexemes_from 0 rest))
  part_is k =
      take-append-add xs ys k ∙ ap (λ (zs : List LexemeValue). xs ++ zs) (ap (take k) (lexemes_there below rest) ∙ take-map (lexeme_below below) k (lexemes_from 0 rest))

  found_are : (k : ℕ) → found (version_in s (lexemes_from line (front ++ rest))) (take (length xs + k) (lexemes_from line (front ++ rest))) (keys_in s line (front ++ rest))
      ≡ found (version_in s xs) xs (keys_in s line front) ++ found_next (version_in next ys) (take k ys)
  found_are k =
      let v = version_in s (xs ++ ys) in
      let zs = take k (lexemes_from 0 rest) in
      ap (λ (ls : List LexemeValue). found (version_in s ls) (take (length xs + k) ls) (keys_in s line (front ++ rest))) lexemes_are
      ∙ ap (λ (ls : List LexemeValue). found v ls (keys_in s line (front ++ rest))) (part_is k)
      ∙ ap (found v (xs ++ map (lexeme_below below) zs)) keys_are
      ∙ findings.found_joined o r xs below last_up some v ys zs (keys_in s line front) (keys_in next below rest) (keys_many s line front) refl settled
      ∙ ap (λ (ls : List LexemeValue). found v xs (keys_in s line front) ++ found_next v ls) (sym (ap (take k) (lexemes_there below rest) ∙ take-map (lexeme_below below) k (lexemes_from 0 rest)))
      ∙ ap (λ (w : Bool). found w xs (keys_in s line front) ++ found_next v (take k ys)) (version_all ∙ sym version_front)
      ∙ ap (λ (w : Bool). found (version_in s xs) xs (keys_in s line front) ++ found_next w (take k ys)) (version_all ∙ sym version_rest)

  lexemes_state_is : (state_after s line (front ++ rest)).lexemes ≡ (state_after next below rest).lexemes
  lexemes_state_is =
      ap (λ (ls : List LexemeValue). lexemes_state (after_lexemes r ls)) (lexemes_are ∙ ap (λ (ls : List LexemeValue). xs ++ ls) (lexemes_there below rest))
      ∙ findings.lexemes_joined o r xs below last_up some (lexemes_from 0 rest)
      ∙ ap (λ (ls : List LexemeValue). lexemes_state (after_lexemes (lexemes_from_state next.lexemes) ls)) (sym (lexemes_there below rest))

  -- ---- comments

  abbrev rows_to : ℕ → Option ToldFault → List RecordValue → List RecordValue
  rows_to n there rs = option_map_or (λ f. take (f.place.line - n) rs) there rs

  comments_are : (there : Option ToldFault) → IfSome there (λ f. below ≤ f.place.line)
      → comments_from None line (rows_to line there (front ++ rest)) ≡ comments_from None line front ++ comments_from None below (rows_to below there rest)
  comments_are None h = comments_joined line front rest closed
  comments_are (Some f) h =
      let k = f.place.line - below in
      let n : f.place.line - line ≡ length front + k = omega (arith, h) in
      ap (λ (m : ℕ). comments_from None line (take m (front ++ rest))) n
      ∙ ap (λ (rs : List RecordValue). comments_from None line rs) (take-append-add front rest k)
      ∙ comments_joined line front (take k rest) closed

  -- ---- all of it

  long : length ts ≡ length xs
  long = length-map xs token_of

  abbrev lexeme_fault : PlacedParseFault → LexemeValue → ToldFault
  lexeme_fault f x = record { place = x.start; kind = f.kind }

  fault_there : (f : PlacedParseFault) → told_fault (lexemes_from line (front ++ rest)) (fault_later (length ts) f) ≡ told_fault ys f
  fault_there f =
      ap (λ (ls : List LexemeValue). option_map (lexeme_fault f) (slice_get ls (length ts + f.place))) lexemes_are
      ∙ ap (λ (n : ℕ). option_map (lexeme_fault f) (slice_get (xs ++ ys) (n + f.place))) long
      ∙ ap (option_map (lexeme_fault f)) (get_after xs ys f.place)

  stands_below : (f : PlacedParseFault) (x : Option LexemeValue) → IfSome x (λ y. below ≤ y.start.line) → IfSome (option_map (lexeme_fault f) x) (λ g. below ≤ g.place.line)
  stands_below f None h = tt
  stands_below f (Some x) h = h

  told_with : (g : Option PlacedParseFault) → told_by config s line (front ++ rest) (option_map (fault_later (length ts)) g) ≡ joined (told_by config s line front None) (told_by config next below rest g)
  told_with None =
      let n : length (lexemes_from line (front ++ rest)) ≡ length xs + length ys = ap (λ (ls : List LexemeValue). length ls) lexemes_are ∙ length-append xs ys in
      same_told _ _ _ _ _ _ _ _
      (ap (λ (m : ℕ). found (version_in s (lexemes_from line (front ++ rest))) (take m (lexemes_from line (front ++ rest))) (keys_in s line (front ++ rest))) n
      ∙ found_are (length ys)
      ∙ ap (λ (ls : List LexemeValue). found (version_in s xs) ls (keys_in s line front) ++ found_next (version_in next ys) (take (length ys) ys)) (sym (take_all (length xs) xs (omega arith))))
      (ap (λ (m : ℕ). facts_left start (tokens_in line (front ++ rest)) m (spaces_in line (front ++ rest)) (symbols_in s line (front ++ rest)))
      (n ∙ ap (λ (m : ℕ). m + length ys) (sym long))
      ∙ facts_are (length ys)
      ∙ ap (λ (m : ℕ). facts_left start ts m ns ws ++ facts_left (context_from next.context) us (length ys) (spaces_in below rest) vs) long)
      (comments_are None tt)
      refl
  told_with (Some f) =
      let there = fault_there f in
      same_told _ _ _ _ _ _ _ _
      (ap (λ (m : ℕ). found (version_in s (lexemes_from line (front ++ rest))) (take (m + f.place) (lexemes_from line (front ++ rest))) (keys_in s line (front ++ rest))) long
      ∙ found_are f.place
      ∙ ap (λ (ls : List LexemeValue). found (version_in s xs) ls (keys_in s line front) ++ found_next (version_in next ys) (take f.place ys)) (sym (take_all (length xs) xs (omega arith))))
      (facts_are f.place
      ∙ ap (λ (m : ℕ). facts_left start ts m ns ws ++ facts_left (context_from next.context) us f.place (spaces_in below rest) vs) long)
      (ap (λ (t : Option ToldFault). comments_from None line (rows_to line t (front ++ rest))) there
      ∙ comments_are (told_fault ys f) (stands_below f (slice_get ys f.place) (all_got (λ (y : LexemeValue). below ≤ y.start.line) ys f.place (all_below below rest))))
      there

  rows_joined : AreJoined config s line front rest
  rows_joined = record {
    told_is =
        ap (told_by config s line (front ++ rest)) fault_is
        ∙ told_with (fault_in next below rest)
        ∙ ap (λ (f : Option PlacedParseFault). joined (told_by config s line front f) (told config next below rest)) (sym sound);
    state = λ none. same_state _ _ _ _ _ _ _ _ marker_is (parser_is none) context_is lexemes_state_is;
  }

pub all_joined : RowsAreJoined
all_joined config s line front rest closed some sound border = rows_joined config s line front rest closed some sound border

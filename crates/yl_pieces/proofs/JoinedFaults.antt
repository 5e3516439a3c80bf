-- Rows after a fault have no part in what is told.
use Rattle.std.proofs.Common.{◌≡◌, ◌≤◌, ◌<◌, ◌+◌, ◌-◌, ℕ, Bool, List, [], ◌++◌, length, take, drop, Option, Some, None, sym, ◌∙◌, ap, subst, append_assoc, append-nil, arith}
use Rattle.std.specs.Prelude.{IfSome, option_map, slice_get}
use Rattle.std.specs.List.{AllByRecursion}
use Rattle.std.specs.Option.{option_map_or}
use Rattle.std.proofs.lemmas.List.{length-map, length-take, take-append-drop, take-append-le}
use Rattle.yl_text.specs.Finding.{FindingValue}
use Rattle.yl_text.proofs.Every.{all_got}
use Rattle.yl_lexeme.specs.Lexeme.{LexemeValue}
use Rattle.yl_marks.specs.declared.token.Token.{Token}
use Rattle.yl_marks.specs.declared.symbol.Symbol.{Symbol}
use Rattle.yl_marks.specs.declared.facts.KeyFacts.{KeyFacts}
use Rattle.yl_marks.specs.Keys.{token_of}
use Rattle.yl_marks.specs.ByLine.{HaveIndices}
use Rattle.yl_marks.specs.FactsByLine.{facts_by_lines}
use Rattle.yl_marks.specs.MarksAlike.{marks_of_rows}
use Rattle.yl_events.specs.declared.fault.PlacedParseFault.{PlacedParseFault}
use Rattle.yl_events.specs.Derives.{lexeme_count}
use Rattle.yl_events.specs.DocumentOutcome.{steps}
use Rattle.yl_indentation.specs.declared.fact.Fact.{Fact}
use Rattle.yl_indentation.specs.Context.{ContextValue}
use Rattle.yl_indentation.specs.SymbolFacts.{behind_symbols, facts_left}
use Rattle.yl_indentation.proofs.BySymbols.{go_on, none_counts}
use Rattle.yl_lexeme_rules.specs.declared.options.LexemeOptions.{LexemeOptions}
use Rattle.yl_lexeme_rules.specs.Lexemes.{findings_behind}
use Rattle.yl_lexeme_rules.specs.LexemesLeft.{LexemesRead}
use Rattle.yl_config.specs.declared.config.Config.{Config}
use Rattle.yl_record.specs.Records.{RecordValue}
use Rattle.yl_sections.specs.Judging.{spaces_of}
use Rattle.yl_sections.specs.Kept.{comments_from, lexeme_options_of}
use Rattle.yl_sections.specs.Sections.{lexemes_from}
use Rattle.yl_sections.proofs.Lines.{get_before}
use Rattle.yl_sections.proofs.RowJudging.{lexemes_of_both, some_at}
use Rattle.yl_pieces.specs.State.{DocumentState, context_from, lexemes_from_state}
use Rattle.yl_pieces.specs.Told.{ToldFault, fault_at, fault_in, keys_in, spaces_in, symbols_in, tokens_in, told, told_by, told_fault, version_in}
use Rattle.yl_pieces.specs.Laws.{FaultEndsRows}
use Rattle.yl_pieces.proofs.JoinedLines.{all_above, length-spaces_in, spaces_both, tokens_both}
use Rattle.yl_pieces.proofs.JoinedMarks.{indices_of_rows}
use Rattle.yl_pieces.proofs.JoinedParser.{fault_stays}
use Rattle.yl_pieces.proofs.JoinedFacts.{facts_stay}
use Rattle.yl_pieces.proofs.JoinedFindings.{found_alone}
use Rattle.yl_pieces.proofs.JoinedTold.{after, apart, count_here, keys_all, keys_many, lower, same_told, symbols_all, symbols_count, symbols_named, symbols_whole, within}

taken_alike : {X Y : Type 0} (n : ℕ) (xs : List X) (ys : List Y) → length xs ≡ length ys → length (take n xs) ≡ length (take n ys)
taken_alike n xs ys e = omega (arith, e, length-take n xs, length-take n ys)

module _ (config : Config) (s : DocumentState) (line : ℕ) (front rest : List RecordValue) (f : PlacedParseFault) (faulty : fault_in s line front ≡ Some f) where
  abbrev high : ℕ
  high = line + length front

  abbrev xs : List LexemeValue
  xs = lexemes_from line front

  abbrev ys : List LexemeValue
  ys = lexemes_from high rest

  abbrev ts : List Token
  ts = tokens_in line front

  abbrev ns : List ℕ
  ns = spaces_in line front

  abbrev ws : List Symbol
  ws = symbols_in s line front

  abbrev vs : List Symbol
  vs = marks_of_rows (after s line front rest).marks (lower s line front rest)

  abbrev place : ℕ
  place = f.place

  lexemes_are : lexemes_from line (front ++ rest) ≡ xs ++ ys
  lexemes_are = lexemes_of_both line front rest

  stays : (fault_at s.parser (ws ++ vs) (steps (ws ++ vs) s.parser.goals []) ≡ Some f) × (place < lexeme_count ws)
  stays = fault_stays s.parser ws vs (symbols_whole s line front) f faulty

  fault_is : fault_in s line (front ++ rest) ≡ Some f
  fault_is = ap (λ (us : List Symbol). fault_at s.parser us (steps us s.parser.goals [])) (symbols_all s line front rest) ∙ stays.0

  inside_tokens : place < length ts
  inside_tokens = let less : place < lexeme_count ws = stays.1 in omega (arith, less, symbols_count s line front)

  inside : place < length xs
  inside = let less : place < length ts = inside_tokens in omega (arith, less, length-map xs token_of)

  -- ---- findings

  abbrev o : LexemeOptions
  o = lexeme_options_of config

  abbrev r : LexemesRead
  r = lexemes_from_state s.lexemes

  abbrev ks : List KeyFacts
  ks = keys_in s line front

  abbrev more : List KeyFacts
  more = facts_by_lines (after s line front rest) (lower s line front rest)

  abbrev found : Bool → List LexemeValue → List KeyFacts → List FindingValue
  found v zs js = findings_behind v o r.latest zs js

  cut : xs ≡ take place xs ++ drop place xs
  cut = sym (take-append-drop place xs)

  cut_all : xs ++ ys ≡ take place xs ++ (drop place xs ++ ys)
  cut_all = ap (λ (zs : List LexemeValue). zs ++ ys) cut ∙ append_assoc (take place xs) (drop place xs) ys

  keys_cut : ks ≡ take place ks ++ drop place ks
  keys_cut = sym (take-append-drop place ks)

  keys_cut_all : ks ++ more ≡ take place ks ++ (drop place ks ++ more)
  keys_cut_all = ap (λ (js : List KeyFacts). js ++ more) keys_cut ∙ append_assoc (take place ks) (drop place ks) more

  as_many : length (take place xs) ≡ length (take place ks)
  as_many = taken_alike place xs ks (keys_many s line front)

  found_is : found (version_in s (lexemes_from line (front ++ rest))) (take place (lexemes_from line (front ++ rest))) (keys_in s line (front ++ rest))
      ≡ found (version_in s xs) (take place xs) ks
  found_is =
      let v = version_in s (xs ++ ys) in
      let least : place ≤ length xs = let less : place < length xs = inside in omega (arith, less) in
      ap (λ (zs : List LexemeValue). found (version_in s zs) (take place zs) (keys_in s line (front ++ rest))) lexemes_are
      ∙ ap (λ (zs : List LexemeValue). found v zs (keys_in s line (front ++ rest))) (take-append-le place xs ys least)
      ∙ ap (found v (take place xs)) (keys_all s line front rest ∙ keys_cut_all)
      ∙ found_alone v o r (take place xs) (drop place xs ++ ys) (take place ks) (drop place ks ++ more) as_many (ap (version_in s) cut_all)
      ∙ sym (found_alone (version_in s xs) o r (take place xs) (drop place xs) (take place ks) (drop place ks) as_many (ap (version_in s) cut))
      ∙ ap (found (version_in s xs) (take place xs)) (sym keys_cut)

  -- ---- facts

  abbrev start : ContextValue
  start = context_from s.context

  later_index : (j : ℕ) → (after s line front rest).marks.count ≤ j → place ≤ j
  later_index j l = let less : place < length ts = inside_tokens in omega (arith, l, less, count_here s line front rest)

  later : HaveIndices (λ i. place ≤ i) vs
  later = indices_of_rows (λ i. place ≤ i) (after s line front rest).marks (lower s line front rest) (λ j l k. later_index j l)

  facts_is : facts_left start (tokens_in line (front ++ rest)) place (spaces_in line (front ++ rest)) (symbols_in s line (front ++ rest)) ≡ facts_left start ts place ns ws
  facts_is =
      let us = tokens_in high rest in
      let all = ts ++ us in
      let ms = ns ++ spaces_of rest in
      let inner = subst (λ (k : ℕ). AllByRecursion (λ (x : Token). x.start.line < k) ts) (sym (length-spaces_in line front)) (within s line front rest) in
      ap (λ (ls : List Token). facts_left start ls place (spaces_in line (front ++ rest)) (symbols_in s line (front ++ rest))) (tokens_both line front rest)
      ∙ ap (λ (ks : List ℕ). facts_left start all place ks (symbols_in s line (front ++ rest))) (spaces_both line front rest)
      ∙ ap (facts_left start all place ms) (symbols_all s line front rest)
      ∙ go_on all ms start place ws vs
      ∙ ap (λ (fs : List Fact). facts_left start all place ms ws ++ fs) (none_counts all ms (behind_symbols all ms start ws) place vs later)
      ∙ append-nil (facts_left start all place ms ws)
      ∙ facts_stay ts us ns (spaces_of rest) (apart s line front rest) inner place ws start (symbols_named s line front)

  -- ---- comments and the fault

  abbrev lexeme_fault : LexemeValue → ToldFault
  lexeme_fault x = record { place = x.start; kind = f.kind }

  there_is : told_fault (lexemes_from line (front ++ rest)) f ≡ told_fault xs f
  there_is = ap (λ (zs : List LexemeValue). option_map lexeme_fault (slice_get zs place)) lexemes_are ∙ ap (option_map lexeme_fault) (get_before xs ys place inside)

  abbrev rows_to : Option ToldFault → List RecordValue → List RecordValue
  rows_to there rs = option_map_or (λ g. take (g.place.line - line) rs) there rs

  at_lexeme : (x : LexemeValue) → slice_get xs place ≡ Some x → rows_to (told_fault xs f) (front ++ rest) ≡ rows_to (told_fault xs f) front
  at_lexeme x e =
      let there : x.start.line < high = subst (λ (y : Option LexemeValue). IfSome y (λ z. z.start.line < high)) e (all_got (λ (z : LexemeValue). z.start.line < high) xs place (all_above line front)) in
      ap (λ (y : Option LexemeValue). rows_to (option_map lexeme_fault y) (front ++ rest)) e
      ∙ take-append-le (x.start.line - line) front rest (omega (arith, there))
      ∙ ap (λ (y : Option LexemeValue). rows_to (option_map lexeme_fault y) front) (sym e)

  rows_are : rows_to (told_fault xs f) (front ++ rest) ≡ rows_to (told_fault xs f) front
  rows_are = let x = some_at xs place inside in at_lexeme x.0 x.1

  ended : told config s line (front ++ rest) ≡ told config s line front
  ended =
      ap (told_by config s line (front ++ rest)) fault_is
      ∙ same_told _ _ _ _ _ _ _ _ found_is facts_is
      (ap (λ (t : Option ToldFault). comments_from None line (rows_to t (front ++ rest))) there_is ∙ ap (λ (rs : List RecordValue). comments_from None line rs) rows_are)
      there_is
      ∙ ap (told_by config s line front) (sym faulty)

pub all_ended : FaultEndsRows
all_ended config s line front rest f faulty = ended config s line front rest f faulty

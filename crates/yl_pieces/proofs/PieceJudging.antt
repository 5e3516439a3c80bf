-- A row more is judged.
use Rattle.std.proofs.Common.{◌≡◌, ◌<◌, ◌≤◌, ◌+◌, ℕ, zero, suc, Bool, List, [], ◌∷◌, ◌++◌, Option, Some, None, length, map, replicate, take, refl, sym, ◌∙◌, ap, subst, append_assoc, append-nil, arith}
use Rattle.std.specs.Prelude.{nat_lt, slice_index}
use Rattle.std.proofs.lemmas.Bool.{lt-ltb}
use Rattle.std.proofs.lemmas.List.{length-append, length-map, length-replicate}
use Rattle.yl_text.specs.Finding.{FindingValue}
use Rattle.yl_lexeme.specs.Lexeme.{LexemeValue}
use Rattle.yl_marks.specs.declared.facts.KeyFacts.{KeyFacts}
use Rattle.yl_marks.specs.declared.symbol.Symbol.{Symbol}
use Rattle.yl_marks.specs.declared.symbol.Symbol.TheVariants.{One}
use Rattle.yl_marks.specs.declared.token.Token.{Token}
use Rattle.yl_marks.specs.Keys.{token_of}
use Rattle.yl_marks.specs.ByLine.{MarkerValue, behind_line, by_line, marks_of_line}
use Rattle.yl_marks.specs.FactsByLine.{KeyMarkerValue, behind_keyed_line, facts_by_lines, facts_of_line}
use Rattle.yl_marks.specs.MarksAlike.{after_rows, marks_of_rows}
use Rattle.yl_marks.proofs.Indices.{indices_of_line}
use Rattle.yl_marks.proofs.Runs.{joined, joined_lines}
use Rattle.yl_events.specs.declared.fault.PlacedParseFault.{PlacedParseFault}
use Rattle.yl_events.specs.Derives.{lexeme_count}
use Rattle.yl_events.specs.DocumentOutcome.{Fails, steps}
use Rattle.yl_events.specs.SymbolParsing.{outcome_of_symbols}
use Rattle.yl_events.specs.Trail.{trail_after}
use Rattle.yl_events.proofs.Counts.{line_count}
use Rattle.yl_events.proofs.Trails.{trail_after-append}
use Rattle.yl_indentation.specs.declared.fact.Fact.{Fact}
use Rattle.yl_indentation.specs.Context.{ContextValue}
use Rattle.yl_indentation.specs.LineFacts as facts
use Rattle.yl_indentation.specs.LineFacts.{AreIndented}
use Rattle.yl_indentation.specs.SymbolFacts.{behind_symbols, facts_left}
use Rattle.yl_indentation.proofs.BySymbols.{as_counted, go_on}
use Rattle.yl_indentation.proofs.RowFacts.{behind_both}
use Rattle.yl_lexeme_rules.specs.declared.options.LexemeOptions.{LexemeOptions}
use Rattle.yl_lexeme_rules.specs.declared.span.Span.{Span}
use Rattle.yl_lexeme_rules.specs.Lexemes.{findings_at, findings_behind, first_span}
use Rattle.yl_lexeme_rules.specs.LexemesAlike.{after_lexemes}
use Rattle.yl_lexeme_rules.specs.LexemesLeft.{IsVersion, LexemesRead, after_lexeme, findings_waiting, lexemes_left}
use Rattle.yl_lexeme_rules.specs.Spans.{span_of}
use Rattle.yl_config.specs.declared.config.Config.{Config}
use Rattle.yl_record.specs.Records.{RecordValue}
use Rattle.yl_sections.specs.JudgedRow.{JudgesRow}
use Rattle.yl_sections.specs.Judging.{BeginIn}
use Rattle.yl_sections.specs.Kept.{lexeme_options_of}
use Rattle.yl_sections.specs.Sections.{lexemes_from}
use Rattle.yl_sections.proofs.Lines.{indented, is_line}
use Rattle.yl_sections.proofs.RowJudging.{below, placed_here, spaces_at}
use Rattle.yl_sections.specs.declared.row_judge.RowJudge.{RowJudge}
use Rattle.yl_pieces.specs.Told.{spaces_in, told, tokens_in}
use Rattle.yl_pieces.specs.Piece.{HasRead, Machines, any_lexeme, goals_of, lexemes_by, lines_of, symbols_by, tokens_by}
use Rattle.yl_pieces.proofs.PieceLines.{after_both, keys_of_both, lexemes_more, line_more, marks_of_both, row_lexemes}
use Rattle.yl_pieces.proofs.PieceSteps.{fails_more, goals_more}

-- ---- how many lexemes there are

pub count_both : (ws vs : List Symbol) → lexeme_count (ws ++ vs) ≡ lexeme_count ws + lexeme_count vs
count_both [] vs = omega arith
count_both (One kind i ∷ ws) vs = omega (arith, count_both ws vs)
count_both (w ∷ ws) vs = count_both ws vs

count_joined : (m : MarkerValue) (rows : List (List Token)) → lexeme_count (marks_of_rows m rows) ≡ length (joined rows)
count_joined m [] = refl
count_joined m (x ∷ rows) =
    omega (
      arith,
      count_both (marks_of_line m x) (marks_of_rows (behind_line m x) rows),
      line_count m x,
      count_joined (behind_line m x) rows,
      length-append x (joined rows),
    )

pub rows_count : (m : MarkerValue) (rs : List RecordValue) → lexeme_count (marks_of_rows m (lines_of rs)) ≡ length (lexemes_from 1 rs)
rows_count m rs = count_joined m (lines_of rs) ∙ (ap (λ (ts : List Token). length ts) (joined_lines (tokens_in 1 rs)) ∙ length-map (lexemes_from 1 rs) token_of)

-- ---- lexemes and their keys

lexemes_after_both : (a : LexemesRead) (xs ys : List LexemeValue) → after_lexemes a (xs ++ ys) ≡ after_lexemes (after_lexemes a xs) ys
lexemes_after_both a [] ys = refl
lexemes_after_both a (x ∷ xs) ys = lexemes_after_both (after_lexeme a x) xs ys

-- keys beyond the lexemes count for nothing
extra_keys : (v : Bool) (o : LexemeOptions) (before : Option Span) (xs : List LexemeValue) (ks more : List KeyFacts) → length xs ≤ length ks
    → findings_behind v o before xs (ks ++ more) ≡ findings_behind v o before xs ks
extra_keys v o before [] [] [] h = refl
extra_keys v o before [] [] (m ∷ ms) h = refl
extra_keys v o before [] (k ∷ ks) more h = refl
extra_keys v o before (x ∷ xs) [] more h = absurd (omega (arith, h))
extra_keys v o before (x ∷ xs) (k ∷ ks) more h =
    ap (λ (fs : List FindingValue). findings_at v o before (span_of x) x.value k (first_span xs) ++ fs) (extra_keys v o (Some (span_of x)) xs ks more (omega (arith, h)))

pub extra_left : (v : Bool) (o : LexemeOptions) (r : LexemesRead) (xs : List LexemeValue) (ks more : List KeyFacts) → length xs ≤ length ks
    → lexemes_left v o r xs (ks ++ more) ≡ lexemes_left v o r xs ks
extra_left v o r xs ks more h = ap (λ (fs : List FindingValue). findings_waiting o r (first_span xs) ++ fs) (extra_keys v o r.latest xs ks more h)

pub taken_alike : {X Y : Type 0} (n : ℕ) (us : List X) (vs : List Y) → length us ≡ length vs → length (take n us) ≤ length (take n vs)
taken_alike zero us vs e = omega (arith)
taken_alike (suc n) [] vs e = omega (arith)
taken_alike (suc n) (u ∷ us) [] e = absurd (omega (arith, e))
taken_alike (suc n) (u ∷ us) (v ∷ vs) e = omega (arith, taken_alike n us vs (omega (arith, e)))

-- ---- a row with the lexemes `ys`

module _ {A : Type 0} (config : Config) (m : Machines) (rs : List RecordValue) (r : RecordValue) (ys : List LexemeValue) (are : ys ≡ row_lexemes (1 + length rs) r) (some : 0 < length r.entry.lexemes)
    (d : RowJudge A) (h : HasRead config m rs d) where
  abbrev pub at : ℕ
  at = 1 + length rs

  abbrev pub k : KeyMarkerValue
  k = d.reader.marker

  abbrev pub ts : List Token
  ts = map token_of ys

  abbrev pub here : List Symbol
  here = marks_of_line k.marks ts

  abbrev pub above : List Symbol
  above = symbols_by m rs

  abbrev pub keys_above : List KeyFacts
  keys_above = facts_by_lines m.marker (lines_of rs)

  abbrev pub lexemes_above : List LexemeValue
  lexemes_above = lexemes_from 1 rs

  abbrev pub o : LexemeOptions
  o = lexeme_options_of config

  pub long : length ts ≡ length ys
  long = length-map ys token_of

  -- ---- and rows after it

  module _ (more : List RecordValue) where
    abbrev pub all : List RecordValue
    all = rs ++ r ∷ more

    abbrev pub later : List LexemeValue
    later = lexemes_from (at + 1) more

    abbrev pub later_lines : List (List Token)
    later_lines = by_line (tokens_in (at + 1) more)

    abbrev pub later_symbols : List Symbol
    later_symbols = marks_of_rows (behind_line k.marks ts) later_lines

    pub whole : lexemes_from 1 all ≡ lexemes_above ++ (ys ++ later)
    whole = lexemes_more 1 rs more r ∙ ap (λ (zs : List LexemeValue). lexemes_above ++ (zs ++ later)) (sym are)

    cut : lines_of all ≡ lines_of rs ++ (ts ∷ later_lines)
    cut = line_more 1 rs more r some ∙ ap (λ (zs : List LexemeValue). lines_of rs ++ (map token_of zs ∷ later_lines)) (sym are)

    pub symbols_all : symbols_by m all ≡ above ++ (here ++ later_symbols)
    symbols_all =
        ap (λ (ls : List (List Token)). marks_of_rows m.marker.marks ls) cut
        ∙ (marks_of_both m.marker (lines_of rs) (ts ∷ later_lines) ∙ ap (λ (j : KeyMarkerValue). above ++ marks_of_rows j.marks (ts ∷ later_lines)) (sym h.marker))

    pub keys_all : facts_by_lines m.marker (lines_of all) ≡ keys_above ++ (facts_of_line k ts ++ facts_by_lines (behind_keyed_line k ts) later_lines)
    keys_all =
        ap (λ (ls : List (List Token)). facts_by_lines m.marker ls) cut
        ∙ (keys_of_both m.marker (lines_of rs) (ts ∷ later_lines) ∙ ap (λ (j : KeyMarkerValue). keys_above ++ facts_by_lines j (ts ∷ later_lines)) (sym h.marker))

    begins : BeginIn at ys
    begins = subst (BeginIn at) (sym are) (placed_here at r.entry.lexemes)

    pub before_len : length (lexemes_by m rs) ≡ k.marks.count
    before_len = omega (arith, length-append (replicate m.marker.marks.count any_lexeme) lexemes_above, length-replicate m.marker.marks.count any_lexeme, h.count)

    line_there : facts.IsLine (tokens_by m all) k.marks.count ts
    line_there =
        let parts : lexemes_by m all ≡ lexemes_by m rs ++ (ys ++ later) =
        ap (λ (zs : List LexemeValue). replicate m.marker.marks.count any_lexeme ++ zs) whole ∙ sym (append_assoc (replicate m.marker.marks.count any_lexeme) lexemes_above (ys ++ later)) in
        is_line (lexemes_by m all) (lexemes_by m rs) ys later k.marks.count parts before_len at begins (below at (at + 1) more (omega arith))

    spaces_there : slice_index (spaces_in 1 all) at ≡ r.indentation
    spaces_there = ap (slice_index (spaces_in 1 all)) {x = at} {y = suc (length rs)} (omega arith) ∙ spaces_at rs more r

    -- ---- what a reader of facts does at the row

    pub at_row : (P : List Token → List ℕ → Type 0) (spaces : ℕ) → spaces ≡ r.indentation → ((tokens : List Token) (ns : List ℕ) → facts.IsLine tokens k.marks.count ts → AreIndented ns spaces ts → P tokens ns)
        → P (tokens_by m all) (spaces_in 1 all)
    at_row P spaces e read = read (tokens_by m all) (spaces_in 1 all) line_there (indented (spaces_in 1 all) spaces at ys (spaces_there ∙ sym e) begins)

    -- the facts of the rows down to this one, of which the first `counted` lexemes count
    pub facts_to : (end counted : ℕ) (fs : List Fact) → k.marks.count ≤ counted → ((i : ℕ) → k.marks.count ≤ i → i < k.marks.count + length ts → nat_lt i counted ≡ nat_lt i end)
        → fs ≡ d.facts.items ++ facts_left d.places (tokens_by m all) end (spaces_in 1 all) here → fs ≡ facts_left m.context (tokens_by m all) counted (spaces_in 1 all) (above ++ here)
    facts_to end counted fs most same told =
        let tokens = tokens_by m all in
        let ns = spaces_in 1 all in
        told
        ∙ (ap (λ (gs : List Fact). gs ++ facts_left d.places tokens end ns here) (h.facts (r ∷ more) counted most)
        ∙ (ap (λ (gs : List Fact). facts_left m.context tokens counted ns above ++ gs) (sym (as_counted tokens ns d.places counted end here (indices_of_line (λ i. nat_lt i counted ≡ nat_lt i end) k.marks ts same)))
        ∙ (ap (λ (c : ContextValue). facts_left m.context tokens counted ns above ++ facts_left c tokens counted ns here) (h.context (r ∷ more))
        ∙ sym (go_on tokens ns m.context counted above here))))

    context_to : (c : ContextValue) → c ≡ behind_symbols (tokens_by m all) (spaces_in 1 all) d.places here → c ≡ behind_symbols (tokens_by m all) (spaces_in 1 all) m.context (above ++ here)
    context_to c told =
        let tokens = tokens_by m all in
        let ns = spaces_in 1 all in
        told ∙ (ap (λ (b : ContextValue). behind_symbols tokens ns b here) (h.context (r ∷ more)) ∙ sym (behind_both tokens ns m.context above here))

  -- ---- the row is the last one

  abbrev pub rows : List RecordValue
  rows = rs ++ r ∷ []

  same_rows : (more : List RecordValue) → rows ++ more ≡ rs ++ r ∷ more
  same_rows more = append_assoc rs (r ∷ []) more

  pub symbols_here : symbols_by m rows ≡ above ++ here
  symbols_here = symbols_all [] ∙ ap (λ (ws : List Symbol). above ++ ws) (append-nil here)

  pub lexemes_here : lexemes_from 1 rows ≡ lexemes_above ++ ys
  lexemes_here = whole [] ∙ ap (λ (zs : List LexemeValue). lexemes_above ++ zs) (append-nil ys)

  keys_here : facts_by_lines m.marker (lines_of rows) ≡ keys_above ++ facts_of_line k ts
  keys_here = keys_all [] ∙ ap (λ (ks : List KeyFacts). keys_above ++ ks) (append-nil (facts_of_line k ts))

  marker_here : after_rows m.marker (lines_of rows) ≡ behind_keyed_line k ts
  marker_here =
      ap (λ (ls : List (List Token)). after_rows m.marker ls) (cut [])
      ∙ (after_both m.marker (lines_of rs) (ts ∷ []) ∙ ap (λ (j : KeyMarkerValue). behind_keyed_line j ts) (sym h.marker))

  lexemes_with : (rest : List LexemeValue) → lexemes_from 1 rows ++ rest ≡ lexemes_above ++ (ys ++ rest)
  lexemes_with rest = ap (λ (zs : List LexemeValue). zs ++ rest) lexemes_here ∙ append_assoc lexemes_above ys rest

  pub version_there : (v : Bool) (rest : List LexemeValue) → IsVersion v m.lexemes (lexemes_from 1 rows ++ rest) → IsVersion v d.rules (ys ++ rest)
  version_there v rest e = h.version v (ys ++ rest) (subst (λ (zs : List LexemeValue). IsVersion v m.lexemes zs) (lexemes_with rest) e)

  module _ (e : RowJudge A) (spaces : ℕ) (spaces_is : spaces ≡ r.indentation) (j : JudgesRow d ys spaces None e) where
    pub count_here : e.reader.marker.marks.count ≡ k.marks.count + length ys
    count_here = ap (λ (i : KeyMarkerValue). i.marks.count) j.marker ∙ omega (arith, long)

    fails_here : (after : List Symbol) (f : PlacedParseFault) → outcome_of_symbols e.reader.parser e.reader.marker.marks.count [] after ≡ Fails f
        → outcome_of_symbols m.parser m.marker.marks.count [] (symbols_by m rows ++ after) ≡ Fails f
    fails_here after f fails =
        let one : outcome_of_symbols d.reader.parser k.marks.count [] (here ++ after) ≡ Fails f =
        fails_more d.reader.parser e.reader.parser k.marks.count e.reader.marker.marks.count e.reader.outlines.items here after f
        j.parsed.told (omega (arith, count_here, line_count k.marks ts, long)) fails in
        ap (λ (vs : List Symbol). outcome_of_symbols m.parser m.marker.marks.count [] (vs ++ after)) symbols_here
        ∙ (ap (λ (vs : List Symbol). outcome_of_symbols m.parser m.marker.marks.count [] vs) (append_assoc above here after) ∙ h.fails (here ++ after) f one)

    context_here : (more : List RecordValue) → e.places ≡ behind_symbols (tokens_by m (rows ++ more)) (spaces_in 1 (rows ++ more)) m.context (symbols_by m rows)
    context_here more =
        let there = context_to more e.places (at_row more (λ tokens ns. e.places ≡ behind_symbols tokens ns d.places here) spaces spaces_is j.context) in
        subst (λ (es : List RecordValue). e.places ≡ behind_symbols (tokens_by m es) (spaces_in 1 es) m.context (symbols_by m rows)) (sym (same_rows more))
        (there ∙ ap (λ (vs : List Symbol). behind_symbols (tokens_by m (all more)) (spaces_in 1 (all more)) m.context vs) (sym symbols_here))

    facts_here : (more : List RecordValue) (counted : ℕ) → e.reader.marker.marks.count ≤ counted
        → e.facts.items ≡ facts_left m.context (tokens_by m (rows ++ more)) counted (spaces_in 1 (rows ++ more)) (symbols_by m rows)
    facts_here more counted most =
        let end = k.marks.count + length ys in
        let row = at_row more (λ tokens ns. e.facts.items ≡ d.facts.items ++ facts_left d.places tokens end ns here) spaces spaces_is j.facts in
        let there = facts_to more end counted e.facts.items (omega (arith, most, count_here))
        (λ i l n. lt-ltb i counted (omega (arith, n, most, count_here, long)) ∙ sym (lt-ltb i end (omega (arith, n, long)))) row in
        subst (λ (es : List RecordValue). e.facts.items ≡ facts_left m.context (tokens_by m es) counted (spaces_in 1 es) (symbols_by m rows)) (sym (same_rows more))
        (there ∙ ap (λ (vs : List Symbol). facts_left m.context (tokens_by m (all more)) counted (spaces_in 1 (all more)) vs) (sym symbols_here))

    found_here : (v : Bool) (rest more : List LexemeValue) (ks : List KeyFacts) → IsVersion v m.lexemes (lexemes_from 1 rows ++ rest)
        → e.found.items ++ lexemes_left v o e.rules more ks ≡ lexemes_left v o m.lexemes (lexemes_from 1 rows ++ more) (facts_by_lines m.marker (lines_of rows) ++ ks)
    found_here v rest more ks n =
        let hv : IsVersion v m.lexemes (lexemes_above ++ (ys ++ rest)) = subst (λ (zs : List LexemeValue). IsVersion v m.lexemes zs) (lexemes_with rest) n in
        let keys = facts_of_line k ts in
        let one = subst (λ (p : LexemeOptions). e.found.items ++ lexemes_left v p e.rules more ks ≡ d.found.items ++ lexemes_left v p d.rules (ys ++ more) (keys ++ ks)) h.options
        (j.judged.found v rest more ks (version_there v rest n)) in
        one
        ∙ (h.found v (ys ++ rest) (ys ++ more) (keys ++ ks) hv
        ∙ (ap (λ (zs : List LexemeValue). lexemes_left v o m.lexemes zs (keys_above ++ (keys ++ ks))) (sym (lexemes_with more))
        ∙ (ap (λ (js : List KeyFacts). lexemes_left v o m.lexemes (lexemes_from 1 rows ++ more) js) (sym (append_assoc keys_above keys ks))
        ∙ ap (λ (js : List KeyFacts). lexemes_left v o m.lexemes (lexemes_from 1 rows ++ more) (js ++ ks)) (sym keys_here))))

    pub one_more : HasRead config m rows e
    one_more = record {
      options = j.options ∙ h.options;
      marker = j.marker ∙ sym marker_here;
      counted = λ known. j.judged.count;
      count = count_here ∙ omega (arith, h.count, ap (λ (zs : List LexemeValue). length zs) lexemes_here, length-append lexemes_above ys);
      goals = ap (λ (vs : List Symbol). goals_of (steps vs m.parser.goals [])) symbols_here
          ∙ goals_more above here m.parser.goals d.reader.parser.goals e.reader.parser.goals h.goals (ap goals_of (j.parsed.taken refl));
      trail = j.parsed.trail refl
          ∙ (ap (λ t. trail_after t here) h.trail ∙ (sym (trail_after-append m.parser.trail above here) ∙ ap (λ (vs : List Symbol). trail_after m.parser.trail vs) (sym symbols_here)));
      fails = fails_here;
      context = context_here;
      facts = facts_here;
      lexemes = j.judged.read
          ∙ (ap (λ (a : LexemesRead). after_lexemes a ys) h.lexemes ∙ (sym (lexemes_after_both m.lexemes lexemes_above ys) ∙ ap (λ (zs : List LexemeValue). after_lexemes m.lexemes zs) (sym lexemes_here)));
      version = λ v rest n. j.judged.version v rest (version_there v rest n);
      found = found_here;
    }

-- A document is judged line by line.
use Rattle.std.proofs.Common.{◌≡◌, ◌≤◌, ◌+◌, ◌-◌, ℕ, zero, suc, Bool, List, [], ◌∷◌, ◌++◌, Option, Some, None, length, map, take, drop, refl, sym, ◌∙◌, ap, subst, append_assoc, append-nil, arith, inl}
use Rattle.std.specs.Prelude.{IfSome, option_map}
use Rattle.std.proofs.lemmas.List.{length-append, length-map, take-append-drop, take-append-le}
use Rattle.std.proofs.Math.Seq.{take-append-add}
use Rattle.yl_text.specs.Finding.{FindingValue}
use Rattle.yl_lexeme.specs.Lexeme.{LexemeValue}
use Rattle.yl_marks.specs.declared.facts.KeyFacts.{KeyFacts}
use Rattle.yl_marks.specs.declared.symbol.Symbol.{Symbol}
use Rattle.yl_marks.specs.declared.token.Token.{Token}
use Rattle.yl_marks.specs.Keys.{token_of}
use Rattle.yl_marks.specs.Marks.{closings_of_all, marked_lexemes}
use Rattle.yl_marks.specs.ByLine.{MarkerValue, behind_line, by_line, marker_at_start, marks_by_lines, marks_of_line}
use Rattle.yl_marks.specs.FactsByLine.{KeyMarkerValue, behind_keyed_line, facts_by_lines, facts_of_line, key_marker_at_start}
use Rattle.yl_marks.proofs.ByLines.{marked_by_lines}
use Rattle.yl_marks.proofs.FactsByLines.{told_by_lines}
use Rattle.yl_marks.proofs.Indices.{no_indices}
use Rattle.yl_events.specs.declared.fault.PlacedParseFault.{PlacedParseFault}
use Rattle.yl_events.specs.declared.symbol.Goal.{Goal}
use Rattle.yl_events.specs.declared.symbol.Outline.{Outline}
use Rattle.yl_events.specs.declared.symbol.Shape.TheVariants.{DocumentEnd}
use Rattle.yl_events.specs.DocumentOutcome.{DocumentOutcome, Events, document_outcome, steps}
use Rattle.yl_events.specs.Outlines.{end_event}
use Rattle.yl_events.specs.Trail.{TrailValue}
use Rattle.yl_events.specs.Event.{EventValue, event_of_outline}
use Rattle.yl_events.specs.Machine.{ParserState, run, taken_count}
use Rattle.yl_events.specs.Named.{IsInLine, IsNamed, OnlyInnermostWaits, OutlinesName, SymbolsName, waiting_anchor}
use Rattle.yl_events.specs.Seen.{HasLine, IsAnchorOf, LineValue, event_seen}
use Rattle.yl_events.specs.Parsing.{IsOutcome, start_events}
use Rattle.yl_events.specs.SymbolParsing.{SymbolParserValue, outcome_of_symbols, symbols_at_start}
use Rattle.yl_events.proofs.Counts.{line_count}
use Rattle.yl_events.proofs.Named.{Stepped, closings_named, line_named, outlines_of_both, run_named, steps_named}
use Rattle.yl_events.proofs.Seen.{events_are, start_is, value_is}
use Rattle.yl_indentation.specs.declared.fact.Fact.{Fact}
use Rattle.yl_indentation.specs.Context.{ContextValue, nothing_open}
use Rattle.yl_indentation.specs.Facts.{indent_facts}
use Rattle.yl_indentation.specs.LineFacts as facts
use Rattle.yl_indentation.specs.LineFacts.{AreIndented}
use Rattle.yl_indentation.specs.SymbolFacts.{facts_left}
use Rattle.yl_indentation.proofs.BySymbols.{by_symbols, none_counts}
use Rattle.yl_lexeme_rules.specs.declared.options.LexemeOptions.{LexemeOptions}
use Rattle.yl_lexeme_rules.specs.declared.span.Span.{Span}
use Rattle.yl_lexeme_rules.specs.Lexemes.{findings_at, findings_behind, first_span, lexeme_findings}
use Rattle.yl_lexeme_rules.specs.LexemesLeft.{LexemesRead, findings_waiting, lexemes_left}
use Rattle.yl_lexeme_rules.specs.Spans.{span_of}
use Rattle.yl_lexeme_rules.specs.Version.{is_1_2_document}
use Rattle.yl_tree.specs.declared.tree_rules.TreeRules.{TreeRules}
use Rattle.yl_tree.specs.TreeRules.{Finds}
use Rattle.yl_config.specs.declared.config.Config.{Config}
use Rattle.yl_sections.specs.declared.document_judge.DocumentJudge.{DocumentJudge}
use Rattle.yl_sections.specs.Judge.{document_of}
use Rattle.yl_sections.specs.Kept.{BuiltValue, event_findings, lexeme_options_of}
use Rattle.yl_sections.specs.Reading.{FindsAll, IsQuiet, fault_told}
use Rattle.yl_sections.specs.JudgedRow.{JudgesRow}
use Rattle.yl_sections.specs.Judging.{IsLine, Reads, Stops, anchor_held}
use Rattle.yl_sections.proofs.LineByLine.{close_place, ends_after, facts_on, facts_stop, line_read, quiet_document, told_on, told_stop}
use Rattle.yl_sections.proofs.Lines.{has_line, indented, is_line, keys_long, line_cut, more_named, self_named}

-- ---- keys beyond the lexemes count for nothing

extra_keys : (v : Bool) (o : LexemeOptions) (before : Option Span) (xs : List LexemeValue) (ks more : List KeyFacts) → length xs ≤ length ks
    → findings_behind v o before xs (ks ++ more) ≡ findings_behind v o before xs ks
extra_keys v o before [] [] [] h = refl
extra_keys v o before [] [] (m ∷ ms) h = refl
extra_keys v o before [] (k ∷ ks) more h = refl
extra_keys v o before (x ∷ xs) [] more h = absurd (omega (arith, h))
extra_keys v o before (x ∷ xs) (k ∷ ks) more h =
    ap (λ (fs : List FindingValue). findings_at v o before (span_of x) x.value k (first_span xs) ++ fs) (extra_keys v o (Some (span_of x)) xs ks more (omega (arith, h)))

extra_left : (v : Bool) (o : LexemeOptions) (r : LexemesRead) (xs : List LexemeValue) (ks more : List KeyFacts) → length xs ≤ length ks
    → lexemes_left v o r xs (ks ++ more) ≡ lexemes_left v o r xs ks
extra_left v o r xs ks more h = ap (λ (fs : List FindingValue). findings_waiting o r (first_span xs) ++ fs) (extra_keys v o r.latest xs ks more h)

-- ---- a line more

module _ {A : Type 0} (config : Config) (xs line left : List LexemeValue) (ns : List ℕ) (spaces : ℕ) (d : DocumentJudge A) (l : IsLine ns spaces line left) (h : Reads config xs ns (line ++ left) d) where
  abbrev m : KeyMarkerValue
  m = d.rows.reader.marker

  abbrev tokens : List Token
  tokens = map token_of line

  abbrev lines : List (List Token)
  lines = by_line (map token_of (line ++ left))

  abbrev later : List (List Token)
  later = by_line (map token_of left)

  abbrev symbols : List Symbol
  symbols = marks_of_line m.marks tokens

  abbrev options : LexemeOptions
  options = lexeme_options_of config

  abbrev version : Bool
  version = is_1_2_document xs

  cut : lines ≡ tokens ∷ later
  cut = line_cut l.at line left l.some l.here l.elsewhere

  long : length tokens ≡ length line
  long = length-map line token_of

  -- ---- names

  abbrev Named : ℕ → Type 0
  Named i = IsNamed d.rows.reader.count (length line) (option_map (λ w. w.index) d.waiting) i

  symbols_named : SymbolsName (IsInLine d.rows.reader.count (length line)) symbols
  symbols_named =
      more_named (IsInLine m.marks.count (length tokens)) (IsInLine d.rows.reader.count (length line)) (λ i k. (omega (arith, k.0, h.count), omega (arith, k.1, h.count, long))) symbols (line_named m.marks tokens)

  waits_named : IfSome (waiting_anchor d.rows.reader.parser.goals) Named
  waits_named = subst (λ (w : Option ℕ). IfSome w Named) h.waits (self_named d.rows.reader.count (length line) (option_map (λ w. w.index) d.waiting))

  stepped : (goals : List Goal) (out : List Outline) → steps symbols d.rows.reader.parser.goals [] ≡ Some (record { goals = goals; events = out })
      → OnlyInnermostWaits goals × (IfSome (waiting_anchor goals) Named × OutlinesName Named out)
  stepped goals out e =
      subst (λ (r : Option ParserState). Stepped Named r) e (steps_named Named symbols d.rows.reader.parser.goals [] h.only waits_named tt (more_named (IsInLine d.rows.reader.count (length line)) Named (λ i k. inl k) symbols symbols_named))

  -- ---- what is seen of the document

  abbrev pub seen : LineValue
  seen = record { lexemes = line; first = d.rows.reader.count; waiting = d.waiting }

  has : HasLine xs d.rows.reader.count line
  has = has_line xs h.front line left d.rows.reader.count h.whole h.read

  events_seen : (out : List Outline) → OutlinesName Named out → map (event_seen seen) out ≡ map (event_of_outline xs) out
  events_seen out k = events_are xs seen has h.anchor out k

  fed : (t u : TreeRules A) (out : List Outline) → OutlinesName Named out → ((es : List EventValue) (all : List FindingValue) → Finds t (map (event_seen seen) out ++ es) all → Finds u es all)
      → (es : List EventValue) (all : List FindingValue) → Finds t (map (event_of_outline xs) out ++ es) all → Finds u es all
  fed t u out k feeds es all finds = feeds es all (subst (λ (vs : List EventValue). Finds t (vs ++ es) all) (sym (events_seen out k)) finds)

  held_index : (w : Option ℕ) → option_map (λ v. v.index) (anchor_held seen w) ≡ w
  held_index None = refl
  held_index (Some i) = refl

  held_anchor : (w : Option ℕ) → IfSome w Named → IsAnchorOf xs (anchor_held seen w)
  held_anchor None k = tt
  held_anchor (Some i) k = (sym (value_is xs seen has h.anchor i k), sym (start_is xs seen has h.anchor i k))

  -- ---- the rules on lexemes

  abbrev keys_from : KeyMarkerValue → List (List Token) → List KeyFacts
  keys_from k ls = facts_by_lines k ls

  found_on : (end n : ℕ) → end ≡ d.rows.reader.count + length line → n ≤ length left → (found : List FindingValue) (r : LexemesRead) (keys : List KeyFacts) (k : KeyMarkerValue) → keys ≡ facts_of_line m tokens
      → k ≡ behind_keyed_line m tokens
      → ((more : List LexemeValue) (ks : List KeyFacts) → found ++ lexemes_left version options r more ks ≡ d.rows.found.items ++ lexemes_left version options d.rows.rules (line ++ more) (keys ++ ks))
      → found ++ lexemes_left version options r (take n left) (facts_by_lines k later) ≡ lexeme_findings options (end + n) xs
  found_on end n far within found r keys k are behind tells =
      let all = λ (ys : List LexemeValue) (ks : List KeyFacts). d.rows.found.items ++ lexemes_left version options d.rows.rules ys ks in
      let most : length line + n ≤ length (line ++ left) = omega (arith, within, length-append line left) in
      tells (take n left) (facts_by_lines k later)
      ∙ (ap (λ (ks : List KeyFacts). all (line ++ take n left) (ks ++ facts_by_lines k later)) are
      ∙ (ap (λ (j : KeyMarkerValue). all (line ++ take n left) (facts_of_line m tokens ++ facts_by_lines j later)) behind
      ∙ (ap (λ (ls : List (List Token)). all (line ++ take n left) (facts_by_lines m ls)) (sym cut)
      ∙ (ap (λ (ys : List LexemeValue). all ys (facts_by_lines m lines)) (sym (take-append-add line left n))
      ∙ (h.found (length line + n) most ∙ ap (λ j. lexeme_findings options j xs) {x = d.rows.reader.count + (length line + n)} {y = end + n} (omega (arith, far)))))))

  found_stop : (count place : ℕ) → count ≤ length line → place ≡ d.rows.reader.count + count → (found : List FindingValue) (keys : List KeyFacts) → keys ≡ facts_of_line m tokens → length keys ≡ length line
      → found ≡ d.rows.found.items ++ lexemes_left version options d.rows.rules (take count line) (take count keys) → found ≡ lexeme_findings options place xs
  found_stop count place within at found keys are as_long told =
      let all = λ (ys : List LexemeValue) (ks : List KeyFacts). d.rows.found.items ++ lexemes_left version options d.rows.rules ys ks in
      let rest = facts_by_lines (behind_keyed_line m tokens) later in
      let most : count ≤ length (line ++ left) = omega (arith, within, length-append line left) in
      let no_more : length (take count line) ≤ length (take count keys) = taken_alike count line keys (sym as_long) in
      told
      ∙ (ap (λ (fs : List FindingValue). d.rows.found.items ++ fs) (sym (extra_left version options d.rows.rules (take count line) (take count keys) (drop count keys ++ rest) no_more))
      ∙ (ap (λ (ks : List KeyFacts). all (take count line) ks) (sym (append_assoc (take count keys) (drop count keys) rest) ∙ ap (λ (ks : List KeyFacts). ks ++ rest) (take-append-drop count keys ∙ are))
      ∙ (ap (λ (ls : List (List Token)). all (take count line) (facts_by_lines m ls)) (sym cut)
      ∙ (ap (λ (ys : List LexemeValue). all ys (facts_by_lines m lines)) (sym (take-append-le count line left within))
      ∙ (h.found count most ∙ ap (λ j. lexeme_findings options j xs) (sym at))))))
    where
      taken_alike : {X Y : Type 0} (n : ℕ) (us : List X) (vs : List Y) → length us ≡ length vs → length (take n us) ≤ length (take n vs)
      taken_alike zero us vs e = omega (arith)
      taken_alike (suc n) [] vs e = omega (arith)
      taken_alike (suc n) (u ∷ us) [] e = absurd (omega (arith, e))
      taken_alike (suc n) (u ∷ us) (v ∷ vs) e = omega (arith, taken_alike n us vs (omega (arith, e)))

  -- ---- the row

  there : facts.IsLine (map token_of xs) m.marks.count tokens
  there = is_line xs h.front line left m.marks.count h.whole (h.read ∙ sym h.count) l.at l.here l.elsewhere

  dented : AreIndented ns spaces tokens
  dented = indented ns spaces l.at line l.spaces_are l.here

  pub stops_at : (count : ℕ) (f : PlacedParseFault) (e : DocumentJudge A) → length line ≡ count → JudgesRow d.rows line spaces (Some f) e.rows → Stops config xs ns d.rows.reader.count count f e
  stops_at count f e many r =
      let i = f.place - m.marks.count in
      let keys = facts_of_line m tokens in
      record {
        fault = told_stop config xs (document_of xs) d.tree d.rows.reader.parser m.marks tokens later lines d.rows.reader.count f cut h.count (λ ws. r.parsed.told ws) h.told;
        there = (omega (arith, r.inside.0, h.count), omega (arith, r.inside.1, h.count, many));
        found = found_stop i f.place (omega (arith, r.inside.0, r.inside.1)) (omega (arith, r.inside.0, h.count)) e.rows.found.items keys refl (keys_long m tokens ∙ long)
            (r.judged.found version left h.version ∙ ap (λ (o : LexemeOptions). d.rows.found.items ++ lexemes_left version o d.rows.rules (take i line) (take i keys)) h.options);
        facts = facts_stop (map token_of xs) ns d.rows.places m.marks tokens later lines f.place d.rows.facts.items e.rows.facts.items _ cut (omega (arith, r.inside.1, long)) (r.facts (map token_of xs) ns there dented)
            (h.facts f.place (omega (arith, r.inside.0, h.count)));
      }

  pub reads_more : (e : DocumentJudge A) → JudgesRow d.rows line spaces None e.rows → e.waiting ≡ anchor_held seen (waiting_anchor e.rows.reader.parser.goals)
      → ((es : List EventValue) (all : List FindingValue) → Finds d.tree (map (event_seen seen) e.rows.reader.outlines.items ++ es) all → Finds e.tree es all) → Reads config xs ns left e
  reads_more e r held tells =
      let p = d.rows.reader.parser in
      let q = e.rows.reader.parser in
      let n = e.rows.reader.marker in
      let out = e.rows.reader.outlines.items in
      let end = e.rows.reader.count in
      let step = stepped q.goals out (r.parsed.taken refl) in
      let waits = waiting_anchor q.goals in
      let marks : n.marks ≡ behind_line m.marks tokens = ap (λ (k : KeyMarkerValue). k.marks) r.marker in
      let far : end ≡ d.rows.reader.count + length line = r.judged.count ∙ (ap (λ (k : MarkerValue). k.count) marks ∙ omega (arith, h.count, long)) in
      let tells_all = λ (more : List LexemeValue) (ks : List KeyFacts). subst (λ (o : LexemeOptions). e.rows.found.items ++ lexemes_left version o e.rows.rules more ks ≡ d.rows.found.items ++ lexemes_left version o d.rows.rules (line ++ more) (facts_of_line m tokens ++ ks))
      h.options (r.judged.found version left more ks h.version) in
      let here : m.marks.count + length line ≡ end = omega (arith, far, h.count) in
      record {
        front = h.front ++ line;
        whole = h.whole ∙ sym (append_assoc h.front line left);
        read = length-append h.front line ∙ omega (arith, h.read, far);
        count = sym r.judged.count;
        only = step.0;
        waits = ap (λ a. option_map (λ w. w.index) a) held ∙ held_index waits;
        anchor = subst (λ a. IsAnchorOf xs a) (sym held) (held_anchor waits step.1.0);
        options = r.options ∙ h.options;
        version = r.judged.version version left h.version;
        found = λ k within. found_on end k far within e.rows.found.items e.rows.rules (facts_of_line m tokens) n refl r.marker tells_all;
        facts = λ all most.
            facts_on (map token_of xs) ns d.rows.places e.rows.places m.marks n.marks tokens later lines d.rows.reader.count end all d.rows.facts.items e.rows.facts.items _ cut
            marks h.count (omega (arith, far, long)) (r.context (map token_of xs) ns there dented)
            (r.facts (map token_of xs) ns there dented ∙ ap (λ j. d.rows.facts.items ++ facts_left d.rows.places (map token_of xs) j ns symbols) here)
            most (h.facts all (omega (arith, most, far)));
        told = told_on config xs (document_of xs) d.tree e.tree p q m.marks n.marks tokens later lines d.rows.reader.count end cut marks h.count (sym r.judged.count)
            (line_read xs d.tree e.tree out p q m.marks.count m.marks.count n.marks.count symbols symbols [] out None refl refl refl refl r.parsed.told
            (ap (λ (k : MarkerValue). k.count) marks ∙ ap (λ j. m.marks.count + j) (sym (line_count m.marks tokens))) refl (fed d.tree e.tree out step.1.1 tells))
            h.told;
      }

-- ---- the beginning

pub found_at_start : (o : LexemeOptions) (r : LexemesRead) (xs : List LexemeValue) (m : KeyMarkerValue) → m ≡ key_marker_at_start
    → ((v : Bool) (ys : List LexemeValue) (ks : List KeyFacts) → lexemes_left v o r ys ks ≡ findings_behind v o None ys ks)
    → (n : ℕ) → lexemes_left (is_1_2_document xs) o r (take n xs) (facts_by_lines m (by_line (map token_of xs))) ≡ lexeme_findings o n xs
found_at_start o r xs m start whole n =
    whole (is_1_2_document xs) (take n xs) (facts_by_lines m (by_line (map token_of xs)))
    ∙ ap (λ (ks : List KeyFacts). findings_behind (is_1_2_document xs) o None (take n xs) ks) (ap (λ (k : KeyMarkerValue). facts_by_lines k (by_line (map token_of xs))) start ∙ told_by_lines (map token_of xs))

pub facts_at_start : (xs : List LexemeValue) (ns : List ℕ) (c : ContextValue) (m : KeyMarkerValue) (all : ℕ) → m ≡ key_marker_at_start → c ≡ nothing_open
    → facts_left c (map token_of xs) all ns (marks_by_lines m.marks (by_line (map token_of xs))) ≡ indent_facts (map token_of xs) (marked_lexemes xs) all ns
facts_at_start xs ns c m all start none =
    let ts = map token_of xs in
    ap (λ (k : KeyMarkerValue). facts_left c ts all ns (marks_by_lines k.marks (by_line ts))) start
    ∙ (ap (λ (d : ContextValue). facts_left d ts all ns (marks_by_lines marker_at_start (by_line ts))) none ∙ (ap (facts_left nothing_open ts all ns) (marked_by_lines ts) ∙ by_symbols xs all ns))

-- ---- the end

pub facts_at_end : (tokens : List Token) (ns : List ℕ) (c : ContextValue) (m : MarkerValue) (all : ℕ) (fs total : List Fact) → fs ++ facts_left c tokens all ns (closings_of_all m.open_ones) ≡ total → fs ≡ total
facts_at_end tokens ns c m all fs total whole =
    let ends = closings_of_all m.open_ones in
    sym (append-nil fs) ∙ (ap (λ (gs : List Fact). fs ++ gs) (sym (none_counts tokens ns c all ends (no_indices (λ i. all ≤ i) m.open_ones))) ∙ whole)

-- ---- the parser at the start

pub only_at_start : (p : SymbolParserValue) → p ≡ symbols_at_start → OnlyInnermostWaits p.goals
only_at_start p e = subst (λ (q : SymbolParserValue). OnlyInnermostWaits q.goals) (sym e) (refl, (refl, tt))

pub none_at_start : (p : SymbolParserValue) → p ≡ symbols_at_start → None ≡ waiting_anchor p.goals
none_at_start p e = sym (ap (λ (q : SymbolParserValue). waiting_anchor q.goals) e)

pub fed_at_start : {A : Type 0} (xs : List LexemeValue) (l : LineValue) (t u : TreeRules A) (out shown : List Outline) → out ≡ start_events → shown ≡ out
    → ((es : List EventValue) (all : List FindingValue) → Finds t (map (event_seen l) shown ++ es) all → Finds u es all)
    → (es : List EventValue) (all : List FindingValue) → Finds t (map (event_of_outline xs) shown ++ es) all → Finds u es all
fed_at_start xs l t u out shown told same fed es all finds =
    let here : shown ≡ start_events = same ∙ told in
    let seen : map (event_seen l) shown ≡ map (event_of_outline xs) shown = ap (map (event_seen l)) here ∙ sym (ap (map (event_of_outline xs)) here) in
    fed es all (subst (λ (vs : List EventValue). Finds t (vs ++ es) all) (sym seen) finds)

-- all of the document's events were told, and name what is seen of it
outcome_named : (Is : ℕ → Type 0) (t : TrailValue) (count place : ℕ) (ws : List Symbol) (r : Option (List Outline)) (out : List Outline) → IfSome r (OutlinesName Is) → document_outcome t count place ws r ≡ Events out → OutlinesName Is out
outcome_named Is t count place ws None out h e = cc
outcome_named Is t count place ws (Some es) out h e =
    let same : es ++ end_event DocumentEnd ∷ [] ≡ out = cc in
    subst (OutlinesName Is) same (outlines_of_both Is es (end_event DocumentEnd ∷ []) h ((tt, tt), tt))

pub quiet_any : (ys : List LexemeValue) → IsQuiet (document_of ys)
quiet_any [] f e = refl
quiet_any (y ∷ ys) f e = quiet_document (y ∷ ys) (omega (arith)) f e

module _ {A : Type 0} (config : Config) (xs : List LexemeValue) (ns : List ℕ) (d : DocumentJudge A) (h : Reads config xs ns [] d) where
  abbrev ends : List Symbol
  ends = closings_of_all d.rows.reader.marker.marks.open_ones

  abbrev b : BuiltValue
  b = document_of xs

  abbrev here : LineValue
  here = record { lexemes = []; first = d.rows.reader.count; waiting = d.waiting }

  abbrev Seen : ℕ → Type 0
  Seen i = IsNamed d.rows.reader.count 0 (option_map (λ w. w.index) d.waiting) i

  pub all_read : length xs ≡ d.rows.reader.count
  all_read = ap (λ (ys : List LexemeValue). length ys) (h.whole ∙ append-nil h.front) ∙ h.read

  seen_ends : (out : List Outline) → outcome_of_symbols d.rows.reader.parser d.rows.reader.count [] ends ≡ Events out → map (event_seen here) out ≡ map (event_of_outline xs) out
  seen_ends out e =
      let p = d.rows.reader.parser in
      let waits : IfSome (waiting_anchor p.goals) Seen = subst (λ (w : Option ℕ). IfSome w Seen) h.waits (self_named d.rows.reader.count 0 (option_map (λ w. w.index) d.waiting)) in
      let named = outcome_named Seen p.trail d.rows.reader.count (taken_count ends p.goals []) ends (run ends p.goals []) out (run_named Seen ends p.goals [] h.only waits tt (closings_named Seen d.rows.reader.marker.marks.open_ones)) e in
      events_are xs here (λ i l. absurd (omega (arith, l))) h.anchor out named

  abbrev Ended : Option PlacedParseFault → List FindingValue → Type 0
  Ended fault found = (fault ≡ b.fault) × (IfSome fault (λ f. f.place ≡ length xs)) × (found ≡ event_findings config b.events)

  pub ended_so : (fault : Option PlacedParseFault) (out : List Outline) (found : List FindingValue) → IsOutcome (outcome_of_symbols d.rows.reader.parser d.rows.reader.count [] ends) fault out
      → ((f : PlacedParseFault) → fault ≡ Some f → found ≡ []) → ((all : List FindingValue) → fault ≡ None → Finds d.tree (map (event_seen here) out ++ []) all → found ≡ all) → Ended fault found
  ended_so None out found told fails whole =
      let gives = h.told in
      let finds = subst (λ (o : DocumentOutcome). FindsAll d.tree xs o (event_findings config b.events)) told gives.found in (
        sym (ap fault_told told) ∙ gives.fault,
        tt,
        whole (event_findings config b.events) refl
            (subst (λ (vs : List EventValue). Finds d.tree vs (event_findings config b.events)) (sym (append-nil (map (event_seen here) out) ∙ seen_ends out told)) finds),
      )
  ended_so (Some f) out found told fails whole =
      let both = ends_after config xs b d.tree d.tree (outcome_of_symbols d.rows.reader.parser d.rows.reader.count [] ends) (quiet_any xs) h.told f told found (fails f refl) in
      (sym both.0, close_place d.rows.reader.parser d.rows.reader.count d.rows.reader.marker.marks.open_ones f told ∙ sym all_read, both.1)

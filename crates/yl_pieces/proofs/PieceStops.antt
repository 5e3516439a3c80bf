-- A row with a fault, and what is told at the end.
use Rattle.std.proofs.Common.{◌≡◌, ◌<◌, ◌≤◌, ◌+◌, ◌-◌, ℕ, Bool, List, [], ◌∷◌, ◌++◌, Option, Some, None, length, take, drop, slice_get, refl, sym, ◌∙◌, ap, subst, append_assoc, append-nil, arith}
use Rattle.std.specs.Prelude.{option_map}
use Rattle.std.specs.Option.{option_map_or}
use Rattle.std.proofs.lemmas.List.{length-append, take-append-drop, take-append-le}
use Rattle.std.proofs.Math.Seq.{take-append-add, take-append_seam}
use Rattle.yl_text.specs.Finding.{FindingValue}
use Rattle.yl_lexeme.specs.Lexeme.{LexemeValue, PlacedCommentValue}
use Rattle.yl_marks.specs.declared.facts.KeyFacts.{KeyFacts}
use Rattle.yl_marks.specs.declared.symbol.Symbol.{Symbol}
use Rattle.yl_marks.specs.ByLine.{behind_line}
use Rattle.yl_marks.specs.FactsByLine.{behind_keyed_line, facts_by_lines, facts_of_line}
use Rattle.yl_events.specs.declared.fault.PlacedParseFault.{PlacedParseFault}
use Rattle.yl_events.specs.Derives.{lexeme_count}
use Rattle.yl_events.specs.DocumentOutcome.{Fails}
use Rattle.yl_events.specs.Event.{start_at, start_of}
use Rattle.yl_events.specs.SymbolParsing.{outcome_of_symbols}
use Rattle.yl_indentation.specs.declared.fact.Fact.{Fact}
use Rattle.yl_indentation.specs.SymbolFacts.{behind_symbols, facts_left}
use Rattle.yl_indentation.proofs.BySymbols.{go_on, none_counts}
use Rattle.yl_lexeme_rules.specs.declared.options.LexemeOptions.{LexemeOptions}
use Rattle.yl_lexeme_rules.specs.Lexemes.{findings_behind}
use Rattle.yl_lexeme_rules.specs.LexemesLeft.{IsVersion, lexemes_left}
use Rattle.yl_config.specs.declared.config.Config.{Config}
use Rattle.yl_record.specs.Records.{RecordValue}
use Rattle.yl_sections.specs.JudgedRow.{JudgesRow}
use Rattle.yl_sections.specs.Kept.{comments_from, lexeme_options_of}
use Rattle.yl_sections.specs.Sections.{lexemes_from}
use Rattle.yl_sections.proofs.Lines.{get_after, get_before, keys_long}
use Rattle.yl_sections.proofs.RowJudging.{line_of_placed, some_at}
use Rattle.yl_pieces.specs.declared.piece.PieceFault.{PieceFault}
use Rattle.yl_sections.specs.declared.row_judge.RowJudge.{RowJudge}
use Rattle.yl_pieces.specs.Fault.{fault_value}
use Rattle.yl_pieces.specs.State.{DocumentState, context_from, lexemes_from_state}
use Rattle.yl_pieces.specs.Told.{Told, ToldFault, fault_in, keys_in, spaces_in, symbols_in, told, told_by, told_fault, tokens_in, version_in}
use Rattle.yl_pieces.specs.Piece.{GoOnFrom, HasRead, Machines, StopsAt, symbols_by, tokens_by}
use Rattle.yl_pieces.proofs.PieceAlike.{facts_are, keys_are, left_is, symbols_are, version_is}
use Rattle.yl_pieces.proofs.PieceJudging.{above, at_row, extra_left, facts_to, here, k, keys_above, keys_all, later_lines, later_symbols, long, rows_count, symbols_all, taken_alike, ts, whole}
use Rattle.yl_pieces.proofs.PieceLines.{indices_of_rows, row_lexemes}
use Rattle.yl_pieces.proofs.PieceMoved.{same_symbols}
use Rattle.yl_pieces.proofs.PieceSteps.{count_after, fails_alike, fault_there}

pub told_so : (t u : Told) → t.found ≡ u.found → t.facts ≡ u.facts → t.comments ≡ u.comments → t.fault ≡ u.fault → t ≡ u
told_so t u a b c e =
    ap (λ (x : List FindingValue). record { found = x; facts = t.facts; comments = t.comments; fault = t.fault }) a
    ∙ (ap (λ (x : List Fact). record { found = u.found; facts = x; comments = t.comments; fault = t.fault }) b
    ∙ (ap (λ (x : List PlacedCommentValue). record { found = u.found; facts = u.facts; comments = x; fault = t.fault }) c
    ∙ ap (λ (x : Option ToldFault). record { found = u.found; facts = u.facts; comments = u.comments; fault = x }) e))

module _ {A : Type 0} (config : Config) (s : DocumentState) (m : Machines) (go : GoOnFrom s m) (rs : List RecordValue) (r : RecordValue) (ys : List LexemeValue) (are : ys ≡ row_lexemes (1 + length rs) r)
    (some : 0 < length r.entry.lexemes) (d : RowJudge A) (h : HasRead config m rs d) (f : PlacedParseFault) (inside : (d.reader.marker.marks.count ≤ f.place) × (f.place < d.reader.marker.marks.count + length ys)) where
  -- the lexeme of the row, and that of the piece
  abbrev i : ℕ
  i = f.place - d.reader.marker.marks.count

  abbrev pub fault_of : PlacedParseFault
  fault_of = record { kind = f.kind; place = f.place - m.marker.marks.count }

  within : i < length ys
  within = omega (arith, inside.0, inside.1)

  abbrev n : ℕ
  n = length (lexemes_from 1 rs) + i

  place_is : f.place - m.marker.marks.count ≡ n
  place_is = omega (arith, inside.0, h.count)

  lexeme : (x : LexemeValue) × (slice_get ys i ≡ Some x)
  lexeme = some_at ys i within

  line_is : lexeme.0.start.line ≡ 1 + length rs
  line_is = line_of_placed (1 + length rs) r.entry.lexemes i lexeme.0 (ap (λ (zs : List LexemeValue). slice_get zs i) (sym are) ∙ lexeme.1)

  -- ---- whatever rows come

  module _ (more : List RecordValue) where
    abbrev rows : List RecordValue
    rows = rs ++ r ∷ more

    abbrev rest : List LexemeValue
    rest = lexemes_from (1 + length rs + 1) more

    all_lexemes : lexemes_from 1 rows ≡ lexemes_from 1 rs ++ (ys ++ rest)
    all_lexemes = whole config m rs r ys are some d h more

    there_is : slice_get (lexemes_from 1 rows) n ≡ Some lexeme.0
    there_is =
        ap (λ (zs : List LexemeValue). slice_get zs n) all_lexemes
        ∙ (get_after (lexemes_from 1 rs) (ys ++ rest) i ∙ (get_before ys rest i within ∙ lexeme.1))

    -- ---- the fault

    fails_all : ((after : List Symbol) → outcome_of_symbols d.reader.parser d.reader.marker.marks.count [] (here config m rs r ys are some d h ++ after) ≡ Fails f)
        → outcome_of_symbols m.parser m.marker.marks.count [] (symbols_by m rows) ≡ Fails f
    fails_all fed =
        let w = here config m rs r ys are some d h in
        let after = later_symbols config m rs r ys are some d h more in
        ap (λ (vs : List Symbol). outcome_of_symbols m.parser m.marker.marks.count [] vs) (symbols_all config m rs r ys are some d h more) ∙ h.fails (w ++ after) f (fed after)

    inside_all : f.place - m.marker.marks.count < lexeme_count (symbols_in s 1 rows)
    inside_all =
        let same : lexeme_count (symbols_by m rows) ≡ lexeme_count (symbols_in s 1 rows) = ap lexeme_count (symbols_are s m go rows) ∙ count_after m.marker.marks.count (symbols_in s 1 rows) in
        let many : length (lexemes_from 1 rows) ≡ length (lexemes_from 1 rs) + length (ys ++ rest) = ap (λ (zs : List LexemeValue). length zs) all_lexemes ∙ length-append (lexemes_from 1 rs) (ys ++ rest) in
        omega (arith, same, rows_count m.marker.marks rows, many, length-append ys rest, place_is, within)

    pub fault_is : ((after : List Symbol) → outcome_of_symbols d.reader.parser d.reader.marker.marks.count [] (here config m rs r ys are some d h ++ after) ≡ Fails f)
        → fault_in s 1 rows ≡ Some fault_of
    fault_is fed =
        let ws = symbols_in s 1 rows in
        fault_there s.parser ws fault_of (fails_alike m.parser s.parser m.marker.marks.count (symbols_by m rows) ws f go.parser (symbols_are s m go rows) (same_symbols ws) (fails_all fed)) inside_all

    -- ---- what is told

    found_at : (found : List FindingValue) (keys : List KeyFacts) → keys ≡ facts_of_line (k config m rs r ys are some d h) (ts config m rs r ys are some d h) → length keys ≡ length ys
        → ((v : Bool) (after : List LexemeValue) → IsVersion v d.rules (ys ++ after) → found ≡ d.found.items ++ lexemes_left v d.options d.rules (take i ys) (take i keys))
        → found ≡ findings_behind (version_in s (lexemes_from 1 rows)) (lexeme_options_of config) (lexemes_from_state s.lexemes).latest (take (f.place - m.marker.marks.count) (lexemes_from 1 rows)) (keys_in s 1 rows)
    found_at found keys are_keys as_long told =
        let xs = lexemes_from 1 rows in
        let v = version_in s xs in
        let opts = lexeme_options_of config in
        let front = lexemes_from 1 rs in
        let above_keys = keys_above config m rs r ys are some d h in
        let rest_keys = facts_by_lines (behind_keyed_line d.reader.marker (ts config m rs r ys are some d h)) (later_lines config m rs r ys are some d h more) in
        let hv : IsVersion v m.lexemes (front ++ (ys ++ rest)) = subst (λ (zs : List LexemeValue). IsVersion v m.lexemes zs) all_lexemes (version_is s m go rows xs) in
        let no_more : length (take i ys) ≤ length (take i keys) = taken_alike i ys keys (sym as_long) in
        let taken : front ++ take i ys ≡ take (f.place - m.marker.marks.count) xs =
        ap (λ (zs : List LexemeValue). front ++ zs) (sym (take-append-le i ys rest (omega (arith, within))))
        ∙ (sym (take-append-add front (ys ++ rest) i) ∙ (ap (λ j. take j (front ++ (ys ++ rest))) (sym place_is) ∙ ap (λ (zs : List LexemeValue). take (f.place - m.marker.marks.count) zs) (sym all_lexemes))) in
        let all_keys : above_keys ++ (keys ++ rest_keys) ≡ keys_in s 1 rows =
        ap (λ (ks : List KeyFacts). above_keys ++ (ks ++ rest_keys)) are_keys ∙ (sym (keys_all config m rs r ys are some d h more) ∙ keys_are s m go rows) in
        told v rest (h.version v (ys ++ rest) hv)
        ∙ (ap (λ (p : LexemeOptions). d.found.items ++ lexemes_left v p d.rules (take i ys) (take i keys)) h.options
        ∙ (ap (λ (fs : List FindingValue). d.found.items ++ fs) (sym (extra_left v opts d.rules (take i ys) (take i keys) (drop i keys ++ rest_keys) no_more))
        ∙ (ap (λ (ks : List KeyFacts). d.found.items ++ lexemes_left v opts d.rules (take i ys) ks) (sym (append_assoc (take i keys) (drop i keys) rest_keys) ∙ ap (λ (ks : List KeyFacts). ks ++ rest_keys) (take-append-drop i keys))
        ∙ (h.found v (ys ++ rest) (take i ys) (keys ++ rest_keys) hv
        ∙ (ap (λ (zs : List LexemeValue). lexemes_left v opts m.lexemes zs (above_keys ++ (keys ++ rest_keys))) taken
        ∙ (ap (λ (ks : List KeyFacts). lexemes_left v opts m.lexemes (take (f.place - m.marker.marks.count) xs) ks) all_keys
        ∙ left_is s m go rows v opts (f.place - m.marker.marks.count) (keys_in s 1 rows)))))))

    facts_at : (fs : List Fact) → fs ≡ d.facts.items ++ facts_left d.places (tokens_by m rows) f.place (spaces_in 1 rows) (here config m rs r ys are some d h)
        → fs ≡ facts_left (context_from s.context) (tokens_in 1 rows) (f.place - m.marker.marks.count) (spaces_in 1 rows) (symbols_in s 1 rows)
    facts_at fs told =
        let tokens = tokens_by m rows in
        let ns = spaces_in 1 rows in
        let front = above config m rs r ys are some d h ++ here config m rs r ys are some d h in
        let after = later_symbols config m rs r ys are some d h more in
        let c = behind_symbols tokens ns m.context front in
        let none : facts_left c tokens f.place ns after ≡ [] = none_counts tokens ns c f.place after
        (indices_of_rows (λ j. f.place ≤ j) (behind_line d.reader.marker.marks (ts config m rs r ys are some d h)) (later_lines config m rs r ys are some d h more) (λ j l. omega (arith, l, inside.1, long config m rs r ys are some d h))) in
        let split : symbols_by m rows ≡ front ++ after = symbols_all config m rs r ys are some d h more ∙ sym (append_assoc (above config m rs r ys are some d h) (here config m rs r ys are some d h) after) in
        let counts : f.place ≡ m.marker.marks.count + (f.place - m.marker.marks.count) = omega (arith, inside.0, h.count) in
        facts_to config m rs r ys are some d h more f.place f.place fs inside.0 (λ j l g. refl) told
        ∙ (sym (append-nil (facts_left m.context tokens f.place ns front))
        ∙ (ap (λ (gs : List Fact). facts_left m.context tokens f.place ns front ++ gs) (sym none)
        ∙ (sym (go_on tokens ns m.context f.place front after)
        ∙ (ap (λ (vs : List Symbol). facts_left m.context tokens f.place ns vs) (sym split)
        ∙ (ap (λ j. facts_left m.context tokens j ns (symbols_by m rows)) counts
        ∙ facts_are s m go rows (f.place - m.marker.marks.count))))))

    told_at : (t : Told) (place : PieceFault) → t.found ≡ findings_behind (version_in s (lexemes_from 1 rows)) (lexeme_options_of config) (lexemes_from_state s.lexemes).latest (take (f.place - m.marker.marks.count) (lexemes_from 1 rows)) (keys_in s 1 rows)
        → t.facts ≡ facts_left (context_from s.context) (tokens_in 1 rows) (f.place - m.marker.marks.count) (spaces_in 1 rows) (symbols_in s 1 rows)
        → t.comments ≡ comments_from None 1 rs → t.fault ≡ Some (fault_value place) → place.kind ≡ f.kind → place.place ≡ start_at ys i
        → told_by config s 1 rows (Some fault_of) ≡ t
    told_at t place found facts comments fault kind is =
        let xs = lexemes_from 1 rows in
        let x = lexeme.0 in
        let start : place.place ≡ x.start = is ∙ ap start_of lexeme.1 in
        let value : ToldFault = record { place = x.start; kind = f.kind } in
        let there : told_fault xs fault_of ≡ Some value =
        ap (λ (y : Option LexemeValue). option_map (λ z. record { place = z.start; kind = f.kind }) y) (ap (λ j. slice_get xs j) place_is ∙ there_is) in
        let line : x.start.line - 1 ≡ length rs = omega (arith, line_is) in
        let shown : option_map_or (λ e. take (e.place.line - 1) rows) (told_fault xs fault_of) rows ≡ rs =
        ap (λ (y : Option ToldFault). option_map_or (λ e. take (e.place.line - 1) rows) y rows) there ∙ (ap (λ j. take j rows) line ∙ take-append_seam rs (r ∷ more)) in
        let same : value ≡ fault_value place =
        ap (λ p. record { place = p; kind = f.kind }) (sym start) ∙ ap (λ q. record { place = place.place; kind = q }) (sym kind) in
        told_so (told_by config s 1 rows (Some fault_of)) t (sym found) (sym facts) (ap (λ (es : List RecordValue). comments_from None 1 es) shown ∙ sym comments) (there ∙ (ap Some same ∙ sym fault))

  -- ---- the judge stops

  pub stops : (e : RowJudge A) (place : PieceFault) (spaces : ℕ) → spaces ≡ r.indentation → JudgesRow d ys spaces (Some f) e → place.kind ≡ f.kind → place.place ≡ start_at ys i → StopsAt config s rs r e place
  stops e place spaces spaces_is j kind is =
      let keys = facts_of_line (k config m rs r ys are some d h) (ts config m rs r ys are some d h) in
      let as_long : length keys ≡ length ys = keys_long (k config m rs r ys are some d h) (ts config m rs r ys are some d h) ∙ long config m rs r ys are some d h in
      let fed = λ (after : List Symbol). j.parsed.told after in
      record {
        fault = fault_of;
        there = λ more. fault_is more fed;
        told = λ more.
            let rows' = rs ++ r ∷ more in
            let row = at_row config m rs r ys are some d h more (λ tokens ns. e.facts.items ≡ d.facts.items ++ facts_left d.places tokens f.place ns (here config m rs r ys are some d h)) spaces spaces_is j.facts in
            ap (λ (q : Option PlacedParseFault). told_by config s 1 rows' q) (fault_is more fed)
            ∙ told_at more (record { found = e.found.items; facts = e.facts.items; comments = comments_from None 1 rs; fault = Some (fault_value place) }) place
            (found_at more e.found.items keys refl as_long (λ v after q. j.judged.found v after q)) (facts_at more e.facts.items row) refl refl kind is;
      }

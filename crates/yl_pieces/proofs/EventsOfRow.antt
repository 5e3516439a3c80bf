-- The events of a row that is judged after others, as its judge holds them.
use Rattle.std.proofs.Common.{◌≡◌, ◌<◌, ◌≤◌, ◌+◌, ◌-◌, ℕ, Bool, true, false, List, [], ◌∷◌, ◌++◌, Option, Some, None, length, map, replicate, slice_get, refl, sym, ◌∙◌, ap, subst, append_assoc, append-nil, arith}
use Rattle.std.specs.Prelude.{◌==◌, if◌then◌else◌, IfSome, option_map}
use Rattle.std.specs.List.{AllByRecursion}
use Rattle.std.proofs.lemmas.Bool.{le-ltb, ne_eqb}
use Rattle.std.proofs.lemmas.List.{length-map, length-replicate, map-append}
use Rattle.yl_lexeme.specs.Lexeme.{LexemeValue}
use Rattle.yl_marks.specs.declared.symbol.Symbol.{Symbol}
use Rattle.yl_marks.specs.ByLine.{by_line, marks_of_line}
use Rattle.yl_marks.specs.MarksAlike.{marks_of_rows}
use Rattle.yl_marks.specs.Keys.{lexeme_at_line, token_of}
use Rattle.yl_events.specs.declared.symbol.Goal.{Goal}
use Rattle.yl_events.specs.declared.symbol.Outline.{Outline}
use Rattle.yl_events.specs.declared.symbol.Shape.{Shape}
use Rattle.yl_events.specs.declared.symbol.Shape.TheVariants as shape
use Rattle.yl_events.specs.declared.fault.PlacedParseFault.{PlacedParseFault}
use Rattle.yl_events.specs.DocumentOutcome.{steps}
use Rattle.yl_events.specs.Event.{EventKindValue, EventValue, start_of}
use Rattle.yl_events.specs.Machine.{ParserState}
use Rattle.yl_events.specs.Named.{IsInLine}
use Rattle.yl_events.specs.ParsedAlike.{AreParsedAlike, outline_after, outline_shape, steps_after, steps_shape, symbols_after}
use Rattle.yl_events.specs.Seen.{LineValue, content_seen, event_seen, kind_seen, lexeme_of_line, start_seen}
use Rattle.yl_events.specs.State.{parser_state}
use Rattle.yl_events.proofs.Named.{line_named}
use Rattle.yl_events.proofs.ParsedAlike.{parsed_alike}
use Rattle.yl_config.specs.declared.config.Config.{Config}
use Rattle.yl_record.specs.Records.{RecordValue}
use Rattle.yl_sections.specs.JudgedRow.{JudgesRow}
use Rattle.yl_sections.specs.Sections.{lexemes_from}
use Rattle.yl_sections.specs.declared.row_judge.RowJudge.{RowJudge}
use Rattle.yl_sections.proofs.Lines.{get_after}
use Rattle.yl_pieces.specs.State.{DocumentState, marker_from}
use Rattle.yl_pieces.specs.Told.{fault_in, symbols_in}
use Rattle.yl_pieces.specs.Events.{event_alone, events_in, outlines_in, outlines_told, without_anchor}
use Rattle.yl_pieces.specs.Piece.{GoOnFrom, HasRead, Machines, any_lexeme, goals_of, lexemes_by, symbols_by}
use Rattle.yl_pieces.specs.declared.piece.PieceJudge.{PieceJudge}
use Rattle.yl_pieces.specs.RowEvents.{TellsEvents, TellsRow, events_at, events_held, lexemes_held}
use Rattle.yl_pieces.proofs.EventsAlone.{alone_after, alone_front, alone_is, event_there, event_with, kind_with, looked_up, value_there}
use Rattle.yl_pieces.proofs.EventsNamed.{more_named, rows_within}
use Rattle.yl_pieces.proofs.EventsSteps.{shape_told, told_both}
use Rattle.yl_pieces.proofs.OutlinePlaces.{IsFrom, told_from}
use Rattle.yl_pieces.proofs.PieceAlike.{symbols_are}
use Rattle.yl_pieces.proofs.PieceJudging.{before_len, count_here, lexemes_here, symbols_here}
use Rattle.yl_pieces.proofs.PieceLines.{no_lexemes, row_lexemes}
use Rattle.yl_pieces.proofs.PieceMoved.{same_symbols}

-- ---- events that are seen of the lexemes `ys` of a row, of a document in which `zs` stand above it

module _ (zs ys : List LexemeValue) where
  abbrev row : LineValue
  row = record { lexemes = ys; first = length zs; waiting = None }

  abbrev seen : Option ℕ → Option (Option LexemeValue)
  seen place = option_map (lexeme_of_line row) place

  seen_kind : (kind : Shape) (place : Option ℕ) → kind_seen row kind place ≡ kind_with kind (content_seen row place)
  seen_kind shape.DocumentStart place = refl
  seen_kind shape.DocumentEnd place = refl
  seen_kind shape.SequenceStart place = refl
  seen_kind shape.SequenceEnd place = refl
  seen_kind shape.MappingStart place = refl
  seen_kind shape.MappingEnd place = refl
  seen_kind shape.Alias place = refl
  seen_kind (shape.Scalar style) place = refl
  seen_kind shape.Empty place = refl

  by_place : (kind : Shape) (is_tagged : Bool) (place : Option ℕ)
      → event_with (kind_with kind (content_seen row place)) (option_map (start_seen row) place) is_tagged
      ≡ event_with (kind_with kind (value_there (seen place))) (option_map start_of (seen place)) is_tagged
  by_place kind is_tagged None = refl
  by_place kind is_tagged (Some i) = refl

  seen_is : (o : Outline) → without_anchor (event_seen row o) ≡ event_there o (seen o.place)
  seen_is o =
      ap (λ (k : EventKindValue). event_with k (option_map (start_seen row) o.place) o.is_tagged) (seen_kind o.kind o.place) ∙ by_place o.kind o.is_tagged o.place

  found : (i : ℕ) → length zs ≤ i → lexeme_of_line row i ≡ slice_get (zs ++ ys) i
  found i h =
      let back : length zs + (i - length zs) ≡ i = omega (arith, h) in
      ap (λ (b : Bool). if b then None else slice_get ys (i - length zs)) (le-ltb i (length zs) h)
      ∙ sym (get_after zs ys (i - length zs))
      ∙ ap (λ j. slice_get (zs ++ ys) j) back

  found_at : (place : Option ℕ) → IfSome place (λ i. length zs ≤ i) → seen place ≡ looked_up (zs ++ ys) place
  found_at None h = refl
  found_at (Some i) h = ap (λ (x : Option LexemeValue). Some x) (found i h)

  -- where they are of no lexeme above the row, they are those that are seen of the document
  all_seen : (os : List Outline) → AllByRecursion (IsFrom (length zs)) os → map (event_alone (zs ++ ys)) os ≡ map without_anchor (map (event_seen row) os)
  all_seen [] h = refl
  all_seen (o ∷ os) h =
      ap (λ (e : EventValue). e ∷ map (event_alone (zs ++ ys)) os) (alone_is (zs ++ ys) o ∙ sym (ap (event_there o) (found_at o.place h.0)) ∙ sym (seen_is o))
      ∙ ap (λ (es : List EventValue). without_anchor (event_seen row o) ∷ es) (all_seen os h.1)

-- ---- what machines that go on from a state tell of rows

abbrev outlines_by : Machines → List RecordValue → List Outline
outlines_by m rs = outlines_told (steps (symbols_by m rs) m.parser.goals [])

module _ (s : DocumentState) (m : Machines) (go : GoOnFrom s m) where
  abbrev n : ℕ
  n = m.marker.marks.count

  abbrev high : List LexemeValue
  high = replicate n any_lexeme

  told_alike : (rs : List RecordValue) → map (outline_after 0) (map outline_shape (outlines_by m rs)) ≡ map (outline_after n) (map outline_shape (outlines_in s 1 rs))
  told_alike rs =
      let ws = symbols_in s 1 rs in
      let alike : AreParsedAlike m.parser s.parser n 0 ws = parsed_alike m.parser s.parser n 0 ws (ap parser_state go.parser) in
      ap (λ (us : List Symbol). map (outline_after 0) (map outline_shape (outlines_told (steps us m.parser.goals [])))) (symbols_are s m go rs)
      ∙ sym (shape_told 0 (steps (symbols_after n ws) m.parser.goals []))
      ∙ ap outlines_told (alike.after ∙ ap (λ (us : List Symbol). steps_after n (steps_shape (steps us s.parser.goals []))) (same_symbols ws))
      ∙ shape_told n (steps ws s.parser.goals [])

  -- their events, of these lexemes
  events_by : (rs : List RecordValue) (xs : List LexemeValue) → map (event_alone (high ++ xs)) (outlines_by m rs) ≡ map (event_alone xs) (outlines_in s 1 rs)
  events_by rs xs =
      sym (alone_after [] (high ++ xs) (outlines_by m rs))
      ∙ ap (λ (os : List Outline). map (event_alone (high ++ xs)) os) (told_alike rs)
      ∙ ap (λ (k : ℕ). map (event_alone (high ++ xs)) (map (outline_after k) (map outline_shape (outlines_in s 1 rs)))) (sym (length-replicate n any_lexeme))
      ∙ alone_after high xs (outlines_in s 1 rs)

-- ---- a row with the lexemes `ys`

taken : (r : Option ParserState) (gs : List Goal) → goals_of r ≡ Some gs → (t : ParserState) × (r ≡ Some t) × (t.goals ≡ gs)
taken None gs e = absurd (cc)
taken (Some t) gs e = (t, refl, cc)

module _ {A : Type 0} (config : Config) (s : DocumentState) (m : Machines) (go : GoOnFrom s m) (rs : List RecordValue) (r : RecordValue) (ys : List LexemeValue) (are : ys ≡ row_lexemes (1 + length rs) r)
    (some : 0 < length r.entry.lexemes) (d : RowJudge A) (h : HasRead config m rs d) (e : RowJudge A) (spaces : ℕ) (spaces_is : spaces ≡ r.indentation) (j : JudgesRow d ys spaces None e) where
  abbrev rows : List RecordValue
  rows = rs ++ r ∷ []

  abbrev xs : List LexemeValue
  xs = lexemes_from 1 rs

  abbrev out : List Outline
  out = e.reader.outlines.items

  abbrev first : ℕ
  first = d.reader.marker.marks.count

  abbrev here : List Symbol
  here = marks_of_line d.reader.marker.marks (map token_of ys)

  abbrev after : ParserState
  after = record { goals = e.reader.parser.goals; events = out }

  outlines_more : outlines_by m rows ≡ outlines_by m rs ++ out
  outlines_more =
      let t = taken (steps (symbols_by m rs) m.parser.goals []) d.reader.parser.goals h.goals in
      let next : steps here t.0.goals [] ≡ Some after = ap (λ (gs : List Goal). steps here gs []) t.2 ∙ j.parsed.taken refl in
      ap (λ (us : List Symbol). outlines_told (steps us m.parser.goals [])) (symbols_here config m rs r ys are some d h)
      ∙ told_both (symbols_by m rs) here m.parser.goals t.0 after t.1 next
      ∙ ap (λ (q : Option ParserState). outlines_by m rs ++ outlines_told q) next

  above_len : length (lexemes_by m rs) ≡ first
  above_len = before_len config m rs r ys are some d h []

  from_row : AllByRecursion (IsFrom (length (lexemes_by m rs))) out
  from_row =
      let named = more_named (λ i. first ≤ i) (IsInLine first (length (map token_of ys))) (λ i l. l.0) here (line_named d.reader.marker.marks (map token_of ys)) in
      let told : AllByRecursion (IsFrom first) out = subst (λ (q : Option ParserState). AllByRecursion (IsFrom first) (outlines_told q)) (j.parsed.taken refl) (told_from first here d.reader.parser.goals named) in
      subst (λ (k : ℕ). AllByRecursion (IsFrom k) out) (sym above_len) told

  abbrev seen_of : ℕ → List EventValue
  seen_of k = map without_anchor (map (event_seen (record { lexemes = ys; first = k; waiting = None })) out)

  row_events : events_in s 1 rows ≡ events_in s 1 rs ++ seen_of first
  row_events =
      sym (events_by s m go rows (lexemes_from 1 rows))
      ∙ ap (λ (zs : List LexemeValue). map (event_alone (high s m go ++ zs)) (outlines_by m rows)) (lexemes_here config m rs r ys are some d h)
      ∙ ap (λ (os : List Outline). map (event_alone (high s m go ++ (xs ++ ys))) os) outlines_more
      ∙ map-append (event_alone (high s m go ++ (xs ++ ys))) (outlines_by m rs) out
      ∙ ap (λ (es : List EventValue). es ++ map (event_alone (high s m go ++ (xs ++ ys))) out) (events_by s m go rs (xs ++ ys) ∙ alone_front xs ys (outlines_in s 1 rs) (rows_within s 1 rs))
      ∙ ap (λ (es : List EventValue). events_in s 1 rs ++ es)
      (ap (λ (zs : List LexemeValue). map (event_alone zs) out) (sym (append_assoc (high s m go) xs ys))
      ∙ all_seen (lexemes_by m rs) ys out from_row
      ∙ ap seen_of above_len)

  -- ---- as the judge holds it

  first_is : e.reader.count - length r.entry.lexemes ≡ first
  first_is =
      let long : length ys ≡ length r.entry.lexemes = ap (λ (zs : List LexemeValue). length zs) are ∙ length-map r.entry.lexemes (lexeme_at_line (1 + length rs)) in
      omega (arith, j.judged.count, count_here config m rs r ys are some d h e spaces spaces_is j, long)

  pub row_told : (line : ℕ) → line ≡ 1 + length rs → TellsEvents s rs r (events_at line r e)
  row_told line at =
      let there : ys ≡ map (lexeme_at_line line) r.entry.lexemes = are ∙ ap (λ (k : ℕ). map (lexeme_at_line k) r.entry.lexemes) (sym at) in
      let many : (length r.entry.lexemes == 0) ≡ false = ne_eqb (length r.entry.lexemes) 0 (λ none. let no : 0 < 0 = subst (λ (k : ℕ). 0 < k) none some in omega (arith, no)) in
      row_events
      ∙ ap (λ (k : ℕ). events_in s 1 rs ++ seen_of k) (sym first_is)
      ∙ ap (λ (zs : List LexemeValue). events_in s 1 rs ++ map without_anchor (map (event_seen (record { lexemes = zs; first = e.reader.count - length r.entry.lexemes; waiting = None })) out)) there
      ∙ ap (λ (b : Bool). events_in s 1 rs ++ map without_anchor (map (event_seen (lexemes_held line r e)) (if b then [] else out))) (sym many)

-- ---- a row without lexemes

pub none_told : {A : Type 0} (s : DocumentState) (rs : List RecordValue) (r : RecordValue) (line : ℕ) (d : RowJudge A) → r.entry.lexemes ≡ [] → TellsEvents s rs r (events_at line r d)
none_told s rs r line d none =
    let empty : (length r.entry.lexemes == 0) ≡ true = ap (λ (zs : List LexemeValue). length zs == 0) none in
    let told : List LexemeValue → List EventValue = λ zs. map (event_alone zs) (outlines_told (steps (marks_of_rows (marker_from s.marker).marks (by_line (map token_of zs))) s.parser.goals [])) in
    ap told (no_lexemes 1 rs r none)
    ∙ sym (append-nil (events_in s 1 rs))
    ∙ ap (λ (b : Bool). events_in s 1 rs ++ map without_anchor (map (event_seen (lexemes_held line r d)) (if b then [] else d.reader.outlines.items))) (sym empty)

-- ---- what a judge holds that is at the next line

module _ {A : Type 0} (s : DocumentState) (rs : List RecordValue) (r : RecordValue) (j : PieceJudge A) where
  pub row_held : (line : ℕ) → j.line ≡ line + 1 → TellsEvents s rs r (events_at line r j.rows) → TellsEvents s rs r (events_held r j)
  unfolding events_held
  row_held line at told = subst (λ (k : ℕ). TellsEvents s rs r (events_at k r j.rows)) {x = line} {y = j.line - 1} (omega (arith, at)) told

  -- after a fault nothing is said of the row
  pub row_stopped : (f : PlacedParseFault) → fault_in s 1 (rs ++ r ∷ []) ≡ Some f → TellsRow s rs r j
  row_stopped f there sound = absurd (cc)

-- A piece is cut where another may begin, and a section without a fault is a piece.
use Rattle.std.proofs.Common.{◌≡◌, ◌<◌, ◌+◌, ◌-◌, ℕ, List, ◌++◌, map, length, Option, Some, None, refl, sym, subst, ◌∙◌, ap, arith, append_assoc}
use Rattle.std.specs.Prelude.{option_map, slice_get}
use Rattle.std.specs.List.{filter}
use Rattle.std.specs.Option.{option_map_or, option_or}
use Rattle.std.proofs.lemmas.List.{length-append}
use Rattle.yl_text.specs.declared.finding.RuleId.TheVariants.{Indentation}
use Rattle.yl_text.specs.Finding.{FindingValue}
use Rattle.yl_lexeme.specs.Lexeme.{LexemeValue, PlacedCommentValue}
use Rattle.yl_events.specs.declared.fault.PlacedParseFault.{PlacedParseFault}
use Rattle.yl_events.specs.Faults as parse
use Rattle.yl_indentation.specs.declared.fact.Fact.{Fact}
use Rattle.yl_lexeme_rules.specs.Lexemes.{lexeme_findings}
use Rattle.yl_rules.specs.Addressed.{is_addressed}
use Rattle.yl_config.specs.declared.config.Config.{Config}
use Rattle.yl_record.specs.Records.{RecordValue}
use Rattle.yl_sections.specs.Judge.{document_of, kept_of_section}
use Rattle.yl_sections.specs.Kept.{BuiltValue, KeptValue, SectionFaultValue, Here, Behind, comment_lines, counted_of, event_findings, facts_of, hidden_events, is_on, items_if, lexeme_options_of, scan_fault_from, section_fault, shown_comment_findings, shown_comments, unless_fault}
use Rattle.yl_sections.specs.Sections.{lexemes_of}
use Rattle.yl_sections.proofs.FrontRows.{none_found}
use Rattle.yl_pieces.specs.State.{DocumentState, start_state}
use Rattle.yl_pieces.specs.Told.{Told, state_after, told}
use Rattle.yl_pieces.specs.Laws.{IsToldOfSection, joined, told_below}
use Rattle.yl_pieces.proofs.JoinedTold.{all_joined}
use Rattle.yl_pieces.proofs.OfSection.{told_of_section}
use Rattle.yl_pieces.proofs.ToldBelow as below
use Rattle.yl_pieces.proofs.Within.{told_is_within}
use Rattle.yl_piece_reports.specs.Cuts.{IsInPieces}
use Rattle.yl_piece_reports.specs.Told.{FaultlessSectionIsCut, IsBorderAfter, PieceIsCut, SectionIsPiece, PieceStart, comment_above, fact_above, finding_above, found_in_events, kept_by_told, kept_of_piece, pieces_in_two, section_start}
use Rattle.yl_piece_reports.proofs.TwoPieces.{map_none, two_pieces}

-- ---- a piece in two

module _ (config : Config) (p : PieceStart) (front rest : List RecordValue) (in_events : List FindingValue) (h : IsBorderAfter p front) where
  abbrev n : ℕ
  n = length front

  abbrev next : DocumentState
  next = state_after p.state p.line front

  abbrev m : ℕ
  m = p.line + n - 1

  abbrev here : Told
  here = told config p.state p.line front

  abbrev there : Told
  there = told config next 1 rest

  some : 0 < n
  some = h.some

  line_is : m + 1 ≡ p.line + n
  line_is = omega (arith, some)

  all_told : told config p.state p.line (front ++ rest) ≡ joined here (told_below m there)
  all_told =
      let far : 0 < p.line + n = omega (arith, some) in
      let one : 0 < 1 = omega arith in
      (all_joined config p.state p.line front rest h.closed far h.sound h.border).told_is
      ∙ ap (λ (l : ℕ). joined here (told config next l rest)) (sym line_is)
      ∙ ap (joined here) (below.told_below_it config next m 1 rest one).told_is

  piece_cut : IsInPieces (kept_of_piece config p (front ++ rest) in_events) (pieces_in_two config p front rest in_events)
  piece_cut =
      let rows : length (front ++ rest) ≡ n + length rest = length-append front rest in
      let all : kept_of_piece config p (front ++ rest) in_events ≡ kept_by_told config p.first (n + length rest) p.line (joined here (told_below m there)) in_events
      = ap (λ (r : ℕ). kept_by_told config p.first r p.line (told config p.state p.line (front ++ rest)) in_events) rows
      ∙ ap (λ (t : Told). kept_by_told config p.first (n + length rest) p.line t in_events) all_told in
      subst (λ (k : KeptValue). IsInPieces k (pieces_in_two config p front rest in_events)) (sym all)
      (two_pieces n p.line m some line_is config p.first (length rest) here there in_events (told_is_within config next 1 rest))

pub piece_is_cut : PieceIsCut
piece_is_cut config p front rest in_events h = piece_cut config p front rest in_events h

-- ---- a section

-- no fault at all
none_parsed : (xs : List LexemeValue) (f : Option PlacedParseFault) (scanned : Option SectionFaultValue) → section_fault xs f scanned ≡ None → f ≡ None
none_parsed xs None scanned e = refl
none_parsed xs (Some f) scanned e = by (slice_get xs f.place) scanned e
  where
    by : (x : Option LexemeValue) (o : Option SectionFaultValue)
        → option_or (option_map (λ x. Here x.start (parse.fault_text f.kind)) x) (option_or o (Some (Behind (parse.fault_text f.kind)))) ≡ None → Some f ≡ None
    by (Some x) o e = cc
    by None (Some g) e = cc
    by None None e = cc

abbrev kept : (rows first : ℕ) → List FindingValue → List Fact → List PlacedCommentValue → Option SectionFaultValue → List FindingValue → Option SectionFaultValue → KeptValue
kept rows first found facts comments fault hidden parse_fault = record {
  rows = rows;
  first = first;
  found = found;
  facts = facts;
  comments = comments;
  fault = fault;
  hidden = hidden;
  parse_fault = parse_fault;
}

same_kept : (rows first : ℕ) (f f' : List FindingValue) (g g' : List Fact) (c c' : List PlacedCommentValue) (x x' : Option SectionFaultValue) (h h' : List FindingValue) (y y' : Option SectionFaultValue)
    → f ≡ f' → g ≡ g' → c ≡ c' → x ≡ x' → h ≡ h' → y ≡ y' → kept rows first f g c x h y ≡ kept rows first f' g' c' x' h' y'
same_kept rows first f f' g g' c c' x x' h h' y y' p q r s t u = λ i. kept rows first (p i) (q i) (r i) (s i) (t i) (u i)

finding_none : (f : FindingValue) → finding_above 0 f ≡ f
finding_none f = let e : f.line - 0 ≡ f.line = omega arith in λ i. record { line = e i; column = f.column; rule = f.rule; message = f.message }

fact_none : (f : Fact) → fact_above 0 f ≡ f
fact_none f = let e : f.line - 0 ≡ f.line = omega arith in λ i. record { line = e i; column = f.column; expectation = f.expectation }

comment_none : (c : PlacedCommentValue) → comment_above 0 c ≡ c
comment_none c = let e : c.line - 0 ≡ c.line = omega arith in λ i. record { line = e i; column = c.column; text = c.text; behind = c.behind }

module _ (config : Config) (rs : List RecordValue) where
  abbrev xs : List LexemeValue
  xs = lexemes_of rs

  abbrev document : BuiltValue
  document = document_of xs

  abbrev scanned : Option SectionFaultValue
  scanned = scan_fault_from 0 rs

  abbrev fault : Option SectionFaultValue
  fault = section_fault xs document.fault scanned

  abbrev here_told : Told
  here_told = told config start_state 0 rs

  is_told : IsToldOfSection config rs
  is_told = told_of_section config rs

  abbrev lexemes_found : List FindingValue
  lexemes_found = lexeme_findings (lexeme_options_of config) (counted_of xs document.fault) xs

  abbrev comments : List PlacedCommentValue
  comments = shown_comments (comment_lines (length rs) xs document.fault) rs

  found_same : fault ≡ None → lexemes_found ++ (shown_comment_findings config comments ++ event_findings config (unless_fault fault document.events))
      ≡ map (finding_above 0) (here_told.found ++ shown_comment_findings config here_told.comments) ++ found_in_events config rs
  found_same none =
      let tree = found_in_events config rs in
      ap (λ (f : Option SectionFaultValue). lexemes_found ++ (shown_comment_findings config comments ++ event_findings config (unless_fault f document.events))) none
      ∙ ap (λ (fs : List FindingValue). fs ++ (shown_comment_findings config comments ++ tree)) is_told.found
      ∙ ap (λ (cs : List PlacedCommentValue). here_told.found ++ (shown_comment_findings config cs ++ tree)) is_told.comments
      ∙ sym (append_assoc here_told.found (shown_comment_findings config here_told.comments) tree)
      ∙ ap (λ (fs : List FindingValue). fs ++ tree) (sym (map_none (finding_above 0) finding_none (here_told.found ++ shown_comment_findings config here_told.comments)))

  facts_same : facts_of config rs xs (counted_of xs document.fault) ≡ items_if (is_on config Indentation) (map (fact_above 0) here_told.facts)
  facts_same = ap (λ (fs : List Fact). items_if (is_on config Indentation) fs) (is_told.facts ∙ sym (map_none (fact_above 0) fact_none here_told.facts))

  comments_same : filter is_addressed comments ≡ map (comment_above 0) (filter is_addressed here_told.comments)
  comments_same = ap (filter is_addressed) is_told.comments ∙ sym (map_none (comment_above 0) comment_none (filter is_addressed here_told.comments))

  section_piece : (kept_of_section config rs).fault ≡ None → kept_of_section config rs ≡ kept_of_piece config (section_start config rs) rs (found_in_events config rs)
  unfolding kept_of_section
  section_piece none =
      same_kept (length rs) (option_map_or (λ (x : LexemeValue). x.start.col) (slice_get xs 0) 0) _ _ _ _ _ _ _ _ _ _ _ _
      (found_same none)
      facts_same
      comments_same
      none
      (ap (λ (f : Option SectionFaultValue). event_findings config (hidden_events f (section_fault xs document.fault None) document.events)) none ∙ none_found config)
      (ap (λ (f : Option PlacedParseFault). section_fault xs f None) (none_parsed xs document.fault scanned none))

pub section_is_piece : SectionIsPiece
section_is_piece config rs none = section_piece config rs none

pub faultless_section_is_cut : FaultlessSectionIsCut
faultless_section_is_cut config front rest none h =
    let start = section_start config (front ++ rest) in
    let in_events = found_in_events config (front ++ rest) in
    subst (λ (k : KeptValue). IsInPieces k (pieces_in_two config start front rest in_events)) (sym (section_is_piece config (front ++ rest) none))
    (piece_is_cut config start front rest in_events h)

-- What the machines of a judge do at a row.
use Rattle.std.proofs.Common.{◌≡◌, ◌<◌, ◌≤◌, ◌+◌, ◌++◌, ℕ, List, Option, Some, None, length, map, sym, ◌∙◌, ap, subst, arith}
use Rattle.std.specs.Prelude.{IfSome}
use Rattle.yl_lexeme.specs.Lexeme.{LexemeValue}
use Rattle.yl_marks.specs.declared.symbol.Symbol.{Symbol}
use Rattle.yl_marks.specs.declared.token.Token.{Token}
use Rattle.yl_marks.specs.Keys.{token_of}
use Rattle.yl_marks.specs.ByLine.{marks_of_line}
use Rattle.yl_marks.specs.FactsByLine.{KeyMarkerValue, behind_keyed_line}
use Rattle.yl_events.specs.declared.fault.PlacedParseFault.{PlacedParseFault}
use Rattle.yl_events.specs.Named.{IsInLine}
use Rattle.yl_events.proofs.Named.{line_named}
use Rattle.yl_indentation.specs.LineFacts.{AreIndented, IsLine, NameIndices}
use Rattle.yl_indentation.specs.SymbolFacts.{behind_symbols, facts_left}
use Rattle.yl_sections.specs.declared.row_judge.RowJudge.{RowJudge}
use Rattle.yl_sections.specs.JudgedRow.{AreJudgedTo, JudgesRow, marks_behind}
use Rattle.yl_sections.specs.Reading.{counted_in}
use Rattle.yl_sections.specs.RowReading.{ParsesFrom}
use Rattle.yl_sections.proofs.Lines.{named_indices}

inside_from : (first n count : ℕ) (fault : Option PlacedParseFault) → first ≡ n → IfSome fault (λ f. (first ≤ f.place) × (f.place < first + count)) → IfSome fault (λ f. IsInLine n count f.place)
inside_from first n count None e h = tt
inside_from first n count (Some f) e h = (omega (arith, e, h.0), omega (arith, e, h.1))

module _ {A : Type 0} (d : RowJudge A) (line : List LexemeValue) (spaces : ℕ) where
  abbrev k : KeyMarkerValue
  k = d.reader.marker

  abbrev ts : List Token
  ts = map token_of line

  abbrev n : ℕ
  n = k.marks.count

  module _ (first : ℕ) (tokens : List Token) (ws : List Symbol) (first_is : first ≡ n) (tokens_are : tokens ≡ ts) (symbols_are : ws ≡ marks_behind d line) where
    -- what the reader of facts requires of its line
    abbrev pub Reads : (P : List Token → List ℕ → Type 0) → Type 0
    Reads P = (all : List Token) (ns : List ℕ) → IsLine all first tokens → AreIndented ns spaces tokens → NameIndices (λ i. (first ≤ i) × (i < first + length tokens)) ws → P all ns

    named : NameIndices (λ i. (first ≤ i) × (i < first + length tokens)) ws
    named =
        let long : length tokens ≡ length ts = ap (λ (us : List Token). length us) tokens_are in
        subst (λ (vs : List Symbol). NameIndices (λ i. (first ≤ i) × (i < first + length tokens)) vs) (sym symbols_are)
        (named_indices (IsInLine n (length ts)) (λ i. (first ≤ i) × (i < first + length tokens)) (λ i q. (omega (arith, q.0, first_is), omega (arith, q.1, first_is, long))) (marks_of_line k.marks ts) (line_named k.marks ts))

    read_there : (P : List Token → List ℕ → Type 0) → Reads P → (all : List Token) (ns : List ℕ) → IsLine all n ts → AreIndented ns spaces ts → P all ns
    read_there P read all ns there dented =
        read all ns (subst (λ j. IsLine all j tokens) (sym first_is) (subst (λ (us : List Token). IsLine all n us) (sym tokens_are) there))
        (subst (λ (us : List Token). AreIndented ns spaces us) (sym tokens_are) dented) named

    pub judges_row : (e : RowJudge A) (fault : Option PlacedParseFault) (end counted count : ℕ) → end ≡ first + count → length line ≡ count → counted ≡ counted_in fault end
        → e.options ≡ d.options → e.reader.marker ≡ behind_keyed_line k ts → ParsesFrom d.reader.parser first (marks_behind d line) fault e.reader.parser e.reader.outlines.items
        → IfSome fault (λ f. (first ≤ f.place) × (f.place < first + count))
        → Reads (λ all ns. e.places ≡ behind_symbols all ns d.places ws) → Reads (λ all ns. e.facts.items ≡ d.facts.items ++ facts_left d.places all counted ns ws)
        → AreJudgedTo fault d line e → JudgesRow d line spaces fault e
    judges_row e fault end counted count end_is long counted_is options marker parsed inside context facts judged = record {
      options = options;
      marker = marker;
      parsed = subst (λ j. ParsesFrom d.reader.parser j (marks_behind d line) fault e.reader.parser e.reader.outlines.items) first_is parsed;
      inside = subst (λ j. IfSome fault (λ f. IsInLine n j f.place)) (sym long) (inside_from first n count fault first_is inside);
      context = λ all ns there dented.
          read_there (λ us is. e.places ≡ behind_symbols us is d.places ws) context all ns there dented ∙ ap (λ (vs : List Symbol). behind_symbols all ns d.places vs) symbols_are;
      facts = λ all ns there dented.
          read_there (λ us is. e.facts.items ≡ d.facts.items ++ facts_left d.places us counted is ws) facts all ns there dented
          ∙ (ap (λ (vs : List Symbol). d.facts.items ++ facts_left d.places all counted ns vs) symbols_are
          ∙ ap (λ j. d.facts.items ++ facts_left d.places all j ns (marks_behind d line)) (counted_is ∙ ap (counted_in fault) {x = end} {y = n + length line} (omega (arith, end_is, first_is, long))));
      judged = judged;
    }

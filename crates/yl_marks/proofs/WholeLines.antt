-- The lines of a document's tokens, read one after another.
use Rattle.std.proofs.Common.{◌≡◌, ◌≤◌, ◌+◌, ℕ, List, ◌∷◌, ◌++◌, length, take, drop, sym, ◌∙◌, ap, append_assoc, append-nil}
use Rattle.std.proofs.lemmas.List.{drop_all, drop-drop}
use Rattle.yl_marks.specs.declared.token.Token.{Token}
use Rattle.yl_marks.specs.declared.symbol.Symbol.{Symbol}
use Rattle.yl_marks.specs.declared.facts.KeyFacts.{KeyFacts}
use Rattle.yl_marks.specs.Marks.{closings_of_all, symbols_of_tokens}
use Rattle.yl_marks.specs.ByLine.{marker_at_start, marks_of_line, marks_by_lines, by_line}
use Rattle.yl_marks.specs.Facts.{facts_of_tokens}
use Rattle.yl_marks.specs.FactsByLine.{KeyMarkerValue, key_marker_at_start, facts_of_line, behind_keyed_line, facts_by_lines}
use Rattle.yl_marks.proofs.ByLines.{marked_by_lines}
use Rattle.yl_marks.proofs.FactsByLines.{told_by_lines}

-- ---- one line more

module _ (all : List Token) (read count read' : ℕ) (rest line : List Token) (rest_is : rest ≡ drop read all) (line_is : line ≡ take count rest) (read_is : read' ≡ read + count)
    (parted : by_line rest ≡ take count rest ∷ by_line (drop count rest)) (b b' : KeyMarkerValue) (behind : b' ≡ behind_keyed_line b line) where
  cut : by_line (drop read all) ≡ line ∷ by_line (drop read' all)
  cut =
      ap by_line (sym rest_is) ∙ parted
      ∙ ap (λ l. l ∷ by_line (drop count rest)) (sym line_is)
      ∙ ap (λ r. line ∷ by_line r) (ap (drop count) rest_is ∙ drop-drop count read all ∙ ap (λ n. drop n all) {x = read + count} {y = read'} (sym read_is))

  pub symbols_more : (ws ws' whole : List Symbol) → ws' ≡ ws ++ marks_of_line b.marks line → ws ++ marks_by_lines b.marks (by_line (drop read all)) ≡ whole →
      ws' ++ marks_by_lines b'.marks (by_line (drop read' all)) ≡ whole
  symbols_more ws ws' whole more e =
      let later = by_line (drop read' all) in
      ap (λ us. us ++ marks_by_lines b'.marks later) more
      ∙ append_assoc ws (marks_of_line b.marks line) (marks_by_lines b'.marks later)
      ∙ ap (λ (c : KeyMarkerValue). ws ++ (marks_of_line b.marks line ++ marks_by_lines c.marks later)) behind
      ∙ ap (λ ls. ws ++ marks_by_lines b.marks ls) (sym cut) ∙ e

  pub keys_more : (ks ks' whole : List KeyFacts) → ks' ≡ ks ++ facts_of_line b line → ks ++ facts_by_lines b (by_line (drop read all)) ≡ whole →
      ks' ++ facts_by_lines b' (by_line (drop read' all)) ≡ whole
  keys_more ks ks' whole more e =
      let later = by_line (drop read' all) in
      ap (λ us. us ++ facts_by_lines b' later) more
      ∙ append_assoc ks (facts_of_line b line) (facts_by_lines b' later)
      ∙ ap (λ c. ks ++ (facts_of_line b line ++ facts_by_lines c later)) behind
      ∙ ap (λ ls. ks ++ facts_by_lines b ls) (sym cut) ∙ e

-- ---- all lines

pub all_symbols : (all : List Token) (read : ℕ) (b : KeyMarkerValue) (ws ws' : List Symbol) → length all ≤ read → ws' ≡ ws ++ closings_of_all b.marks.open_ones →
    ws ++ marks_by_lines b.marks (by_line (drop read all)) ≡ marks_by_lines marker_at_start (by_line all) → ws' ≡ symbols_of_tokens all
all_symbols all read b ws ws' h closed e =
    closed ∙ sym (ap (λ l. ws ++ marks_by_lines b.marks (by_line l)) (drop_all read all h)) ∙ e ∙ marked_by_lines all

pub all_keys : (all : List Token) (read : ℕ) (b : KeyMarkerValue) (ks : List KeyFacts) → length all ≤ read →
    ks ++ facts_by_lines b (by_line (drop read all)) ≡ facts_by_lines key_marker_at_start (by_line all) → ks ≡ facts_of_tokens all
all_keys all read b ks h e =
    sym (append-nil ks) ∙ sym (ap (λ l. ks ++ facts_by_lines b (by_line l)) (drop_all read all h)) ∙ e ∙ told_by_lines all

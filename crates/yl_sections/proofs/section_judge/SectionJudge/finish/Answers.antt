use Rattle.std.proofs.Common.{◌++◌, ◌∙◌, List, ap, append_assoc, length, refl, sym}
use Rattle.std.specs.Prelude.{option_map}
use Rattle.yl_text.specs.Finding.{FindingValue}
use Rattle.yl_text.specs.declared.finding.RuleId.TheVariants.{Indentation}
use Rattle.yl_lexeme.specs.Lexeme.{PlacedCommentValue}
use Rattle.yl_lexeme_rules.specs.Lexemes.{lexeme_findings}
use Rattle.yl_sections.specs.Judge.{document_of}
use Rattle.yl_sections.specs.Judging.{with_scan_fault}
use Rattle.yl_sections.specs.Kept.{comment_lines, counted_of, hidden_events, is_on, items_if, lexeme_options_of, shown_comment_findings, shown_comments, unless_fault}
use Rattle.yl_sections.specs.Owned.{section_fault_value}
use Rattle.yl_sections.specs.Sections.{lexemes_of}
use Rattle.yl_sections.proofs.Assembled.{kept_is, kept_so}
use Rattle.yl_sections.proofs.RowJudging.{with_scanned}
use Rattle.std.specs.List.{filter}
use Rattle.yl_rules.specs.Addressed.{is_addressed}
use Rattle.yl_sections.proofs.section_judge.SectionJudge.finish.Goals as goal

pub returns : goal.returns
returns g c = λ rs h.
    let config = c.args.config.now in
    let xs = lexemes_of rs in
    let b = document_of xs in
    let self = c.args.self in
    let told = c.in_ok-found.ensures config rs h.stage in
    let scanned = option_map section_fault_value self.scan_fault in
    let fault = option_map section_fault_value c.with_scan_fault-fault.result in
    let parse_fault = option_map section_fault_value c.in_ok-found.field-0.fault in
    let lines = comment_lines (length rs) xs b.fault in
    let comments = shown_comments lines rs in
    let parsed = told.fault in
    let in_tree = told.in_tree in
    let of_lexemes = told.found in
    let of_comments = h.comments.found ∙ ap (shown_comment_findings config) told.comments in
    let of_tree = c.show_or_hide-in_tree.ensures.shown config b.events in_tree in
    kept_so config rs c.new.result
    (kept_is config rs b xs scanned fault parse_fault (unless_fault fault b.events) (hidden_events fault parse_fault b.events) (counted_of xs b.fault) self.rows lines self.first comments self.comments.kept.items
    c.append-2.new.self.items c.show_or_hide-in_tree.result.hidden.items c.checked.result.items c.new.result
    c.new.ensures
    (c.in_ok-append-2.ensures.items
    ∙ (ap (λ (fs : List FindingValue). fs ++ c.show_or_hide-in_tree.result.shown.items) c.in_ok-append.ensures.items
    ∙ (append_assoc c.in_ok-found.field-0.found.items self.comments.found.items c.show_or_hide-in_tree.result.shown.items
    ∙ (ap (λ (fs : List FindingValue). fs ++ (self.comments.found.items ++ c.show_or_hide-in_tree.result.shown.items)) of_lexemes
    ∙ (ap (λ (fs : List FindingValue). lexeme_findings (lexeme_options_of config) (counted_of xs b.fault) xs ++ (fs ++ c.show_or_hide-in_tree.result.shown.items)) of_comments
    ∙ ap (λ (fs : List FindingValue). lexeme_findings (lexeme_options_of config) (counted_of xs b.fault) xs ++ (shown_comment_findings config comments ++ fs)) of_tree)))))
    (c.checked.ensures ∙ ap (items_if (is_on config Indentation)) told.facts)
    (h.comments.kept ∙ ap (λ (cs : List PlacedCommentValue). filter is_addressed cs) told.comments)
    h.first
    refl
    refl
    refl
    (ap (λ n. comment_lines n xs b.fault) (sym h.rows))
    (c.with_scan_fault-fault.ensures ∙ (ap (λ (o : _). with_scan_fault o scanned) parsed ∙ sym (with_scanned xs b.fault scanned)))
    h.scanned
    h.rows
    refl
    (c.show_or_hide-in_tree.ensures.hidden config b.events in_tree)
    refl
    parsed)

use Rattle.std.proofs.Common.{◌+◌, ◌++◌, ◌∙◌, [], List, ap, arith, map, refl, subst, sym, take}
use Rattle.yl_text.specs.Finding.{FindingValue}
use Rattle.yl_indentation.specs.declared.fact.Fact.{Fact}
use Rattle.yl_indentation.specs.SymbolFacts.{facts_left}
use Rattle.yl_marks.specs.ByLine.{by_line, marks_by_lines}
use Rattle.yl_marks.specs.FactsByLine.{KeyMarkerValue, facts_by_lines}
use Rattle.yl_marks.specs.Keys.{token_of}
use Rattle.yl_events.specs.SymbolParsing.{outcome_of_symbols}
use Rattle.yl_lexeme_rules.specs.LexemesLeft.{IsVersion, LexemesRead, lexemes_left}
use Rattle.yl_lexeme_rules.specs.Version.{is_1_2_document}
use Rattle.yl_lexeme_rules.specs.Lexemes.{lexeme_findings}
use Rattle.yl_sections.specs.Judge.{document_of}
use Rattle.yl_sections.specs.Kept.{lexeme_options_of, tree_options_of}
use Rattle.yl_sections.specs.Reading.{Gives}
use Rattle.yl_sections.proofs.DocumentJudging.{facts_at_start, fed_at_start, found_at_start, none_at_start, only_at_start}
use Rattle.yl_sections.proofs.LineByLine.{begins, gives_document}
use Rattle.yl_sections.proofs.document_judge.DocumentJudge.begin.Goals as goal

pub returns-clause-reads : goal.returns-clause-reads
returns-clause-reads g c = λ xs ns some.
    let config = c.args.config.now in
    let d = c.in_ok-rows.rows in
    let s = c.in_ok-rows.ensures.start in
    let r = d.reader in
    let o = lexeme_options_of config in
    let v = is_1_2_document xs in
    let lines = by_line (map token_of xs) in
    record {
      front = [];
      whole = refl;
      read = sym s.count;
      count = ap (λ (k : KeyMarkerValue). k.marks.count) s.marker ∙ sym s.count;
      only = only_at_start r.parser s.parser;
      waits = none_at_start r.parser s.parser;
      anchor = tt;
      options = s.none.options;
      version = subst (λ (l : LexemesRead). IsVersion v l xs) (sym s.lexemes) refl;
      found = λ n within.
          ap (λ (fs : List FindingValue). fs ++ lexemes_left v o d.rules (take n xs) (facts_by_lines r.marker lines)) s.none.found
          ∙ (found_at_start o d.rules xs r.marker s.marker (λ w ys ks. ap (λ (l : LexemesRead). lexemes_left w o l ys ks) s.lexemes) n ∙ ap (λ k. lexeme_findings o k xs) {x = n} {y = r.count + n} (omega (arith, s.count)));
      facts = λ all most. ap (λ (fs : List Fact). fs ++ facts_left d.places (map token_of xs) all ns (marks_by_lines r.marker.marks lines)) s.none.facts ∙ facts_at_start xs ns d.places r.marker all s.marker s.context;
      told = subst (λ n. Gives config xs c.push_events.new.tree (outcome_of_symbols r.parser n [] (marks_by_lines r.marker.marks lines)) (document_of xs)) (sym s.count)
          (gives_document config xs c.push_events.new.tree r.parser r.marker s.marker some
          (λ ws. begins config xs c.rules_at_start-tree.result c.push_events.new.tree r.parser (tree_options_of config) r.outlines.items c.deref.result.now s.parser s.told c.deref.ensures.value refl
          (fed_at_start xs c.new-none.result c.rules_at_start-tree.result c.push_events.new.tree r.outlines.items c.deref.result.now s.told c.deref.ensures.value c.in_ok-push_events.ensures) c.rules_at_start-tree.ensures ws));
    }

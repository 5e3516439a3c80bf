use Rattle.std.proofs.Common.{[], ◌≡◌, ◌∙◌, ◌+◌, ◌++◌, List, None, ap, arith, length, map, subst}
use Rattle.yl_text.specs.Finding.{FindingValue}
use Rattle.yl_marks.specs.Keys.{token_of}
use Rattle.yl_events.specs.Seen.{event_seen}
use Rattle.yl_lexeme_rules.specs.declared.options.LexemeOptions.{LexemeOptions}
use Rattle.yl_lexeme_rules.specs.Lexemes.{lexeme_findings}
use Rattle.yl_lexeme_rules.specs.LexemesLeft.{lexemes_left}
use Rattle.yl_lexeme_rules.specs.Version.{is_1_2_document}
use Rattle.yl_tree.specs.TreeRules.{Finds}
use Rattle.yl_sections.specs.declared.row_judge.RowJudge.{RowJudge}
use Rattle.yl_sections.specs.Kept.{lexeme_options_of}
use Rattle.yl_sections.proofs.DocumentJudging.{all_read, ended_so, facts_at_end}
use Rattle.yl_sections.proofs.document_judge.DocumentJudge.finish.Goals as goal

pub returns : goal.returns
returns g c = λ config xs ns h.
    let self = c.args.self in
    let d = self.rows in
    let closed = c.close.new.self in
    let stays = c.in_ok-fault.ensures.stays in
    let rest = c.in_ok-finish.ensures in
    let v = is_1_2_document xs in
    let out = closed.reader.outlines.items in
    let fault = c.in_ok-fault.fault in
    let in_tree = c.in_ok-in_tree.in_tree.items in
    let n = all_read config xs ns self h in
    let whole = subst (λ k. (all : List FindingValue) → fault ≡ None → Finds self.tree (map (event_seen (record { lexemes = []; first = k; waiting = self.waiting })) out ++ []) all → in_tree ≡ all) c.count-count.ensures c.in_ok-in_tree.ensures.whole in
    let ended = ended_so config xs ns self h fault out in_tree c.in_ok-fault.ensures.closed c.in_ok-in_tree.ensures.fails whole in
    let found = subst (λ (r : RowJudge g.row.A.Denot). c.finish.new.self.found.items ≡ r.found.items ++ lexemes_left v r.options r.rules [] []) stays (rest.found v []) in
    record {
      fault = ended.0;
      after = ended.1;
      found = found
          ∙ (ap (λ (o : LexemeOptions). d.found.items ++ lexemes_left v o d.rules [] []) h.options
          ∙ (h.found 0 (omega (arith)) ∙ ap (λ k. lexeme_findings (lexeme_options_of config) k xs) {x = d.reader.count + 0} {y = length xs} (omega (arith, n))));
      facts = ap (λ (r : RowJudge g.row.A.Denot). r.facts.items) (rest.stays ∙ ap (λ (r : RowJudge g.row.A.Denot). record r { found = c.finish.new.self.found }) stays) ∙ facts_at_end (map token_of xs) ns d.places d.reader.marker.marks (length xs) d.facts.items _ (h.facts (length xs) (omega (arith, n)));
      in_tree = ended.2;
    }

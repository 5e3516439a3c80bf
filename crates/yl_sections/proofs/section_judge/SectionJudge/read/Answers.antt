use Rattle.std.proofs.Common.{◌∙◌, ◌+◌, ◌∷◌, [], Option, ap, arith, length, sym}
use Rattle.std.proofs.lemmas.List.{length-append}
use Rattle.std.specs.Option.{option_map, option_or}
use Rattle.yl_row.specs.declared.fault.PlacedScanFault.{PlacedScanFault}
use Rattle.yl_sections.specs.Kept.{SectionFaultValue, scan_fault_at, scan_fault_from}
use Rattle.yl_sections.proofs.RowJudging.{fault_of_both}
use Rattle.yl_sections.proofs.Staging.{comments_read, first_more}
use Rattle.yl_sections.proofs.section_judge.SectionJudge.read.Goals as goal

pub returns-clause-judged : goal.returns-clause-judged
returns-clause-judged g c = λ rs h.
    let config = c.args.config.now in
    let r = c.args.row.now in
    let self = c.args.self.now in
    record {
      rows = omega (arith, c.in-Some.ensures, h.rows, length-append rs (r ∷ []));
      first = c.first_column-first.ensures ∙ first_more rs r config self.stage self.first c.lexemes.result.now h.stage h.first c.lexemes.ensures;
      scanned = c.first_fault-self.ensures
          ∙ (ap (λ (o : Option SectionFaultValue). option_or o (option_map (scan_fault_at self.rows) c.fault.result)) h.scanned
          ∙ (ap (λ (f : Option PlacedScanFault). option_or (scan_fault_from 0 rs) (option_map (scan_fault_at self.rows) f)) c.fault.ensures
          ∙ (ap (λ n. option_or (scan_fault_from 0 rs) (option_map (scan_fault_at n) r.entry.fault)) {x = self.rows} {y = 0 + length rs} (omega (arith, h.rows)) ∙ sym (fault_of_both 0 rs r))));
      stage = c.in_ok-read_row.ensures.at rs h.rows h.stage;
      comments = comments_read rs r config self.stage c.read_row.new.self self.comments c.read_if.new.self c.shows_comments-shows.result (c.in_ok-read_row.ensures.commented rs h.rows h.stage) c.shows_comments-shows.ensures h.comments
          (λ shown reads. c.in_ok-read_if.ensures.shown rs shown h.rows reads) c.in_ok-read_if.ensures.stays;
    }

pub returns-clause-documents : goal.returns-clause-documents
returns-clause-documents g c = λ rs h. c.in_ok-read_row.ensures.documents rs h.rows h.stage

use Rattle.std.proofs.Common.{◌≡◌, ◌+◌, map, take, ap, arith, refl, sym, ◌∙◌}
use Rattle.yl_lexeme.specs.PlacedComments.{placed_comment_value}
use Rattle.yl_sections.specs.Kept.{rows_kept}
use Rattle.yl_lint.specs.TextReport.{comments_in_sections}
use Rattle.yl_found.proofs.Gathering.{rows_more, said_more, within_more}
use Rattle.yl_found.proofs.gathered.Gathered.go_on.Goals as goal

pub returns-clause-gathered : goal.returns-clause-gathered
returns-clause-gathered g c =
    let ks = c.args.sections.now in
    let one = c.args.one in
    let old = c.args.self.now in
    let was = c.requires.gathered in
    let fits = within_more ks old.section one.sections one refl c.requires.known was.within in
    let next : c.saturating_add-self.result ≡ old.section + one.sections = omega (arith, c.saturating_add-self.ensures, fits, c.requires.few.sections) in
    record {
      within = omega (arith, fits, next);
      row =
          rows_more ks old.section one.sections one refl c.requires.known old.row c.in_ok-row.row was.row c.in_ok-row.ensures
          ∙ sym (ap (λ n. rows_kept (take n ks)) next);
      comments =
          said_more ks c.args.count old.section one.sections old.row (map placed_comment_value old.comments.items) (map placed_comment_value c.push_known.new.comments.items) was.row was.comments c.in_ok-push_known.ensures
          ∙ sym (ap (λ n. comments_in_sections 0 (take c.args.count (take n ks))) next);
    }

pub returns-clause-section : goal.returns-clause-section
returns-clause-section g c =
    let old = c.args.self.now in
    let fits = within_more c.args.sections.now old.section c.args.one.sections c.args.one refl c.requires.known c.requires.gathered.within in
    omega (arith, c.saturating_add-self.ensures, fits, c.requires.few.sections)

use Rattle.yl_text.specs.Store.{end_of_lines}
use Rattle.yl_config.specs.Config.{levels_of, options_of}
use Rattle.yl_report.specs.Directive.{disables_file, is_silenced}
use Rattle.yl_lint.specs.TextReport.{comments_in_sections, findings_in_lines, first_text, found_of_kept, report_of_kept, shown}
use Rattle.yl_lint.specs.Unsilenced.{unsilenced_of_kept}
use Rattle.yl_lint.proofs.laws.heard_of_text.Goals as goal

pub returns : goal.returns
unfolding report_of_kept unsilenced_of_kept
returns c =
    λ config rows ks. c.heard_reports.ensures (levels_of config) (disables_file (first_text rows)) (is_silenced (comments_in_sections 0 (shown ks)))
    (found_of_kept config (findings_in_lines (options_of config) rows) (end_of_lines rows) ks)

use Rattle.std.proofs.Common.{◌≡◌, ◌+◌, ◌++◌, ◌∙◌, ◌∷◌, ℕ, ap}
use Rattle.std.specs.Str.{chars}
use Rattle.yl_text.proofs.Computed.{line}
use Rattle.yl_rules.specs.Rows.{line_findings}
use Rattle.yl_lint.specs.Left.{LineReaderValue, lines_left}
use Rattle.yl_lint.proofs.Passed.{line_passed}
use Rattle.yl_lint.proofs.lines.LineReader.pass.Goals as goal

pub returns-clause-left : goal.returns-clause-left
returns-clause-left g c = λ rows.
    let old = c.self.inside in
    let row = line c.args.text.now c.args.end in
    let more : c.push_line_problems.new.found.items ≡ old.found.items ++ line_findings old.options (old.runs.count + 1) (chars c.args.text.now) =
    c.in_ok-push_line_problems.ensures.ok ∙ ap (λ (n : ℕ). old.found.items ++ line_findings old.options (n + 1) (chars c.args.text.now)) c.count-line.ensures in
    line_passed old.options old.runs c.pass.new.self old.found.items c.push_line_problems.new.found.items old.found_in_runs.items c.pass.new.found.items row rows more c.in_ok-pass.ensures.count (c.in_ok-pass.ensures.found rows)
    ∙ ap (λ (v : LineReaderValue). lines_left v (row ∷ rows)) c.self.view_is

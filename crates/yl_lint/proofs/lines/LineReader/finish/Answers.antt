use Rattle.std.proofs.Common.{rules, ◌≡◌, ◌++◌, ◌∙◌, [], ap}
use Rattle.yl_lint.specs.Left.{LineReaderValue, lines_left}
use Rattle.yl_lint.proofs.Passed.{no_more}
use Rattle.yl_lint.proofs.lines.LineReader.finish.Goals as goal

pub returns : goal.returns
returns g c =
    let old = c.self.inside in
    let put : c.append.new.self.items ≡ old.found.items ++ c.finish.new.found.items = search rules in
    no_more old.runs old.found.items old.found_in_runs.items c.finish.new.found.items c.append.new.self.items put c.in_ok-finish.ensures
    ∙ ap (λ (v : LineReaderValue). lines_left v []) c.self.view_is

use Rattle.std.proofs.Common.{◌≡◌, ◌++◌, drop}
use Rattle.yl_indentation.specs.Onward.{CountsEntriesOnceSeen}
use Rattle.yl_lint.specs.Onward.{onward_in_sections}
use Rattle.yl_edited_lines.proofs.there.push_sections.Given as goal

abbrev pub invariant-loop-one : goal.invariant-loop-one
invariant-loop-one g l =
    (l.found.items ++ onward_in_sections l.options l.line l.here (drop l.one-index l.kept) ≡ l.fn.found.items ++ onward_in_sections l.options l.down l.fn.before l.kept) × CountsEntriesOnceSeen l.here

use Rattle.std.proofs.Common.{◌≡◌, ◌++◌, drop}
use Rattle.yl_indentation.specs.Onward.{CountsEntriesOnceSeen}
use Rattle.yl_lint.specs.Onward.{indentation_in_sections}
use Rattle.yl_patch.proofs.indentation.find_from.Given as goal

abbrev pub invariant-loop-i : goal.invariant-loop-i
invariant-loop-i g l =
    (l.found.items ++ indentation_in_sections l.options l.line l.here (drop l.i l.kept.items) ≡ indentation_in_sections l.options l.first l.fn.before (drop l.end l.kept.items)) × CountsEntriesOnceSeen l.here

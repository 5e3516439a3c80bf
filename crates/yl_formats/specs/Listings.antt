-- Bridge: a listing by its parts: what begins it, the line of a problem, and what ends it.
use Rattle.std.specs.Prelude.{ℕ, List, ◌++◌, codes}
use Rattle.yl_report.specs.Report.{ProblemValue}
use Rattle.yl_formats.specs.Formats.{standard_line, colored_line, github_line, with_attribute}
use Rattle.yl_formats.specs.declared.format.Listing.{Listing}
use Rattle.yl_formats.specs.declared.format.Listing.TheVariants.{Standard, Colored, Github}

abbrev pub head_of : Listing → List ℕ → List ℕ
head_of Standard name = name ++ codes "\n"
head_of Colored name = with_attribute (codes "4") name ++ codes "\n"
head_of Github name = codes "::group::" ++ name ++ codes "\n"

abbrev pub line_of : Listing → List ℕ → ProblemValue → List ℕ
line_of Standard name p = standard_line p
line_of Colored name p = colored_line p
line_of Github name p = github_line name p

abbrev pub end_of : Listing → List ℕ
end_of Standard = codes "\n"
end_of Colored = codes "\n"
end_of Github = codes "::endgroup::\n\n"

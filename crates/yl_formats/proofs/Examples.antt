-- Worked rows: what is printed of a problem.
use Rattle.std.specs.Prelude.{ℕ, ◌≡◌, refl, true, false, List, [], ◌∷◌, ◌++◌, codes}
use Rattle.std.specs.Fmt.{digits}
use Rattle.yl_text.specs.declared.finding.RuleId.TheVariants.{Syntax, Truthy}
use Rattle.yl_rules.specs.declared.level.Level.TheVariants.{Error, Warning}
use Rattle.yl_report.specs.Report.{ProblemValue}
use Rattle.yl_formats.specs.declared.format.Format.TheVariants.{Parsable, Standard, Colored, Github}
use Rattle.yl_formats.specs.Formats.{problems_text}

abbrev warned : ProblemValue
warned = record { line = 3; column = 14; level = Warning; rule = Truthy; message = codes "yes" }

abbrev broken : ProblemValue
broken = record { line = 7; column = 1; level = Error; rule = Syntax; message = codes "bad" }

pub in_columns : problems_text Standard (codes "f") (warned ∷ broken ∷ []) false
    ≡ codes "f\n  3:14      warning  yes  (truthy)\n  7:1       error    bad (syntax)\n\n"
unfolding digits
in_columns = refl

pub in_colors : problems_text Colored (codes "f") (warned ∷ []) false
    ≡ 27 ∷ codes "[4mf" ++ 27 ∷ codes "[0m\n  " ++ 27 ∷ codes "[2m3:14" ++ 27 ∷ codes "[0m      " ++ 27 ∷ codes "[33mwarning" ++ 27 ∷ codes "[0m  yes  " ++ 27 ∷ codes "[2m(truthy)" ++ 27 ∷ codes "[0m\n\n"
unfolding digits
in_colors = refl

pub in_a_group : problems_text Github (codes "f") (warned ∷ broken ∷ []) true ≡ codes "::group::f\n::error file=f,line=7,col=1::7:1 bad (syntax)\n::endgroup::\n\n"
unfolding digits
in_a_group = refl

pub none_printed : problems_text Standard (codes "f") (warned ∷ []) true ≡ []
none_printed = refl

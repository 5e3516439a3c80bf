-- Meaning: lines in which the rules on lines find the same.
use Rattle.std.specs.Prelude.{◌≡◌, ℕ, ◌==◌, ◌+◌, List, [], ◌∷◌, length}
use Rattle.yl_text.specs.Lines.{RowValue}
use Rattle.yl_text.specs.Store.{end_of_lines}
use Rattle.yl_rules.specs.declared.options.RowOptions.{RowOptions}
use Rattle.yl_rules.specs.Rows.{row_findings}
use Rattle.yl_config.specs.declared.config.Config.{Config}
use Rattle.yl_config.specs.Config.{options_of}
use Rattle.yl_lint.specs.TextReport.{findings_in_lines, first_text}

-- an old line and the new line of the same number: they have the same findings and the same line
-- break, and both are empty or neither is
pub record IsAlike (o : RowOptions) (line : ℕ) (old new : RowValue) : Type 0 where
  pub found : row_findings o line old ≡ row_findings o line new
  pub end : old.end ≡ new.end
  pub empty : (length old.text == 0) ≡ (length new.text == 0)

-- the new lines are alike to the old ones in their places; the first has this number, and more old
-- lines may follow
abbrev pub AreAlike : RowOptions → ℕ → List RowValue → List RowValue → Type 0
AreAlike o line old [] = Unit {0}
AreAlike o line [] (q ∷ qs) = ⊥
AreAlike o line (p ∷ ps) (q ∷ qs) = IsAlike o line p q × AreAlike o (line + 1) ps qs

-- the rules on lines find the same in both texts, and both have the same first line and the same
-- end: so a report says the same of the lines, whatever is found in their sections
pub record AreReadAlike (config : Config) (old new : List RowValue) : Type 0 where
  pub found : findings_in_lines (options_of config) new ≡ findings_in_lines (options_of config) old
  pub first : first_text new ≡ first_text old
  pub end : end_of_lines new ≡ end_of_lines old

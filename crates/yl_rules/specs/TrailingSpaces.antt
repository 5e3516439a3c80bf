-- Meaning: yamllint's rule trailing-spaces, over the characters of a line.
use Rattle.std.specs.Prelude.{ℕ, ◌==◌, if◌then◌else◌, List, [], ◌+◌, ◌-◌, length, codes}
use Rattle.std.specs.List.{suffix_len}
use Rattle.yl_text.specs.Character.{is_white}
use Rattle.yl_text.specs.Finding.{FindingValue, one_finding}
use Rattle.yl_text.specs.declared.finding.RuleId.TheVariants.{TrailingSpaces}

-- the number of characters of white space (s-white) at the end of the line
abbrev pub end_white : List ℕ → ℕ
end_white cs = suffix_len is_white cs

-- the finding is at the first character of the white space at the end of the line
abbrev pub trailing_spaces : ℕ → List ℕ → List FindingValue
trailing_spaces line cs =
    if end_white cs == 0 then []
    else one_finding TrailingSpaces line (length cs - end_white cs + 1) (codes "trailing spaces")

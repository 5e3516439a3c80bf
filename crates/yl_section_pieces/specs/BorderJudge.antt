-- Bridge: what the judge of a section's rows holds, which tells where a piece may begin.
use Rattle.std.specs.Prelude.{ℕ, ◌≡◌, ◌<◌, ◌+◌, List, [], ◌∷◌, length}
use Rattle.std.specs.List.{AllByRecursion}
use Rattle.yl_config.specs.declared.config.Config.{Config}
use Rattle.yl_record.specs.Records.{RecordValue}
use Rattle.yl_pieces.specs.State.{start_state}
use Rattle.yl_pieces.specs.Piece.{JudgesRows}
use Rattle.yl_section_pieces.specs.declared.border_judge.BorderJudge.{BorderJudge}

-- each lexeme of the rows, the first of which is at this line, ends above the line `end`
abbrev pub EndAbove : (end line : ℕ) → List RecordValue → Type 0
EndAbove end line [] = Unit {0}
EndAbove end line (r ∷ rs) = AllByRecursion (λ x. line + x.end.line < end) r.entry.lexemes × EndAbove end (line + 1) rs

-- it has read these rows
pub record HasReadRows {A : Type 0} (config : Config) (rs : List RecordValue) (j : BorderJudge A) : Type 0 where
  pub rows : j.rows ≡ length rs
  pub lexemes : EndAbove j.lexeme_rows 0 rs
  pub judged : JudgesRows config start_state rs j.judge

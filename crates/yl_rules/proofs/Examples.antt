-- Short texts and what the rules find in them, computed.
use Rattle.std.specs.Prelude.{ℕ, ◌≡◌, refl, List, [], ◌∷◌, ◌++◌, codes, true, Option, Some, None, replicate}
use Rattle.std.specs.Fmt.{digits}
use Rattle.std.specs.Str.{chars}
use Rattle.yl_text.specs.Finding.{one_finding}
use Rattle.yl_text.specs.Lines.{RowValue}
use Rattle.yl_text.specs.declared.row.Break.TheVariants.{No, Lf, CrLf}
use Rattle.yl_text.specs.declared.finding.RuleId.TheVariants.{Comments, EmptyLines, NewLineAtEndOfFile, NewLines, TrailingSpaces}
use Rattle.yl_lexeme.specs.Lexeme.{PlacedCommentValue}
use Rattle.yl_rules.specs.Comments.{comment_findings}
use Rattle.yl_rules.specs.Rows.{row_findings}
use Rattle.yl_rules.specs.Runs.{run_findings}
use Rattle.yl_rules.specs.declared.comments.CommentsOptions.{CommentsOptions}
use Rattle.yl_rules.specs.declared.new_lines.NewLine.TheVariants.{Unix}
use Rattle.yl_rules.specs.declared.options.RowOptions.{RowOptions}
use Rattle.yl_rules.specs.declared.options.RunOptions.{RunOptions}

abbrev line : List ℕ → RowValue
line cs = record { text = cs; end = Lf }

abbrev last : List ℕ → RowValue
last cs = record { text = cs; end = No }

abbrev wide : RowOptions
wide = record { max = 80; allow_non_breakable_words = true }

abbrev usual : RunOptions
usual = record { new_line = Unix; empty_lines = record { max = 2; max_start = 0; max_end = 0 } }

abbrev spaced : CommentsOptions
spaced = record { require_starting_space = true; ignore_shebangs = true; min_spaces_from_content = Some 2 }

abbrev comment : ℕ → ℕ → List ℕ → Option ℕ → PlacedCommentValue
comment l c t b = record { line = l; column = c; text = t; behind = b }

pub space_at_end : row_findings wide 2 (line (codes "a: 1 ")) ≡ one_finding TrailingSpaces 2 5 (codes "trailing spaces")
unfolding chars
space_at_end = refl

pub one_word : row_findings wide 1 (line (codes "- " ++ replicate 79 120)) ≡ []
unfolding chars
one_word = refl

pub three_empty_lines : run_findings usual (line (codes "---") ∷ line [] ∷ line [] ∷ line [] ∷ line (codes "b: 2") ∷ last [] ∷ []) ≡ one_finding EmptyLines 4 1 (codes "too many blank lines (3 > 2)")
unfolding digits chars
three_empty_lines = refl

pub break_alone : run_findings usual (line [] ∷ last [] ∷ []) ≡ []
unfolding chars
break_alone = refl

pub two_breaks : run_findings usual (line [] ∷ line [] ∷ last [] ∷ []) ≡ one_finding EmptyLines 2 1 (codes "too many blank lines (2 > 0)")
unfolding digits chars
two_breaks = refl

pub dos_break : run_findings usual (record { text = codes "---"; end = CrLf } ∷ last [] ∷ []) ≡ one_finding NewLines 1 4 (codes "wrong new line character: expected \\n")
unfolding chars
dos_break = refl

pub no_break_at_end : run_findings usual (line (codes "---") ∷ last (codes "a: [1, 2") ∷ []) ≡ one_finding NewLineAtEndOfFile 2 9 (codes "no new line character at the end of file")
unfolding chars
no_break_at_end = refl

pub too_near : comment_findings spaced (comment 1 5 (codes "# x") (Some 4)) ≡ one_finding Comments 2 6 (codes "too few spaces before comment")
unfolding chars
too_near = refl

pub no_space : comment_findings spaced (comment 1 0 (codes "##x") None) ≡ one_finding Comments 2 3 (codes "missing starting space in comment")
unfolding chars
no_space = refl

pub interpreter : comment_findings spaced (comment 0 0 (codes "#!x") None) ++ comment_findings spaced (comment 1 0 (codes "#") None) ≡ []
unfolding chars
interpreter = refl

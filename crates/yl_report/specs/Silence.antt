-- Bridge: what the silencing comments of a text say of each rule and line, as it is kept.
use Rattle.std.specs.Prelude.{ℕ, Bool, false, ◌||◌, ◌==◌, Option, Some, None, slice_get}
use Rattle.std.specs.List.{list_any}
use Rattle.yl_text.specs.declared.finding.RuleId.{RuleId}
use Rattle.yl_rules.specs.LevelOf.{rule_number}
use Rattle.yl_report.specs.declared.silence.Silences.{Silences}
use Rattle.yl_report.specs.declared.marks.SilencedLines.{SilencedLines}
use Rattle.yl_report.specs.Switched.{is_off_at}

-- a rule says nothing at a line
abbrev pub is_silenced_in : {A : Type 0} → Option (SilencedLines A) → ℕ → Bool
is_silenced_in None line = false
is_silenced_in (Some m) line = is_off_at m.switches.items line || list_any (λ own. own == line) m.lines.items

-- nothing of the file is reported
unfoldable pub is_file_silenced_by : {A : Type 0} → Silences A → Bool
is_file_silenced_by s = s.is_file_silenced

-- a rule says nothing at a line, counted from 0
unfoldable pub is_silenced_at : {A : Type 0} → Silences A → RuleId → ℕ → Bool
is_silenced_at s rule line = is_silenced_in (slice_get s.rules.items (rule_number rule)) line

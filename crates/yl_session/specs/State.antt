-- Meaning: what a session shows: its configuration, its lines (YAML 1.2.2, 5.4) and its problems. A
-- clause sees no more of it.
use Rattle.std.specs.Prelude.{◌≡◌, ℕ, List}
use Rattle.yl_text.specs.Lines.{RowValue, IsLines}
use Rattle.yl_config.specs.declared.config.Config.{Config}
use Rattle.yl_report.specs.Report.{ProblemValue}
use Rattle.yl_lint.specs.TextReport.{IsReport}

pub record SessionValue : Type 0 where
  pub config : Config
  pub rows : List RowValue
  pub problems : List ProblemValue

-- the session shows this text under this configuration: its lines, and the report of them
pub record Shows (c : Config) (text : List ℕ) (s : SessionValue) : Type 0 where
  pub config : s.config ≡ c
  pub lines : IsLines text s.rows
  pub problems : IsReport c s.rows s.problems

-- a text under a configuration is shown in one way, whatever edits led to it
abbrev pub OneState : Type 0
OneState = (c : Config) (text : List ℕ) (s t : SessionValue) → Shows c text s → Shows c text t → s ≡ t

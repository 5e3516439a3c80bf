-- Meaning: what linting a file writes, and how it may end early.
use Rattle.std.specs.Prelude.{◌≡◌, ℕ, ◌<◌, List, Option, IfSome}
use Rattle.std.specs.Io.KnownBytes.{Appends, Keeps}
use Rattle.yl_text.specs.Fault.{IsText}
use Rattle.yl_text.specs.Lines.{lines_of}
use Rattle.yl_config.specs.declared.config.Config.{Config}
use Rattle.yl_report.specs.Report.{ProblemValue, report_text, status_of}
use Rattle.yl_lint.specs.TextReport.{IsReport}
use Rattle.yl_programs.specs.declared.answer.Flags.{Flags}
use Rattle.yl_devices.specs.Written.{AppendsFront}
use Rattle.yl_devices.specs.declared.fault.RunFault.{RunFault}
use Rattle.yl_devices.specs.declared.fault.RunFault.TheVariants.{Read, Text, Write, Command, Memory}
use Rattle.yl_devices.specs.Text.{without_mark, IsBadText}
use Rattle.yl_check.specs.Check.{HasNoReport}

-- the failures of a reader and of a writer, before a run and after it
pub record Failures : Type 0 where
  pub reads_before : ℕ
  pub reads_after : ℕ
  pub writes_before : ℕ
  pub writes_after : ℕ

-- what a reader was given and what it has left, and what a writer held before a run and holds after it, where that is known
pub record Devices : Type 0 where
  pub given : Option (List ℕ)
  pub left : Option (List ℕ)
  pub before : Option (List ℕ)
  pub now : Option (List ℕ)

-- the report of these bytes, less a mark, is printed, and this is its status
pub record IsLinted (c : Config) (name : List ℕ) (flags : Flags) (bytes : List ℕ) (before now : Option (List ℕ)) (status : ℕ) : Type 0 where
  pub problems : List ProblemValue
  pub is : IsReport c (lines_of (without_mark bytes)) problems
  pub written : Appends before now (report_text name problems flags.no_warnings)
  pub is_status : status ≡ status_of problems flags.strict

-- a beginning of it is
pub record IsLintBegun (c : Config) (name : List ℕ) (flags : Flags) (bytes : List ℕ) (before now : Option (List ℕ)) : Type 0 where
  pub problems : List ProblemValue
  pub is : IsReport c (lines_of (without_mark bytes)) problems
  pub written : AppendsFront before now (report_text name problems flags.no_warnings)

-- why the report of these bytes is not printed as a whole: they are a text, the writer's failures rose, and it is begun; or they have no report, and
-- nothing is out
abbrev pub IsReportFault : (bytes : List ℕ) → (begun : Type 0) → (failures failures_after : ℕ) → (before now : Option (List ℕ)) → RunFault → Type 0
IsReportFault bytes begun m n before now Write = IsText (without_mark bytes) × (m < n) × begun
IsReportFault bytes begun m n before now fault = HasNoReport bytes fault × Keeps before now

-- the same where a reader gives the bytes: `Read` only where its failures rose. Memory may be refused while they are read, too
abbrev pub IsLintFault : (begun : List ℕ → Type 0) → Failures → Devices → RunFault → Type 0
IsLintFault begun n d Read = (n.reads_before < n.reads_after) × Keeps d.before d.now
IsLintFault begun n d (Text f) = IfSome d.given (λ bytes. IsBadText (without_mark bytes) f) × Keeps d.before d.now
IsLintFault begun n d Write = (n.writes_before < n.writes_after) × IfSome d.given (λ bytes. IsText (without_mark bytes) × begun bytes)
IsLintFault begun n d Memory = Keeps d.before d.now
IsLintFault begun n d Command = ⊥

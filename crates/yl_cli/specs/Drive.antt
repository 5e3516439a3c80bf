-- Meaning: what an editing run writes: the report of the text, and then the answer to each command.
use Rattle.std.specs.Prelude.{◌≡◌, ◌≢◌, ℕ, ◌<◌, ◌-◌, ◌^◌, List, [], ◌∷◌, ◌++◌, length, codes, decimal, Option, Some, None, Result, Ok, Err, IfSome, IsSomeAnd, ◌⊎◌}
use Rattle.std.specs.Bool.{then_some}
use Rattle.std.specs.Option.{option_map_or}
use Rattle.std.specs.Io.KnownBytes.{Appends, Consumes, IsAtEnd, Keeps}
use Rattle.yl_text.specs.Fault.{IsText}
use Rattle.yl_text.specs.declared.fault.TextFault.{TextFault}
use Rattle.yl_text.specs.declared.fault.TextFault.TheVariants.{NotUtf8, Range, TooLarge, Memory}
use Rattle.yl_text.specs.Lines.{RowValue, lines_of}
use Rattle.yl_config.specs.declared.config.Config.{Config}
use Rattle.yl_report.specs.Report.{ProblemValue, report_text, status_of}
use Rattle.yl_devices.specs.Written.{AppendsFront}
use Rattle.yl_session.specs.declared.work.Work.{Work}
use Rattle.yl_session.specs.Runs.{EditValue, text_after, text_after_all, AreAnswers}
use Rattle.yl_lint.specs.TextReport.{Reporter}
use Rattle.yl_programs.specs.declared.answer.Flags.{Flags}
use Rattle.yl_devices.specs.declared.fault.RunFault.{RunFault}
use Rattle.yl_devices.specs.declared.fault.RunFault.TheVariants as fault
use Rattle.yl_devices.specs.Text.{without_mark, IsBadText}
use Rattle.yl_check.specs.Run.{Devices, Failures}
use Rattle.yl_cli.specs.Command.{Command, Bad, next_command}

-- ---- what is read

-- the bytes are these commands and then the rest
abbrev pub AreCommands : List ℕ → List EditValue → List ℕ → Type 0
AreCommands bytes [] rest = bytes ≡ rest
AreCommands bytes (e ∷ edits) rest = (mid : List ℕ) × (next_command bytes ≡ Command e mid) × AreCommands mid edits rest

-- these commands were read from the bytes that were given, if these are known
abbrev pub WereRead : Option (List ℕ) → Option (List ℕ) → List EditValue → Type 0
WereRead given rest edits = IfSome given (λ bytes. IsSomeAnd rest (λ left. AreCommands bytes edits left))

-- these bytes do not begin with a whole command
abbrev pub HasNoCommand : List ℕ → Type 0
HasNoCommand bytes = (e : EditValue) (rest : List ℕ) → next_command bytes ≢ Command e rest

-- what was read of the bytes that were given, if these are known, does not begin with a whole
-- command
pub record IsCut (given left : Option (List ℕ)) : Type 0 where
  pub begun : List ℕ
  pub consumed : Consumes given left begun
  pub none : HasNoCommand begun

-- ---- what is written

abbrev pub refusal_name : TextFault → List ℕ
refusal_name (NotUtf8 n) = codes "NotUtf8"
refusal_name Range = codes "Range"
refusal_name TooLarge = codes "TooLarge"
refusal_name Memory = codes "Memory"

-- the line after a report: its status, and the number of scanned lines if that is asked for
abbrev pub ok_line : ℕ → Option ℕ → List ℕ
ok_line status scanned = codes "-- ok " ++ decimal status ++ option_map_or (λ n. codes " " ++ decimal n) scanned [] ++ codes "\n"

-- the printed report of these lines, and the line after it
abbrev pub shown_lines : (tells : List RowValue → List ProblemValue) → (name : List ℕ) → Flags → List RowValue → Option ℕ → List ℕ
shown_lines tells name flags rows scanned = report_text name (tells rows) flags.no_warnings ++ ok_line (status_of (tells rows) flags.strict) scanned

-- the answer to an edit after which this is the text
abbrev pub reply : (tells : List RowValue → List ProblemValue) → (name : List ℕ) → Flags → (text : List ℕ) → Result Work TextFault → List ℕ
reply tells name flags text (Ok work) = shown_lines tells name flags (lines_of text) (then_some flags.work work.scanned)
reply tells name flags text (Err f) = codes "-- refused " ++ refusal_name f ++ codes "\n"

-- the answers to the edits of a text, one after another
abbrev pub replies : (tells : List RowValue → List ProblemValue) → (name : List ℕ) → Flags → (text : List ℕ) → List EditValue → List (Result Work TextFault) → List ℕ
replies tells name flags text (e ∷ edits) (r ∷ answers) = reply tells name flags (text_after text e r) r ++ replies tells name flags (text_after text e r) edits answers
replies tells name flags text _ _ = []

abbrev pub text_of_run : (tells : List RowValue → List ProblemValue) → (name : List ℕ) → Flags → (text : List ℕ) → List EditValue → List (Result Work TextFault) → List ℕ
text_of_run tells name flags text edits answers =
    shown_lines tells name flags (lines_of text) None ++ replies tells name flags text edits answers

-- ---- a run

-- the commands before a place in the bytes were read, each has an answer to it at the text that the
-- commands before it leave, and all answers are written
pub record IsAnswered (c : Config) (name : List ℕ) (flags : Flags) (text : List ℕ) (d : Devices) : Type 0 where
  pub reporter : Reporter c
  pub edits : List EditValue
  pub answers : List (Result Work TextFault)
  pub place : Option (List ℕ)
  pub read : WereRead d.given place edits
  pub answered : AreAnswers text edits answers
  pub written : Appends d.before d.now (text_of_run reporter.tells name flags text edits answers)

-- all commands up to the end were answered so, and this is the status of the text that they leave
pub record IsDriven (c : Config) (name : List ℕ) (flags : Flags) (text : List ℕ) (d : Devices) (status : ℕ) : Type 0 where
  pub run : IsAnswered c name flags text d
  pub is_end : IsAtEnd run.place
  pub is_status : status ≡ status_of (run.reporter.tells (lines_of (text_after_all text run.edits run.answers))) flags.strict

-- the commands before a place in the bytes were read, and a beginning of the answers to them is
-- written
pub record IsBegun (c : Config) (name : List ℕ) (flags : Flags) (text : List ℕ) (d : Devices) : Type 0 where
  pub reporter : Reporter c
  pub edits : List EditValue
  pub answers : List (Result Work TextFault)
  pub place : Option (List ℕ)
  pub read : WereRead d.given place edits
  pub answered : AreAnswers text edits answers
  pub written : AppendsFront d.before d.now (text_of_run reporter.tells name flags text edits answers)

-- why a run over these bytes may end early. The bytes are no text, which is checked first. Or they
-- are a text, and the number of failures of a device rose, or the next bytes are no command, or as
-- many commands were read as can be counted, or memory ran out. After a failed read, the answers to
-- all commands are written that were read whole; at a bad command, those to all commands before it
abbrev pub IsDriveFault : Config → (name : List ℕ) → Flags → (bytes : List ℕ) → Failures → Devices → RunFault → Type 0
IsDriveFault c name flags bytes n d (fault.Text f) = IsBadText (without_mark bytes) f × Keeps d.before d.now
IsDriveFault c name flags bytes n d fault.Read = IsText (without_mark bytes) × (n.reads_before < n.reads_after)
    × ((run : IsAnswered c name flags (without_mark bytes) d) × IsCut run.place d.left)
IsDriveFault c name flags bytes n d fault.Write = IsText (without_mark bytes) × (n.writes_before < n.writes_after) × IsBegun c name flags (without_mark bytes) d
IsDriveFault c name flags bytes n d fault.Command = IsText (without_mark bytes) × ((run : IsAnswered c name flags (without_mark bytes) d)
    × ((IfSome run.place (λ rest. next_command rest ≡ Bad)) ⊎ (length run.edits ≡ 2 ^ 64 - 1)))
IsDriveFault c name flags bytes n d fault.Memory = IsText (without_mark bytes) × IsBegun c name flags (without_mark bytes) d

-- Bridge: what is read of the bytes that a reader gives, some of which were read ahead.
use Rattle.std.specs.Prelude.{◌≡◌, ◌≢◌, ℕ, ◌-◌, ◌≤◌, List, [], ◌++◌, length, Option, Some, None, Result}
use Rattle.std.specs.Option.{option_map}
use Rattle.std.specs.Io.KnownBytes.{Appends, Consumes}
use Rattle.yl_text.specs.declared.fault.TextFault.{TextFault}
use Rattle.yl_text.specs.Lines.{lines_of}
use Rattle.yl_config.specs.declared.config.Config.{Config}
use Rattle.yl_devices.specs.Written.{AppendsFront}
use Rattle.yl_session.specs.declared.work.Work.{Work}
use Rattle.yl_session.specs.Runs.{EditValue, IsAnswer, Replayed, text_after}
use Rattle.yl_session.specs.State.{SessionValue, Shows}
use Rattle.yl_lint.specs.Computed.{report}
use Rattle.yl_programs.specs.declared.answer.Flags.{Flags}
use Rattle.yl_cli.specs.Drive.{WereRead, text_of_run, reply}
use Rattle.yl_cli.specs.Command.{Command, first_line, next_command}

-- these bytes, and then those of a line
abbrev pub onto : List ℕ → Option (List ℕ × List ℕ) → Option (List ℕ × List ℕ)
onto front found = option_map (λ p. (front ++ p.0, p.1)) found

-- a line was read as far as this
abbrev pub HasBegun : List ℕ → List ℕ → List ℕ → Type 0
HasBegun all rest line = (length line ≤ 62) × (all ≡ line ++ rest) × (first_line 62 all ≡ onto line (first_line (62 - length line) rest))

abbrev pub LineBegan : Option (List ℕ) → Option (List ℕ) → List ℕ → Type 0
LineBegan None rest line = Unit {0}
LineBegan (Some all) None line = ⊥
LineBegan (Some all) (Some rest) line = HasBegun all rest line

-- what was read of the bytes that were given, if these are known, has no whole line
pub record IsLineCut (given left : Option (List ℕ)) : Type 0 where
  pub begun : List ℕ
  pub consumed : Consumes given left begun
  pub none : first_line 62 begun ≡ None

-- a line was read
abbrev pub TakesLine : Option (List ℕ) → Option (List ℕ) → List ℕ → Type 0
TakesLine None rest line = Unit {0}
TakesLine (Some all) None line = ⊥
TakesLine (Some all) (Some rest) line = first_line 62 all ≡ Some (line, rest)

-- bytes follow, but no whole line
abbrev pub HasNoLine : List ℕ → Type 0
HasNoLine all = (all ≢ []) × (first_line 62 all ≡ None)

-- a command was read
abbrev pub TakesCommand : Option (List ℕ) → Option (List ℕ) → EditValue → Type 0
TakesCommand None rest e = Unit {0}
TakesCommand (Some all) None e = ⊥
TakesCommand (Some all) (Some rest) e = next_command all ≡ Command e rest

-- ---- the answer to a command

-- the edit has this answer, and the reply to it is written
pub record IsReply (c : Config) (name : List ℕ) (flags : Flags) (text : List ℕ) (e : EditValue) (new : SessionValue) (before now : Option (List ℕ)) : Type 0 where
  pub answer : Result Work TextFault
  pub is : IsAnswer (lines_of text) e.from e.to e.bytes answer
  pub shows : Shows c (text_after text e answer) new
  pub written : Appends before now (reply (report c) name flags (text_after text e answer) answer)

-- the edit has this answer, and a beginning of the reply to it is written
pub record IsReplyBegun (c : Config) (name : List ℕ) (flags : Flags) (text : List ℕ) (e : EditValue) (before now : Option (List ℕ)) : Type 0 where
  pub answer : Result Work TextFault
  pub is : IsAnswer (lines_of text) e.from e.to e.bytes answer
  pub written : AppendsFront before now (reply (report c) name flags (text_after text e answer) answer)

-- all commands so far were answered
pub record SoFar (count : ℕ) (c : Config) (name : List ℕ) (flags : Flags) (text : List ℕ) (given rest before now : Option (List ℕ)) (s : SessionValue) : Type 0 where
  pub edits : List EditValue
  pub answers : List (Result Work TextFault)
  pub counted : length edits ≡ count
  pub read : WereRead given rest edits
  pub replayed : Replayed c text edits answers s
  pub written : Appends before now (text_of_run (report c) name flags text edits answers)

-- Meaning: the line of a fault on standard error.
use Rattle.std.specs.Prelude.{ℕ, List, ◌++◌, codes, decimal}
use Rattle.yl_devices.specs.declared.fault.BadText.TheVariants.{NotUtf8, TooLarge}
use Rattle.yl_devices.specs.declared.fault.RunFault.{RunFault}
use Rattle.yl_devices.specs.declared.fault.RunFault.TheVariants.{Read, Text, Write, Command, Memory}
use Rattle.yl_devices.specs.declared.fault.ProgramFault.{ProgramFault}
use Rattle.yl_devices.specs.declared.fault.ProgramFault.TheVariants as fault

-- what is said of a run over this file
abbrev pub run_words : List ℕ → RunFault → List ℕ
run_words file Read = file ++ codes ": cannot be read"
run_words file (Text (NotUtf8 n)) = file ++ codes ": not UTF-8 at byte " ++ decimal n
run_words file (Text TooLarge) = file ++ codes ": too large"
run_words file Write = codes "output cannot be written"
run_words file Command = codes "bad command"
run_words file Memory = codes "out of memory"

abbrev pub fault_words : ProgramFault → List ℕ
fault_words fault.Use = codes "fault of use"
fault_words fault.Memory = codes "out of memory"
fault_words (fault.Run file f) = run_words file.now f

-- the program's name, what is said, and a line feed
abbrev pub line_with : (program words : List ℕ) → List ℕ
line_with program words = program ++ codes ": " ++ words ++ codes "\n"

abbrev pub fault_line : (program : List ℕ) → ProgramFault → List ℕ
fault_line program f = line_with program (fault_words f)

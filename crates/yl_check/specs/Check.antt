-- Meaning: why a file has no report, and the status of a run over many.
use Rattle.std.specs.Prelude.{ℕ, ◌==◌, ◌||◌, if◌then◌else◌, List}
use Rattle.yl_text.specs.Fault.{IsText}
use Rattle.yl_devices.specs.Text.{without_mark, IsBadText}
use Rattle.yl_devices.specs.declared.fault.RunFault.{RunFault}
use Rattle.yl_devices.specs.declared.fault.RunFault.TheVariants.{Read, Text, Write, Command, Memory}

-- the bytes are no text; or they are one, and memory was refused
abbrev pub HasNoReport : List ℕ → RunFault → Type 0
HasNoReport bytes (Text fault) = IsBadText (without_mark bytes) fault
HasNoReport bytes Memory = IsText (without_mark bytes)
HasNoReport bytes Read = ⊥
HasNoReport bytes Write = ⊥
HasNoReport bytes Command = ⊥

-- 255 if one of two is, else 1 if one is, else 2 if one is, else 0
abbrev pub joined_status : ℕ → ℕ → ℕ
joined_status a b =
    if a == 255 || b == 255 then 255 else (if a == 1 || b == 1 then 1 else (if a == 2 || b == 2 then 2 else 0))

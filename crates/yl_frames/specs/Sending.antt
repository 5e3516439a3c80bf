-- Meaning: what sending a message has done.
use Rattle.std.specs.Prelude.{ℕ, ◌<◌, ◌≡◌, ◌++◌, List, length, codes, decimal, Option}
use Rattle.std.specs.Io.KnownBytes.{Keeps}
use Rattle.yl_text.specs.declared.device.Watched.{Watched}
use Rattle.yl_devices.specs.Written.{AppendsFront}
use Rattle.yl_frames.specs.Frames.{framed}
use Rattle.yl_frames.specs.declared.output.SendFault.{SendFault}
use Rattle.yl_frames.specs.declared.output.SendFault.TheVariants.{Write, TooLong}
use Rattle.yl_frames.specs.declared.output.Output.{Output}

-- the writer of an output
abbrev pub watched_of : {W : Type 0} → Output W → Watched W
watched_of out = out.to.device

-- what a writer held before a message and holds after it, where that is known, and its failures
pub record Sink : Type 0 where
  pub before : Option (List ℕ)
  pub now : Option (List ℕ)
  pub failures_before : ℕ
  pub failures_now : ℕ

-- a message is not sent where the writer's failures rose, and then a beginning of it is out, or where its length has more than 10 digits
abbrev pub IsSendFault : Sink → List ℕ → SendFault → Type 0
IsSendFault d body Write = AppendsFront d.before d.now (framed body) × (d.failures_before < d.failures_now)
IsSendFault d body TooLong = (9999999999 < length body) × Keeps d.before d.now × (d.failures_now ≡ d.failures_before)

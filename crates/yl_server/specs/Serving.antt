-- Meaning: a run of a server: which messages it reads, and what it sends.
use Rattle.std.specs.Prelude.{◌≡◌, ℕ, ◌-◌, ◌^◌, ◌<◌, ◌⊎◌, List, [], ◌∷◌, length, Option, Some, None, IfSome, IsSomeAnd}
use Rattle.std.specs.Io.KnownBytes.{Appends}
use Rattle.yl_devices.specs.Written.{AppendsFront}
use Rattle.yl_config.specs.declared.config.Config.{Config}
use Rattle.yl_frames.specs.Frames.{Body, End, Bad, next_body}
use Rattle.yl_workspace.specs.TextReport.{Reporter}
use Rattle.yl_server.specs.declared.serving.ServeFault.{ServeFault}
use Rattle.yl_server.specs.declared.serving.ServeFault.TheVariants as fault
use Rattle.yl_server.specs.Bodies.{IsEvent}
use Rattle.yl_server.specs.Events.{Event}
use Rattle.yl_server.specs.Machine.{ServerValue, started, step, after, sent, exit_of}
use Rattle.yl_server.specs.Written.{Reports, written}

-- ---- what is read

-- the bytes are messages with these bodies, and then the rest
abbrev pub AreBodies : List ℕ → List (List ℕ) → List ℕ → Type 0
AreBodies bytes [] rest = bytes ≡ rest
AreBodies bytes (body ∷ bodies) rest = (mid : List ℕ) × (next_body bytes ≡ Body body mid) × AreBodies mid bodies rest

-- they were taken of the bytes that were given, where these are known
abbrev pub WereTaken : (given place : Option (List ℕ)) → List (List ℕ) → Type 0
WereTaken given place bodies = IfSome given (λ bytes. IsSomeAnd place (λ rest. AreBodies bytes bodies rest))

-- the bodies are these events for a server, and none of them ends it
abbrev pub AreEvents : List (List ℕ) → List Event → ServerValue → Type 0
AreEvents [] [] s = Unit {0}
AreEvents (body ∷ bodies) (e ∷ es) s = IsEvent body e s.phase × (exit_of e.came s.phase ≡ None) × AreEvents bodies es (step e s).0
AreEvents _ _ s = ⊥

-- ---- a run

-- what a reader was given, and what a writer held before a run and holds after it, where these are known
pub record Devices : Type 0 where
  pub given : Option (List ℕ)
  pub before : Option (List ℕ)
  pub now : Option (List ℕ)

-- the failures of a reader and of a writer, before a run and after it
pub record Failures : Type 0 where
  pub reads_before : ℕ
  pub reads_after : ℕ
  pub writes_before : ℕ
  pub writes_after : ℕ

-- what the reports of texts are
abbrev pub Reporters : Type 0
Reporters = (c : Config) → Reporter c

abbrev pub tells : Reporters → Reports
tells reporters c = (reporters c).tells

-- the messages before a place were read, and all that the machine sends is written
pub record HasServed (c : Config) (d : Devices) : Type 0 where
  pub reporters : Reporters
  pub bodies : List (List ℕ)
  pub events : List Event
  pub place : Option (List ℕ)
  pub read : WereTaken d.given place bodies
  pub are : AreEvents bodies events (started c)
  pub written : Appends d.before d.now (written (tells reporters) (sent events (started c)))

-- no message comes next
abbrev pub IsLast : Option (List ℕ) → Type 0
IsLast place = IfSome place (λ rest. next_body rest ≡ End)

-- the next message has this body
abbrev pub IsNext : Option (List ℕ) → (body : List ℕ) → Type 0
IsNext place body = IfSome place (λ bytes. (rest : List ℕ) × (next_body bytes ≡ Body body rest))

-- the next message asks for the end, with this status
pub record Exits (place : Option (List ℕ)) (s : ServerValue) (status : ℕ) : Type 0 where
  pub body : List ℕ
  pub event : Event
  pub next : IsNext place body
  pub is : IsEvent body event s.phase
  pub exits : exit_of event.came s.phase ≡ Some status

-- so were all messages up to the end, or up to the one that asks for it
pub record IsServed (c : Config) (d : Devices) (status : ℕ) : Type 0 where
  pub run : HasServed c d
  pub ended : (IsLast run.place × (status ≡ 1)) ⊎ Exits run.place (after run.events (started c)) status

-- the messages before a place were read, and all that the machine sends for them is written, and a beginning of what it sends for the next
pub record HasBegun (c : Config) (d : Devices) : Type 0 where
  pub reporters : Reporters
  pub bodies : List (List ℕ)
  pub events : List Event
  pub place : Option (List ℕ)
  pub read : WereTaken d.given place bodies
  pub are : AreEvents bodies events (started c)
  pub body : List ℕ
  pub event : Event
  pub next : IsNext place body
  pub is : IsEvent body event (after events (started c)).phase
  pub between : Option (List ℕ)  -- what the writer held then
  pub earlier : Appends d.before between (written (tells reporters) (sent events (started c)))
  pub begun : AppendsFront between d.now (written (tells reporters) (step event (after events (started c))).1)

-- why a run may end early: a device failed, whose failures rose; no message comes next, or as many were read as are counted; or a message has
-- more bytes than a header can say. All that was read before is answered
abbrev pub IsServeFault : Config → Failures → Devices → ServeFault → Type 0
IsServeFault c n d fault.Read = (n.reads_before < n.reads_after) × HasServed c d
IsServeFault c n d fault.Header = (run : HasServed c d) × (IfSome run.place (λ rest. next_body rest ≡ Bad) ⊎ (length run.events ≡ 2 ^ 64 - 1))
IsServeFault c n d fault.Write = (n.writes_before < n.writes_after) × HasBegun c d
IsServeFault c n d fault.TooLong = HasBegun c d

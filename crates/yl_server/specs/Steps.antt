-- Bridge: what a part of a step has done.
use Rattle.std.specs.Prelude.{◌≡◌, ℕ, ◌<◌, List, Option}
use Rattle.std.specs.Io.KnownBytes.{Appends}
use Rattle.yl_text.specs.Watched.{device_of, failures_of}
use Rattle.yl_devices.specs.Written.{AppendsFront}
use Rattle.yl_workspace.specs.Computed.{report}
use Rattle.yl_frames.specs.Sending.{Sink, watched_of}
use Rattle.yl_frames.specs.declared.output.Output.{Output}
use Rattle.yl_frames.specs.declared.output.SendFault.{SendFault}
use Rattle.yl_frames.specs.declared.output.SendFault.TheVariants.{Write, TooLong}
use Rattle.yl_server.specs.declared.phase.Phase.{Phase}
use Rattle.yl_server.specs.Bodies.{IsEvent, IsFound, settings_taken, text_set}
use Rattle.yl_server.specs.Events.{Came, Event}
use Rattle.yl_rpc.specs.declared.answers.Code.TheVariants.{ParseError, InternalError}
use Rattle.yl_rpc.specs.declared.body.BodyFault.{BodyFault}
use Rattle.yl_rpc.specs.declared.body.BodyFault.TheVariants.{NoJson, TooDeep, Memory}
use Rattle.yl_server.specs.Machine.{ServerValue, Stepped, exit_of, memory_words, no_json_words, not_read, step}
use Rattle.yl_server.specs.Messages.{MessageValue}
use Rattle.yl_server.specs.declared.reply.Reply.{Reply}
use Rattle.yl_server.specs.Replies.{IsReplied}
use Rattle.yl_server.specs.Written.{written}

-- an output before a call and after it
abbrev pub sink : {W : Type 0} → (contents : W → Option (List ℕ)) → (old new : Output W) → Sink
sink contents old new = record {
  before = contents (device_of (watched_of old));
  now = contents (device_of (watched_of new));
  failures_before = failures_of (watched_of old);
  failures_now = failures_of (watched_of new);
}

-- these messages are sent
pub record AreSent (d : Sink) (ms : List MessageValue) : Type 0 where
  pub appends : Appends d.before d.now (written report ms)
  pub quiet : d.failures_now ≡ d.failures_before

abbrev pub HasFailed : Sink → SendFault → Type 0
HasFailed d Write = d.failures_before < d.failures_now
HasFailed d TooLong = Unit {0}

-- they are not all sent, but a beginning of them is out; the writer is blamed only where it failed
pub record AreCut (d : Sink) (ms : List MessageValue) (fault : SendFault) : Type 0 where
  pub begins : AppendsFront d.before d.now (written report ms)
  pub failed : HasFailed d fault

-- a server became what the machine says, and what that sends is sent
pub record IsDone (new : ServerValue) (d : Sink) (t : Stepped) : Type 0 where
  pub server : new ≡ t.0
  pub messages : AreSent d t.1

-- what came is this event for a server in this phase
pub record IsTaken (came : Came) (phase : Phase) (e : Event) : Type 0 where
  pub came_is : e.came ≡ came
  pub found : IsFound (text_set (settings_taken came phase)) e.found

-- a call is met: a server became what the machine says, and the reply is what that sends
pub record IsMet (came : Came) (old new : ServerValue) (r : Reply) (ended : Option ℕ) : Type 0 where
  pub event : Event
  pub taken : IsTaken came old.phase event
  pub replied : IsReplied new r (step event old)
  pub ends : ended ≡ exit_of came old.phase

-- a body is met
pub record IsBodyMet (body : List ℕ) (old new : ServerValue) (r : Reply) (ended : Option ℕ) : Type 0 where
  pub event : Event
  pub is : IsEvent body event old.phase
  pub replied : IsReplied new r (step event old)
  pub ends : ended ≡ exit_of event.came old.phase

-- how a body is answered that was not read
abbrev pub unread_answer : BodyFault → MessageValue
unread_answer NoJson = not_read ParseError no_json_words
unread_answer TooDeep = not_read ParseError no_json_words
unread_answer Memory = not_read InternalError memory_words

-- a body was an event, and that is done
pub record IsHandled (body : List ℕ) (old new : ServerValue) (d : Sink) (ended : Option ℕ) : Type 0 where
  pub event : Event
  pub is : IsEvent body event old.phase
  pub does : IsDone new d (step event old)
  pub ends : ended ≡ exit_of event.came old.phase

-- or begun
pub record IsHandlingCut (body : List ℕ) (old : ServerValue) (d : Sink) (fault : SendFault) : Type 0 where
  pub event : Event
  pub is : IsEvent body event old.phase
  pub cut : AreCut d (step event old).1 fault

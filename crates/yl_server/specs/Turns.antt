-- Bridge: what the next message has done.
use Rattle.std.specs.Prelude.{◌≡◌, ℕ, ◌<◌, ◌⊎◌, List, [], Option, Some, IfSome}
use Rattle.yl_frames.specs.Found.{TakesBody}
use Rattle.yl_frames.specs.Frames.{Bad, next_body}
use Rattle.yl_frames.specs.Sending.{Sink}
use Rattle.yl_frames.specs.declared.output.SendFault.{SendFault}
use Rattle.yl_frames.specs.declared.output.SendFault.TheVariants as send
use Rattle.yl_server.specs.declared.serving.ServeFault.{ServeFault}
use Rattle.yl_server.specs.declared.serving.ServeFault.TheVariants as fault
use Rattle.yl_server.specs.Bodies.{IsEvent}
use Rattle.yl_server.specs.Events.{Event}
use Rattle.yl_server.specs.Machine.{ServerValue, step, exit_of}
use Rattle.yl_server.specs.Serving.{IsLast}
use Rattle.yl_server.specs.Steps.{AreCut, AreSent, IsDone}

-- the bytes begin with a message, where they are known
abbrev pub Takes : (place left : Option (List ℕ)) → (body : List ℕ) → Type 0
Takes place left body = IfSome place (λ bytes. TakesBody bytes left body)

-- a message was read, and all is done that it asks for
pub record IsMessage (place left : Option (List ℕ)) (old new : ServerValue) (d : Sink) (ended : Option ℕ) : Type 0 where
  pub body : List ℕ
  pub event : Event
  pub taken : Takes place left body
  pub is : IsEvent body event old.phase
  pub does : IsDone new d (step event old)
  pub ends : ended ≡ exit_of event.came old.phase

-- no message comes next
pub record IsNone (place : Option (List ℕ)) (d : Sink) (ended : Option ℕ) : Type 0 where
  pub last : IsLast place
  pub sent : AreSent d []
  pub ends : ended ≡ Some 1

abbrev pub IsTurn : (place left : Option (List ℕ)) → (old new : ServerValue) → Sink → (ended : Option ℕ) → Type 0
IsTurn place left old new d ended = IsMessage place left old new d ended ⊎ IsNone place d ended

-- a message was read, and what it asks for is begun
pub record IsMessageCut (place left : Option (List ℕ)) (old : ServerValue) (d : Sink) (f : SendFault) : Type 0 where
  pub body : List ℕ
  pub event : Event
  pub taken : Takes place left body
  pub is : IsEvent body event old.phase
  pub cut : AreCut d (step event old).1 f

abbrev pub fault_of : SendFault → ServeFault
fault_of send.Write = fault.Write
fault_of send.TooLong = fault.TooLong

abbrev pub IsTurnFault : (place left : Option (List ℕ)) → (reads_before reads_after : ℕ) → ServerValue → Sink → ServeFault → Type 0
IsTurnFault place left m n old d fault.Read = (m < n) × AreSent d []
IsTurnFault place left m n old d fault.Header = IfSome place (λ bytes. next_body bytes ≡ Bad) × AreSent d []
IsTurnFault place left m n old d fault.Write = IsMessageCut place left old d send.Write
IsTurnFault place left m n old d fault.TooLong = IsMessageCut place left old d send.TooLong

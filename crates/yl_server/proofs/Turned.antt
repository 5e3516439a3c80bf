-- What the next message has done.
use Rattle.std.proofs.Common.{◌≡◌, ℕ, List, [], Option, None, Some, inl, inr, refl, sym, subst}
use Rattle.std.specs.Prelude.{Vec}
use Rattle.yl_frames.specs.Found.{IsNext}
use Rattle.yl_frames.specs.Sending.{Sink}
use Rattle.yl_frames.specs.declared.reading.NextBody.{NextBody}
use Rattle.yl_frames.specs.declared.reading.NextBody.TheVariants as found
use Rattle.yl_frames.specs.declared.output.SendFault.{SendFault}
use Rattle.yl_frames.specs.declared.output.SendFault.TheVariants as send
use Rattle.yl_server.specs.declared.serving.ServeFault.{ServeFault}
use Rattle.yl_server.specs.Serving.{IsLast}
use Rattle.yl_server.specs.declared.settings.Found.TheVariants.{Unreadable}
use Rattle.yl_server.specs.Events.{Dropped}
use Rattle.yl_server.specs.Machine.{ServerValue, missed_for_memory, step}
use Rattle.yl_server.specs.Steps.{AreCut, AreSent, IsDone, IsHandled, IsHandlingCut}
use Rattle.yl_server.specs.Turns.{Takes, IsMessage, IsMessageCut, IsTurn, IsTurnFault, fault_of}

-- ---- what was found

pub takes_body : {A : Type 0} (place left : Option (List ℕ)) (next : NextBody A) (bytes : Vec ℕ A) (body : List ℕ) → next ≡ found.Body bytes → body ≡ bytes.items → IsNext place left next → Takes place left body
takes_body None left next bytes body e b h = tt
takes_body (Some all) left next bytes body e b h = subst (Takes (Some all) left) (sym b) (subst (IsNext (Some all) left) e h)

pub takes_dropped : {A : Type 0} (place left : Option (List ℕ)) (next : NextBody A) → next ≡ found.Dropped → IsNext place left next → (body : List ℕ) × Takes place left body
takes_dropped None left next e h = ([], tt)
takes_dropped (Some bytes) left found.Dropped e h = h
takes_dropped (Some bytes) left (found.Body b) e h = cc
takes_dropped (Some bytes) left found.End e h = cc
takes_dropped (Some bytes) left found.Bad e h = cc

pub is_last : {A : Type 0} (place left : Option (List ℕ)) (next : NextBody A) → next ≡ found.End → IsNext place left next → IsLast place
is_last None left next e h = tt
is_last (Some bytes) left found.End e h = h
is_last (Some bytes) left (found.Body b) e h = cc
is_last (Some bytes) left found.Dropped e h = cc
is_last (Some bytes) left found.Bad e h = cc

-- ---- what was done

pub message_done : (place left : Option (List ℕ)) (old new : ServerValue) (d : Sink) (ended : Option ℕ) (body : List ℕ) → Takes place left body → IsHandled body old new d ended → IsTurn place left old new d ended
message_done place left old new d ended body t h = inl (record { body = body; event = h.event; taken = t; is = h.is; does = h.does; ends = h.ends })

pub dropped_done : (place left : Option (List ℕ)) (old new : ServerValue) (d : Sink) → (body : List ℕ) × Takes place left body → IsDone new d (missed_for_memory old) → IsTurn place left old new d None
unfolding step
dropped_done place left old new d t h = inl (record {
  body = t.0;
  event = record { came = Dropped; granted = []; found = Unreadable; governed = [] };
  taken = t.1;
  is = record { came = tt; found = tt };
  does = h;
  ends = refl;
})

pub none_done : (place left : Option (List ℕ)) (old new : ServerValue) (d : Sink) → IsLast place → AreSent d [] → IsTurn place left old new d (Some 1)
none_done place left old new d l s = inr (record { last = l; sent = s; ends = refl })

pub message_cut : (place left : Option (List ℕ)) (m n : ℕ) (old : ServerValue) (d : Sink) (f : SendFault) (body : List ℕ) → Takes place left body → IsHandlingCut body old d f → IsTurnFault place left m n old d (fault_of f)
message_cut place left m n old d send.Write body t h = record { body = body; event = h.event; taken = t; is = h.is; cut = h.cut }
message_cut place left m n old d send.TooLong body t h = record { body = body; event = h.event; taken = t; is = h.is; cut = h.cut }

dropped_message_cut : (place left : Option (List ℕ)) (old : ServerValue) (d : Sink) (f : SendFault) → (body : List ℕ) × Takes place left body → AreCut d (missed_for_memory old).1 f → IsMessageCut place left old d f
unfolding step
dropped_message_cut place left old d f t h = record {
  body = t.0;
  event = record { came = Dropped; granted = []; found = Unreadable; governed = [] };
  taken = t.1;
  is = record { came = tt; found = tt };
  cut = h;
}

pub dropped_cut : (place left : Option (List ℕ)) (m n : ℕ) (old : ServerValue) (d : Sink) (f : SendFault) → (body : List ℕ) × Takes place left body → AreCut d (missed_for_memory old).1 f → IsTurnFault place left m n old d (fault_of f)
dropped_cut place left m n old d send.Write t h = dropped_message_cut place left old d send.Write t h
dropped_cut place left m n old d send.TooLong t h = dropped_message_cut place left old d send.TooLong t h

-- the same at an equal fault, and at an equal status
pub fault_is : (place left : Option (List ℕ)) (m n : ℕ) (old : ServerValue) (d : Sink) (f g : ServeFault) → g ≡ f → IsTurnFault place left m n old d f → IsTurnFault place left m n old d g
fault_is place left m n old d f g e h = subst (IsTurnFault place left m n old d) (sym e) h

pub turn_is : (place left : Option (List ℕ)) (old new : ServerValue) (d : Sink) (a b : Option ℕ) → a ≡ b → IsTurn place left old new d a → IsTurn place left old new d b
turn_is place left old new d a b e h = subst (IsTurn place left old new d) e h

not_some : (ended : Option ℕ) → ended ≡ None → ended ≡ Some 1 → ⊥
not_some ended e h = cc

-- where no status is given, a message was read
pub goes_on : (place left : Option (List ℕ)) (old new : ServerValue) (d : Sink) (ended : Option ℕ) → ended ≡ None → IsTurn place left old new d ended → IsMessage place left old new d None
goes_on place left old new d ended e turn = elim turn [
  | inl h ↦ subst (IsMessage place left old new d) e h
  | inr h ↦ absurd (not_some ended e h.ends)
]

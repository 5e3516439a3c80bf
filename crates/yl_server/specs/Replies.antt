-- Bridge: the messages of a reply.
use Rattle.std.specs.Prelude.{◌≡◌, List, [], ◌∷◌, ◌++◌}
use Rattle.yl_rpc.specs.Calls.{Null}
use Rattle.yl_rpc.specs.Views.{id_view}
use Rattle.yl_server.specs.declared.reply.Reply.{Reply}
use Rattle.yl_server.specs.declared.reply.Reply.TheVariants as reply
use Rattle.yl_server.specs.Messages.{MessageValue, Initialized, Done, Refused, Watches}
use Rattle.yl_server.specs.Machine.{ServerValue, Stepped, told_fault, told_of, told_of_all}

abbrev pub messages_of : ServerValue → Reply → List MessageValue
messages_of s reply.Nothing = []
messages_of s (reply.Welcome id fault) = Initialized (id_view id) s.how.encoding ∷ told_fault fault
messages_of s (reply.Done id) = Done (id_view id) ∷ []
messages_of s (reply.Refused id code words) = Refused (id_view id) code words.now ∷ []
messages_of s (reply.Document uri fault) = told_of uri.now s ∷ told_fault fault
messages_of s (reply.All fault) = told_of_all s ++ told_fault fault
messages_of s (reply.Missed code words) = Refused Null code words.now ∷ told_of_all s
messages_of s (reply.Fault fault) = told_fault fault
messages_of s reply.Watch = Watches ∷ []

-- a server became what the machine says, and these are the messages that it sends
abbrev pub IsReplied : (new : ServerValue) → Reply → Stepped → Type 0
IsReplied new r t = (new ≡ t.0) × (messages_of new r ≡ t.1)

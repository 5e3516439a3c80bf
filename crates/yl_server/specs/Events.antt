-- Meaning: what comes to a server.
use Rattle.std.specs.Prelude.{Bool, List, [], ◌∷◌, ◌++◌, Option, Some, None}
use Rattle.yl_rpc.specs.Calls.{CallValue, Request, Notification, Response, Invalid, IdValue, Null}
use Rattle.yl_server.specs.declared.governed.Governed.{Governed}
use Rattle.yl_server.specs.declared.settings.Found.{Found}

-- the body of a message
pub data Came : Type 0 where
  Read : CallValue → Came
  NoJson : Came  -- it is no JSON, or nests too deep
  Dropped : Came  -- there was no memory to read it

-- a body, for which pieces of its work memory was granted, in their order, what the configuration was found to be that it asks for, if it
-- asks for one, and by what documents were found to be judged, in the order in which they were asked for
pub record Event : Type 0 where
  pub came : Came
  pub granted : List Bool
  pub found : Found
  pub governed : List Governed

-- the id that the answer to a body has: its own for a request, and for a message that is none the one that it has. Who sent a body that
-- was not read is not known
abbrev pub asked_id : Came → Option IdValue
asked_id (Read (Request id method params)) = Some id
asked_id (Read (Notification method params)) = None
asked_id (Read Response) = None
asked_id (Read (Invalid id)) = Some id
asked_id NoJson = Some Null
asked_id Dropped = Some Null

-- a list of one or none
abbrev pub listed : {A : Type 0} → Option A → List A
listed None = []
listed (Some x) = x ∷ []

-- the ids that have to be answered
abbrev pub asked_ids : List Event → List IdValue
asked_ids [] = []
asked_ids (e ∷ es) = listed (asked_id e.came) ++ asked_ids es

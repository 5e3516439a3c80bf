-- Meaning: the laws of the machine.
use Rattle.std.specs.Prelude.{◌≡◌, ◌⊎◌, ℕ, Bool, true, false, List, [], ◌∷◌, Some, IfSome, MatchOption}
use Rattle.yl_config.specs.declared.config.Config.{Config}
use Rattle.yl_rpc.specs.Calls.{Notification}
use Rattle.yl_workspace.specs.declared.cause.Cause.{Cause}
use Rattle.yl_workspace.specs.declared.cause.Cause.TheVariants.{OutOfMemory, TooLarge, BadChange, Missed}
use Rattle.yl_workspace.specs.Changes.{Lost}
use Rattle.yl_workspace.specs.Documents.{DocumentValue, document_at}
use Rattle.yl_server.specs.Events.{Came, Read, NoJson, Dropped, Event, asked_ids}
use Rattle.yl_server.specs.Messages.{answered_ids, last_content, Shown, Cleared}
use Rattle.yl_server.specs.Requests.{NoticeValue, Opens, Changes, Spoils, notice_of}
use Rattle.yl_server.specs.Machine.{started, after, sent}

-- what is asked is answered once, and in order
abbrev pub AreAnswered : Type 0
AreAnswered = (c : Config) (es : List Event) → answered_ids (sent es (started c)) ≡ asked_ids es

-- what was told last of an open document are its problems as it is now, and of any other, if ever a thing was told, that it has none
abbrev pub AreShown : Type 0
AreShown = (c : Config) (es : List Event) (uri : List ℕ) →
    let s = after es (started c) in
    let told = last_content uri (sent es (started c)) in
    MatchOption (document_at uri s.documents) (IfSome told (λ content. content ≡ Cleared)) (λ d. told ≡ Some (Shown s.how d))

-- ---- lost texts

abbrev pub Each : (DocumentValue → Type 0) → List DocumentValue → Type 0
Each P [] = Unit {0}
Each P (d ∷ ds) = P d × Each P ds

abbrev pub SomeEvent : (Event → Type 0) → List Event → Type 0
SomeEvent P [] = ⊥
SomeEvent P (e ∷ es) = P e ⊎ SomeEvent P es

-- memory was refused once
abbrev pub IsRefused : List Bool → Type 0
IsRefused [] = ⊥
IsRefused (false ∷ grants) = Unit {0}
IsRefused (true ∷ grants) = IsRefused grants

-- a text is given for this document, or changed
abbrev pub Gives : (uri : List ℕ) → NoticeValue → Type 0
Gives uri (Opens o) = o.uri ≡ uri
Gives uri (Changes of version cs) = of ≡ uri
Gives uri (Spoils of) = of ≡ uri
Gives uri _ = ⊥

abbrev pub GivesText : (uri : List ℕ) → Came → Type 0
GivesText uri (Read (Notification method params)) = Gives uri (notice_of method params)
GivesText uri _ = ⊥

abbrev pub IsMissed : Came → Type 0
IsMissed NoJson = Unit {0}
IsMissed Dropped = Unit {0}
IsMissed (Read call) = ⊥

-- an event may have lost the text of this document for this cause
abbrev pub IsCause : Cause → (uri : List ℕ) → Event → Type 0
IsCause OutOfMemory uri e = IsRefused e.granted
IsCause TooLarge uri e = GivesText uri e.came
IsCause BadChange uri e = GivesText uri e.came
IsCause Missed uri e = IsMissed e.came

-- a text is lost only where such an event came
abbrev pub AreLostForCause : Type 0
AreLostForCause = (c : Config) (es : List Event) → Each (λ d. (cause : Cause) → d.text ≡ Lost cause → SomeEvent (IsCause cause d.uri) es) (after es (started c)).documents

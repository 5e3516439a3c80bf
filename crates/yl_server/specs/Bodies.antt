-- Meaning: what a body is to a server.
use Rattle.std.specs.Prelude.{◌≡◌, ℕ, List, Option, Some, None, option_and_then}
use Rattle.std.specs.Str.{IsUtf8}
use Rattle.json.specs.Json.{Json, document}
use Rattle.yl_config.specs.Answered.{settings_answer}
use Rattle.yl_config.specs.Outcome.{IsConfigOf}
use Rattle.yl_lsp.specs.Params.{first_settings, settings_in}
use Rattle.yl_rpc.specs.Bodies.{IsNoValue}
use Rattle.yl_rpc.specs.Calls.{Request, Notification, call_of}
use Rattle.yl_rpc.specs.Surrogates.{mended}
use Rattle.yl_server.specs.declared.phase.Phase.{Phase}
use Rattle.yl_server.specs.declared.phase.Phase.TheVariants.{Waiting, Running}
use Rattle.yl_server.specs.declared.settings.Found.{Found}
use Rattle.yl_server.specs.declared.settings.Found.TheVariants.{Said}
use Rattle.yl_server.specs.Events.{Came, Read, NoJson, Dropped, Event}
use Rattle.yl_server.specs.Requests.{RequestValue, Initialize, request_of, object_of, NoticeValue, Sets, notice_of}

-- this call is its JSON; or it is no JSON; or there was no memory to know
abbrev pub IsCame : List ℕ → Came → Type 0
IsCame body (Read call) = (j : Json) × IsUtf8 (mended body) × (document (mended body) ≡ Some j) × (call ≡ call_of j)
IsCame body NoJson = IsNoValue (mended body)
IsCame body Dropped = Unit {0}

abbrev pub settings_of_request : RequestValue → Option Json
settings_of_request (Initialize params) = option_and_then first_settings (object_of params)
settings_of_request _ = None

abbrev pub settings_of_notice : NoticeValue → Option Json
settings_of_notice (Sets settings) = settings
settings_of_notice _ = None

-- the settings that a server in this phase takes from a notification
abbrev pub noticed_settings : NoticeValue → Phase → Option Json
noticed_settings notice Running = settings_of_notice notice
noticed_settings notice _ = None

-- and from a request
abbrev pub requested_settings : RequestValue → Phase → Option Json
requested_settings request Waiting = settings_of_request request
requested_settings request _ = None

abbrev pub settings_taken : Came → Phase → Option Json
settings_taken (Read (Request id method params)) phase = requested_settings (request_of method params) phase
settings_taken (Read (Notification method params)) phase = noticed_settings (notice_of method params) phase
settings_taken _ phase = None

-- the text of the configuration that they name
abbrev pub text_set : Option Json → Option (List ℕ)
text_set settings = option_and_then (λ v. v.config) (option_and_then settings_in settings)

-- what a text says. Nothing is said of a file, whose bytes no definition knows
abbrev pub IsFound : (text : Option (List ℕ)) → Found → Type 0
IsFound None found = Unit {0}
IsFound (Some text) (Said answer) = IsConfigOf text (settings_answer answer)
IsFound (Some text) _ = ⊥

-- a body is an event for a server in this phase
pub record IsEvent (body : List ℕ) (e : Event) (phase : Phase) : Type 0 where
  pub came : IsCame body e.came
  pub found : IsFound (text_set (settings_taken e.came phase)) e.found

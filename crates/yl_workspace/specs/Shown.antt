-- Bridge: a session that holds the text of a document, what its faults are, and a document that is opened anew.
use Rattle.std.specs.Prelude.{◌≡◌, ℕ, Bool, if◌then◌else◌, List, drop, Option, IfSome, Result, Ok, Err}
use Rattle.yl_text.specs.Lines.{text_of}
use Rattle.yl_text.specs.declared.fault.TextFault.{TextFault}
use Rattle.yl_text.specs.declared.fault.TextFault.TheVariants.{NotUtf8, Range, TooLarge, Memory}
use Rattle.yl_lsp.specs.Params.{OpenedValue}
use Rattle.yl_config.specs.declared.config.Config.{Config}
use Rattle.yl_session.specs.State.{SessionValue, Shows}
use Rattle.yl_workspace.specs.declared.cause.Cause.{Cause}
use Rattle.yl_workspace.specs.declared.cause.Cause.TheVariants.{OutOfMemory, BadChange}
use Rattle.yl_workspace.specs.declared.cause.Cause.TheVariants as C
use Rattle.yl_workspace.specs.Changes.{TextValue, Followed, Lost, is_granted}
use Rattle.yl_workspace.specs.Documents.{DocumentValue, lost_document, opened_document}

-- the text of a session, or why there is none
abbrev pub text_value : Result SessionValue Cause → TextValue
text_value (Ok session) = Followed (text_of session.rows)
text_value (Err cause) = Lost cause

-- the document is followed, and the session shows its text
pub record IsFollowed (d : DocumentValue) (s : SessionValue) : Type 0 where
  pub text : List ℕ
  pub followed : d.text ≡ Followed text
  pub shown : IfSome d.config (λ c. Shows c text s)

-- why a text is not followed, where this is why it was refused
abbrev pub cause_of : TextFault → Cause
cause_of (NotUtf8 n) = BadChange
cause_of Range = BadChange
cause_of TooLarge = C.TooLarge
cause_of Memory = OutOfMemory

-- what becomes of an open document that is opened
abbrev pub opened_again : Option Config → List Bool → OpenedValue → DocumentValue → DocumentValue
opened_again config grants o d = if is_granted grants then opened_document config (is_granted (drop 1 grants)) o else lost_document OutOfMemory d

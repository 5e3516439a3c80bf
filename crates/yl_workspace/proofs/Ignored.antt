-- Documents that are ignored, and others.
use Rattle.std.proofs.Common.{◌≡◌, ℕ, Bool, true, false, cond, List, Option, None, Some, IfSome, refl}
use Rattle.std.specs.Option.{is_none}
use Rattle.yl_config.specs.declared.config.Config.{Config}
use Rattle.yl_session.specs.State.{SessionValue, Shows}
use Rattle.yl_workspace.specs.Changes.{TextValue, Followed, Lost}
use Rattle.yl_workspace.specs.Documents.{text_judged}

pub ignored_is : (b : Bool) (config : Config) → (let o : Option Config = cond b None (Some config) in b ≡ is_none o)
ignored_is true config = refl
ignored_is false config = refl

-- a session shows a text by the configuration of its document, where that has one
pub shown_if : (b : Bool) (config : Config) (text : List ℕ) (s : SessionValue) → Shows config text s → (let o : Option Config = cond b None (Some config) in IfSome o (λ c. Shows c text s))
shown_if true config text s h = tt
shown_if false config text s h = h

-- a text that is not judged stays as it is
pub text_stays : (t : TextValue) → t ≡ text_judged true t
text_stays (Lost cause) = refl
text_stays (Followed text) = refl

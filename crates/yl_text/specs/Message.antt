-- Bridge: the message of a finding, in UTF-8.
use Rattle.std.specs.Prelude.{ℕ, List, string_bytes}
use Rattle.yl_text.specs.declared.finding.Message.{Message}
use Rattle.yl_text.specs.declared.finding.Message.TheVariants.{Fixed, Owned}

abbrev pub message_text : {A : Type 0} → Message A → List ℕ
message_text (Fixed text) = text.now
message_text (Owned text) = string_bytes text

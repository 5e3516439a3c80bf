-- What the user is told is wrong with settings.
use Rattle.std.proofs.Common.{◌≡◌, List, ℕ, Some, refl, sym, ap, ◌∙◌}
use Rattle.json.specs.Print.{escape, escape_byte}
use Rattle.yl_config.specs.declared.fault.ConfigFault.{ConfigFault}
use Rattle.yl_config.specs.declared.fault.ConfigFault.TheVariants.{NotUtf8, Syntax, NotAMapping, UnknownKey, UnknownRule, UnknownOption, BadValue, BadLevel, UnknownExtends, Memory, TooLarge}
use Rattle.yl_config.specs.declared.fault.FaultPlace.{FaultPlace}
use Rattle.yl_lsp.specs.Messages.{error_message, placed_words}
use Rattle.yl_rpc.specs.Answers.{json_text}
use Rattle.yl_server.specs.declared.settings.SettingFault.{SettingFault}
use Rattle.yl_server.specs.declared.settings.SettingFault.TheVariants as fault
use Rattle.yl_server.specs.Messages.{Told}
use Rattle.yl_server.specs.Settings.{fault_words, place_of, setting_words, words_at}
use Rattle.yl_server.proofs.Sending.{text_of}

refused_plain : (f : ConfigFault) → escape (fault_words (fault.Refused f)) ≡ fault_words (fault.Refused f)
unfolding escape_byte
refused_plain NotUtf8 = refl
refused_plain (Syntax p) = refl
refused_plain (NotAMapping p) = refl
refused_plain (UnknownKey p) = refl
refused_plain (UnknownRule p) = refl
refused_plain (UnknownOption p) = refl
refused_plain (BadValue p) = refl
refused_plain (BadLevel p) = refl
refused_plain (UnknownExtends p) = refl
refused_plain Memory = refl
refused_plain TooLarge = refl

fault_plain : (f : SettingFault) → escape (fault_words f) ≡ fault_words f
unfolding escape_byte
fault_plain fault.Shape = refl
fault_plain fault.Unreadable = refl
fault_plain fault.Memory = refl
fault_plain (fault.Refused f) = refused_plain f

-- JSON writes it as it is
pub words_plain : (text : List ℕ) (f : SettingFault) → text ≡ fault_words f → escape text ≡ text
words_plain text f e = ap escape e ∙ fault_plain f ∙ sym e

-- it is told with its place
pub placed_text : (text : List ℕ) (f : SettingFault) (p : FaultPlace) → text ≡ fault_words f → Some p ≡ place_of f → json_text (error_message (placed_words text p.line p.column)) ≡ text_of (Told (setting_words f))
placed_text text f p e h =
    ap (λ t. text_of (Told (placed_words t p.line p.column))) e ∙ ap (λ o. text_of (Told (words_at (fault_words f) o))) h

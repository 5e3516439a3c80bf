-- What is said of a configuration's bytes that were read is said of all that the reader had to give.
use Rattle.std.proofs.Common.{◌≡◌, ℕ, List, Option, Result, Ok, Err, MatchResult, sym, subst}
use Rattle.yl_config.specs.declared.config.Config.{Config}
use Rattle.yl_config.specs.declared.fault.ConfigFault.{ConfigFault}
use Rattle.yl_config.specs.declared.fault.ConfigFault.TheVariants as fault
use Rattle.yl_config.specs.Answered.{settings_answer}
use Rattle.yl_config.specs.Config.{config_settings}
use Rattle.yl_config.specs.Outcome.{IsConfigOf}
use Rattle.yl_devices.specs.Text.{without_mark}
use Rattle.yl_devices.proofs.Whole.{AreRead, text_is_all, too_many}
use Rattle.yl_sources.specs.Source.{IsConfigRead}

pub config_read : (given left : Option (List ℕ)) (bytes : List ℕ) (answer : Result Config ConfigFault) → AreRead given left bytes → IsConfigOf (without_mark bytes) (settings_answer answer) → IsConfigRead given answer
config_read given left bytes (Ok config) read h = text_is_all given left bytes (λ all. IsConfigOf (without_mark all) (settings_answer (Ok config))) read h.0.short h
config_read given left bytes (Err fault.TooLarge) read h = too_many given left bytes read h
config_read given left bytes (Err fault.NotUtf8) read h = text_is_all given left bytes (λ all. IsConfigOf (without_mark all) (Err fault.NotUtf8)) read h.0 h
config_read given left bytes (Err fault.Memory) read h = text_is_all given left bytes (λ all. IsConfigOf (without_mark all) (Err fault.Memory)) read h.short h
config_read given left bytes (Err (fault.Syntax p)) read h = text_is_all given left bytes (λ all. IsConfigOf (without_mark all) (Err (fault.Syntax p))) read h.0.short h
config_read given left bytes (Err (fault.NotAMapping p)) read h = text_is_all given left bytes (λ all. IsConfigOf (without_mark all) (Err (fault.NotAMapping p))) read h.0.short h
config_read given left bytes (Err (fault.UnknownKey p)) read h = text_is_all given left bytes (λ all. IsConfigOf (without_mark all) (Err (fault.UnknownKey p))) read h.0.short h
config_read given left bytes (Err (fault.UnknownRule p)) read h = text_is_all given left bytes (λ all. IsConfigOf (without_mark all) (Err (fault.UnknownRule p))) read h.0.short h
config_read given left bytes (Err (fault.UnknownOption p)) read h = text_is_all given left bytes (λ all. IsConfigOf (without_mark all) (Err (fault.UnknownOption p))) read h.0.short h
config_read given left bytes (Err (fault.BadValue p)) read h = text_is_all given left bytes (λ all. IsConfigOf (without_mark all) (Err (fault.BadValue p))) read h.0.short h
config_read given left bytes (Err (fault.BadLevel p)) read h = text_is_all given left bytes (λ all. IsConfigOf (without_mark all) (Err (fault.BadLevel p))) read h.0.short h
config_read given left bytes (Err (fault.UnknownExtends p)) read h = text_is_all given left bytes (λ all. IsConfigOf (without_mark all) (Err (fault.UnknownExtends p))) read h.0.short h

-- what an answer is that a configuration or its fault makes
pub read_answer : (P : Result Config ℕ → Type 0) (bytes : List ℕ) (read : Result Config ConfigFault) (answer : Result Config ℕ) (status : ℕ)
    → ((config : Config) → IsConfigOf bytes (Ok (config_settings config)) → P (Ok config)) → ((f : ConfigFault) → IsConfigOf bytes (Err f) → P (Err status))
    → IsConfigOf bytes (settings_answer read) → MatchResult read (λ config. answer ≡ Ok config) (λ _. answer ≡ Err status) → P answer
read_answer P bytes (Ok config) answer status ok err h is = subst P (sym is) (ok config h)
read_answer P bytes (Err f) answer status ok err h is = subst P (sym is) (err f h)

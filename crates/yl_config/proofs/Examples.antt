-- Worked rows: the events of a document, and what they say.
use Rattle.std.proofs.Common.{ℕ, ◌≡◌, refl, List, [], ◌∷◌, ◌++◌, codes, false, Option, Some, None}
use Rattle.yl_text.specs.declared.finding.RuleId.TheVariants.{Braces, Comments}
use Rattle.yl_lexeme.specs.declared.lexeme.Style.TheVariants.{Plain, Double}
use Rattle.yl_rules.specs.declared.level.Level.TheVariants.{Error, Warning}
use Rattle.yl_events.specs.Event.{EventValue, EventKindValue, DocumentStart, DocumentEnd, MappingStart, MappingEnd, AliasOf, ScalarOf, Empty}
use Rattle.yl_config.specs.declared.fault.ConfigFault.{ConfigFault}
use Rattle.yl_config.specs.declared.fault.ConfigFault.TheVariants as fault
use Rattle.yl_config.specs.declared.fault.FaultPlace.{FaultPlace}
use Rattle.yl_config.specs.declared.misfit.Misfit.{Misfit}
use Rattle.yl_config.specs.Faults.{fault_of_misfit}
use Rattle.yl_config.specs.Document.{root_of}
use Rattle.yl_config.specs.Misfits.{earliest, root_misfits}
use Rattle.yl_settings.specs.Nodes.{levels_from}
use Rattle.yl_settings.specs.Options.{option_of}
use Rattle.yl_config.specs.Settings.{Settings, settings_of, with_entries, with_options, with_rules}
use Rattle.yl_settings.specs.Standard.{standard_rule_options}
use Rattle.yl_settings.specs.Words.{digits_behind}

-- events at places that count from 0
abbrev event : EventKindValue → ℕ → ℕ → EventValue
event kind line col = record { kind = kind; place = Some (record { line = line; col = col }); anchor = None; is_tagged = false }

abbrev bare : EventKindValue → EventValue
bare kind = record { kind = kind; place = None; anchor = None; is_tagged = false }

abbrev plain : List ℕ → ℕ → ℕ → EventValue
plain text line col = event (ScalarOf Plain text) line col

abbrev mapping : ℕ → ℕ → List EventValue → List EventValue
mapping line col es = event MappingStart line col ∷ es ++ bare MappingEnd ∷ []

abbrev document : List EventValue → List EventValue
document es = bare DocumentStart ∷ es ++ bare DocumentEnd ∷ []

-- the first of what does not fit in a document
abbrev first : List EventValue → Option Misfit
first es = earliest None (root_misfits (root_of (document es)))

abbrev place : ℕ → ℕ → FaultPlace
place line column = record { line = line; column = column }

abbrev told : Option Misfit → Option ConfigFault
told None = None
told (Some m) = Some (fault_of_misfit m)

-- `extends: relaxed`
pub relaxed_row : told (first (mapping 0 0 (plain (codes "extends") 0 0 ∷ plain (codes "relaxed") 0 9 ∷ []))) ≡ Some (fault.UnknownExtends (place 1 10))
unfolding earliest levels_from
relaxed_row = refl

-- no node
pub empty_row : told (first (bare Empty ∷ [])) ≡ Some (fault.NotAMapping (place 1 1))
unfolding earliest levels_from
empty_row = refl

-- `foo: 1`
pub unknown_key_row : told (first (mapping 0 0 (plain (codes "foo") 0 0 ∷ plain (codes "1") 0 5 ∷ []))) ≡ Some (fault.UnknownKey (place 1 1))
unfolding earliest levels_from
unknown_key_row = refl

abbrev rules : List EventValue → List EventValue
rules es = mapping 0 0 (plain (codes "rules") 0 0 ∷ mapping 1 2 es)

-- `line-length: {min: 1}`
pub unknown_option_row : told (first (rules (plain (codes "line-length") 1 2 ∷ mapping 1 15 (plain (codes "min") 1 16 ∷ plain (codes "1") 1 21 ∷ [])))) ≡ Some (fault.UnknownOption (place 2 17))
unfolding earliest levels_from option_of
unknown_option_row = refl

-- `braces:`, `forbid: maybe`
pub bad_value_row : told (first (rules (plain (codes "braces") 1 2 ∷ mapping 2 4 (plain (codes "forbid") 2 4 ∷ plain (codes "maybe") 2 12 ∷ [])))) ≡ Some (fault.BadValue (place 3 13))
unfolding earliest levels_from option_of
bad_value_row = refl

-- `colons: {level: fatal}`
pub bad_level_row : told (first (rules (plain (codes "colons") 1 2 ∷ mapping 1 10 (plain (codes "level") 1 11 ∷ plain (codes "fatal") 1 18 ∷ [])))) ≡ Some (fault.BadLevel (place 2 19))
unfolding earliest levels_from
bad_level_row = refl

-- `line-lenght: disable`
pub unknown_rule_row : told (first (mapping 0 0 (plain (codes "extends") 0 0 ∷ plain (codes "default") 0 9 ∷ plain (codes "rules") 1 0 ∷ mapping 2 2 (plain (codes "line-lenght") 2 2 ∷ plain (codes "disable") 2 15 ∷ [])))) ≡ Some (fault.UnknownRule (place 3 3))
unfolding earliest levels_from
unknown_rule_row = refl

-- `octal-values: {x: y}`
pub unchecked_row : told (first (rules (plain (codes "octal-values") 1 2 ∷ mapping 1 16 (plain (codes "x") 1 17 ∷ plain (codes "y") 1 20 ∷ [])))) ≡ None
unfolding earliest levels_from
unchecked_row = refl

abbrev says : List EventValue → Settings
says es = settings_of (root_of (document es))

-- `comments:` with an option, over the default configuration
abbrev near : Settings
near = says (mapping 0 0 (plain (codes "extends") 0 0 ∷ plain (codes "default") 0 9 ∷ plain (codes "rules") 1 0 ∷ mapping 2 2 (plain (codes "comments") 2 2 ∷ mapping 3 4 (plain (codes "min-spaces-from-content") 3 4 ∷ plain (codes "1") 3 29 ∷ []))))

pub stays_a_warning_row : near.levels Comments ≡ Some Warning
unfolding levels_from option_of with_entries with_rules with_options digits_behind
stays_a_warning_row = refl

pub one_space_row : near.options.comments.min_spaces_from_content ≡ Some 1
unfolding levels_from option_of with_entries with_rules with_options digits_behind standard_rule_options
one_space_row = refl

-- without `extends`: `comments: disable`, and `comments: enable` behind it
abbrev alone : Settings
alone = says (rules (plain (codes "comments") 1 2 ∷ plain (codes "disable") 1 12 ∷ plain (codes "comments") 2 2 ∷ plain (codes "enable") 2 12 ∷ []))

pub last_entry_row : alone.levels Comments ≡ Some Error
unfolding levels_from with_entries with_rules
last_entry_row = refl

pub others_off_row : alone.levels Braces ≡ None
unfolding levels_from with_entries with_rules
others_off_row = refl

-- a quoted true word
pub quoted_row : told (first (rules (plain (codes "document-start") 1 2 ∷ mapping 2 4 (plain (codes "present") 2 4 ∷ event (ScalarOf Double (codes "true")) 2 13 ∷ [])))) ≡ Some (fault.BadValue (place 3 14))
unfolding earliest levels_from option_of
quoted_row = refl

-- an alias as a level
pub alias_row : told (first (rules (plain (codes "document-start") 1 2 ∷ mapping 2 4 (plain (codes "level") 2 4 ∷ event (AliasOf (codes "x")) 2 11 ∷ [])))) ≡ Some (fault.BadValue (place 3 12))
unfolding earliest levels_from
alias_row = refl

-- a missing key stands where its mapping begins
pub no_key_row : told (first (mapping 0 0 (bare Empty ∷ plain (codes "1") 0 2 ∷ plain (codes "foo") 1 0 ∷ plain (codes "1") 1 5 ∷ []))) ≡ Some (fault.UnknownKey (place 1 1))
unfolding earliest levels_from
no_key_row = refl

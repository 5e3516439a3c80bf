-- A section of which no fault is kept: its rows have none.
use Rattle.std.proofs.Common.{◌≡◌, ◌<◌, List, length, Option, Some, None, refl, sym, ◌∙◌}
use Rattle.std.specs.Prelude.{slice_get}
use Rattle.std.specs.Option.{option_map, option_or}
use Rattle.yl_lexeme.specs.Lexeme.{LexemeValue}
use Rattle.yl_events.specs.declared.fault.PlacedParseFault.{PlacedParseFault}
use Rattle.yl_events.specs.Faults as parse
use Rattle.yl_config.specs.declared.config.Config.{Config}
use Rattle.yl_record.specs.Records.{RecordValue}
use Rattle.yl_sections.specs.Judge.{document_of, kept_of_section}
use Rattle.yl_sections.specs.Kept.{SectionFaultValue, Behind, Here, scan_fault_from, section_fault}
use Rattle.yl_sections.specs.Sections.{lexemes_of}
use Rattle.yl_pieces.specs.State.{start_state}
use Rattle.yl_pieces.specs.Told.{fault_in}
use Rattle.yl_pieces.specs.Laws.{document_fault}
use Rattle.yl_pieces.proofs.OfSection.{told_of_section}

no_fault : (xs : List LexemeValue) (f : Option PlacedParseFault) (scanned : Option SectionFaultValue) → section_fault xs f scanned ≡ None → f ≡ None
no_fault xs None scanned e = refl
no_fault xs (Some f) scanned e = absurd (by (slice_get xs f.place) scanned e)
  where
    by : (x : Option LexemeValue) (o : Option SectionFaultValue)
        → option_or (option_map (λ (x : LexemeValue). Here x.start (parse.fault_text f.kind)) x)
        (option_or o (Some (Behind (parse.fault_text f.kind)))) ≡ None → ⊥
    by (Some x) o e = cc
    by None (Some g) e = cc
    by None None e = cc

document_none : (config : Config) (rs : List RecordValue) → (kept_of_section config rs).fault ≡ None → (document_of (lexemes_of rs)).fault ≡ None
unfolding kept_of_section
document_none config rs e = no_fault (lexemes_of rs) (document_of (lexemes_of rs)).fault (scan_fault_from 0 rs) e

none_in : (rs : List RecordValue) (f : Option PlacedParseFault) → document_fault rs f ≡ None → f ≡ None
none_in rs None e = refl
none_in rs (Some f) e = absurd (cc)

pub rows_sound : (config : Config) (rs : List RecordValue) → 0 < length (lexemes_of rs) → (kept_of_section config rs).fault ≡ None → fault_in start_state 0 rs ≡ None
rows_sound config rs some e = none_in rs (fault_in start_state 0 rs) (sym ((told_of_section config rs).fault some) ∙ document_none config rs e)

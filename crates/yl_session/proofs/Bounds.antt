-- How many lines and records there are, also after an edit.
use Rattle.std.proofs.Common.{◌≡◌, ◌^◌, ◌<◌, ◌∙◌, ℕ, List, Option, length, map, arith}
use Rattle.std.proofs.lemmas.List.{length-map}
use Rattle.std.specs.Str.{chars}
use Rattle.yl_text.specs.Lines.{RowValue}
use Rattle.yl_text.specs.Store.{AreLines}
use Rattle.yl_record.specs.Records.{RecordValue, characters_in}
use Rattle.yl_rescan.specs.Held.{AreHeld}
use Rattle.yl_rescan.proofs.Held.{held_length}
use Rattle.yl_sections.specs.Judge.{kept_of_section}
use Rattle.yl_sections.specs.Kept.{KeptValue, rows_kept}
use Rattle.yl_sections.specs.Sections.{sections}
use Rattle.yl_config.specs.declared.config.Config.{Config}
use Rattle.yl_rejudge.proofs.SectionsEdited.{count_kept, few_sections, rows_of_kept}
use Rattle.yl_summary.specs.Overview.{AreFew}
use Rattle.yl_edited_lines.proofs.FewLines.{few_lines}

-- a record a line
pub count_records : (ps : List RowValue) (cut : Option ℕ) (rs : List RecordValue) → AreHeld (characters_in ps) cut rs → length rs ≡ length ps
count_records ps cut rs h = held_length (characters_in ps) cut rs h ∙ length-map ps (λ (row : RowValue). chars row.text)

-- as many rows of sections, and no more sections than those and one
pub few_kept : (config : Config) (ps : List RowValue) (cut : Option ℕ) (rs : List RecordValue) (ks : List KeptValue) → AreLines ps → AreHeld (characters_in ps) cut rs → ks ≡ map (kept_of_section config) (sections rs) → length ks < 2 ^ 31
few_kept config ps cut rs ks lines held is = omega (arith, few_lines ps lines, count_records ps cut rs held, few_sections rs, count_kept config rs ks is)

pub few_rows : (config : Config) (ps : List RowValue) (cut : Option ℕ) (rs : List RecordValue) (ks : List KeptValue) → AreLines ps → AreHeld (characters_in ps) cut rs → ks ≡ map (kept_of_section config) (sections rs) → rows_kept ks < 2 ^ 31
few_rows config ps cut rs ks lines held is = omega (arith, few_lines ps lines, count_records ps cut rs held, rows_of_kept config rs ks is)

pub are_few : (config : Config) (ps : List RowValue) (cut : Option ℕ) (rs : List RecordValue) (ks : List KeptValue) → AreLines ps → AreHeld (characters_in ps) cut rs → ks ≡ map (kept_of_section config) (sections rs) → AreFew ks
are_few config ps cut rs ks lines held is = record { sections = omega (arith, few_kept config ps cut rs ks lines held is); rows = omega (arith, few_rows config ps cut rs ks lines held is) }

-- Meaning: where the first lexeme of a line is expected, by the collection around it (yamllint's
-- rule indentation).
use Rattle.std.specs.Prelude.{Bool, true, false, ◌&&◌, ◌||◌, ◌==◌, if◌then◌else◌, List, [], ◌∷◌, Option, Some, None}
use Rattle.std.specs.Option.{option_map_or}
use Rattle.yl_lexeme.specs.Lexeme.{is_closing, is_property, is_entry, is_key, is_value, is_comma}
use Rattle.yl_marks.specs.declared.token.Token.{Token}
use Rattle.yl_marks.specs.declared.symbol.Collection.{Collection}
use Rattle.yl_marks.specs.declared.symbol.Collection.TheVariants.{Sequence, Mapping}
use Rattle.yl_indentation.specs.declared.element.Site.{Site}
use Rattle.yl_indentation.specs.declared.context.OpenCollection.{OpenCollection}
use Rattle.yl_indentation.specs.declared.context.OpenCollection.TheVariants.{Block, Brackets}
use Rattle.yl_indentation.specs.declared.fact.Expectation.{Expectation}
use Rattle.yl_indentation.specs.declared.fact.Expectation.TheVariants.{At, Beyond, EntryIn}

abbrev pub is_mapping : Collection → Bool
is_mapping Sequence = false
is_mapping Mapping = true

-- where the items of brackets are expected: at the column of the first lexeme in the brackets, if
-- it is in the line of the opening bracket
abbrev pub expectation_of_items : Site → Expectation
expectation_of_items site =
    let beyond = Beyond site.indentation in
    option_map_or (λ x. if x.start.line == site.token.start.line then At x.start.col else beyond) site.next beyond

-- where a lexeme is expected in the innermost of these open collections, after the latest lexeme:
-- at column 0, if no collection is open. Of the entries in a mapping's column only the first one of
-- a sequence is checked. In brackets a lexeme may stand in any column after a key, a value or a
-- property
abbrev pub expectation_in : List OpenCollection → Option Token → Token → Option Expectation
expectation_in [] latest x = Some (At 0)
expectation_in (Block collection column in_entries ∷ os) latest x =
    let here = x.start.col == column in
    if is_entry x.kind && is_mapping collection then if here && in_entries then None else Some (EntryIn column)
    else if here then None else Some (Beyond column)
expectation_in (Brackets indentation items ∷ os) latest x =
    if is_closing x.kind then Some (At indentation)
    else if is_comma x.kind || is_value x.kind
    || option_map_or (λ l. is_key l.kind || is_value l.kind || is_property l.kind) latest false
    then None else Some items

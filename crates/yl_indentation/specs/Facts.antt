-- Meaning: the checked places of a document (yamllint's rule indentation). Elements before a place
-- are listed with the latest first, and open collections with the innermost first.
use Rattle.std.specs.Prelude.{ℕ, true, false, not, ◌&&◌, ◌||◌, nat_lt, if◌then◌else◌, List, [], ◌∷◌, ◌++◌, map, drop, Option, Some, None, option_map, option_to_list}
use Rattle.std.specs.Option.{option_or, option_map_or}
use Rattle.yl_lexeme.specs.declared.lexeme.Kind.{Kind}
use Rattle.yl_lexeme.specs.Directives.{is_directive}
use Rattle.yl_lexeme.specs.Lexeme.{is_document_marker, is_entry, is_key, is_value}
use Rattle.yl_marks.specs.declared.token.Token.{Token}
use Rattle.yl_marks.specs.declared.symbol.Marked.{Marked}
use Rattle.yl_indentation.specs.declared.element.Site.{Site}
use Rattle.yl_indentation.specs.declared.element.Element.{Element}
use Rattle.yl_indentation.specs.declared.element.Element.TheVariants.{Opening, Marker, OpeningBracket, ClosingBracket, Other, Nothing}
use Rattle.yl_indentation.specs.declared.context.OpenCollection.{OpenCollection}
use Rattle.yl_indentation.specs.declared.context.OpenCollection.TheVariants.{Block, Brackets}
use Rattle.yl_indentation.specs.declared.fact.Fact.{Fact}
use Rattle.yl_indentation.specs.Elements.{element_of}
use Rattle.yl_indentation.specs.Expected.{expectation_of_items, expectation_in}

abbrev pub site_of : Element → Option Site
site_of (Marker site) = Some site
site_of (OpeningBracket site) = Some site
site_of (ClosingBracket site) = Some site
site_of (Other site) = Some site
site_of _ = None

abbrev pub latest_lexeme : List Element → Option Token
latest_lexeme [] = None
latest_lexeme (e ∷ es) = option_or (option_map (λ site. site.token) (site_of e)) (latest_lexeme es)

-- the open collections with one more lexeme in the innermost one. If that is a block, it is in
-- entries while the latest of its own entries, keys and values is an entry
abbrev pub behind_lexeme : Kind → List OpenCollection → List OpenCollection
behind_lexeme kind (Block collection column in_entries ∷ os) =
    Block collection column (is_entry kind || (not (is_key kind || is_value kind) && in_entries)) ∷ os
behind_lexeme kind os = os

-- the collections, both blocks and brackets, that these elements leave open
abbrev pub left_open : List Element → List OpenCollection
left_open [] = []
left_open (Opening collection column ∷ es) = Block collection column false ∷ left_open es
left_open (OpeningBracket site ∷ es) = Brackets site.indentation (expectation_of_items site) ∷ left_open es
left_open (Marker site ∷ es) = []
left_open (Other site ∷ es) = behind_lexeme site.token.kind (left_open es)
left_open (Nothing ∷ es) = left_open es
left_open (_ ∷ es) = drop 1 (left_open es)

-- the collections around a place, except one that opens directly before it
abbrev pub open_around : List Element → List OpenCollection
open_around (Opening collection column ∷ es) = left_open es
open_around es = left_open es

-- the fact of a lexeme in these open collections, after the latest lexeme. A lexeme is checked if
-- it counts, no earlier lexeme ends in its line, and it is neither a marker nor a directive
abbrev pub fact_at : List OpenCollection → Option Token → Site → List Fact
fact_at os latest site =
    let x = site.token in
    if site.counts && not (is_document_marker x.kind || is_directive x.kind)
    && option_map_or (λ l. nat_lt l.end_line x.start.line) latest true
    then option_to_list (option_map (λ e. record { line = x.start.line; column = x.start.col; expectation = e })
    (expectation_in os latest x)) else []

abbrev pub facts_after : List Element → List Element → List Fact
facts_after before [] = []
facts_after before (e ∷ es) =
    option_map_or (fact_at (open_around before) (latest_lexeme before)) (site_of e) [] ++ facts_after (e ∷ before) es

-- the checked places of a document with these lexemes and marks. Only the first `counted` lexemes
-- count, and `indentations` contains the number of spaces at the beginning of each line
abbrev pub indent_facts : List Token → List Marked → ℕ → List ℕ → List Fact
indent_facts tokens marks counted indentations =
    facts_after [] (map (element_of tokens counted indentations) marks)

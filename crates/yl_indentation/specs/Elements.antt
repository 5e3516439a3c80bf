-- Meaning: the elements of a document: its lexemes, each with its surroundings, and the marks
-- between them.
use Rattle.std.specs.Prelude.{ℕ, nat_lt, if◌then◌else◌, List, ◌+◌, Option, Some, None, slice_get, slice_index}
use Rattle.yl_lexeme.specs.declared.lexeme.Kind.{Kind}
use Rattle.yl_lexeme.specs.Lexeme.{is_document_marker, is_opening, is_closing}
use Rattle.yl_marks.specs.declared.token.Token.{Token}
use Rattle.yl_marks.specs.declared.symbol.Marked.{Marked}
use Rattle.yl_marks.specs.declared.symbol.Marked.TheVariants.{Open, Close, Lexeme}
use Rattle.yl_indentation.specs.declared.element.Site.{Site}
use Rattle.yl_indentation.specs.declared.element.Element.{Element}
use Rattle.yl_indentation.specs.declared.element.Element.TheVariants.{Opening, Closing, Marker, OpeningBracket, ClosingBracket, Other, Nothing}

abbrev pub element_at : Kind → Site → Element
element_at kind site =
    if is_document_marker kind then Marker site else if is_opening kind then OpeningBracket site
    else if is_closing kind then ClosingBracket site else Other site

-- the lexeme of this index, with the lexeme after it and the number of spaces at the beginning of
-- its line. It counts if it is one of the first `counted` lexemes
abbrev pub lexeme_element : List Token → ℕ → List ℕ → ℕ → Option Token → Element
lexeme_element tokens counted indentations i None = Nothing
lexeme_element tokens counted indentations i (Some x) =
    let indentation = slice_index indentations x.start.line in
    element_at x.kind (record { token = x; next = slice_get tokens (i + 1); indentation = indentation; counts = nat_lt i counted })

abbrev pub element_of : List Token → ℕ → List ℕ → Marked → Element
element_of tokens counted indentations (Open collection column) = Opening collection column
element_of tokens counted indentations Close = Closing
element_of tokens counted indentations (Lexeme i begins) =
    lexeme_element tokens counted indentations i (slice_get tokens i)

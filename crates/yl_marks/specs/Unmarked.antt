-- Bridge: the lexemes that may have marks. All others open and close no collection, and no key
-- begins with them.
use Rattle.std.specs.Prelude.{Bool, ◌||◌}
use Rattle.yl_lexeme.specs.Lexeme.{is_document_marker, is_entry}
use Rattle.yl_marks.specs.declared.symbol.Marking.{Marking}
use Rattle.yl_marks.specs.Marks.{is_in_mapping}

abbrev pub may_have_marks : Marking → Bool
may_have_marks m = m.piece.is_first || is_document_marker m.piece.kind || is_entry m.piece.kind || is_in_mapping m

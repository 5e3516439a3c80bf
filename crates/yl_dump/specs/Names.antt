-- Meaning: names and signs, as they are printed.
use Rattle.std.specs.Prelude.{ℕ, List, codes}
use Rattle.yl_lexeme.specs.declared.lexeme.Kind.{Kind}
use Rattle.yl_lexeme.specs.declared.lexeme.Kind.TheVariants.{Directive, DocStart, DocEnd, Entry, Key, Value, Comma, SeqOpen, SeqClose, MapOpen, MapClose, Alias, Anchor, Tag, Scalar}
use Rattle.yl_lexeme.specs.declared.lexeme.Style.{Style}
use Rattle.yl_lexeme.specs.declared.lexeme.Style.TheVariants.{Plain, Single, Double, Literal, Folded}

abbrev pub scalar_name : Style → List ℕ
scalar_name Plain = codes "Scalar(Plain)"
scalar_name Single = codes "Scalar(Single)"
scalar_name Double = codes "Scalar(Double)"
scalar_name Literal = codes "Scalar(Literal)"
scalar_name Folded = codes "Scalar(Folded)"

abbrev pub kind_name : Kind → List ℕ
kind_name Directive = codes "Directive"
kind_name DocStart = codes "DocStart"
kind_name DocEnd = codes "DocEnd"
kind_name Entry = codes "Entry"
kind_name Key = codes "Key"
kind_name Value = codes "Value"
kind_name Comma = codes "Comma"
kind_name SeqOpen = codes "SeqOpen"
kind_name SeqClose = codes "SeqClose"
kind_name MapOpen = codes "MapOpen"
kind_name MapClose = codes "MapClose"
kind_name Alias = codes "Alias"
kind_name Anchor = codes "Anchor"
kind_name Tag = codes "Tag"
kind_name (Scalar style) = scalar_name style

-- what stands before a scalar's value in an event stream: the sign of its style as in the YAML test suite, and a quote
abbrev pub value_opening : Style → List ℕ
value_opening Plain = codes " :\""
value_opening Single = codes " '\""
value_opening Double = codes " \"\""
value_opening Literal = codes " |\""
value_opening Folded = codes " >\""

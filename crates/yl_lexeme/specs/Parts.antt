-- Bridge: the lexeme that its parts make, wherever its value is stored.
use Rattle.std.specs.Prelude.{string_bytes}
use Rattle.std.specs.Str.{chars, encode_utf8_all}
use Rattle.yl_lexeme.specs.Lexeme.{LexemeValue}
use Rattle.yl_lexeme.specs.declared.lexeme.Parts.{Parts}
use Rattle.yl_lexeme.specs.declared.lexeme.Parts.TheVariants.{Short, Long}

abbrev pub lexeme_of : {A : Type 0} → Parts A → LexemeValue
lexeme_of (Short kind column end value) = record { kind = kind; start = record { line = 0; col = column }; end = end; value = encode_utf8_all value }
lexeme_of (Long kind column end value) = record { kind = kind; start = record { line = 0; col = column }; end = end; value = encode_utf8_all (chars (string_bytes value)) }

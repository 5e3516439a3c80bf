use Rattle.std.proofs.Common.{sym, ◌∙◌, ap}
use Rattle.std.specs.Str.{chars, encode_utf8_all}
use Rattle.std.proofs.lemmas.Str.{encodes-chars}
use Rattle.yl_lexeme.specs.Lexeme.{LexemeValue}
use Rattle.yl_lexeme.specs.Parts.{lexeme_of}
use Rattle.yl_lexeme.proofs.lexeme.Lexeme.value.Goals as goal

pub returns-in-Long : goal.returns-in-Long
returns-in-Long g c =
    sym (encodes-chars c.as_str-in-Long.result.now c.as_str-in-Long.utf8) ∙ ap (λ bytes. encode_utf8_all (chars bytes)) c.as_str-in-Long.ensures.value
    ∙ ap (λ (x : LexemeValue). x.value) (ap lexeme_of (sym c.in-Long.is) ∙ c.self.view_is)

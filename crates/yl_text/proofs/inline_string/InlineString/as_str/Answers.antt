use Rattle.std.proofs.Common.{sym, ◌∙◌, ap}
use Rattle.std.specs.Str.{chars, encode_utf8_all}
use Rattle.std.proofs.lemmas.Str.{encodes-chars}
use Rattle.yl_text.specs.InlineString.{characters_of}
use Rattle.yl_text.proofs.inline_string.InlineString.as_str.Goals as goal

pub returns-in-Short : goal.returns-in-Short
returns-in-Short g c = c.as_str.ensures ∙ ap encode_utf8_all (ap characters_of (sym c.in-Short.is) ∙ c.self.view_is)

pub returns-in-Long : goal.returns-in-Long
returns-in-Long g c =
    sym (encodes-chars c.as_str-in-Long.result.now c.as_str-in-Long.utf8) ∙ ap encode_utf8_all (ap chars c.as_str-in-Long.ensures.value ∙ ap characters_of (sym c.in-Long.is) ∙ c.self.view_is)

use Rattle.std.proofs.Common.{ℕ, List, ◌++◌, ap, sym, ◌∙◌}
use Rattle.std.specs.Prelude.{string_bytes}
use Rattle.std.specs.Str.{chars, encode_utf8_all}
use Rattle.std.proofs.lemmas.Str.{chars-IsAscii, chars-nil, encodes-chars, IsUtf8-had}
use Rattle.std.proofs.lemmas.Str.Ascii.{encodes-IsAscii}
use Rattle.yl_scalar.proofs.folding.text_of.Goals as goal

pub returns-then-is_ascii-clause-bytes : goal.returns-then-is_ascii-clause-bytes
returns-then-is_ascii-clause-bytes g c =
    c.in_ok-text.ensures ∙ sym (encodes-IsAscii c.args.characters.now (c.is_ascii.ensures.0 c.if-is_ascii.true))

pub returns-then-is_ascii-clause-characters : goal.returns-then-is_ascii-clause-characters
returns-then-is_ascii-clause-characters g c =
    ap chars c.in_ok-text.ensures ∙ chars-IsAscii c.args.characters.now (c.is_ascii.ensures.0 c.if-is_ascii.true)

pub returns-clause-characters : goal.returns-clause-characters
returns-clause-characters g c =
    let cs = c.args.characters.now in
    c.in_ok-add_characters.ensures ∙ ap (λ (bs : List ℕ). chars bs ++ cs) c.new-text.ensures.bytes ∙ ap (λ (ds : List ℕ). ds ++ cs) chars-nil

pub returns-clause-bytes : goal.returns-clause-bytes
returns-clause-bytes g c =
    let text = c.add_characters.new.value in
    sym (encodes-chars (string_bytes text) (IsUtf8-had (string_bytes text) text.ok)) ∙ ap encode_utf8_all (returns-clause-characters g c)

use Rattle.std.proofs.Common.{◌≡◌, ◌≢◌, ◌-◌, rules, ◌++◌, ◌<◌, ◌≤◌, ℕ, List, length, take, get_or, arith, ap, ◌∙◌, sym}
use Rattle.std.proofs.lemmas.List.{append-nil, get_or-take, length-take-le, nil_from_length}
use Rattle.yl_text.specs.Places.{line_bytes}
use Rattle.yl_text.specs.Edit.{last_byte}
use Rattle.yl_text.proofs.ByBytes.{line_is}
use Rattle.yl_text.proofs.places.last_before.Goals as goal

pub byte_before-requires-clause-within : goal.byte_before-requires-clause-within
byte_before-requires-clause-within g c = omega (arith, ap length (line_is (g.S.Lines.rows c.args.lines.now) c.args.cut.line c.row.result.now c.row.ensures), c.requires.within)

-- the last byte of what stands in a line before a place, where nothing comes in
last_in : (bs t : List ℕ) (k last : ℕ) → length t ≡ 0 → k ≢ 0 → k ≤ length bs → last ≡ get_or bs (k - 1) 0 → (last ≡ last_byte (take k bs ++ t)) × (0 < length (take k bs ++ t))
last_in bs t k last none some within is =
    let empty : take k bs ++ t ≡ take k bs = ap (λ (u : List ℕ). take k bs ++ u) (nil_from_length t none) ∙ append-nil (take k bs) in
    let long : length (take k bs) ≡ k = length-take-le k bs within in
    (is ∙ sym (ap (λ (u : List ℕ). last_byte u) empty ∙ ap (λ (m : ℕ). get_or (take k bs) (m - 1) 0) long ∙ get_or-take k bs (k - 1) 0 (omega arith)), omega (arith, ap length empty, long))

pub returns-in-None-2 : goal.returns-in-None-2
returns-in-None-2 g c =
    let is = line_is (g.S.Lines.rows c.args.lines.now) c.args.cut.line c.row.result.now c.row.ensures in
    let none : length c.args.bytes.now ≡ 0 = search rules in
    last_in (line_bytes (g.S.Lines.rows c.args.lines.now) c.args.cut.line) c.args.bytes.now c.args.cut.byte c.byte_before.result none c.if-cut-eq0.false c.requires.within (c.byte_before.ensures ∙ ap (λ (bs : List ℕ). get_or bs (c.args.cut.byte - 1) 0) (sym is))

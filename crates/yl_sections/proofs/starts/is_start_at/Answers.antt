use Rattle.std.proofs.Common.{◌≤◌, List, Option, length, take, arith, ap, sym, ◌∙◌, None}
use Rattle.yl_lexeme.specs.declared.lexeme.Kind.{Kind}
use Rattle.yl_lexeme.specs.Lexeme.{LexemeValue}
use Rattle.yl_sections.specs.Sections.{is_section_start}
use Rattle.yl_sections.specs.Local.{kind_after}
use Rattle.yl_sections.proofs.KeptRows.{starts_here, starts_past}
use Rattle.yl_sections.proofs.starts.is_start_at.Goals as goal

pub returns-then-i-len : goal.returns-then-i-len
returns-then-i-len g c =
    let past : length c.args.records.now ≤ c.args.i = omega (arith, c.len.ensures) in
    sym (starts_past (kind_after None (take c.args.i c.args.records.now)) c.args.records.now c.args.i past)

pub returns : goal.returns
returns g c =
    c.is_section_start.ensures
    ∙ (ap (λ (l : Option Kind). is_section_start l c.lexemes.result.now) c.kind_before-last.ensures
    ∙ (ap (λ (xs : List LexemeValue). is_section_start (kind_after None (take c.args.i c.args.records.now)) xs) c.lexemes.ensures
    ∙ sym (starts_here (kind_after None (take c.args.i c.args.records.now)) c.args.records.now c.args.i c.get.result.now c.get.ensures)))

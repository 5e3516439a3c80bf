use Rattle.std.proofs.Common.{◌≡◌, ◌-◌, ◌∙◌, ℕ, List, None, ap, length, map}
use Rattle.yl_lexeme.specs.Lexeme.{LexemeValue}
use Rattle.yl_marks.specs.Keys.{lexeme_at_line}
use Rattle.yl_events.specs.declared.symbol.Outline.{Outline}
use Rattle.yl_events.specs.Seen.{LineValue, event_seen}
use Rattle.yl_pieces.specs.RowEvents.{events_held, lexemes_held, outlines_held}
use Rattle.yl_pieces.proofs.piece.PieceJudge.events.Goals as goal

abbrev line_with : List LexemeValue → ℕ → LineValue
line_with xs first = record { lexemes = xs; first = first; waiting = None }

pub returns : goal.returns
unfolding events_held
returns g c =
    let j = c.args.self.now in
    let r = c.args.row.now in
    let first : c.saturating_sub-first.result ≡ j.rows.reader.count - length r.entry.lexemes =
    c.saturating_sub-first.ensures
    ∙ ap (λ (n : ℕ). n - length c.lexemes-2.result.now) c.count.ensures
    ∙ ap (λ (xs : List LexemeValue). j.rows.reader.count - length xs) c.lexemes-2.ensures in
    let line : c.new.result ≡ lexemes_held (j.line - 1) r j.rows =
    c.new.ensures
    ∙ ap (λ (n : ℕ). line_with (map (lexeme_at_line n) c.lexemes.result.now) c.saturating_sub-first.result) c.saturating_sub.ensures
    ∙ ap (λ (xs : List LexemeValue). line_with (map (lexeme_at_line (j.line - 1)) xs) c.saturating_sub-first.result) c.lexemes.ensures
    ∙ ap (λ (n : ℕ). line_with (map (lexeme_at_line (j.line - 1)) r.entry.lexemes) n) first in
    c.new-2.ensures
    ∙ ap (λ (os : List Outline). map (event_seen c.new.result) os) c.outlines_of.ensures
    ∙ ap (λ (l : LineValue). map (event_seen l) (outlines_held r j.rows)) line

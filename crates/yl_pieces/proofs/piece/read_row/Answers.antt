use Rattle.std.proofs.Common.{◌≡◌, ◌<◌, ◌+◌, ◌-◌, ◌∙◌, ℕ, zero, suc, Bool, true, false, [], List, Option, ap, arith, length, map, refl, subst, sym}
use Rattle.std.specs.Prelude.{◌==◌}
use Rattle.std.proofs.lemmas.Bool.{eqb-true}
use Rattle.std.proofs.lemmas.List.{nil_from_length}
use Rattle.yl_lexeme.specs.Lexeme.{LexemeValue}
use Rattle.yl_marks.specs.Keys.{lexeme_at_line}
use Rattle.yl_events.specs.declared.fault.PlacedParseFault.{PlacedParseFault}
use Rattle.yl_events.specs.Event.{start_at}
use Rattle.yl_sections.specs.JudgedRow.{JudgesRow}
use Rattle.yl_pieces.proofs.EventsOfRow.{none_told, row_told}
use Rattle.yl_pieces.proofs.PieceEnds.{quiet_row}
use Rattle.yl_pieces.proofs.PieceJudging.{one_more}
use Rattle.yl_pieces.proofs.PieceLines.{row_lexemes}
use Rattle.yl_pieces.proofs.PieceStops.{stops}
use Rattle.yl_pieces.proofs.piece.read_row.Goals as goal

-- the row has lexemes
some_lexemes : (us xs ls : List LexemeValue) (empty : Bool) → us ≡ ls → xs ≡ ls → empty ≡ (length us == 0) → empty ≡ false → (0 < length xs) × (0 < length ls)
some_lexemes us xs ls empty a b is false_is =
    let many : 0 < length us = not_zero (length us) (sym is ∙ false_is) in
    let at : length us ≡ length ls = ap (λ (zs : List LexemeValue). length zs) a in
    let there : length xs ≡ length ls = ap (λ (zs : List LexemeValue). length zs) b in
    (omega (arith, many, at, there), omega (arith, many, at))
  where
    not_zero : (n : ℕ) → (n == 0) ≡ false → 0 < n
    not_zero zero e = let no : true ≡ false = e in absurd (cc)
    not_zero (suc n) e = omega arith

pub returns-then-is_empty-clause-judged : goal.returns-then-is_empty-clause-judged
returns-then-is_empty-clause-judged g c = λ config s m rs at go h.
    let xs = c.lexemes.result.now in
    let none : c.args.row.now.entry.lexemes ≡ [] = sym c.lexemes.ensures ∙ nil_from_length xs (eqb-true (length xs) 0 (sym c.is_empty.ensures ∙ c.if-is_empty.true)) in
    quiet_row config s m go rs c.args.rows.now h c.args.row.now none

pub returns-then-is_empty-clause-events : goal.returns-then-is_empty-clause-events
returns-then-is_empty-clause-events g c = λ config s m rs at go h sound.
    let xs = c.lexemes.result.now in
    let none : c.args.row.now.entry.lexemes ≡ [] = sym c.lexemes.ensures ∙ nil_from_length xs (eqb-true (length xs) 0 (sym c.is_empty.ensures ∙ c.if-is_empty.true)) in
    none_told s rs c.args.row.now c.args.line c.args.rows.now none

pub returns-in_default-clause-judged : goal.returns-in_default-clause-judged
returns-in_default-clause-judged g c = λ config s m rs at go h.
    let r = c.args.row.now in
    let d = c.args.rows.now in
    let xs = c.lexemes-2.result.now in
    let ys = map (lexeme_at_line c.args.line) xs in
    let some = some_lexemes c.lexemes.result.now xs r.entry.lexemes c.is_empty.result c.lexemes.ensures c.lexemes-2.ensures c.is_empty.ensures c.if-is_empty.false in
    let are : ys ≡ row_lexemes (1 + length rs) r = ap (λ n. map (lexeme_at_line n) xs) at ∙ ap (λ (zs : List LexemeValue). map (lexeme_at_line (1 + length rs)) zs) c.lexemes-2.ensures in
    let judged = subst (λ (o : Option PlacedParseFault). JudgesRow d ys c.indentation.result o c.read.new.self) c.in_default.is (c.in_ok-fault.ensures some.0 h.counted) in
    one_more config m rs r ys are some.1 d h c.read.new.self c.indentation.result c.indentation.ensures judged

pub returns-in_default-clause-events : goal.returns-in_default-clause-events
returns-in_default-clause-events g c = λ config s m rs at go h sound.
    let r = c.args.row.now in
    let d = c.args.rows.now in
    let xs = c.lexemes-2.result.now in
    let ys = map (lexeme_at_line c.args.line) xs in
    let some = some_lexemes c.lexemes.result.now xs r.entry.lexemes c.is_empty.result c.lexemes.ensures c.lexemes-2.ensures c.is_empty.ensures c.if-is_empty.false in
    let are : ys ≡ row_lexemes (1 + length rs) r = ap (λ n. map (lexeme_at_line n) xs) at ∙ ap (λ (zs : List LexemeValue). map (lexeme_at_line (1 + length rs)) zs) c.lexemes-2.ensures in
    let judged = subst (λ (o : Option PlacedParseFault). JudgesRow d ys c.indentation.result o c.read.new.self) c.in_default.is (c.in_ok-fault.ensures some.0 h.counted) in
    row_told config s m go rs r ys are some.1 d h c.read.new.self c.indentation.result c.indentation.ensures judged c.args.line at

pub returns-clause-judged : goal.returns-clause-judged
returns-clause-judged g c = λ config s m rs at go h.
    let r = c.args.row.now in
    let d = c.args.rows.now in
    let e = c.read.new.self in
    let f = c.in-Some.fault in
    let xs = c.lexemes-2.result.now in
    let ys = map (lexeme_at_line c.args.line) xs in
    let some = some_lexemes c.lexemes.result.now xs r.entry.lexemes c.is_empty.result c.lexemes.ensures c.lexemes-2.ensures c.is_empty.ensures c.if-is_empty.false in
    let are : ys ≡ row_lexemes (1 + length rs) r = ap (λ n. map (lexeme_at_line n) xs) at ∙ ap (λ (zs : List LexemeValue). map (lexeme_at_line (1 + length rs)) zs) c.lexemes-2.ensures in
    let judged = subst (λ (o : Option PlacedParseFault). JudgesRow d ys c.indentation.result o e) c.in-Some.is (c.in_ok-fault.ensures some.0 h.counted) in
    let index = c.saturating_sub-index.ensures ∙ ap (λ n. f.place - n) (c.count.ensures ∙ judged.judged.count) in
    stops config s m go rs r ys are some.1 d h f judged.inside e (record { place = c.start_of.result; kind = f.kind }) c.indentation.result c.indentation.ensures judged refl (c.start_of.ensures ∙ ap (start_at ys) index)

pub returns-clause-events : goal.returns-clause-events
returns-clause-events g c = λ config s m rs at go h sound. absurd (cc)

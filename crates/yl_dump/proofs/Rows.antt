-- The lines that are still to be read.
use Rattle.std.proofs.Common.{◌≡◌, ℕ, ◌+◌, ◌<◌, Bool, true, false, List, [], ◌∷◌, length, drop, refl, sym, ap, ◌∙◌, arith}
use Rattle.std.specs.Str.{chars}
use Rattle.yl_text.specs.Lines.{RowValue, lines_of}
use Rattle.yl_scan.specs.Step.{characters_of}
use Rattle.yl_dump.specs.TextScan.{rows_of, IsInText}
use Rattle.yl_dump.proofs.Bounds.{first_fits}

-- a line is still to be read where not all were
pub not_done : (is_done : Bool) (rest : List ℕ) (rows : List RowValue) → rows_of is_done rest ≡ rows → (rows ≡ [] → ⊥) → is_done ≡ false
not_done true rest rows e h = absurd (h (sym e))
not_done false rest rows e h = refl

-- the line that is read next is short enough
pub next_fits : (is_done : Bool) (rest : List ℕ) (line counted : ℕ) (rows : List RowValue) (p : RowValue) (ps : List RowValue)
    → rows_of is_done rest ≡ rows → (rows ≡ [] → ⊥) → (is_done ≡ false → IsInText line counted rest) → lines_of rest ≡ p ∷ ps → length (chars p.text) < 2147483648
next_fits is_done rest line counted rows p ps e h inside first =
    let fits = inside (not_done is_done rest rows e h) in
    omega (arith, fits.few, first_fits rest p ps first)

-- the characters of the lines from it on
pub characters-next : (is_done : Bool) (rest : List ℕ) (rows : List RowValue) (p : RowValue) (ps qs : List RowValue)
    → rows_of is_done rest ≡ rows → (rows ≡ [] → ⊥) → lines_of rest ≡ p ∷ ps → qs ≡ drop 1 rows → characters_of rows ≡ chars p.text ∷ characters_of qs
characters-next true rest rows p ps qs e h first behind = absurd (h (sym e))
characters-next false rest rows p ps qs e h first behind =
    let all : rows ≡ p ∷ ps = sym e ∙ first in
    let others : qs ≡ ps = behind ∙ ap (λ (l : List RowValue). drop 1 l) all in
    ap characters_of all ∙ ap (λ (l : List RowValue). chars p.text ∷ characters_of l) (sym others)

-- behind a line that is not the last the scanner stands in the text again
pub next_inside : (line counted : ℕ) (rest behind : List ℕ) (next_line next_counted : ℕ)
    → IsInText line counted rest → length behind < length rest → next_line ≡ line + 1 → next_counted ≡ counted + 1 → IsInText next_line next_counted behind
next_inside line counted rest behind next_line next_counted fits smaller one more = record {
  few = omega (arith, fits.few, smaller, one);
  each = omega (arith, fits.each, one, more);
}

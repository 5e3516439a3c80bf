-- Where a text ends.
use Rattle.std.proofs.Common.{◌≡◌, ◌<◌, ◌≤◌, ◌-◌, ◌^◌, ℕ, List, length, map, All, slice_get, get_or, Some, None, Option, option_map, refl, sym, ap, subst, ◌∙◌, arith}
use Rattle.std.proofs.lemmas.List.{length-map}
use Rattle.std.proofs.lemmas.Option.{get_or_from_slice_get, slice_get_within, slice_get-map}
use Rattle.std.specs.Str.{chars}
use Rattle.yl_text.specs.declared.position.Pos.{Pos}
use Rattle.yl_text.specs.Lines.{RowValue}
use Rattle.yl_scan.specs.Step.{characters_of}
use Rattle.yl_config.specs.TextReading.{end_of, width_of}

pub short_at : (rows : List RowValue) (i : ℕ) (row : RowValue) → All (λ r. length (chars r.text) < 2 ^ 31) rows → slice_get rows i ≡ Some row → length (chars row.text) < 2 ^ 31
short_at rows i row h e =
    let P : RowValue → Type 0 = λ r. length (chars r.text) < 2 ^ 31 in
    subst P (get_or_from_slice_get rows i row row e) (h i row (slice_get_within rows i row e))

abbrev place : ℕ → ℕ → Pos
place line col = record { line = line; col = col }

pub ends_at : (rows : List RowValue) (row : RowValue) → slice_get rows (length rows - 1) ≡ Some row → place (length rows - 1) (length (chars row.text)) ≡ end_of (characters_of rows)
ends_at rows row e = rw (length-map rows (λ (r : RowValue). chars r.text), slice_get-map (λ (r : RowValue). chars r.text) rows (length rows - 1), e) refl

pub ends_nowhere : (rows : List RowValue) → slice_get rows (length rows - 1) ≡ None → place (length rows - 1) 0 ≡ end_of (characters_of rows)
ends_nowhere rows e = rw (length-map rows (λ (r : RowValue). chars r.text), slice_get-map (λ (r : RowValue). chars r.text) rows (length rows - 1), e) refl

-- The column of a lexeme among those of a document.
use Rattle.std.proofs.Common.{◌≡◌, ◌<◌, ℕ, List, length, map, get_or, sym, ◌∙◌, ap}
use Rattle.std.proofs.lemmas.Option.{slice_get-map, slice_get-get_or}
use Rattle.std.specs.Option.{option_map, option_map_or}
use Rattle.yl_lexeme.specs.Lexeme.{LexemeValue}
use Rattle.yl_marks.specs.declared.token.Token.{Token}
use Rattle.yl_marks.specs.Keys.{token_of}
use Rattle.yl_marks.specs.Marks.{column_at}

pub column_there : {T : Type 0} (of : T → LexemeValue) (xs : List T) (i : ℕ) (x : T) → i < length xs → x ≡ get_or xs i x → (of x).start.col ≡ column_at (map token_of (map of xs)) i
column_there of xs i x h e =
    ap (λ y. (of y).start.col) e
    ∙ sym (ap (λ o. option_map_or (λ (t : Token). t.start.col) o 0) (slice_get-map token_of (map of xs) i ∙ ap (option_map token_of) (slice_get-map of xs i ∙ ap (option_map of) (slice_get-get_or xs i x h))))

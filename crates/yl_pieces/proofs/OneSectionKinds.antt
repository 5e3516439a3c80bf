-- The kinds of the lexemes among the symbols of rows are those of the rows' lexemes.
use Rattle.std.proofs.Common.{◌≡◌, ℕ, suc, Bool, true, false, List, [], ◌∷◌, ◌++◌, map, Option, Some, None, refl, sym, ◌∙◌, ap}
use Rattle.std.specs.Prelude.{if◌then◌else◌}
use Rattle.std.proofs.lemmas.List.{map-append}
use Rattle.yl_lexeme.specs.declared.lexeme.Kind.{Kind}
use Rattle.yl_lexeme.specs.Lexeme.{LexemeValue}
use Rattle.yl_lexeme.specs.Keys.{Spot, key_start}
use Rattle.yl_marks.specs.declared.token.Token.{Token}
use Rattle.yl_marks.specs.declared.symbol.KeyStart.{KeyStart}
use Rattle.yl_marks.specs.declared.symbol.KeyedToken.{KeyedToken}
use Rattle.yl_marks.specs.declared.symbol.Marking.{Marking}
use Rattle.yl_marks.specs.declared.symbol.OpenBlock.{OpenBlock}
use Rattle.yl_marks.specs.declared.symbol.Symbol.{Symbol}
use Rattle.yl_marks.specs.declared.symbol.Symbol.TheVariants.{Close, One}
use Rattle.yl_marks.specs.Keys.{depth_behind, keyed_token_at, place_of, token_of}
use Rattle.yl_marks.specs.Marks as k
use Rattle.yl_marks.specs.Marks.{closes_collection, closings, collection_to_open, collections_left, key_mark, marking, marks, marks_at, opening}
use Rattle.yl_marks.specs.ByLine.{MarkerValue, behind_line, by_line, keyed_tokens_of_line, line_pieces, marks_of_line}
use Rattle.yl_marks.specs.MarksAlike.{marks_of_rows}
use Rattle.yl_marks.proofs.Runs.{joined, joined_lines}
use Rattle.yl_record.specs.Records.{RecordValue}
use Rattle.yl_sections.specs.Sections.{lexemes_from}
use Rattle.yl_pieces.specs.State.{DocumentState, marker_from}
use Rattle.yl_pieces.specs.Told.{symbols_in, tokens_in}
use Rattle.yl_pieces.proofs.OneSectionSymbols.{kinds_among}

abbrev pub kinds_of : List LexemeValue → List Kind
kinds_of xs = map (λ x. x.kind) xs

abbrev pub token_kinds : List Token → List Kind
token_kinds ts = map (λ t. t.kind) ts

abbrev piece_kinds : List KeyedToken → List Kind
piece_kinds ps = map (λ p. p.kind) ps

pub kinds_of_tokens : (xs : List LexemeValue) → token_kinds (map token_of xs) ≡ kinds_of xs
kinds_of_tokens [] = refl
kinds_of_tokens (x ∷ xs) = ap (λ (ks : List Kind). x.kind ∷ ks) (kinds_of_tokens xs)

-- ---- among symbols

kinds_both : (ws vs : List Symbol) → kinds_among (ws ++ vs) ≡ kinds_among ws ++ kinds_among vs
kinds_both [] vs = refl
kinds_both (One kind i ∷ ws) vs = ap (λ (ks : List Kind). kind ∷ ks) (kinds_both ws vs)
kinds_both (w ∷ ws) vs = kinds_both ws vs

no_kinds : (ws vs : List Symbol) → kinds_among ws ≡ [] → kinds_among (ws ++ vs) ≡ kinds_among vs
no_kinds ws vs e = kinds_both ws vs ∙ ap (λ (ks : List Kind). ks ++ kinds_among vs) e

none_of_closings : (n : Marking) (cs : List OpenBlock) → kinds_among (closings n cs) ≡ []
none_of_closings n [] = refl
none_of_closings n (c ∷ cs) = by_case (closes_collection n c) (none_of_closings n cs)
  where
    by_case : (b : Bool) → kinds_among (closings n cs) ≡ [] → kinds_among (if b then Close ∷ closings n cs else []) ≡ []
    by_case true h = h
    by_case false h = refl

none_of_opening : (new : Option Bool) (i : ℕ) → kinds_among (opening new i) ≡ []
none_of_opening None i = refl
none_of_opening (Some true) i = refl
none_of_opening (Some false) i = refl

none_of_key : (b : Bool) (i : ℕ) → kinds_among (key_mark b i) ≡ []
none_of_key true i = refl
none_of_key false i = refl

-- marks have no kinds, so those of a lexeme with its marks are its own
kinds_at : (n : Marking) (i : ℕ) (cs : List OpenBlock) → kinds_among (marks_at n i cs) ≡ n.piece.kind ∷ []
kinds_at n i cs =
    let new = collection_to_open n (collections_left n cs) in
    no_kinds (closings n cs ++ opening new i ++ key_mark n.begins_key i) (One n.piece.kind i ∷ [])
    (no_kinds (closings n cs ++ opening new i) (key_mark n.begins_key i) (no_kinds (closings n cs) (opening new i) (none_of_closings n cs) ∙ none_of_opening new i) ∙ none_of_key n.begins_key i)

kinds_of_marks : (all : List KeyedToken) (cs : List OpenBlock) (i : ℕ) (ps : List KeyedToken) → kinds_among (marks all cs i ps) ≡ piece_kinds ps
kinds_of_marks all cs i [] = refl
kinds_of_marks all cs i (p ∷ ps) =
    let n = marking all i p in
    let later = marks all (k.open_behind n cs) (suc i) ps in
    kinds_both (marks_at n i cs) later
    ∙ ap (λ (ks : List Kind). ks ++ kinds_among later) (kinds_at n i cs)
    ∙ ap (λ (ks : List Kind). p.kind ∷ ks) (kinds_of_marks all (k.open_behind n cs) (suc i) ps)

kinds_of_pieces : (count depth : ℕ) (latest : Option KeyedToken) (line : List (Spot KeyStart)) (xs : List Token) → piece_kinds (line_pieces count depth latest line xs) ≡ token_kinds xs
kinds_of_pieces count depth latest line [] = refl
kinds_of_pieces count depth latest line (x ∷ xs) =
    let p = keyed_token_at x depth latest (key_start line) in
    ap (λ (ks : List Kind). x.kind ∷ ks) (kinds_of_pieces (suc count) (depth_behind x.kind depth) (Some p) (record { kind = x.kind; start = place_of count p } ∷ line) xs)

kinds_of_line : (m : MarkerValue) (xs : List Token) → kinds_among (marks_of_line m xs) ≡ token_kinds xs
kinds_of_line m xs =
    let all = keyed_tokens_of_line m xs in
    kinds_of_marks all m.open_ones m.count all ∙ kinds_of_pieces m.count m.depth m.latest [] xs

kinds_of_rows : (m : MarkerValue) (rows : List (List Token)) → kinds_among (marks_of_rows m rows) ≡ token_kinds (joined rows)
kinds_of_rows m [] = refl
kinds_of_rows m (x ∷ rows) =
    kinds_both (marks_of_line m x) (marks_of_rows (behind_line m x) rows)
    ∙ ap (λ (ks : List Kind). ks ++ kinds_among (marks_of_rows (behind_line m x) rows)) (kinds_of_line m x)
    ∙ ap (λ (ks : List Kind). token_kinds x ++ ks) (kinds_of_rows (behind_line m x) rows)
    ∙ sym (map-append (λ (t : Token). t.kind) x (joined rows))

-- the kinds among the symbols of rows are those of their lexemes
pub kinds_in : (s : DocumentState) (line : ℕ) (rs : List RecordValue) → kinds_among (symbols_in s line rs) ≡ kinds_of (lexemes_from line rs)
kinds_in s line rs =
    kinds_of_rows (marker_from s.marker).marks (by_line (tokens_in line rs))
    ∙ ap token_kinds (joined_lines (tokens_in line rs))
    ∙ kinds_of_tokens (lexemes_from line rs)

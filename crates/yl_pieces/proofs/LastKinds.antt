-- The kind of the last lexeme of rows: the state after them holds it, and what stands above rows with a lexeme has no part in it.
use Rattle.std.proofs.Common.{◌≡◌, ◌+◌, ◌<◌, ℕ, suc, List, [], ◌∷◌, ◌++◌, map, length, Option, Some, None, refl, sym, ◌∙◌, ap, arith}
use Rattle.std.specs.Prelude.{option_map}
use Rattle.std.proofs.lemmas.List.{map-append}
use Rattle.yl_lexeme.specs.declared.lexeme.Kind.{Kind}
use Rattle.yl_lexeme.specs.Lexeme.{LexemeValue}
use Rattle.yl_lexeme.specs.Keys.{Spot, key_start}
use Rattle.yl_marks.specs.declared.token.Token.{Token}
use Rattle.yl_marks.specs.declared.symbol.KeyStart.{KeyStart}
use Rattle.yl_marks.specs.declared.symbol.KeyedToken.{KeyedToken}
use Rattle.yl_marks.specs.Keys.{depth_behind, keyed_token_at, lexeme_at_line, place_of}
use Rattle.yl_marks.specs.ByLine.{by_line, latest_of, line_pieces}
use Rattle.yl_marks.specs.FactsByLine.{KeyMarkerValue, behind_keyed_line}
use Rattle.yl_marks.specs.MarksAlike.{KeyMarkerState, after_rows}
use Rattle.yl_marks.proofs.Runs.{joined, joined_lines}
use Rattle.yl_record.specs.Records.{RecordValue}
use Rattle.yl_sections.specs.Sections.{last_kind_from, lexemes_from, lexemes_of}
use Rattle.yl_sections.specs.Local.{kind_after}
use Rattle.yl_pieces.specs.State.{DocumentState, marker_from}
use Rattle.yl_pieces.specs.Told.{state_after, tokens_in}
use Rattle.yl_pieces.proofs.JoinedMarks.{same_marker}
use Rattle.yl_pieces.proofs.OneSectionKinds.{kinds_of, kinds_of_tokens, token_kinds}

-- ---- in order

abbrev last_of : Option Kind → List Kind → Option Kind
last_of last [] = last
last_of last (k ∷ ks) = last_of (Some k) ks

last_both : (last : Option Kind) (ks ls : List Kind) → last_of last (ks ++ ls) ≡ last_of (last_of last ks) ls
last_both last [] ls = refl
last_both last (k ∷ ks) ls = last_both (Some k) ks ls

last_of_row : (line : ℕ) (last : Option Kind) (xs ys : List LexemeValue) → last_of last (kinds_of (map (lexeme_at_line line) xs ++ ys)) ≡ last_of (last_kind_from last xs) (kinds_of ys)
last_of_row line last [] ys = refl
last_of_row line last (x ∷ xs) ys = last_of_row line (Some x.kind) xs ys

kind_after_is : (line : ℕ) (last : Option Kind) (rs : List RecordValue) → kind_after last rs ≡ last_of last (kinds_of (lexemes_from line rs))
kind_after_is line last [] = refl
kind_after_is line last (r ∷ rs) =
    kind_after_is (line + 1) (last_kind_from last r.entry.lexemes) rs ∙ sym (last_of_row line last r.entry.lexemes (lexemes_from (line + 1) rs))

abbrev kind_held : Option KeyedToken → Option Kind
kind_held latest = option_map (λ p. p.kind) latest

latest_of_pieces : (count depth : ℕ) (latest : Option KeyedToken) (line : List (Spot KeyStart)) (xs : List Token)
    → kind_held (latest_of latest (line_pieces count depth latest line xs)) ≡ last_of (kind_held latest) (token_kinds xs)
latest_of_pieces count depth latest line [] = refl
latest_of_pieces count depth latest line (x ∷ xs) =
    let p = keyed_token_at x depth latest (key_start line) in
    latest_of_pieces (suc count) (depth_behind x.kind depth) (Some p) (record { kind = x.kind; start = place_of count p } ∷ line) xs

latest_of_rows : (b : KeyMarkerValue) (rows : List (List Token)) → kind_held (after_rows b rows).marks.latest ≡ last_of (kind_held b.marks.latest) (token_kinds (joined rows))
latest_of_rows b [] = refl
latest_of_rows b (x ∷ rows) =
    latest_of_rows (behind_keyed_line b x) rows
    ∙ ap (λ (l : Option Kind). last_of l (token_kinds (joined rows))) (latest_of_pieces b.marks.count b.marks.depth b.marks.latest [] x)
    ∙ sym (last_both (kind_held b.marks.latest) (token_kinds x) (token_kinds (joined rows)))
    ∙ ap (last_of (kind_held b.marks.latest)) (sym (map-append (λ (t : Token). t.kind) x (joined rows)))

-- the state after rows has the kind of their last lexeme
pub latest_is : (s : DocumentState) (line : ℕ) (rs : List RecordValue) → (state_after s line rs).marker.marks.latest ≡ kind_after s.marker.marks.latest rs
latest_is s line rs =
    let latest = s.marker.marks.latest in
    let ts = tokens_in line rs in
    latest_of_rows (marker_from s.marker) (by_line ts)
    ∙ ap (λ (m : KeyMarkerState). last_of m.marks.latest (token_kinds (joined (by_line ts)))) (same_marker s.marker)
    ∙ ap (λ (us : List Token). last_of latest (token_kinds us)) (joined_lines ts)
    ∙ ap (last_of latest) (kinds_of_tokens (lexemes_from line rs))
    ∙ sym (kind_after_is line latest rs)

-- ---- the last kind after rows, and what stands before them

pub kind_both : (last : Option Kind) (front next : List RecordValue) → kind_after last (front ++ next) ≡ kind_after (kind_after last front) next
kind_both last [] next = refl
kind_both last (r ∷ front) next = kind_both (last_kind_from last r.entry.lexemes) front next

same_last : (k l : Option Kind) (xs : List LexemeValue) → 0 < length xs → last_of k (kinds_of xs) ≡ last_of l (kinds_of xs)
same_last k l [] h = absurd (omega (arith, h))
same_last k l (x ∷ xs) h = refl

-- of rows with a lexeme it is their own
pub kind_alone : (k l : Option Kind) (rs : List RecordValue) → 0 < length (lexemes_of rs) → kind_after k rs ≡ kind_after l rs
kind_alone k l rs h = kind_after_is 0 k rs ∙ same_last k l (lexemes_of rs) h ∙ sym (kind_after_is 0 l rs)

-- the latter, if there is one
abbrev latter : Option Kind → Option Kind → Option Kind
latter k None = k
latter k (Some l) = Some l

some_last : (k : Kind) (ks : List Kind) → (l : Kind) × (last_of (Some k) ks ≡ Some l)
some_last k [] = (k, refl)
some_last k (l ∷ ks) = some_last l ks

last_by_own : (last : Option Kind) (ks : List Kind) → last_of last ks ≡ latter last (last_of None ks)
last_by_own last [] = refl
last_by_own last (k ∷ ks) = let l = some_last k ks in l.1 ∙ ap (latter last) (sym l.1)

-- it is the same after rows that are the last ones of others too, if it is the same without these
pub kind_by_own : (last : Option Kind) (rs : List RecordValue) → kind_after last rs ≡ latter last (kind_after None rs)
kind_by_own last rs = kind_after_is 0 last rs ∙ last_by_own last (kinds_of (lexemes_of rs)) ∙ ap (latter last) (sym (kind_after_is 0 None rs))

pub same_kinds : (last : Option Kind) (rs qs : List RecordValue) → kind_after None rs ≡ kind_after None qs → kind_after last rs ≡ kind_after last qs
same_kinds last rs qs e = kind_by_own last rs ∙ ap (latter last) e ∙ sym (kind_by_own last qs)

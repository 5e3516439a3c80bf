-- The marks of a document are the marks of its lines, one after another.
use Rattle.std.proofs.Common.{◌≡◌, ◌<◌, ◌≤◌, ◌+◌, inl, inr, ℕ, suc, false, cond, ◌||◌, List, [], ◌∷◌, ◌++◌, Option, Some, None, length, refl, sym, ◌∙◌, ap, subst, eq-eqb, append_assoc, arith, slice_get}
use Rattle.std.proofs.lemmas.Bool.{ne_eqb}
use Rattle.std.proofs.lemmas.List.Folds.{list_any-append}
use Rattle.std.proofs.Math.Bool.{or-false}
use Rattle.yl_lexeme.specs.Keys.{Spot, key_start}
use Rattle.yl_marks.specs.declared.token.Token.{Token}
use Rattle.yl_marks.specs.declared.symbol.Symbol.{Symbol}
use Rattle.yl_marks.specs.declared.symbol.KeyedToken.{KeyedToken}
use Rattle.yl_marks.specs.declared.symbol.KeyStart.{KeyStart}
use Rattle.yl_marks.specs.declared.symbol.OpenBlock.{OpenBlock}
use Rattle.yl_marks.specs.Keys.{depth, place_of, tokens_of_line, keyed_token_at, keyed_tokens}
use Rattle.yl_marks.specs.Marks.{is_at, begins_key, marking, marks_at, open_behind, marks, open_behind_all, closings_of_all, symbols_of_tokens}
use Rattle.yl_marks.specs.ByLine.{MarkerValue, marker_at_start, line_pieces, depth_behind_all, latest_of, behind_line, marks_by_lines, by_line}
use Rattle.yl_marks.proofs.Within.{KeysAreWithin, line_within, no_key_elsewhere}
use Rattle.yl_marks.proofs.Runs.{InLine, IsOther, AreLines, joined, are_lines, joined_lines}

-- ---- the pieces of a line among those of the document

-- the pieces behind these ones, the latest first
abbrev pub behind : List KeyedToken → List KeyedToken → List KeyedToken
behind [] before = before
behind (p ∷ ps) before = behind ps (p ∷ before)

abbrev pub line_of : Option KeyedToken → Option ℕ
line_of None = None
line_of (Some p) = Some p.start.line

-- the pieces of a line behind these, of which so many are the line's
abbrev pub line_behind : List KeyedToken → List (Spot KeyStart) → List Token → List KeyedToken
line_behind before line xs = line_pieces (length before) (depth before) (slice_get before 0) line xs

pub nothing_here : (line : ℕ) (before : List KeyedToken) → IsOther (line_of (slice_get before 0)) line → tokens_of_line line before ≡ []
nothing_here line [] h = refl
nothing_here line (p ∷ before) h = ap (λ b. cond b (record { kind = p.kind; start = place_of (length before) p } ∷ tokens_of_line line before) []) (ne_eqb p.start.line line h)

one_more_here : (line : ℕ) (p : KeyedToken) (before : List KeyedToken) → p.start.line ≡ line → tokens_of_line line (p ∷ before) ≡ record { kind = p.kind; start = place_of (length before) p } ∷ tokens_of_line line before
one_more_here line p before e = ap (λ b. cond b (record { kind = p.kind; start = place_of (length before) p } ∷ tokens_of_line line before) []) (eq-eqb p.start.line line e)

pieces_of_line : (line : ℕ) (before : List KeyedToken) (spots : List (Spot KeyStart)) (xs rest : List Token) → tokens_of_line line before ≡ spots → InLine line xs →
    keyed_tokens before (xs ++ rest) ≡ line_behind before spots xs ++ keyed_tokens (behind (line_behind before spots xs) before) rest
pieces_of_line line before spots [] rest h g = refl
pieces_of_line line before spots (x ∷ xs) rest h g =
    let key : key_start (tokens_of_line x.start.line before) ≡ key_start spots = ap (λ l. key_start (tokens_of_line l before)) g.0 ∙ ap key_start h in
    let p = keyed_token_at x (depth before) (slice_get before 0) (key_start spots) in
    ap (λ k. keyed_token_at x (depth before) (slice_get before 0) k ∷ keyed_tokens (keyed_token_at x (depth before) (slice_get before 0) k ∷ before) (xs ++ rest)) key
    ∙ ap (λ ps. p ∷ ps) (pieces_of_line line (p ∷ before) (record { kind = p.kind; start = place_of (length before) p } ∷ spots) xs rest
    (one_more_here line p before g.0 ∙ ap (λ l. record { kind = p.kind; start = place_of (length before) p } ∷ l) h) g.1)

pub length-line_pieces : (count depth : ℕ) (latest : Option KeyedToken) (line : List (Spot KeyStart)) (xs : List Token) → length (line_pieces count depth latest line xs) ≡ length xs
length-line_pieces count depth latest line [] = refl
length-line_pieces count depth latest line (x ∷ xs) = ap suc (length-line_pieces (suc count) _ _ _ xs)

length-behind : (ps before : List KeyedToken) → length (behind ps before) ≡ length before + length ps
length-behind [] before = omega arith
length-behind (p ∷ ps) before = omega (arith, length-behind ps (p ∷ before))

pub depth-behind : (before : List KeyedToken) (line : List (Spot KeyStart)) (xs : List Token) → depth (behind (line_behind before line xs) before) ≡ depth_behind_all (depth before) xs
depth-behind before line [] = refl
depth-behind before line (x ∷ xs) =
    let p = keyed_token_at x (depth before) (slice_get before 0) (key_start line) in
    depth-behind (p ∷ before) (record { kind = p.kind; start = place_of (length before) p } ∷ line) xs

pub first-behind : (ps before : List KeyedToken) → slice_get (behind ps before) 0 ≡ latest_of (slice_get before 0) ps
first-behind [] before = refl
first-behind (p ∷ ps) before = first-behind ps (p ∷ before)

line-behind : (line : ℕ) (before : List KeyedToken) (spots : List (Spot KeyStart)) (xs : List Token) → line_of (slice_get before 0) ≡ Some line → InLine line xs →
    line_of (slice_get (behind (line_behind before spots xs) before) 0) ≡ Some line
line-behind line before spots [] h g = h
line-behind line before spots (x ∷ xs) h g =
    let p = keyed_token_at x (depth before) (slice_get before 0) (key_start spots) in
    line-behind line (p ∷ before) (record { kind = p.kind; start = place_of (length before) p } ∷ spots) xs (ap Some g.0) g.1

-- ---- a whole line behind those before

module _ (before : List KeyedToken) (x : Token) (xs : List Token) (other : IsOther (line_of (slice_get before 0)) x.start.line) (same : InLine x.start.line xs) where
  abbrev pub own : List KeyedToken
  own = line_behind before [] (x ∷ xs)

  abbrev pub now : List KeyedToken
  now = behind own before

  pub split : (rest : List Token) → keyed_tokens before ((x ∷ xs) ++ rest) ≡ own ++ keyed_tokens now rest
  split rest = pieces_of_line x.start.line before [] (x ∷ xs) rest (nothing_here x.start.line before other) (refl, same)

  pub latest : line_of (slice_get now 0) ≡ Some x.start.line
  latest = line-behind x.start.line (keyed_token_at x (depth before) (slice_get before 0) None ∷ before) _ xs refl same

  pub count : length now ≡ length before + length own
  count = length-behind own before

  pub within : KeysAreWithin (length before) (length now) own
  within = line_within (length before) (length now) (length before) (depth before) (slice_get before 0) [] (x ∷ xs) (omega arith)
      (omega (arith, count, length-line_pieces (length before) (depth before) (slice_get before 0) [] (x ∷ xs))) tt

-- no key of later lines begins in earlier ones
pub none_later : (ls : List (List Token)) (before : List KeyedToken) → AreLines (line_of (slice_get before 0)) ls → (i : ℕ) → i < length before → begins_key i (keyed_tokens before (joined ls)) ≡ false
none_later [] before h i below = refl
none_later ([] ∷ ls) before h i below = absurd h
none_later ((x ∷ xs) ∷ ls) before h i below =
    ap (begins_key i) (split before x xs h.0 h.1.0 (joined ls))
    ∙ list_any-append (λ p. is_at i p.key) (own before x xs h.0 h.1.0) (keyed_tokens (now before x xs h.0 h.1.0) (joined ls))
    ∙ ap (λ b. b || begins_key i (keyed_tokens (now before x xs h.0 h.1.0) (joined ls)))
    (no_key_elsewhere (length before) (length (now before x xs h.0 h.1.0)) i (own before x xs h.0 h.1.0) (within before x xs h.0 h.1.0) (inl below))
    ∙ none_later ls (now before x xs h.0 h.1.0) (subst (λ l. AreLines l ls) (sym (latest before x xs h.0 h.1.0)) h.1.1) i
    (omega (arith, count before x xs h.0 h.1.0))

-- ---- marks

abbrev pub Agree : List KeyedToken → List KeyedToken → ℕ → ℕ → Type 0
Agree all some from to = (i : ℕ) → from ≤ i → i < to → begins_key i all ≡ begins_key i some

pub same_marking : (all some : List KeyedToken) (i : ℕ) (p : KeyedToken) → begins_key i all ≡ begins_key i some → marking all i p ≡ marking some i p
same_marking all some i p e = ap (λ b. record { piece = p; begins_key = b }) e

same_marks : (all some : List KeyedToken) (cs : List OpenBlock) (i to : ℕ) (ps : List KeyedToken) → i + length ps ≤ to → Agree all some i to → marks all cs i ps ≡ marks some cs i ps
same_marks all some cs i to [] h g = refl
same_marks all some cs i to (p ∷ ps) h g =
    ap (λ m. marks_at m i cs ++ marks all (open_behind m cs) (suc i) ps) (same_marking all some i p (g i (omega arith) (omega arith)))
    ∙ ap (λ ws. marks_at (marking some i p) i cs ++ ws)
    (same_marks all some (open_behind (marking some i p) cs) (suc i) to ps (omega arith) (λ j l m. g j (omega arith) m))

same_open : (all some : List KeyedToken) (cs : List OpenBlock) (i to : ℕ) (ps : List KeyedToken) → i + length ps ≤ to → Agree all some i to → open_behind_all all cs i ps ≡ open_behind_all some cs i ps
same_open all some cs i to [] h g = refl
same_open all some cs i to (p ∷ ps) h g =
    ap (λ m. open_behind_all all (open_behind m cs) (suc i) ps) (same_marking all some i p (g i (omega arith) (omega arith)))
    ∙ same_open all some (open_behind (marking some i p) cs) (suc i) to ps (omega arith) (λ j l m. g j (omega arith) m)

marks-append : (all : List KeyedToken) (cs : List OpenBlock) (i : ℕ) (ps qs : List KeyedToken) →
    marks all cs i (ps ++ qs) ≡ marks all cs i ps ++ marks all (open_behind_all all cs i ps) (i + length ps) qs
marks-append all cs i [] qs = ap (λ n. marks all cs n qs) {x = i} {y = i + 0} (omega arith)
marks-append all cs i (p ∷ ps) qs =
    let m = marking all i p in
    ap (λ ws. marks_at m i cs ++ ws) (marks-append all (open_behind m cs) (suc i) ps qs)
    ∙ sym (append_assoc (marks_at m i cs) (marks all (open_behind m cs) (suc i) ps) _)
    ∙ ap (λ n. marks all cs i (p ∷ ps) ++ marks all (open_behind_all all cs i (p ∷ ps)) n qs) {x = suc i + length ps} {y = i + suc (length ps)} (omega arith)

open-append : (all : List KeyedToken) (cs : List OpenBlock) (i : ℕ) (ps qs : List KeyedToken) →
    open_behind_all all cs i (ps ++ qs) ≡ open_behind_all all (open_behind_all all cs i ps) (i + length ps) qs
open-append all cs i [] qs = ap (λ n. open_behind_all all cs n qs) {x = i} {y = i + 0} (omega arith)
open-append all cs i (p ∷ ps) qs =
    open-append all (open_behind (marking all i p) cs) (suc i) ps qs
    ∙ ap (λ n. open_behind_all all (open_behind_all all cs i (p ∷ ps)) n qs) {x = suc i + length ps} {y = i + suc (length ps)} (omega arith)

-- marks from an index on, to the end
abbrev to_end : List KeyedToken → List OpenBlock → ℕ → List KeyedToken → List Symbol
to_end all cs i ps = marks all cs i ps ++ closings_of_all (open_behind_all all cs i ps)

to_end-append : (all : List KeyedToken) (cs : List OpenBlock) (i : ℕ) (ps qs : List KeyedToken) →
    to_end all cs i (ps ++ qs) ≡ marks all cs i ps ++ to_end all (open_behind_all all cs i ps) (i + length ps) qs
to_end-append all cs i ps qs =
    ap (λ ws. ws ++ closings_of_all (open_behind_all all cs i (ps ++ qs))) (marks-append all cs i ps qs)
    ∙ ap (λ os. (marks all cs i ps ++ marks all (open_behind_all all cs i ps) (i + length ps) qs) ++ closings_of_all os) (open-append all cs i ps qs)
    ∙ append_assoc (marks all cs i ps) (marks all (open_behind_all all cs i ps) (i + length ps) qs) _

abbrev pub at : List KeyedToken → List OpenBlock → MarkerValue
at before cs = record { count = length before; depth = depth before; latest = slice_get before 0; open_ones = cs }

pub at_of : (n d : ℕ) (latest : Option KeyedToken) (cs : List OpenBlock) (before : List KeyedToken) → length before ≡ n → depth before ≡ d → slice_get before 0 ≡ latest →
    at before cs ≡ record { count = n; depth = d; latest = latest; open_ones = cs }
at_of n d latest cs before c e l = cc

by_lines : (ls : List (List Token)) (before : List KeyedToken) (cs : List OpenBlock) (all : List KeyedToken) → AreLines (line_of (slice_get before 0)) ls →
    ((i : ℕ) → length before ≤ i → begins_key i all ≡ begins_key i (keyed_tokens before (joined ls))) →
    marks_by_lines (at before cs) ls ≡ to_end all cs (length before) (keyed_tokens before (joined ls))
by_lines [] before cs all h g = refl
by_lines ([] ∷ ls) before cs all h g = absurd h
by_lines ((x ∷ xs) ∷ ls) before cs all h g =
    let ps = own before x xs h.0 h.1.0 in
    let before' = now before x xs h.0 h.1.0 in
    let qs = keyed_tokens before' (joined ls) in
    let lines : AreLines (line_of (slice_get before' 0)) ls = subst (λ l. AreLines l ls) (sym (latest before x xs h.0 h.1.0)) h.1.1 in
    let n : length before' ≡ length before + length ps = count before x xs h.0 h.1.0 in
    let either : (i : ℕ) → length before ≤ i → begins_key i all ≡ (begins_key i ps || begins_key i qs) =
    λ i l. g i l ∙ ap (begins_key i) (split before x xs h.0 h.1.0 (joined ls)) ∙ list_any-append (λ p. is_at i p.key) ps qs in
    let in_line : Agree all ps (length before) (length before') =
    λ i l m. either i l ∙ ap (λ b. begins_key i ps || b) (none_later ls before' lines i m) ∙ or-false (begins_key i ps) in
    let below : (i : ℕ) → length before' ≤ i → begins_key i all ≡ begins_key i qs =
    λ i l. either i (omega arith) ∙ ap (λ b. b || begins_key i qs)
    (no_key_elsewhere (length before) (length before') i ps (within before x xs h.0 h.1.0) (inr l)) in
    let fits : length before + length ps ≤ length before' = omega arith in
    let same : marks all cs (length before) ps ≡ marks ps cs (length before) ps = same_marks all ps cs (length before) (length before') ps fits in_line in
    let opened : open_behind_all all cs (length before) ps ≡ open_behind_all ps cs (length before) ps = same_open all ps cs (length before) (length before') ps fits in_line in
    let cs' = open_behind_all ps cs (length before) ps in
    let state : at before' cs' ≡ behind_line (at before cs) (x ∷ xs) =
    at_of _ _ _ cs' before' (n ∙ ap (λ k. length before + k) (length-line_pieces (length before) (depth before) (slice_get before 0) [] (x ∷ xs)))
    (depth-behind before [] (x ∷ xs)) (first-behind ps before) in
    ap (λ b. marks ps cs (length before) ps ++ marks_by_lines b ls) (sym state)
    ∙ ap (λ ws. marks ps cs (length before) ps ++ ws) (by_lines ls before' cs' all lines below)
    ∙ ap (λ ws. ws ++ to_end all cs' (length before') qs) (sym same)
    ∙ ap (λ os. marks all cs (length before) ps ++ to_end all os (length before') qs) (sym opened)
    ∙ ap (λ k. marks all cs (length before) ps ++ to_end all (open_behind_all all cs (length before) ps) k qs) n
    ∙ sym (to_end-append all cs (length before) ps qs)
    ∙ ap (to_end all cs (length before)) (sym (split before x xs h.0 h.1.0 (joined ls)))

pub marked_by_lines : (xs : List Token) → marks_by_lines marker_at_start (by_line xs) ≡ symbols_of_tokens xs
marked_by_lines xs =
    by_lines (by_line xs) [] [] (keyed_tokens [] (joined (by_line xs))) (are_lines xs) (λ i l. refl)
    ∙ ap (λ l. to_end (keyed_tokens [] l) [] 0 (keyed_tokens [] l)) (joined_lines xs)

-- Bridge: the marks of a document, line by line. A key and its Value begin in one line (YAML 1.2.2,
-- 7.4.2 and 8.2.2), so whether a key begins at a lexeme depends only on the lexeme's own line.
use Rattle.std.specs.Prelude.{ℕ, suc, ◌≡◌, ◌≤◌, ◌+◌, ◌==◌, if◌then◌else◌, List, [], ◌∷◌, ◌++◌, length, Option, Some, None}
use Rattle.yl_lexeme.specs.Keys.{Spot, key_start}
use Rattle.yl_marks.specs.declared.token.Token.{Token}
use Rattle.yl_marks.specs.declared.symbol.Symbol.{Symbol}
use Rattle.yl_marks.specs.declared.symbol.Symbol.TheVariants.{OpenSequence, OpenMapping, BeginKey, Close, One}
use Rattle.yl_marks.specs.declared.symbol.KeyedToken.{KeyedToken}
use Rattle.yl_marks.specs.declared.symbol.KeyStart.{KeyStart}
use Rattle.yl_marks.specs.declared.symbol.Earlier.{Earlier}
use Rattle.yl_marks.specs.declared.symbol.OpenBlock.{OpenBlock}
use Rattle.yl_marks.specs.Keys.{depth_behind, place_of, keyed_token_at}
use Rattle.yl_marks.specs.Marks.{marks, open_behind_all, closings_of_all, symbols_of_tokens}

-- the summary of the lexemes of earlier lines
pub record MarkerValue : Type 0 where
  pub count : ℕ  -- how many there are
  pub depth : ℕ  -- how many brackets are open after them
  pub latest : Option KeyedToken  -- the latest of them
  pub open_ones : List OpenBlock  -- the open block collections, the innermost first

abbrev pub marker_at_start : MarkerValue
marker_at_start = record { count = 0; depth = 0; latest = None; open_ones = [] }

-- the lexemes of a line. `count` lexemes of the document stand before them, `depth` brackets are
-- open before them, `latest` is the latest lexeme before them, and `line` lists the earlier lexemes
-- of the line, the latest first
abbrev pub line_pieces : ℕ → ℕ → Option KeyedToken → List (Spot KeyStart) → List Token → List KeyedToken
line_pieces count depth latest line [] = []
line_pieces count depth latest line (x ∷ xs) =
    let p = keyed_token_at x depth latest (key_start line) in
    p ∷ line_pieces (suc count) (depth_behind x.kind depth) (Some p) (record { kind = x.kind; start = place_of count p } ∷ line) xs

abbrev pub depth_behind_all : ℕ → List Token → ℕ
depth_behind_all depth [] = depth
depth_behind_all depth (x ∷ xs) = depth_behind_all (depth_behind x.kind depth) xs

abbrev pub latest_of : Option KeyedToken → List KeyedToken → Option KeyedToken
latest_of latest [] = latest
latest_of latest (p ∷ ps) = latest_of (Some p) ps

-- `behind` is the summary of the earlier lexemes and these after them
pub record IsBehind (earlier : Earlier) (xs : List Token) (ps : List KeyedToken) (behind : Earlier) : Type 0 where
  pub count : behind.count ≡ earlier.count + length xs
  pub depth : behind.depth ≡ depth_behind_all earlier.depth xs
  pub latest : behind.latest ≡ latest_of earlier.latest ps
  pub most : behind.depth ≤ behind.count

-- the lexemes of a line after those of earlier lines
abbrev pub keyed_tokens_of_line : MarkerValue → List Token → List KeyedToken
keyed_tokens_of_line b xs = line_pieces b.count b.depth b.latest [] xs

-- the lexemes of a line with their marks
abbrev pub marks_of_line : MarkerValue → List Token → List Symbol
marks_of_line b xs = let all = keyed_tokens_of_line b xs in marks all b.open_ones b.count all

abbrev pub behind_line : MarkerValue → List Token → MarkerValue
behind_line b xs = let all = keyed_tokens_of_line b xs in record {
  count = b.count + length xs;
  depth = depth_behind_all b.depth xs;
  latest = latest_of b.latest all;
  open_ones = open_behind_all all b.open_ones b.count all;
}

-- the lexemes of these lines with their marks, to the end of the document
abbrev pub marks_by_lines : MarkerValue → List (List Token) → List Symbol
marks_by_lines b [] = closings_of_all b.open_ones
marks_by_lines b (x ∷ xs) = marks_of_line b x ++ marks_by_lines (behind_line b x) xs

-- these lines with one more lexeme before them
abbrev pub before_lines : Token → List (List Token) → List (List Token)
before_lines x [] = (x ∷ []) ∷ []
before_lines x ([] ∷ ls) = (x ∷ []) ∷ ls
before_lines x ((y ∷ ys) ∷ ls) = if x.start.line == y.start.line then (x ∷ y ∷ ys) ∷ ls else (x ∷ []) ∷ (y ∷ ys) ∷ ls

-- the lexemes, split into the lines in which they begin
abbrev pub by_line : List Token → List (List Token)
by_line [] = []
by_line (x ∷ xs) = before_lines x (by_line xs)

-- the marks of a document are the marks of its lines, one after another
abbrev pub MarkedByLines : Type 0
MarkedByLines = (xs : List Token) → marks_by_lines marker_at_start (by_line xs) ≡ symbols_of_tokens xs

-- each lexeme among the symbols has an index of this kind
abbrev pub HaveIndices : (ℕ → Type 0) → List Symbol → Type 0
HaveIndices Is [] = Unit {0}
HaveIndices Is (OpenSequence i ∷ ws) = HaveIndices Is ws
HaveIndices Is (OpenMapping i ∷ ws) = HaveIndices Is ws
HaveIndices Is (BeginKey i ∷ ws) = HaveIndices Is ws
HaveIndices Is (Close ∷ ws) = HaveIndices Is ws
HaveIndices Is (One kind i ∷ ws) = Is i × HaveIndices Is ws

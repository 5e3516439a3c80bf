-- Bridge: rows after equal states of a marker are marked alike. A state has no line numbers and no
-- counts of lexemes.
use Rattle.std.specs.Prelude.{ℕ, ◌≡◌, ◌<◌, ◌+◌, List, [], ◌∷◌, ◌++◌, map, Option, option_map, IfSome}
use Rattle.yl_lexeme.specs.declared.lexeme.Kind.{Kind}
use Rattle.yl_marks.specs.declared.token.Token.{Token}
use Rattle.yl_marks.specs.declared.symbol.Symbol.{Symbol}
use Rattle.yl_marks.specs.declared.symbol.Symbol.TheVariants.{OpenSequence, OpenMapping, BeginKey, Close, One}
use Rattle.yl_marks.specs.declared.symbol.OpenBlock.{OpenBlock}
use Rattle.yl_marks.specs.declared.facts.KeyFacts.{KeyFacts}
use Rattle.yl_marks.specs.ByLine.{MarkerValue, marks_of_line, behind_line, marks_by_lines}
use Rattle.yl_marks.specs.FactsByLine.{KeyMarkerValue, behind_keyed_line, facts_by_lines}

-- ---- rows below a line, lexemes after others

-- a token whose lines count from this one on
abbrev pub token_below : ℕ → Token → Token
token_below line x = record { kind = x.kind; start = record { line = line + x.start.line; col = x.start.col }; end_line = line + x.end_line }

abbrev pub row_below : ℕ → List Token → List Token
row_below line xs = map (token_below line) xs

abbrev pub rows_below : ℕ → List (List Token) → List (List Token)
rows_below line rows = map (row_below line) rows

-- a symbol whose lexeme is counted after so many others
abbrev pub symbol_after : ℕ → Symbol → Symbol
symbol_after n (OpenSequence i) = OpenSequence (n + i)
symbol_after n (OpenMapping i) = OpenMapping (n + i)
symbol_after n (BeginKey i) = BeginKey (n + i)
symbol_after n Close = Close
symbol_after n (One kind i) = One kind (n + i)

-- ---- states

-- what a marker holds, without lines and counts
pub record MarkerState : Type 0 where
  pub depth : ℕ  -- how many brackets are open
  pub latest : Option Kind  -- the kind of the latest lexeme
  pub open_ones : List OpenBlock  -- the open block collections, the innermost first

abbrev pub marker_state : MarkerValue → MarkerState
marker_state m = record { depth = m.depth; latest = option_map (λ p. p.kind) m.latest; open_ones = m.open_ones }

-- the same with the facts that are ahead
pub record KeyMarkerState : Type 0 where
  pub marks : MarkerState
  pub ahead : KeyFacts

abbrev pub key_marker_state : KeyMarkerValue → KeyMarkerState
key_marker_state b = record { marks = marker_state b.marks; ahead = b.ahead }

-- the latest lexeme begins and ends above this line
abbrev pub IsAbove : ℕ → MarkerValue → Type 0
IsAbove line m = IfSome m.latest (λ p. (p.start.line < line) × (p.end_line < line))

-- ---- after rows

-- the summary of the lexemes of these rows too
abbrev pub after_rows : KeyMarkerValue → List (List Token) → KeyMarkerValue
after_rows b [] = b
after_rows b (x ∷ xs) = after_rows (behind_keyed_line b x) xs

-- the lexemes of these rows with their marks, where the document may go on
abbrev pub marks_of_rows : MarkerValue → List (List Token) → List Symbol
marks_of_rows b [] = []
marks_of_rows b (x ∷ xs) = marks_of_line b x ++ marks_of_rows (behind_line b x) xs

-- ---- the law

-- the same rows, below line i after the summary a, and below line j after the summary b: their
-- marks to the document's end and those of the rows alone, the facts about their lexemes, and the
-- states after them
pub record AreMarkedAlike (a b : KeyMarkerValue) (i j : ℕ) (rows : List (List Token)) : Type 0 where
  pub marks : map (symbol_after b.marks.count) (marks_by_lines a.marks (rows_below i rows)) ≡ map (symbol_after a.marks.count) (marks_by_lines b.marks (rows_below j rows))
  pub alone : map (symbol_after b.marks.count) (marks_of_rows a.marks (rows_below i rows)) ≡ map (symbol_after a.marks.count) (marks_of_rows b.marks (rows_below j rows))
  pub facts : facts_by_lines a (rows_below i rows) ≡ facts_by_lines b (rows_below j rows)
  pub after : key_marker_state (after_rows a (rows_below i rows)) ≡ key_marker_state (after_rows b (rows_below j rows))

-- rows after equal states are marked alike
abbrev pub MarksAreAlike : Type 0
MarksAreAlike = (a b : KeyMarkerValue) (i j : ℕ) (rows : List (List Token)) →
    key_marker_state a ≡ key_marker_state b → IsAbove i a.marks → IsAbove j b.marks → AreMarkedAlike a b i j rows

-- Bridge: the facts of a document, line by line, each line from its own lexemes alone.
use Rattle.std.specs.Prelude.{ℕ, Bool, ◌≡◌, ◌≢◌, ◌+◌, ◌-◌, nat_lt, List, [], ◌∷◌, ◌++◌, length, Option, Some, None, slice_get, slice_index}
use Rattle.std.specs.List.{AllByRecursion}
use Rattle.yl_marks.specs.declared.token.Token.{Token}
use Rattle.yl_marks.specs.declared.symbol.Collection.TheVariants.{Sequence, Mapping}
use Rattle.yl_marks.specs.declared.symbol.Symbol.{Symbol}
use Rattle.yl_marks.specs.declared.symbol.Symbol.TheVariants.{OpenSequence, OpenMapping, BeginKey, Close, One}
use Rattle.yl_marks.specs.Marks.{column_at}
use Rattle.yl_indentation.specs.declared.element.Element.{Element}
use Rattle.yl_indentation.specs.declared.element.Element.TheVariants.{Opening, Closing, Nothing}
use Rattle.yl_indentation.specs.Elements.{element_at}
use Rattle.yl_indentation.specs.SlimElements.{slim_element}

-- there are no lexemes, or the first of them begins in another line
abbrev pub BeginElsewhere : ℕ → List Token → Type 0
BeginElsewhere line [] = Unit {0}
BeginElsewhere line (x ∷ xs) = x.start.line ≢ line

-- these are the lexemes of one line of a document, with `first` lexemes before them
pub record IsLine (tokens : List Token) (first : ℕ) (xs : List Token) : Type 0 where
  pub before : List Token
  pub rest : List Token
  pub line : ℕ
  pub parts : tokens ≡ before ++ (xs ++ rest)
  pub count : length before ≡ first
  pub here : AllByRecursion (λ x. x.start.line ≡ line) xs
  pub elsewhere : BeginElsewhere line rest

-- each line in which one of these lexemes begins has `n` spaces at its beginning
abbrev pub AreIndented : List ℕ → ℕ → List Token → Type 0
AreIndented indentations n xs = AllByRecursion (λ x. slice_index indentations x.start.line ≡ n) xs

-- each symbol that names a lexeme, except a mark that a key begins, names an index with the
-- property `Is`
abbrev pub NameIndices : (ℕ → Type 0) → List Symbol → Type 0
NameIndices Is [] = Unit {0}
NameIndices Is (OpenSequence i ∷ ws) = Is i × NameIndices Is ws
NameIndices Is (OpenMapping i ∷ ws) = Is i × NameIndices Is ws
NameIndices Is (BeginKey i ∷ ws) = NameIndices Is ws
NameIndices Is (Close ∷ ws) = NameIndices Is ws
NameIndices Is (One kind i ∷ ws) = Is i × NameIndices Is ws

-- ---- from the lexemes of the line alone

-- a lexeme of the line, with the lexeme after it in the line
abbrev pub lexeme_in_line : List Token → ℕ → Bool → ℕ → Option Token → Element
lexeme_in_line xs i counts n None = Nothing
lexeme_in_line xs i counts n (Some x) =
    element_at x.kind (record { token = x; next = slice_get xs (i + 1); indentation = n; counts = counts })

-- the element of a symbol in a line, with `first` lexemes before the line and `n` spaces at its
-- beginning
abbrev pub element_in_line : List Token → ℕ → ℕ → ℕ → Symbol → Option Element
element_in_line xs first counted n (OpenSequence i) = Some (Opening Sequence (column_at xs (i - first)))
element_in_line xs first counted n (OpenMapping i) = Some (Opening Mapping (column_at xs (i - first)))
element_in_line xs first counted n (BeginKey i) = None
element_in_line xs first counted n Close = Some Closing
element_in_line xs first counted n (One kind i) =
    Some (slim_element (lexeme_in_line xs (i - first) (nat_lt i counted) n (slice_get xs (i - first))))

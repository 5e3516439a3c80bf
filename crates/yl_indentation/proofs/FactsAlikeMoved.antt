-- The elements of rows, wherever the rows stand.
use Rattle.std.proofs.Common.{◌≡◌, ◌+◌, refl, ◌∙◌, ap, arith, ℕ, suc, Bool, List, [], ◌∷◌, ◌++◌, length, map, Option, Some, None, option_map}
use Rattle.std.specs.Prelude.{nat_lt, slice_get, slice_index}
use Rattle.std.specs.Option.{option_map_or}
use Rattle.std.proofs.lemmas.List.{get_or-append-add}
use Rattle.std.proofs.lemmas.Option.{slice_get-map}
use Rattle.std.proofs.lemmas.Bool.Decides.{nat_tests}
use Rattle.yl_lexeme.specs.declared.lexeme.Kind.{Kind}
use Rattle.yl_lexeme.specs.declared.lexeme.Kind.TheVariants.{DocStart, DocEnd, SeqOpen, SeqClose, MapOpen, MapClose}
use Rattle.yl_marks.specs.declared.token.Token.{Token}
use Rattle.yl_marks.specs.declared.symbol.Collection.TheVariants.{Sequence, Mapping}
use Rattle.yl_marks.specs.declared.symbol.Symbol.{Symbol}
use Rattle.yl_marks.specs.declared.symbol.Symbol.TheVariants.{OpenSequence, OpenMapping, BeginKey, Close, One}
use Rattle.yl_marks.specs.Marks.{column_at}
use Rattle.yl_indentation.specs.declared.element.Site.{Site}
use Rattle.yl_indentation.specs.declared.element.Element.{Element}
use Rattle.yl_indentation.specs.declared.element.Element.TheVariants.{Opening, Closing, Marker, OpeningBracket, ClosingBracket, Other, Nothing}
use Rattle.yl_indentation.specs.Elements.{element_at, lexeme_element}
use Rattle.yl_indentation.specs.SlimElements.{slim_element}
use Rattle.yl_indentation.specs.SymbolFacts.{element_of_symbol}
use Rattle.yl_marks.specs.MarksAlike.{token_below, symbol_after}
use Rattle.yl_indentation.specs.FactsAlike.{with_earlier}

-- ---- a lexeme with what stands around it, and an element, this many lines below

abbrev pub site_below : ℕ → Site → Site
site_below n s = record { token = token_below n s.token; next = option_map (token_below n) s.next; indentation = s.indentation; counts = s.counts }

abbrev pub element_below : ℕ → Element → Element
element_below n (Opening collection column) = Opening collection column
element_below n Closing = Closing
element_below n (Marker s) = Marker (site_below n s)
element_below n (OpeningBracket s) = OpeningBracket (site_below n s)
element_below n (ClosingBracket s) = ClosingBracket (site_below n s)
element_below n (Other s) = Other (site_below n s)
element_below n Nothing = Nothing

abbrev site : Token → Option Token → ℕ → Bool → Site
site x next spaces counts = record { token = x; next = next; indentation = spaces; counts = counts }

at_kind : (n : ℕ) (kind : Kind) (s : Site) → slim_element (element_at kind (site_below n s)) ≡ element_below n (slim_element (element_at kind s))
at_kind n DocStart s = refl
at_kind n DocEnd s = refl
at_kind n SeqOpen s = refl
at_kind n MapOpen s = refl
at_kind n SeqClose s = refl
at_kind n MapClose s = refl
at_kind n _ s = refl

-- ---- places after a list, and numbers that grow by the same

got_after : {X : Type 0} (xs ys : List X) (i : ℕ) → slice_get (xs ++ ys) (length xs + i) ≡ slice_get ys i
got_after [] ys i = ap (slice_get ys) (omega arith)
got_after (x ∷ xs) ys i =
    let next : suc (length xs) + i ≡ suc (length xs + i) = omega arith in
    ap (slice_get (x ∷ (xs ++ ys))) next ∙ got_after xs ys i

pub same_order : (n a b : ℕ) → nat_lt (n + a) (n + b) ≡ nat_lt a b
same_order n a b = grind (arith, nat_tests)

-- ---- the rows' elements, after these lexemes and lines

module _ (earlier : List Token) (above : List ℕ) (tokens : List Token) (lines : List ℕ) where
  got_token : (i : ℕ) → slice_get (with_earlier earlier above tokens) (length earlier + i) ≡ option_map (token_below (length above)) (slice_get tokens i)
  got_token i = got_after earlier (map (token_below (length above)) tokens) i ∙ slice_get-map (token_below (length above)) tokens i

  got_next : (i : ℕ) → slice_get (with_earlier earlier above tokens) (length earlier + i + 1) ≡ option_map (token_below (length above)) (slice_get tokens (i + 1))
  got_next i =
      let next : length earlier + i + 1 ≡ length earlier + (i + 1) = omega arith in
      ap (slice_get (with_earlier earlier above tokens)) next ∙ got_token (i + 1)

  same_spaces : (line : ℕ) → slice_index (above ++ lines) (length above + line) ≡ slice_index lines line
  same_spaces line = get_or-append-add above lines line 0

  column_of : (o : Option Token) → option_map_or (λ (x : Token). x.start.col) (option_map (token_below (length above)) o) 0 ≡ option_map_or (λ (x : Token). x.start.col) o 0
  column_of None = refl
  column_of (Some x) = refl

  same_column : (i : ℕ) → column_at (with_earlier earlier above tokens) (length earlier + i) ≡ column_at tokens i
  same_column i = ap (λ o. option_map_or (λ (x : Token). x.start.col) o 0) (got_token i) ∙ column_of (slice_get tokens i)

  same_site : (counted i : ℕ) (x : Token) →
      site (token_below (length above) x) (slice_get (with_earlier earlier above tokens) (length earlier + i + 1)) (slice_index (above ++ lines) (length above + x.start.line)) (nat_lt (length earlier + i) (length earlier + counted))
      ≡ site_below (length above) (site x (slice_get tokens (i + 1)) (slice_index lines x.start.line) (nat_lt i counted))
  same_site counted i x =
      let y = token_below (length above) x in
      let spaces = slice_index (above ++ lines) (length above + x.start.line) in
      let next = option_map (token_below (length above)) (slice_get tokens (i + 1)) in
      ap (λ o. site y o spaces (nat_lt (length earlier + i) (length earlier + counted))) (got_next i)
      ∙ ap (λ k. site y next k (nat_lt (length earlier + i) (length earlier + counted))) (same_spaces x.start.line)
      ∙ ap (site y next (slice_index lines x.start.line)) (same_order (length earlier) i counted)

  lexeme_moved : (counted i : ℕ) (o : Option Token) →
      slim_element (lexeme_element (with_earlier earlier above tokens) (length earlier + counted) (above ++ lines) (length earlier + i) (option_map (token_below (length above)) o))
      ≡ element_below (length above) (slim_element (lexeme_element tokens counted lines i o))
  lexeme_moved counted i None = refl
  lexeme_moved counted i (Some x) =
      ap (λ s. slim_element (element_at x.kind s)) (same_site counted i x)
      ∙ at_kind (length above) x.kind (site x (slice_get tokens (i + 1)) (slice_index lines x.start.line) (nat_lt i counted))

  -- the element of a symbol is that of the rows by themselves, further down
  pub symbol_moved : (counted : ℕ) (w : Symbol) →
      element_of_symbol (with_earlier earlier above tokens) (length earlier + counted) (above ++ lines) (symbol_after (length earlier) w)
      ≡ option_map (element_below (length above)) (element_of_symbol tokens counted lines w)
  symbol_moved counted (OpenSequence i) = ap (λ k. Some (Opening Sequence k)) (same_column i)
  symbol_moved counted (OpenMapping i) = ap (λ k. Some (Opening Mapping k)) (same_column i)
  symbol_moved counted (BeginKey i) = refl
  symbol_moved counted Close = refl
  symbol_moved counted (One kind i) =
      ap (λ o. Some (slim_element (lexeme_element (with_earlier earlier above tokens) (length earlier + counted) (above ++ lines) (length earlier + i) o))) (got_token i)
      ∙ ap Some (lexeme_moved counted i (slice_get tokens i))

-- The keyed lexemes of a row, after two summaries that say the same of it: they are equal, except
-- for their lines and the indices of their keys.
use Rattle.std.proofs.Common.{◌≡◌, ◌+◌, ◌<◌, ℕ, suc, Bool, true, false, cond, not, ◌&&◌, ◌||◌, List, [], ◌∷◌, Option, Some, None, is_some, refl, sym, ◌∙◌, ap, arith, eqb, ltb, map}
use Rattle.std.specs.Prelude.{option_map, IfSome}
use Rattle.std.specs.Option.{option_map_or}
use Rattle.std.proofs.lemmas.Bool.{lt-ltb, ne_eqb}
use Rattle.yl_lexeme.specs.declared.lexeme.Kind.{Kind}
use Rattle.yl_lexeme.specs.Lexeme.{is_entry, is_key, is_value}
use Rattle.yl_lexeme.specs.Past.{opens_item, asks_behind, is_near}
use Rattle.yl_lexeme.specs.Keys.{Spot, key_start}
use Rattle.yl_marks.specs.declared.token.Token.{Token}
use Rattle.yl_marks.specs.declared.symbol.KeyedToken.{KeyedToken}
use Rattle.yl_marks.specs.declared.symbol.KeyStart.{KeyStart}
use Rattle.yl_marks.specs.Keys.{depth_behind, is_first, may_begin, place_of, key_at, keyed_token_at}
use Rattle.yl_marks.specs.ByLine.{line_pieces, depth_behind_all, latest_of}
use Rattle.yl_marks.specs.MarksAlike.{token_below, row_below}
use Rattle.yl_marks.proofs.MarksAlikeKeys.{same_order, same_place, is_some-map, spot_by, key_start_moved}

-- ---- a keyed lexeme without its lines, whose key is counted after so many lexemes

abbrev pub key_after : ℕ → Option ℕ → Option ℕ
key_after n key = option_map (λ k. n + k) key

abbrev piece_of : Kind → ℕ → ℕ → Bool → Bool → Option ℕ → KeyedToken
piece_of kind column depth first begins key =
    record { kind = kind; start = record { line = 0; col = column }; end_line = 0; depth = depth; is_first = first; may_begin = begins; key = key }

abbrev pub piece_after : ℕ → KeyedToken → KeyedToken
piece_after n p = piece_of p.kind p.start.col p.depth p.is_first p.may_begin (key_after n p.key)

abbrev pub pieces_after : ℕ → List KeyedToken → List KeyedToken
pieces_after n ps = map (piece_after n) ps

-- ---- places of keys

abbrev start_after : ℕ → KeyStart → KeyStart
start_after n k = record { index = n + k.index; column = k.column }

abbrev spots_after : ℕ → List (Spot KeyStart) → List (Spot KeyStart)
spots_after n line = map (spot_by (start_after n)) line

key_near : (n : ℕ) (b : Bool) (i : ℕ) → key_after n (cond b (Some i) None) ≡ cond b (Some (n + i)) None
key_near n true i = refl
key_near n false i = refl

key_at_moved : (n column : ℕ) (k : Option KeyStart) → key_after n (key_at column k) ≡ key_at column (option_map (start_after n) k)
key_at_moved n column None = refl
key_at_moved n column (Some k) = key_near n (is_near column k.column) k.index

key_if_value : (n : ℕ) (b : Bool) (o : Option ℕ) → key_after n (cond b o None) ≡ cond b (key_after n o) None
key_if_value n true o = refl
key_if_value n false o = refl

place_moved : (n i column : ℕ) (b : Bool) → option_map (start_after n) (cond b (Some (record { index = i; column = column })) None) ≡ cond b (Some (record { index = n + i; column = column })) None
place_moved n i column true = refl
place_moved n i column false = refl

-- ---- the latest lexemes on two sides say the same of a row below

abbrev asks_in : ℕ → Option KeyedToken → Bool
asks_in line latest = option_map_or (λ x. eqb x.start.line line && asks_behind x.kind x.key) latest false

pub record AreLatestAlike (i j : ℕ) (l m : Option KeyedToken) : Type 0 where
  pub kinds : option_map (λ p. p.kind) l ≡ option_map (λ p. p.kind) m
  pub firsts : (n : ℕ) → is_first (i + n) l ≡ is_first (j + n) m
  pub asked : (n : ℕ) → asks_in (i + n) l ≡ asks_in (j + n) m

first_above : (i : ℕ) (l : Option KeyedToken) → IfSome l (λ p. (p.start.line < i) × (p.end_line < i)) → (n : ℕ) → is_first (i + n) l ≡ true
first_above i None h n = refl
first_above i (Some p) h n = let e = h.1 in lt-ltb p.end_line (i + n) (omega arith)

asks_above : (i : ℕ) (l : Option KeyedToken) → IfSome l (λ p. (p.start.line < i) × (p.end_line < i)) → (n : ℕ) → asks_in (i + n) l ≡ false
asks_above i None h n = refl
asks_above i (Some p) h n = let s = h.0 in ap (λ b. b && asks_behind p.kind p.key) (ne_eqb p.start.line (i + n) (omega arith))

pub above_alike : (i j : ℕ) (l m : Option KeyedToken) → option_map (λ p. p.kind) l ≡ option_map (λ p. p.kind) m →
    IfSome l (λ p. (p.start.line < i) × (p.end_line < i)) → IfSome m (λ p. (p.start.line < j) × (p.end_line < j)) → AreLatestAlike i j l m
above_alike i j l m kinds g h = record {
  kinds = kinds;
  firsts = λ n. first_above i l g n ∙ sym (first_above j m h n);
  asked = λ n. asks_above i l g n ∙ sym (asks_above j m h n);
}

-- ---- one lexeme

module _ (na nb i j : ℕ) where
  may_begin_alike : (d e : ℕ) (l m : Option KeyedToken) → d ≡ e → AreLatestAlike i j l m → (n : ℕ) → may_begin (i + n) d l ≡ may_begin (j + n) e m
  may_begin_alike d e l m deep h n =
      ap (λ k. cond (ltb 0 d) (opens_item k) (is_first (i + n) l || asks_in (i + n) l)) h.kinds
      ∙ ap (λ b. cond (ltb 0 d) (opens_item (option_map (λ p. p.kind) m)) (b || asks_in (i + n) l)) (h.firsts n)
      ∙ ap (λ b. cond (ltb 0 d) (opens_item (option_map (λ p. p.kind) m)) (is_first (j + n) m || b)) (h.asked n)
      ∙ ap (λ k. may_begin (j + n) k m) deep

  key_alike : (x : Token) (k o : Option KeyStart) → option_map (start_after na) k ≡ option_map (start_after nb) o →
      key_after na (cond (is_value x.kind) (key_at x.start.col k) None) ≡ key_after nb (cond (is_value x.kind) (key_at x.start.col o) None)
  key_alike x k o h =
      key_if_value na (is_value x.kind) (key_at x.start.col k)
      ∙ ap (λ q. cond (is_value x.kind) q None) (key_at_moved na x.start.col k ∙ ap (key_at x.start.col) h ∙ sym (key_at_moved nb x.start.col o))
      ∙ sym (key_if_value nb (is_value x.kind) (key_at x.start.col o))

  module _ (d e : ℕ) (l m : Option KeyedToken) (x : Token) (k o : Option KeyStart) (deep : d ≡ e) (latest : AreLatestAlike i j l m)
      (keys : option_map (start_after na) k ≡ option_map (start_after nb) o) where
    abbrev left : KeyedToken
    left = keyed_token_at (token_below i x) d l k

    abbrev right : KeyedToken
    right = keyed_token_at (token_below j x) e m o

    begins_alike : left.may_begin ≡ right.may_begin
    begins_alike = may_begin_alike d e l m deep latest x.start.line

    piece_alike : piece_after na left ≡ piece_after nb right
    piece_alike =
        ap (λ n. piece_of x.kind x.start.col n left.is_first left.may_begin (key_after na left.key)) deep
        ∙ ap (λ b. piece_of x.kind x.start.col e b left.may_begin (key_after na left.key)) (latest.firsts x.start.line)
        ∙ ap (λ b. piece_of x.kind x.start.col e right.is_first b (key_after na left.key)) begins_alike
        ∙ ap (piece_of x.kind x.start.col e right.is_first right.may_begin) (key_alike x k o keys)

    has_key_alike : is_some left.key ≡ is_some right.key
    has_key_alike = sym (is_some-map (λ n. na + n) left.key) ∙ ap (λ q. is_some q) (key_alike x k o keys) ∙ is_some-map (λ n. nb + n) right.key

    latest_alike : AreLatestAlike i j (Some left) (Some right)
    latest_alike = record {
      kinds = refl;
      firsts = λ n. same_order i x.end_line n ∙ sym (same_order j x.end_line n);
      asked = λ n.
          ap (λ b. b && asks_behind x.kind left.key) (same_place i x.start.line n ∙ sym (same_place j x.start.line n))
          ∙ ap (λ b. eqb (j + x.start.line) (j + n) && (is_entry x.kind || is_key x.kind || (is_value x.kind && not b))) has_key_alike;
    }

    place_alike : (c c' : ℕ) → na + c ≡ nb + c' → option_map (start_after na) (place_of c left) ≡ option_map (start_after nb) (place_of c' right)
    place_alike c c' count =
        place_moved na c x.start.col left.may_begin
        ∙ ap (λ b. cond b (Some (record { index = na + c; column = x.start.col })) None) begins_alike
        ∙ ap (λ n. cond right.may_begin (Some (record { index = n; column = x.start.col })) None) count
        ∙ sym (place_moved nb c' x.start.col right.may_begin)

  -- ---- a row

  pub record ArePiecesAlike (ps qs : List KeyedToken) (l m : Option KeyedToken) : Type 0 where
    pub pieces : pieces_after na ps ≡ pieces_after nb qs
    pub latest : AreLatestAlike i j (latest_of l ps) (latest_of m qs)

  starts_alike : (s t : List (Spot KeyStart)) → spots_after na s ≡ spots_after nb t → option_map (start_after na) (key_start s) ≡ option_map (start_after nb) (key_start t)
  starts_alike s t h = sym (key_start_moved KeyStart KeyStart (start_after na) s) ∙ ap (λ u. key_start u) h ∙ key_start_moved KeyStart KeyStart (start_after nb) t

  pub pieces_alike : (c c' d e : ℕ) (l m : Option KeyedToken) (s t : List (Spot KeyStart)) (xs : List Token) → na + c ≡ nb + c' → d ≡ e → AreLatestAlike i j l m →
      spots_after na s ≡ spots_after nb t → ArePiecesAlike (line_pieces c d l s (row_below i xs)) (line_pieces c' e m t (row_below j xs)) l m
  pieces_alike c c' d e l m s t [] count deep latest spots = record { pieces = refl; latest = latest }
  pieces_alike c c' d e l m s t (x ∷ xs) count deep latest spots =
      let keys : option_map (start_after na) (key_start s) ≡ option_map (start_after nb) (key_start t) = starts_alike s t spots in
      let p = left d e l m x (key_start s) (key_start t) deep latest keys in
      let q = right d e l m x (key_start s) (key_start t) deep latest keys in
      let s' : List (Spot KeyStart) = record { kind = x.kind; start = place_of c p } ∷ s in
      let t' : List (Spot KeyStart) = record { kind = x.kind; start = place_of c' q } ∷ t in
      let spots' : spots_after na s' ≡ spots_after nb t' =
      ap (λ o. record { kind = x.kind; start = o } ∷ spots_after na s) (place_alike d e l m x (key_start s) (key_start t) deep latest keys c c' count)
      ∙ ap (λ u. record { kind = x.kind; start = option_map (start_after nb) (place_of c' q) } ∷ u) spots in
      let rest = pieces_alike (suc c) (suc c') (depth_behind x.kind d) (depth_behind x.kind e) (Some p) (Some q) s' t' xs (omega arith) (ap (depth_behind x.kind) deep)
      (latest_alike d e l m x (key_start s) (key_start t) deep latest keys) spots' in
      record {
        pieces = ap (λ r. r ∷ pieces_after na (line_pieces (suc c) (depth_behind x.kind d) (Some p) s' (row_below i xs)))
            (piece_alike d e l m x (key_start s) (key_start t) deep latest keys)
            ∙ ap (λ rs. piece_after nb q ∷ rs) rest.pieces;
        latest = rest.latest;
      }

pub depth_below : (line d : ℕ) (xs : List Token) → depth_behind_all d (row_below line xs) ≡ depth_behind_all d xs
depth_below line d [] = refl
depth_below line d (x ∷ xs) = depth_below line (depth_behind x.kind d) xs

-- A section in pieces of which the first rows are left: its last piece has fewer rows.
use Rattle.std.proofs.Common.{◌≡◌, ◌<◌, ◌≤◌, ◌+◌, ℕ, zero, suc, List, [], ◌∷◌, ◌++◌, length, map, take, drop, Option, Some, None, refl, ap, sym, subst, ◌∙◌, arith, rules, append-nil}
use Rattle.std.specs.Prelude.{option_map, slice_get}
use Rattle.std.specs.List.{AllByRecursion}
use Rattle.std.proofs.lemmas.List.{length-drop, length-take-le, map-append, places, same_lists}
use Rattle.std.proofs.Math.ListN.{drop_of_length-le}
use Rattle.yl_text.specs.Finding.{FindingValue}
use Rattle.yl_text.proofs.Every.{all_back, all_both, all_front}
use Rattle.yl_lexeme.specs.Lexeme.{PlacedCommentValue}
use Rattle.yl_indentation.specs.declared.fact.Fact.{Fact}
use Rattle.yl_indentation.specs.FactsAlike.{fact_below}
use Rattle.yl_config.specs.declared.config.Config.{Config}
use Rattle.yl_record.specs.Records.{RecordValue}
use Rattle.yl_sections.specs.Front.{IsFront}
use Rattle.yl_sections.specs.Judge.{kept_of_section}
use Rattle.yl_sections.specs.Kept.{KeptValue, rows_kept}
use Rattle.yl_sections.proofs.FrontRows.{front_judged}
use Rattle.yl_sections.proofs.Own.{OfSectionRules, own_found, own_kept_comments, own_kept_facts}
use Rattle.yl_pieces.specs.State.{DocumentState}
use Rattle.yl_lint.specs.TextReport.{moved, moved_comment}
use Rattle.yl_piece_reports.specs.Cuts.{HaveSameMembers, IsFaultless, IsInPieces, items_in}
use Rattle.yl_piece_reports.specs.Plain.{IsWithin, StandsWithin}
use Rattle.yl_piece_reports.proofs.Same.{all_from_in, are_same, in_from_all}
use Rattle.yl_section_pieces.specs.Pieces.{ArePiecesOf, BeginsWithLexeme, IsBefore, IsKeptInPieces, PieceValue, summaries}
use Rattle.yl_section_pieces.proofs.PieceRuns.{pieces_within}
use Rattle.yl_piece_list.specs.Anew.{with_rows}

-- ---- rows

module _ {X : Type 0} where
  pub taken_again : (xs : List X) (a b : ℕ) → a ≤ b → take a (take b xs) ≡ take a xs
  taken_again xs a b o = same_lists _ _ (search (rules, places)) (λ k d h. grind (arith, places))

  pub dropped_of_taken : (xs : List X) (a m : ℕ) → drop a (take (a + m) xs) ≡ take m (drop a xs)
  dropped_of_taken xs a m = same_lists _ _ (search (rules, places)) (λ k d h. grind (arith, places))

-- ---- what stands in the pieces

module _ {X : Type 0} (down : ℕ → X → X) (items : KeptValue → List X) where
  items_same : (ks : List KeptValue) (j k : KeptValue) (line : ℕ) → items j ≡ items k
      → items_in down items line (ks ++ (j ∷ [])) ≡ items_in down items line (ks ++ (k ∷ []))
  items_same [] j k line e = ap (λ (xs : List X). map (down line) xs ++ []) e
  items_same (i ∷ ks) j k line e = ap (λ (xs : List X). map (down line) (items i) ++ xs) (items_same ks j k (line + i.rows) e)

  -- those of the last piece
  items_last : (P : X → Type 0) (ks : List KeptValue) (k : KeptValue) (line n : ℕ) → line + rows_kept ks ≡ n
      → AllByRecursion P (items_in down items line (ks ++ (k ∷ []))) → AllByRecursion P (map (down n) (items k))
  items_last P [] k line n e h =
      let same : line ≡ n = omega (arith, e) in
      subst (λ (m : ℕ). AllByRecursion P (map (down m) (items k))) same (all_front P (map (down line) (items k)) [] h)
  items_last P (i ∷ ks) k line n e h =
      items_last P ks k (line + i.rows) n (omega (arith, e))
      (all_back P (map (down line) (items i)) (items_in down items (line + i.rows) (ks ++ (k ∷ []))) h)

found_within : (r m own : ℕ) (fs : List FindingValue) → AllByRecursion (IsWithin (r + m)) (map (moved r) fs) → AllByRecursion (IsWithin own) fs
    → AllByRecursion (IsWithin m) fs
found_within r m own [] h g = tt
found_within r m own (f ∷ fs) h g = ((g.0.0, let low = h.0.1 in omega (arith, low)), found_within r m own fs h.1 g.1)

facts_within : (r m : ℕ) (fs : List Fact) → AllByRecursion (λ f. f.line < r + m) (map (fact_below r) fs) → AllByRecursion (λ f. f.line < m) fs
facts_within r m [] h = tt
facts_within r m (f ∷ fs) h = (let low = h.0 in omega (arith, low), facts_within r m fs h.1)

comments_within : (r m : ℕ) (cs : List PlacedCommentValue) → AllByRecursion (λ c. c.line < r + m) (map (moved_comment r) cs)
    → AllByRecursion (λ c. c.line < m) cs
comments_within r m [] h = tt
comments_within r m (c ∷ cs) h = (let low = h.0 in omega (arith, low), comments_within r m cs h.1)

-- ---- summaries, of which the last one is another

first_same : (ks : List KeptValue) (j k : KeptValue) → j.first ≡ k.first
    → option_map (λ p. p.first) (slice_get (ks ++ (j ∷ [])) 0) ≡ option_map (λ p. p.first) (slice_get (ks ++ (k ∷ [])) 0)
first_same [] j k e = ap (λ (n : ℕ). Some n) e
first_same (i ∷ ks) j k e = refl

rows_last : (ks : List KeptValue) (j : KeptValue) → rows_kept (ks ++ (j ∷ [])) ≡ rows_kept ks + j.rows
rows_last [] j = omega arith
rows_last (k ∷ ks) j = let more = rows_last ks j in omega (arith, more)

-- ---- the pieces of the rows

begins_taken : (rs : List RecordValue) (n : ℕ) → 0 < n → BeginsWithLexeme rs → BeginsWithLexeme (take n rs)
begins_taken rs zero some h = absurd (omega (arith, some))
begins_taken [] (suc n) some h = h
begins_taken (r ∷ rs) (suc n) some h = h

before_taken : (front rest : List RecordValue) (n : ℕ) (k j : KeptValue) (b : Option DocumentState) → 0 < n → j.first ≡ k.first
    → IsBefore front rest k b → IsBefore front (take n rest) j b
before_taken front rest n k j None some e h = h
before_taken front rest n k j (Some s) some e h = (h.0, (begins_taken rest n some h.1.0, e ∙ h.1.1))

module _ (x : PieceValue) (j : KeptValue) (some : 0 < j.rows) (within : StandsWithin j) (same : j.first ≡ x.kept.first) where
  abbrev y : PieceValue
  y = record { kept = j; before = x.before }

  pieces_taken : (front rest : List RecordValue) (above : List PieceValue) (n : ℕ) → n ≡ rows_kept (summaries above) + j.rows → n ≤ length rest
      → ArePiecesOf front rest (above ++ (x ∷ [])) → ArePiecesOf front (take n rest) (above ++ (record { kept = j; before = x.before } ∷ []))
  pieces_taken front rest [] n e few h =
      let long = length-take-le n rest few in (
        record {
          rows = omega (arith, e, long);
          some = some;
          within = within;
          before = before_taken front rest n x.kept j x.before (omega (arith, e, some)) same h.0.before;
        },
        drop_of_length-le (take n rest) {i = j.rows} (omega (arith, e, long)),
      )
  pieces_taken front rest (a ∷ above) n e few h =
      let k = a.kept.rows in
      let m = rows_kept (summaries above) + j.rows in
      let long = length-take-le n rest few in
      let sum : n ≡ k + m = omega (arith, e) in
      let first : take k (take n rest) ≡ take k rest = taken_again rest k n (omega (arith, sum)) in
      let later : drop k (take n rest) ≡ take m (drop k rest) = ap (λ (i : ℕ). drop k (take i rest)) sum ∙ dropped_of_taken rest k m in (
        record {
          rows = omega (arith, sum, long);
          some = h.0.some;
          within = h.0.within;
          before = before_taken front rest n a.kept a.kept a.before (omega (arith, sum, some)) refl h.0.before;
        },
        subst (λ (rs : List RecordValue). ArePiecesOf (front ++ rs) (drop k (take n rest)) (above ++ (y ∷ []))) (sym first)
            (subst (λ (rs : List RecordValue). ArePiecesOf (front ++ take k rest) rs (above ++ (y ∷ []))) (sym later)
            (pieces_taken (front ++ take k rest) (drop k rest) above m refl (omega (arith, sum, few, length-drop k rest)) h.1)),
      )

-- ---- the section

-- whatever the rule
any_rule : OfSectionRules (λ rule. Unit {0})
any_rule = record {
  lexemes = record { braces = tt; brackets = tt; colons = tt; commas = tt; document_start = tt; hyphens = tt; quoted_strings = tt; truthy = tt };
  comments = tt;
  events = record { anchors = tt; key_duplicates = tt; key_ordering = tt };
}

section_found : (config : Config) (rs : List RecordValue) → AllByRecursion (IsWithin (length rs)) (kept_of_section config rs).found
section_found config rs = own_found (λ rule. Unit {0}) any_rule config rs (IsWithin (length rs)) (λ rule line column text k h. (omega arith, omega (arith, h)))

module _ (config : Config) (rs : List RecordValue) (above : List PieceValue) (x : PieceValue) (m : ℕ) (some : 0 < m)
    (kept : IsKeptInPieces config rs (above ++ (x ∷ []))) (few : rows_kept (summaries above) + m ≤ length rs)
    (front : IsFront (rows_kept (summaries above) + m) rs) where
  abbrev r : ℕ
  r = rows_kept (summaries above)

  abbrev n : ℕ
  n = rows_kept (summaries above) + m

  abbrev k : KeptValue
  k = kept_of_section config rs

  abbrev ks : List KeptValue
  ks = summaries above

  abbrev j : KeptValue
  j = with_rows m x.kept

  cut : IsInPieces (kept_of_section config rs) (summaries above ++ (x.kept ∷ []))
  cut = subst (λ (js : List KeptValue). IsInPieces k js) (map-append (λ (p : PieceValue). p.kept) above (x ∷ [])) kept.cut

  -- what is kept of the rows that are left
  abbrev now : KeptValue
  now = record {
    rows = n;
    first = k.first;
    found = k.found ++ k.hidden;
    facts = k.facts;
    comments = k.comments;
    fault = k.parse_fault;
    hidden = [];
    parse_fault = k.parse_fault;
  }

  now_is : now ≡ kept_of_section config (take n rs)
  now_is = front_judged config rs n k (k.found ++ k.hidden) now few front refl refl refl

  long : length (take n rs) ≡ n
  long = length-take-le n rs few

  none_hidden : k.found ++ k.hidden ≡ k.found
  none_hidden = ap (λ (hs : List FindingValue). k.found ++ hs) cut.whole.hidden ∙ append-nil k.found

  -- ---- it stands within

  line_is : 0 + rows_kept ks ≡ r
  line_is = omega arith

  own : StandsWithin x.kept
  own =
      let all = subst (λ (js : List KeptValue). AllByRecursion StandsWithin js) (map-append (λ (p : PieceValue). p.kept) above (x ∷ []))
      (pieces_within [] rs (above ++ (x ∷ [])) kept.pieces) in
      (all_back StandsWithin ks (x.kept ∷ []) all).0

  found_in_rows : AllByRecursion (IsWithin n) k.found
  found_in_rows =
      subst (λ (fs : List FindingValue). AllByRecursion (IsWithin n) fs) (sym (ap (λ (i : KeptValue). i.found) now_is) ∙ none_hidden)
      (subst (λ (l : ℕ). AllByRecursion (IsWithin l) (kept_of_section config (take n rs)).found) long (section_found config (take n rs)))

  facts_in_rows : AllByRecursion (λ f. f.line < n) k.facts
  facts_in_rows =
      subst (λ (fs : List Fact). AllByRecursion (λ f. f.line < n) fs) (sym (ap (λ (i : KeptValue). i.facts) now_is))
      (subst (λ (l : ℕ). AllByRecursion (λ f. f.line < l) (kept_of_section config (take n rs)).facts) long (own_kept_facts config (take n rs)))

  comments_in_rows : AllByRecursion (λ c. c.line < n) k.comments
  comments_in_rows =
      subst (λ (cs : List PlacedCommentValue). AllByRecursion (λ c. c.line < n) cs) (sym (ap (λ (i : KeptValue). i.comments) now_is))
      (subst (λ (l : ℕ). AllByRecursion (λ c. c.line < l) (kept_of_section config (take n rs)).comments) long (own_kept_comments config (take n rs)))

  found_there : AllByRecursion (IsWithin n) (items_in moved (λ p. p.found) 0 (ks ++ (x.kept ∷ [])))
  found_there =
      let items = items_in moved (λ p. p.found) 0 (ks ++ (x.kept ∷ [])) in
      let same = are_same items k.found cut.found in
      all_from_in (IsWithin n) items (λ f i. in_from_all (IsWithin n) k.found found_in_rows f (same.there f i))

  within : StandsWithin j
  within = record {
    found = found_within r m x.kept.rows x.kept.found (items_last moved (λ p. p.found) (IsWithin n) ks x.kept 0 r line_is found_there) own.found;
    facts =
        facts_within r m x.kept.facts
        (items_last fact_below (λ p. p.facts) (λ f. f.line < n) ks x.kept 0 r line_is
        (subst (λ (fs : List Fact). AllByRecursion (λ f. f.line < n) fs) (sym cut.facts) facts_in_rows));
    comments =
        comments_within r m x.kept.comments
        (items_last moved_comment (λ p. p.comments) (λ c. c.line < n) ks x.kept 0 r line_is
        (subst (λ (cs : List PlacedCommentValue). AllByRecursion (λ c. c.line < n) cs) (sym cut.comments) comments_in_rows));
  }

  -- ---- the pieces

  cut_now : IsInPieces now (ks ++ (j ∷ []))
  cut_now = record {
    whole = record { fault = cut.whole.parse_fault; hidden = refl; parse_fault = cut.whole.parse_fault };
    parts = all_both IsFaultless ks (j ∷ []) (all_front IsFaultless ks (x.kept ∷ []) cut.parts) (record { fault = refl; hidden = refl; parse_fault = refl }, tt);
    first = first_same ks j x.kept refl ∙ cut.first;
    rows = rows_last ks j;
    found =
        subst (λ (fs : List FindingValue). HaveSameMembers (items_in moved (λ p. p.found) 0 (ks ++ (j ∷ []))) fs) (sym none_hidden)
        (subst (λ (fs : List FindingValue). HaveSameMembers fs k.found) (sym (items_same moved (λ p. p.found) ks j x.kept 0 refl)) cut.found);
    facts = items_same fact_below (λ p. p.facts) ks j x.kept 0 refl ∙ cut.facts;
    comments = items_same moved_comment (λ p. p.comments) ks j x.kept 0 refl ∙ cut.comments;
  }

  pub shorter_kept : IsKeptInPieces config (take (rows_kept (summaries above) + m) rs) (above ++ (record { kept = with_rows m x.kept; before = x.before } ∷ []))
  shorter_kept =
      let y : PieceValue = record { kept = j; before = x.before } in
      record {
        cut =
            subst (λ (i : KeptValue). IsInPieces i (summaries (above ++ (y ∷ [])))) now_is
            (subst (λ (js : List KeptValue). IsInPieces now js) (sym (map-append (λ (p : PieceValue). p.kept) above (y ∷ []))) cut_now);
        pieces = pieces_taken x j some within refl [] rs above n refl few kept.pieces;
      }

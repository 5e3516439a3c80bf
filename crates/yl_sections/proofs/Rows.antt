-- Loops over the rows of a section, by index.
use Rattle.std.proofs.Common.{◌≡◌, ℕ, zero, suc, ◌+◌, ◌<◌, ◌≤◌, Bool, true, false, cond, List, [], ◌∷◌, ◌++◌, length, map, drop, get_or, Option, Some, None, refl, ap, sym, ◌∙◌, append_assoc, add-one, arith, Bor}
use Rattle.std.proofs.Math.ListN.{drop_of_length-le}
use Rattle.std.proofs.lemmas.List.{length-append, length-map}
use Rattle.std.specs.Prelude.{is_some, min}
use Rattle.std.specs.Option.{option_map, option_or}
use Rattle.yl_lexeme.specs.declared.lexeme.Kind.{Kind}
use Rattle.yl_lexeme.specs.Lexeme.{LexemeValue, CommentValue, PlacedCommentValue}
use Rattle.yl_marks.specs.Keys.{lexeme_at_line}
use Rattle.yl_row.specs.declared.fault.PlacedScanFault.{PlacedScanFault}
use Rattle.yl_record.specs.Records.{RecordValue}
use Rattle.yl_sections.specs.declared.comments.LexemeEnd.{LexemeEnd}
use Rattle.yl_sections.specs.declared.fault.SectionFault.{SectionFault}
use Rattle.yl_sections.specs.Owned.{section_fault_value}
use Rattle.yl_sections.specs.Sections.{last_kind_from, is_section_start, row_count, lexemes_from}
use Rattle.yl_sections.specs.Kept.{SectionFaultValue, scan_fault_from, last_lexeme_end, comment_at, comments_from, scan_fault_at}

-- rows behind references
abbrev pub seen : List (Bor RecordValue) → List RecordValue
seen rs = map (λ r. r.now) rs

pub next : (rs : List (Bor RecordValue)) (i : ℕ) (x : Bor RecordValue) → i < length rs → x ≡ get_or rs i x → drop i (seen rs) ≡ x.now ∷ drop (i + 1) (seen rs)
next [] i x l e = absurd (omega (arith, l))
next (r ∷ rs) zero x l e = ap (λ (y : Bor RecordValue). y.now ∷ seen rs) (sym e)
next (r ∷ rs) (suc i) x l e = rw (add-one (suc i)) (next rs i x (omega (arith, l)) e ∙ ap (λ n. x.now ∷ drop n (seen rs)) (add-one i))

pub length-seen : (rs : List (Bor RecordValue)) → length (seen rs) ≡ length rs
length-seen [] = refl
length-seen (r ∷ rs) = ap suc (length-seen rs)

pub none_left : (rs : List (Bor RecordValue)) (i : ℕ) → length rs ≤ i → drop i (seen rs) ≡ []
none_left rs i l = drop_of_length-le (seen rs) {i = i} (omega (arith, l, length-seen rs))

-- ---- the scan fault

none_or : (line : ℕ) (f : Option PlacedScanFault) (later : Option SectionFaultValue) → None ≡ option_map (scan_fault_at line) f → option_or (option_map (scan_fault_at line) f) later ≡ later
none_or line None later e = refl
none_or line (Some f) later e = absurd (cc)

some_or : (line : ℕ) (f : Option PlacedScanFault) (later : Option SectionFaultValue) (r : SectionFaultValue) → Some r ≡ option_map (scan_fault_at line) f → option_or (option_map (scan_fault_at line) f) later ≡ Some r
some_or line None later r e = absurd (cc)
some_or line (Some f) later r e = sym e

abbrev counted_if : Bool → ℕ → ℕ
counted_if b n = cond b 0 (suc n)

module _ (rs : List (Bor RecordValue)) (i : ℕ) (x : Bor RecordValue) (within : i < length rs) (is : x ≡ get_or rs i x) where
  -- it is not in this row
  pub fault_below : (f : Option PlacedScanFault) (r total : Option SectionFaultValue) → f ≡ x.now.entry.fault → r ≡ option_map (scan_fault_at i) f → is_some r ≡ false
      → scan_fault_from i (drop i (seen rs)) ≡ total → scan_fault_from (i + 1) (drop (i + 1) (seen rs)) ≡ total
  fault_below f None total e found none whole =
      sym (none_or i f (scan_fault_from (i + 1) (drop (i + 1) (seen rs))) found)
      ∙ (ap (λ (g : Option PlacedScanFault). option_or (option_map (scan_fault_at i) g) (scan_fault_from (i + 1) (drop (i + 1) (seen rs)))) e
      ∙ (ap (λ (es : List RecordValue). scan_fault_from i es) (sym (next rs i x within is)) ∙ whole))
  fault_below f (Some r) total e found none whole = absurd (cc)

  -- it is
  pub fault_here : (f : Option PlacedScanFault) (r total : Option SectionFaultValue) → f ≡ x.now.entry.fault → r ≡ option_map (scan_fault_at i) f → is_some r ≡ true
      → scan_fault_from i (drop i (seen rs)) ≡ total → r ≡ total
  fault_here f None total e found some whole = absurd (cc)
  fault_here f (Some r) total e found some whole =
      sym (some_or i f (scan_fault_from (i + 1) (drop (i + 1) (seen rs))) r found)
      ∙ (ap (λ (g : Option PlacedScanFault). option_or (option_map (scan_fault_at i) g) (scan_fault_from (i + 1) (drop (i + 1) (seen rs)))) e
      ∙ (ap (λ (es : List RecordValue). scan_fault_from i es) (sym (next rs i x within is)) ∙ whole))

  -- ---- lexemes and comments

  pub lexemes_more : (ys new row total : List LexemeValue) → row ≡ x.now.entry.lexemes → new ≡ ys ++ map (lexeme_at_line i) row
      → ys ++ lexemes_from i (drop i (seen rs)) ≡ total → new ++ lexemes_from (i + 1) (drop (i + 1) (seen rs)) ≡ total
  lexemes_more ys new row total e pushed whole =
      let rest = lexemes_from (i + 1) (drop (i + 1) (seen rs)) in
      ap (λ (zs : List LexemeValue). zs ++ rest) pushed
      ∙ (append_assoc ys (map (lexeme_at_line i) row) rest
      ∙ (ap (λ (zs : List LexemeValue). ys ++ (map (lexeme_at_line i) zs ++ rest)) e
      ∙ (ap (λ (es : List RecordValue). ys ++ lexemes_from i es) (sym (next rs i x within is)) ∙ whole)))

  pub comments_more : (last end : Option LexemeEnd) (row : List LexemeValue) (c : Option CommentValue) (ys new total : List PlacedCommentValue) → row ≡ x.now.entry.lexemes → end ≡ last_lexeme_end last i row
      → c ≡ x.now.entry.comment → new ≡ ys ++ comment_at i end c → ys ++ comments_from last i (drop i (seen rs)) ≡ total → new ++ comments_from end (i + 1) (drop (i + 1) (seen rs)) ≡ total
  comments_more last end row c ys new total e ended commented pushed whole =
      let ends : end ≡ last_lexeme_end last i x.now.entry.lexemes = ended ∙ ap (λ (zs : List LexemeValue). last_lexeme_end last i zs) e in
      ap (λ (zs : List PlacedCommentValue). zs ++ comments_from end (i + 1) (drop (i + 1) (seen rs))) pushed
      ∙ (append_assoc ys (comment_at i end c) (comments_from end (i + 1) (drop (i + 1) (seen rs)))
      ∙ (ap (λ (d : Option CommentValue). ys ++ (comment_at i end d ++ comments_from end (i + 1) (drop (i + 1) (seen rs)))) commented
      ∙ (ap (λ (f : Option LexemeEnd). ys ++ (comment_at i f x.now.entry.comment ++ comments_from f (i + 1) (drop (i + 1) (seen rs)))) ends
      ∙ (ap (λ (es : List RecordValue). ys ++ comments_from last i es) (sym (next rs i x within is)) ∙ whole))))

  -- ---- rows of the first section

  pub counted_more : (last : Option Kind) (row : List LexemeValue) (behind : Option Kind) (total : ℕ) → row ≡ x.now.entry.lexemes → is_section_start last row ≡ false → behind ≡ last_kind_from last row
      → i + row_count last (drop i (seen rs)) ≡ total → (i + 1) + row_count behind (drop (i + 1) (seen rs)) ≡ total
  counted_more last row behind total e start kind whole =
      let here : is_section_start last x.now.entry.lexemes ≡ false = ap (λ (zs : List LexemeValue). is_section_start last zs) (sym e) ∙ start in
      let kinds : behind ≡ last_kind_from last x.now.entry.lexemes = kind ∙ ap (λ (zs : List LexemeValue). last_kind_from last zs) e in
      let rest = drop (i + 1) (seen rs) in
      let one : row_count last (drop i (seen rs)) ≡ suc (row_count behind rest) =
      ap (λ (es : List RecordValue). row_count last es) (next rs i x within is)
      ∙ (ap (λ (b : Bool). counted_if b (row_count (last_kind_from last x.now.entry.lexemes) rest)) here ∙ ap (λ (k : Option Kind). suc (row_count k rest)) (sym kinds)) in
      omega (arith, one, whole)

  pub counted_here : (last : Option Kind) (row : List LexemeValue) (total : ℕ) → row ≡ x.now.entry.lexemes → is_section_start last row ≡ true
      → i + row_count last (drop i (seen rs)) ≡ total → i ≡ total
  counted_here last row total e start whole =
      let here : is_section_start last x.now.entry.lexemes ≡ true = ap (λ (zs : List LexemeValue). is_section_start last zs) (sym e) ∙ start in
      let none : row_count last (drop i (seen rs)) ≡ 0 =
      ap (λ (es : List RecordValue). row_count last es) (next rs i x within is) ∙ ap (λ (b : Bool). counted_if b (row_count (last_kind_from last x.now.entry.lexemes) (drop (i + 1) (seen rs)))) here in
      omega (arith, none, whole)

-- ---- what is found and checked

pub some_mapped : (o : Option SectionFault) (b t : Bool) → t ≡ is_some o → t ≡ b → is_some (option_map section_fault_value o) ≡ b
some_mapped None b t a h = sym a ∙ h
some_mapped (Some f) b t a h = sym a ∙ h

-- ---- how many lexemes there are

saturates : (n l rest m top : ℕ) → m ≡ min (n + l) top → min (m + rest) top ≡ min (n + (l + rest)) top
saturates n l rest m top e = omega (arith, e)

-- so many are counted, those of this row too
pub lexemes_counted : (rs : List (Bor RecordValue)) (i : ℕ) (x : Bor RecordValue) → i < length rs → x ≡ get_or rs i x
    → (xs : List LexemeValue) → xs ≡ x.now.entry.lexemes → (n m total top : ℕ) → m ≡ min (n + length xs) top
    → min (n + length (lexemes_from i (drop i (seen rs)))) top ≡ total
    → min (m + length (lexemes_from (i + 1) (drop (i + 1) (seen rs)))) top ≡ total
lexemes_counted rs i x l e xs is n m total top more whole =
    let rest : List LexemeValue = lexemes_from (i + 1) (drop (i + 1) (seen rs)) in
    let here : length (lexemes_from i (drop i (seen rs))) ≡ length xs + length rest =
    ap (λ (es : List RecordValue). length (lexemes_from i es)) (next rs i x l e)
    ∙ (ap (λ (ys : List LexemeValue). length (map (lexeme_at_line i) ys ++ rest)) (sym is)
    ∙ (length-append (map (lexeme_at_line i) xs) rest ∙ ap (λ k. k + length rest) (length-map xs (lexeme_at_line i)))) in
    saturates n (length xs) (length rest) m top more ∙ (ap (λ k. min (n + k) top) (sym here) ∙ whole)

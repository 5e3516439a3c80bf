-- A section is judged row by row.
use Rattle.std.proofs.Common.{◌≡◌, ◌<◌, ◌+◌, ℕ, zero, suc, Bool, true, false, List, [], ◌∷◌, ◌++◌, Option, Some, None, length, map, slice_get, refl, sym, ◌∙◌, ap, subst, append_assoc, append-nil, arith}
use Rattle.std.specs.Prelude.{◌==◌, option_map, option_and_then, slice_index}
use Rattle.std.specs.Bool.{then_some}
use Rattle.std.specs.List.{filter, flat_map}
use Rattle.std.specs.Option.{option_or}
use Rattle.std.proofs.lemmas.Grind.{flat_map-append}
use Rattle.std.proofs.lemmas.List.{length-append, length-map}
use Rattle.std.proofs.lemmas.List.Elements.{filter-append}
use Rattle.yl_text.specs.declared.finding.RuleId.TheVariants.{Comments}
use Rattle.yl_text.specs.Finding.{FindingValue}
use Rattle.yl_lexeme.specs.Lexeme.{CommentValue, LexemeValue, PlacedCommentValue}
use Rattle.yl_marks.specs.Keys.{lexeme_at_line, token_of}
use Rattle.yl_events.specs.declared.fault.PlacedParseFault.{PlacedParseFault}
use Rattle.yl_events.specs.Faults as parse
use Rattle.yl_rules.specs.Addressed.{is_addressed}
use Rattle.yl_rules.specs.Comments.{comment_findings}
use Rattle.yl_config.specs.declared.config.Config.{Config}
use Rattle.yl_config.specs.Config.{options_of}
use Rattle.yl_indentation.specs.LineFacts.{BeginElsewhere}
use Rattle.yl_record.specs.Records.{RecordValue}
use Rattle.yl_sections.specs.declared.comments.CommentReader.{CommentReader}
use Rattle.yl_sections.specs.declared.comments.LexemeEnd.{LexemeEnd}
use Rattle.yl_sections.specs.Kept.{Behind, Here, SectionFaultValue, comment_at, comments_from, is_on, items_if, last_lexeme_end, scan_fault_at, scan_fault_from, section_fault, shown_comment_findings}
use Rattle.yl_sections.specs.Judging.{BeginIn, IsLine, ReadsComments, end_after, spaces_of, with_scan_fault}
use Rattle.yl_sections.specs.Sections.{lexemes_from, lexemes_of}

-- ---- the lexemes of rows

pub lexemes_of_both : (n : ℕ) (rs more : List RecordValue) → lexemes_from n (rs ++ more) ≡ lexemes_from n rs ++ lexemes_from (n + length rs) more
lexemes_of_both n [] more = ap (λ k. lexemes_from k more) {x = n} {y = n + 0} (omega arith)
lexemes_of_both n (r ∷ rs) more =
    ap (λ (ys : List LexemeValue). map (lexeme_at_line n) r.entry.lexemes ++ ys) (lexemes_of_both (n + 1) rs more ∙ ap (λ k. lexemes_from (n + 1) rs ++ lexemes_from k more) {x = n + 1 + length rs} {y = n + length (r ∷ rs)} (omega arith))
    ∙ sym (append_assoc (map (lexeme_at_line n) r.entry.lexemes) (lexemes_from (n + 1) rs) (lexemes_from (n + length (r ∷ rs)) more))

pub one_row : (n : ℕ) (r : RecordValue) → lexemes_from n (r ∷ []) ≡ map (lexeme_at_line n) r.entry.lexemes
one_row n r = append-nil (map (lexeme_at_line n) r.entry.lexemes)

pub placed_here : (n : ℕ) (ys : List LexemeValue) → BeginIn n (map (lexeme_at_line n) ys)
placed_here n [] = tt
placed_here n (y ∷ ys) = (refl, placed_here n ys)

pub line_of_placed : (n : ℕ) (ys : List LexemeValue) (i : ℕ) (x : LexemeValue) → slice_get (map (lexeme_at_line n) ys) i ≡ Some x → x.start.line ≡ n
line_of_placed n [] i x e = absurd (cc)
line_of_placed n (y ∷ ys) zero x e = let same : lexeme_at_line n y ≡ x = cc in ap (λ (z : LexemeValue). z.start.line) (sym same)
line_of_placed n (y ∷ ys) (suc i) x e = line_of_placed n ys i x e

pub below : (n m : ℕ) (rs : List RecordValue) → n < m → BeginElsewhere n (map token_of (lexemes_from m rs))
below n m [] h = tt
below n m (r ∷ rs) h = by_row r.entry.lexemes (below n (m + 1) rs (omega (arith, h)))
  where
    by_row : (ys : List LexemeValue) → BeginElsewhere n (map token_of (lexemes_from (m + 1) rs)) → BeginElsewhere n (map token_of (map (lexeme_at_line m) ys ++ lexemes_from (m + 1) rs))
    by_row [] b = b
    by_row (y ∷ ys) b = λ e. absurd (omega (arith, h, e))

pub spaces_at : (rs more : List RecordValue) (r : RecordValue) → slice_index (spaces_of (rs ++ r ∷ more)) (length rs) ≡ r.indentation
spaces_at [] more r = refl
spaces_at (x ∷ rs) more r = spaces_at rs more r

pub row_line : (rs more : List RecordValue) (r : RecordValue) (n : ℕ) (spaces : ℕ) (line : List LexemeValue) → n ≡ length rs → spaces ≡ r.indentation → line ≡ map (lexeme_at_line n) r.entry.lexemes
    → 0 < length r.entry.lexemes → IsLine (spaces_of (rs ++ r ∷ more)) spaces line (lexemes_from (length rs + 1) more)
row_line rs more r n spaces line at is are some = record {
  at = n;
  here = subst (BeginIn n) (sym are) (placed_here n r.entry.lexemes);
  some = omega (arith, some, ap (λ (ys : List LexemeValue). length ys) are, length-map r.entry.lexemes (lexeme_at_line n));
  elsewhere = below n (length rs + 1) more (omega (arith, at));
  spaces_are = ap (slice_index (spaces_of (rs ++ r ∷ more))) at ∙ (spaces_at rs more r ∙ sym is);
}

pub some_at : {X : Type 0} (xs : List X) (i : ℕ) → i < length xs → (x : X) × (slice_get xs i ≡ Some x)
some_at [] i h = absurd (omega (arith, h))
some_at (x ∷ xs) zero h = (x, refl)
some_at (x ∷ xs) (suc i) h = some_at xs i (omega (arith, h))

-- ---- comments

pub end_of_both : (last : Option LexemeEnd) (n : ℕ) (rs : List RecordValue) (r : RecordValue) → end_after last n (rs ++ r ∷ []) ≡ last_lexeme_end (end_after last n rs) (n + length rs) r.entry.lexemes
end_of_both last n [] r = ap (λ k. last_lexeme_end last k r.entry.lexemes) {x = n} {y = n + 0} (omega arith)
end_of_both last n (x ∷ rs) r =
    end_of_both (last_lexeme_end last n x.entry.lexemes) (n + 1) rs r
    ∙ ap (λ k. last_lexeme_end (end_after (last_lexeme_end last n x.entry.lexemes) (n + 1) rs) k r.entry.lexemes) {x = n + 1 + length rs} {y = n + length (x ∷ rs)} (omega arith)

abbrev comment_after : Option LexemeEnd → ℕ → RecordValue → List PlacedCommentValue
comment_after last n r = comment_at n (last_lexeme_end last n r.entry.lexemes) r.entry.comment

pub comments_of_both : (last : Option LexemeEnd) (n : ℕ) (rs : List RecordValue) (r : RecordValue)
    → comments_from last n (rs ++ r ∷ []) ≡ comments_from last n rs ++ comment_after (end_after last n rs) (n + length rs) r
comments_of_both last n [] r = append-nil (comment_after last n r) ∙ ap (λ k. comment_after last k r) {x = n} {y = n + 0} (omega arith)
comments_of_both last n (x ∷ rs) r =
    let end = last_lexeme_end last n x.entry.lexemes in
    ap (λ (cs : List PlacedCommentValue). comment_at n end x.entry.comment ++ cs)
    (comments_of_both end (n + 1) rs r ∙ ap (λ k. comments_from end (n + 1) rs ++ comment_after (end_after end (n + 1) rs) k r) {x = n + 1 + length rs} {y = n + length (x ∷ rs)} (omega arith))
    ∙ sym (append_assoc (comment_at n end x.entry.comment) (comments_from end (n + 1) rs) (comment_after (end_after end (n + 1) rs) (n + length (x ∷ rs)) r))

pub findings_of_both : (config : Config) (cs ds : List PlacedCommentValue) → shown_comment_findings config (cs ++ ds) ≡ shown_comment_findings config cs ++ shown_comment_findings config ds
findings_of_both config cs ds = by_case (is_on config Comments)
  where
    by_case : (b : Bool) → items_if b (flat_map (comment_findings (options_of config).comments) (cs ++ ds))
        ≡ items_if b (flat_map (comment_findings (options_of config).comments) cs) ++ items_if b (flat_map (comment_findings (options_of config).comments) ds)
    by_case true = flat_map-append (comment_findings (options_of config).comments) cs ds
    by_case false = refl

-- ---- the scan fault

or_assoc : {X : Type 0} (a b c : Option X) → option_or a (option_or b c) ≡ option_or (option_or a b) c
or_assoc None b c = refl
or_assoc (Some x) b c = refl

pub fault_of_both : (n : ℕ) (rs : List RecordValue) (r : RecordValue) → scan_fault_from n (rs ++ r ∷ []) ≡ option_or (scan_fault_from n rs) (option_map (scan_fault_at (n + length rs)) r.entry.fault)
fault_of_both n [] r = none_or (option_map (scan_fault_at n) r.entry.fault) ∙ ap (λ k. option_map (scan_fault_at k) r.entry.fault) {x = n} {y = n + 0} (omega arith)
  where
    none_or : (o : Option SectionFaultValue) → option_or o None ≡ o
    none_or None = refl
    none_or (Some f) = refl
fault_of_both n (x ∷ rs) r =
    ap (λ (o : Option SectionFaultValue). option_or (option_map (scan_fault_at n) x.entry.fault) o)
    (fault_of_both (n + 1) rs r ∙ ap (λ k. option_or (scan_fault_from (n + 1) rs) (option_map (scan_fault_at k) r.entry.fault)) {x = n + 1 + length rs} {y = n + length (x ∷ rs)} (omega arith))
    ∙ or_assoc (option_map (scan_fault_at n) x.entry.fault) (scan_fault_from (n + 1) rs) (option_map (scan_fault_at (n + length (x ∷ rs))) r.entry.fault)

-- ---- the section's fault

pub with_scanned : (xs : List LexemeValue) (f : Option PlacedParseFault) (scanned : Option SectionFaultValue) → section_fault xs f scanned ≡ with_scan_fault (section_fault xs f None) scanned
with_scanned xs None scanned = refl
with_scanned xs (Some f) scanned = by_place (slice_get xs f.place)
  where
    by_place : (o : Option LexemeValue) → option_or (option_map (λ x. Here x.start (parse.fault_text f.kind)) o) (option_or scanned (Some (Behind (parse.fault_text f.kind))))
        ≡ with_scan_fault (option_or (option_map (λ x. Here x.start (parse.fault_text f.kind)) o) (option_or None (Some (Behind (parse.fault_text f.kind))))) scanned
    by_place None = refl
    by_place (Some x) = refl

-- ---- the comments, one row more

pub none_shown : (config : Config) → shown_comment_findings config [] ≡ []
none_shown config = by_case (is_on config Comments)
  where
    by_case : (b : Bool) → items_if b (flat_map (comment_findings (options_of config).comments) []) ≡ []
    by_case true = refl
    by_case false = refl

pub comments_more : {A : Type 0} (config : Config) (rs : List RecordValue) (r : RecordValue) (c d : CommentReader A) (n : ℕ) (cs : List PlacedCommentValue) → n ≡ length rs → ReadsComments config rs c
    → d.last ≡ last_lexeme_end c.last n r.entry.lexemes → cs ≡ comment_at n d.last r.entry.comment → d.found.items ≡ c.found.items ++ shown_comment_findings config cs → d.kept.items ≡ c.kept.items ++ filter is_addressed cs
    → ReadsComments config (rs ++ r ∷ []) d
comments_more config rs r c d n cs at h last are found kept =
    let before = comments_from None 0 rs in
    let end : d.last ≡ last_lexeme_end (end_after None 0 rs) (0 + length rs) r.entry.lexemes =
    last ∙ (ap (λ (l : Option LexemeEnd). last_lexeme_end l n r.entry.lexemes) h.last ∙ ap (λ k. last_lexeme_end (end_after None 0 rs) k r.entry.lexemes) {x = n} {y = 0 + length rs} (omega (arith, at))) in
    let here : cs ≡ comment_after (end_after None 0 rs) (0 + length rs) r =
    are ∙ (ap (λ (l : Option LexemeEnd). comment_at n l r.entry.comment) end ∙ ap (λ k. comment_at k (last_lexeme_end (end_after None 0 rs) (0 + length rs) r.entry.lexemes) r.entry.comment) {x = n} {y = 0 + length rs} (omega (arith, at))) in
    let all : before ++ cs ≡ comments_from None 0 (rs ++ r ∷ []) = ap (λ (ds : List PlacedCommentValue). before ++ ds) here ∙ sym (comments_of_both None 0 rs r) in
    record {
      last = end ∙ sym (end_of_both None 0 rs r);
      found = found ∙ (ap (λ (fs : List FindingValue). fs ++ shown_comment_findings config cs) h.found ∙ (sym (findings_of_both config before cs) ∙ ap (shown_comment_findings config) all));
      kept = kept ∙ (ap (λ (ds : List PlacedCommentValue). ds ++ filter is_addressed cs) h.kept ∙ (sym (filter-append is_addressed before cs) ∙ ap (filter is_addressed) all));
    }

pub comment_is : (line : ℕ) (last : Option LexemeEnd) (o : Option CommentValue) (c : CommentValue) (col : ℕ) (text : List ℕ) (behind : Option ℕ) → o ≡ Some c → col ≡ c.column → text ≡ c.text
    → behind ≡ option_and_then (λ e. then_some (e.line == line) e.col) last → record { line = line; column = col; text = text; behind = behind } ∷ [] ≡ comment_at line last o
comment_is line last o c col text behind is at same near = rw (is, at, same, near) refl

pub no_comment : {C : Type 0} (line : ℕ) (last : Option LexemeEnd) (f : C → CommentValue) (o : Option C) (r : Option CommentValue) → o ≡ None → option_map f o ≡ r → [] ≡ comment_at line last r
no_comment line last f o r none is = ap (λ (c : Option CommentValue). comment_at line last c) (sym (ap (option_map f) none) ∙ is)

-- ---- the next row

module _ (rs more : List RecordValue) (r : RecordValue) where
  abbrev pub all : List RecordValue
  all = rs ++ r ∷ more

  same_rows : (rs ++ r ∷ []) ++ more ≡ all
  same_rows = append_assoc rs (r ∷ []) more

  pub moved : (P : List RecordValue → ℕ → Type 0) → P all (length rs + 1) → P ((rs ++ r ∷ []) ++ more) (length (rs ++ r ∷ []))
  moved P h =
      subst (λ (n : ℕ). P ((rs ++ r ∷ []) ++ more) n) {x = length rs + 1} {y = length (rs ++ r ∷ [])} (omega (arith, length-append rs (r ∷ [])))
      (subst (λ (es : List RecordValue). P es (length rs + 1)) (sym same_rows) h)

  pub still_some : 0 < length (lexemes_of ((rs ++ r ∷ []) ++ more)) → 0 < length (lexemes_of all)
  still_some h = subst (λ (es : List RecordValue). 0 < length (lexemes_of es)) same_rows h

  -- it has lexemes
  pub has_some : 0 < length r.entry.lexemes → 0 < length (lexemes_of all)
  has_some h =
      let parts = lexemes_of_both 0 rs (r ∷ more) in
      let n = 0 + length rs in
      let here : length (lexemes_from n (r ∷ more)) ≡ length (map (lexeme_at_line n) r.entry.lexemes) + length (lexemes_from (n + 1) more) = length-append (map (lexeme_at_line n) r.entry.lexemes) (lexemes_from (n + 1) more) in
      omega (arith, h, ap (λ (ys : List LexemeValue). length ys) parts, length-append (lexemes_of rs) (lexemes_from n (r ∷ more)), here, length-map r.entry.lexemes (lexeme_at_line n))

  pub left_is : (n : ℕ) (line : List LexemeValue) → n ≡ length rs → line ≡ map (lexeme_at_line n) r.entry.lexemes → lexemes_from (length rs) (r ∷ more) ≡ line ++ lexemes_from (length rs + 1) more
  left_is n line at are = ap (λ (ys : List LexemeValue). ys ++ lexemes_from (length rs + 1) more) (ap (λ k. map (lexeme_at_line k) r.entry.lexemes) (sym at) ∙ sym are)

pub row_some : (rs : List RecordValue) (r : RecordValue) → 0 < length r.entry.lexemes → 0 < length (lexemes_of (rs ++ r ∷ []))
row_some rs r h = has_some rs [] r h

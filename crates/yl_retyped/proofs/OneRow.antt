-- The same is kept of a section in which one row says the same to the rules, but for a value that is typed anew.
use Rattle.std.proofs.Common.{◌≡◌, ◌<◌, ◌+◌, inl, inr, ℕ, zero, suc, true, false, ◌==◌, List, [], ◌∷◌, ◌++◌, length, map, take, Option, Some, None, refl, ap, sym, subst, ◌∙◌, arith}
use Rattle.std.proofs.lemmas.Bool.{ne_eqb}
use Rattle.std.proofs.lemmas.List.{length-append}
use Rattle.std.specs.Option.{option_map, option_or, option_and_then}
use Rattle.std.specs.Bool.{then_some}
use Rattle.yl_lexeme.specs.declared.lexeme.Kind.{Kind}
use Rattle.yl_lexeme.specs.declared.lexeme.Kind.TheVariants.{Scalar}
use Rattle.yl_lexeme.specs.Lexeme.{CommentValue, LexemeValue, PlacedCommentValue}
use Rattle.yl_marks.specs.declared.symbol.Symbol.{Symbol}
use Rattle.yl_marks.specs.declared.token.Token.{Token}
use Rattle.yl_marks.specs.ByLine.{by_line}
use Rattle.yl_marks.specs.Keys.{lexeme_at_line, token_of}
use Rattle.yl_marks.specs.Marks.{symbols_of_lexemes}
use Rattle.yl_lexeme_rules.specs.declared.options.LexemeOptions.{LexemeOptions}
use Rattle.yl_lexeme_rules.specs.Lexemes.{lexeme_findings}
use Rattle.yl_events.specs.declared.symbol.Outline.{Outline}
use Rattle.yl_events.specs.Derives.{Derives}
use Rattle.yl_events.specs.DocumentOutcome.{DocumentOutcome, Events, Fails}
use Rattle.yl_events.specs.Event.{event_of_outline}
use Rattle.yl_events.specs.Parsing.{Gives, document_outcome_of_lines, parser_at_start, start_events}
use Rattle.yl_events.proofs.Giving.{gives}
use Rattle.yl_config.specs.declared.config.Config.{Config}
use Rattle.yl_record.specs.Records.{RecordValue}
use Rattle.yl_sections.specs.declared.comments.LexemeEnd.{LexemeEnd}
use Rattle.yl_sections.specs.Judge.{built_by, document_of, kept_of_section}
use Rattle.yl_sections.specs.Kept.{BuiltValue, SectionFaultValue, comment_at, comments_from, event_findings, last_lexeme_end, lexeme_options_of, scan_fault_from, tree_options_of, scan_fault_at}
use Rattle.yl_sections.specs.Sections.{lexemes_from, lexemes_of}
use Rattle.yl_retyped.proofs.Statements.{EventsLaw, FactsLaw, FindingsLaw, MarksLaw}
use Rattle.yl_retyped.specs.Retyped.{IsQuiet, asks_for_value, is_scalar}
use Rattle.yl_retyped.specs.Rows.{IsRowAlike, IsRetypedRow, IsSameRow, IsValueRetyped}
use Rattle.yl_retyped.proofs.Symbols.{DifferAt, StandsBehind}
use Rattle.yl_retyped.proofs.Around.{before_them, behind_them, differ_at, from_front, line_of, quiet_at, retyped_at, retyped_token, split, tokens_same}
use Rattle.yl_retyped.proofs.SameSaid.{SaySame, kept_same}

-- ---- rows around one

rows_same : (us bs : List RecordValue) (r s : RecordValue) → length (us ++ r ∷ bs) ≡ length (us ++ s ∷ bs)
rows_same us bs r s = length-append us (r ∷ bs) ∙ sym (length-append us (s ∷ bs))

indentations_same : (us bs : List RecordValue) (r s : RecordValue) → r.indentation ≡ s.indentation
    → map (λ (x : RecordValue). x.indentation) (us ++ r ∷ bs) ≡ map (λ (x : RecordValue). x.indentation) (us ++ s ∷ bs)
indentations_same [] bs r s h = ap (λ n. n ∷ map (λ (x : RecordValue). x.indentation) bs) h
indentations_same (a ∷ us) bs r s h = ap (λ (ns : List ℕ). a.indentation ∷ ns) (indentations_same us bs r s h)

scanned_same : (line : ℕ) (us bs : List RecordValue) (r s : RecordValue) → r.entry.fault ≡ s.entry.fault → scan_fault_from line (us ++ r ∷ bs) ≡ scan_fault_from line (us ++ s ∷ bs)
scanned_same line [] bs r s h = ap (λ f. option_or (option_map (scan_fault_at line) f) (scan_fault_from (line + 1) bs)) h
scanned_same line (a ∷ us) bs r s h = ap (λ (f : Option SectionFaultValue). option_or (option_map (scan_fault_at line) a.entry.fault) f) (scanned_same (line + 1) us bs r s h)

-- ---- comments

in_line : (line : ℕ) (e : LexemeEnd) → e.line < line → option_and_then (λ (e : LexemeEnd). then_some (e.line == line) e.col) (Some e) ≡ None
in_line line e h = let no : (e.line == line) ≡ false = ne_eqb e.line line (λ i. omega (arith, i, h)) in rw no refl

comment_there : (line : ℕ) (e f : LexemeEnd) (c : Option CommentValue) → e.line < line → f.line < line → comment_at line (Some e) c ≡ comment_at line (Some f) c
comment_there line e f None h k = refl
comment_there line e f (Some c) h k = rw (in_line line e h, in_line line f k) refl

-- below a line nobody asks where in it a lexeme ends
by_lexemes : (line : ℕ) (e f : LexemeEnd) (b : RecordValue) (bs : List RecordValue) (ls : List LexemeValue) → e.line < line → f.line < line
    → comments_from (Some e) (line + 1) bs ≡ comments_from (Some f) (line + 1) bs → b.entry.lexemes ≡ ls → comments_from (Some e) line (b ∷ bs) ≡ comments_from (Some f) line (b ∷ bs)
by_lexemes line e f b bs [] h k next is =
    rw (is, comment_there line e f b.entry.comment h k) (ap (λ (cs : List PlacedCommentValue). comment_at line (Some f) b.entry.comment ++ cs) next)
by_lexemes line e f b bs (l ∷ ls) h k next is = rw is refl

comments_below : (line : ℕ) (e f : LexemeEnd) (bs : List RecordValue) → e.line < line → f.line < line → comments_from (Some e) line bs ≡ comments_from (Some f) line bs
comments_below line e f [] h k = refl
comments_below line e f (b ∷ bs) h k = by_lexemes line e f b bs b.entry.lexemes h k (comments_below (line + 1) e f bs (omega (arith, h)) (omega (arith, k))) refl

end_of_last : (front : List LexemeValue) (last : Option LexemeEnd) (line : ℕ) (x : LexemeValue)
    → (let end : LexemeEnd = record { line = line + x.end.line; col = x.end.col } in last_lexeme_end last line (front ++ x ∷ []) ≡ Some end)
end_of_last [] last line x = refl
end_of_last (l ∷ front) last line x = end_of_last front _ line x

one_longer : (front : List LexemeValue) (p x : LexemeValue) → front ++ p ∷ x ∷ [] ≡ (front ++ p ∷ []) ++ x ∷ []
one_longer [] p x = refl
one_longer (l ∷ front) p x = ap (λ (ls : List LexemeValue). l ∷ ls) (one_longer front p x)

end_is : (last : Option LexemeEnd) (line : ℕ) (ls front : List LexemeValue) (p x : LexemeValue) → ls ≡ front ++ p ∷ x ∷ []
    → (let end : LexemeEnd = record { line = line + x.end.line; col = x.end.col } in last_lexeme_end last line ls ≡ Some end)
end_is last line ls front p x e = ap (last_lexeme_end last line) (e ∙ one_longer front p x) ∙ end_of_last (front ++ p ∷ []) last line x

comments_at : (o : LexemeOptions) (last : Option LexemeEnd) (line : ℕ) (bs : List RecordValue) (r s : RecordValue) → IsRetypedRow o r s → comments_from last line (r ∷ bs) ≡ comments_from last line (s ∷ bs)
comments_at o last line bs r s h =
    let l = h.lexemes in
    let v = l.retyped in
    let ends : l.x.end.line ≡ 0 = v.ends in
    let new_ends : l.y.end.line ≡ 0 = v.new_ends in
    rw (h.comment, h.new_comment, end_is last line r.entry.lexemes l.front l.p l.x l.old, end_is last line s.entry.lexemes l.front l.p l.y l.new)
    (comments_below (line + 1) _ _ bs (omega (arith, ends)) (omega (arith, new_ends)))

comments_around : (o : LexemeOptions) (last : Option LexemeEnd) (line n : ℕ) (us bs : List RecordValue) (r s : RecordValue) → IsRetypedRow o r s
    → comments_from last line (take n (us ++ r ∷ bs)) ≡ comments_from last line (take n (us ++ s ∷ bs))
comments_around o last line zero us bs r s h = refl
comments_around o last line (suc n) [] bs r s h = comments_at o last line (take n bs) r s h
comments_around o last line (suc n) (a ∷ us) bs r s h =
    let end = last_lexeme_end last line a.entry.lexemes in
    ap (λ (cs : List PlacedCommentValue). comment_at line end a.entry.comment ++ cs) (comments_around o end (line + 1) n us bs r s h)

-- ---- the document

document_some : (pre : List LexemeValue) (p : LexemeValue) (rest : List LexemeValue)
    → document_of (pre ++ p ∷ rest) ≡ built_by (pre ++ p ∷ rest) (document_outcome_of_lines parser_at_start start_events (by_line (map token_of (pre ++ p ∷ rest))))
document_some [] p rest = refl
document_some (a ∷ pre) p rest = refl

fault_same : (xs ys : List LexemeValue) (t : DocumentOutcome) → (built_by xs t).fault ≡ (built_by ys t).fault
fault_same xs ys (Events es) = refl
fault_same xs ys (Fails f) = refl

module _ (marks : MarksLaw) (facts : FactsLaw) (found : FindingsLaw) (told : EventsLaw) (config : Config) where
  scalar_told : (kind k : Kind) (n : ℕ) (ws : List Symbol) (es : List Outline) (xs ys : List LexemeValue) → is_scalar kind ≡ true → asks_for_value k ≡ true → StandsBehind k kind n ws → DifferAt n xs ys
      → Derives ws es → event_findings config (map (event_of_outline xs) es) ≡ event_findings config (map (event_of_outline ys) es)
  scalar_told (Scalar style) k n ws es xs ys is asks stands differ derived = told (tree_options_of config) ws es k style n xs ys asks stands differ derived
  scalar_told _ k n ws es xs ys is asks stands differ derived = absurd (cc)

  events_by : (kind k : Kind) (n : ℕ) (xs ys : List LexemeValue) → is_scalar kind ≡ true → asks_for_value k ≡ true → StandsBehind k kind n (symbols_of_lexemes xs) → DifferAt n xs ys
      → (t : DocumentOutcome) → Gives xs t → event_findings config (built_by xs t).events ≡ event_findings config (built_by ys t).events
  events_by kind k n xs ys is asks stands differ (Events es) g = scalar_told kind k n (symbols_of_lexemes xs) es xs ys is asks stands differ g
  events_by kind k n xs ys is asks stands differ (Fails f) g = refl

  -- of two lists of lexemes that differ in such a value
  record DocumentsSame (xs ys : List LexemeValue) : Type 0 where
    tokens : map token_of xs ≡ map token_of ys
    lexemes : (counted : ℕ) → lexeme_findings (lexeme_options_of config) counted xs ≡ lexeme_findings (lexeme_options_of config) counted ys
    fault : (document_of xs).fault ≡ (document_of ys).fault
    events : event_findings config (document_of xs).events ≡ event_findings config (document_of ys).events

  documents_same : (us bs : List RecordValue) (front : List LexemeValue) (p x y : LexemeValue) → IsValueRetyped p x y → IsQuiet (lexeme_options_of config) (lexeme_at_line 0 x) → IsQuiet (lexeme_options_of config) (lexeme_at_line 0 y)
      → (let at : LexemeValue → LexemeValue = lexeme_at_line (line_of us) in
      DocumentsSame (before_them us front ++ at p ∷ at x ∷ behind_them us bs) (before_them us front ++ at p ∷ at y ∷ behind_them us bs))
  documents_same us bs front p x y v quiet new_quiet =
      let at : LexemeValue → LexemeValue = lexeme_at_line (line_of us) in
      let pre = before_them us front in
      let post = behind_them us bs in
      let xs = pre ++ at p ∷ at x ∷ post in
      let ys = pre ++ at p ∷ at y ∷ post in
      let typed = retyped_at us bs p x y v in
      let token = retyped_token (line_of us) p x y v in
      let tokens : map token_of xs ≡ map token_of ys = tokens_same pre (at p) (at x) (at y) post token in
      let outcome : List LexemeValue → DocumentOutcome = λ ls. document_outcome_of_lines parser_at_start start_events (by_line (map token_of ls)) in
      let new : document_of ys ≡ built_by ys (outcome xs) =
      document_some pre (at p) (at y ∷ post) ∙ ap (λ (ts : List Token). built_by ys (document_outcome_of_lines parser_at_start start_events (by_line ts))) (sym tokens) in
      let old : document_of xs ≡ built_by xs (outcome xs) = document_some pre (at p) (at x ∷ post) in
      record {
        tokens = tokens;
        lexemes = λ counted. found (lexeme_options_of config) counted pre (at p) (at x) (at y) post typed (facts pre (at p) (at x) (at y) post typed)
            (quiet_at (lexeme_options_of config) (line_of us) x quiet) (quiet_at (lexeme_options_of config) (line_of us) y new_quiet);
        fault = ap (λ (b : BuiltValue). b.fault) old ∙ (fault_same xs ys (outcome xs) ∙ sym (ap (λ (b : BuiltValue). b.fault) new));
        events = ap (λ (b : BuiltValue). event_findings config b.events) old
            ∙ (events_by x.kind p.kind (suc (length pre)) xs ys v.scalar v.before (marks pre (at p) (at x) (at y) post typed) (differ_at pre (at p) (at x) (at y) post token) (outcome xs) (gives xs)
            ∙ sym (ap (λ (b : BuiltValue). event_findings config b.events) new));
      }

  retyped_documents : (us bs : List RecordValue) (r s : RecordValue) → IsRetypedRow (lexeme_options_of config) r s → DocumentsSame (lexemes_of (us ++ r ∷ bs)) (lexemes_of (us ++ s ∷ bs))
  retyped_documents us bs r s h =
      let l = h.lexemes in
      subst (λ (xs : List LexemeValue). DocumentsSame xs (lexemes_of (us ++ s ∷ bs))) (sym (split us bs r l.front l.p l.x l.old))
      (subst (DocumentsSame _) (sym (split us bs s l.front l.p l.y l.new)) (documents_same us bs l.front l.p l.x l.y l.retyped l.quiet l.new_quiet))

  retyped_said : (us bs : List RecordValue) (r s : RecordValue) → IsRetypedRow (lexeme_options_of config) r s
      → SaySame config (us ++ r ∷ bs) (us ++ s ∷ bs) (document_of (lexemes_of (us ++ r ∷ bs))) (document_of (lexemes_of (us ++ s ∷ bs)))
  retyped_said us bs r s h =
      let d = retyped_documents us bs r s h in
      record {
        rows = rows_same us bs r s;
        indentations = indentations_same us bs r s h.indentation;
        scanned = scanned_same 0 us bs r s h.fault;
        comments = λ n. comments_around (lexeme_options_of config) None 0 n us bs r s h;
        tokens = d.tokens;
        found = d.lexemes;
        fault = d.fault;
        events = d.events;
      }

  -- ---- a row that says the same

  lexemes_same : (us bs : List RecordValue) (r s : RecordValue) → r.entry.lexemes ≡ s.entry.lexemes → lexemes_of (us ++ r ∷ bs) ≡ lexemes_of (us ++ s ∷ bs)
  lexemes_same us bs r s h =
      from_front 0 us (r ∷ bs)
      ∙ (ap (λ (ls : List LexemeValue). lexemes_from 0 us ++ (map (lexeme_at_line (line_of us)) ls ++ behind_them us bs)) h ∙ sym (from_front 0 us (s ∷ bs)))

  same_comments : (last : Option LexemeEnd) (line n : ℕ) (us bs : List RecordValue) (r s : RecordValue) → r.entry.lexemes ≡ s.entry.lexemes → r.entry.comment ≡ s.entry.comment
      → comments_from last line (take n (us ++ r ∷ bs)) ≡ comments_from last line (take n (us ++ s ∷ bs))
  same_comments last line zero us bs r s h k = refl
  same_comments last line (suc n) [] bs r s h k = rw (h, k) refl
  same_comments last line (suc n) (a ∷ us) bs r s h k =
      let end = last_lexeme_end last line a.entry.lexemes in
      ap (λ (cs : List PlacedCommentValue). comment_at line end a.entry.comment ++ cs) (same_comments end (line + 1) n us bs r s h k)

  same_said : (us bs : List RecordValue) (r s : RecordValue) → IsSameRow r s
      → SaySame config (us ++ r ∷ bs) (us ++ s ∷ bs) (document_of (lexemes_of (us ++ r ∷ bs))) (document_of (lexemes_of (us ++ s ∷ bs)))
  same_said us bs r s h =
      let e = lexemes_same us bs r s h.lexemes in
      record {
        rows = rows_same us bs r s;
        indentations = indentations_same us bs r s h.indentation;
        scanned = scanned_same 0 us bs r s h.fault;
        comments = λ n. same_comments None 0 n us bs r s h.lexemes h.comment;
        tokens = ap (map token_of) e;
        found = λ counted. ap (lexeme_findings (lexeme_options_of config) counted) e;
        fault = ap (λ (xs : List LexemeValue). (document_of xs).fault) e;
        events = ap (λ (xs : List LexemeValue). event_findings config (document_of xs).events) e;
      }

  pub row_alike : (us bs : List RecordValue) (r s : RecordValue) → IsRowAlike (lexeme_options_of config) r s → kept_of_section config (us ++ r ∷ bs) ≡ kept_of_section config (us ++ s ∷ bs)
  unfolding kept_of_section
  row_alike us bs r s (inl h) = kept_same config (us ++ r ∷ bs) (us ++ s ∷ bs) _ _ (same_said us bs r s h)
  row_alike us bs r s (inr h) = kept_same config (us ++ r ∷ bs) (us ++ s ∷ bs) _ _ (retyped_said us bs r s h)

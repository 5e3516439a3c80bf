-- What is kept of a section stands in its own lines: what is found in it, its facts and its comments.
use Rattle.std.proofs.Common.{◌≡◌, ◌<◌, ◌≤◌, ℕ, ◌+◌, Bool, true, false, List, [], ◌∷◌, length, map, take, Option, Some, None, arith, refl, drop}
use Rattle.std.specs.Prelude.{IfSome, option_map, slice_get}
use Rattle.std.specs.List.{AllByRecursion, flat_map}
use Rattle.std.specs.Str.{chars}
use Rattle.std.proofs.lemmas.List.{length-take}
use Rattle.yl_text.specs.declared.finding.RuleId.{RuleId}
use Rattle.yl_text.specs.declared.finding.RuleId.TheVariants.{Comments, Indentation}
use Rattle.yl_text.specs.Finding.{FindingValue}
use Rattle.yl_text.proofs.Every.{all_both, all_filter, all_flat_map, all_got, all_if}
use Rattle.yl_lexeme.specs.Lexeme.{LexemeValue, CommentValue, PlacedCommentValue}
use Rattle.yl_marks.specs.ByLine.{by_line}
use Rattle.yl_marks.specs.Keys.{lexeme_at_line, token_of}
use Rattle.yl_marks.specs.Marks.{marked_lexemes}
use Rattle.yl_events.specs.declared.symbol.Outline.{Outline}
use Rattle.yl_events.specs.DocumentOutcome.{DocumentOutcome, Events, Fails}
use Rattle.yl_events.specs.Event.{EventValue, anchor_of, event_of_outline, start_at, start_of}
use Rattle.yl_events.specs.Parsing.{parser_at_start, start_events, document_outcome_of_lines}
use Rattle.yl_lexeme_rules.proofs.Own.{OfLexemeRules, own_lexemes}
use Rattle.yl_indentation.specs.declared.fact.Fact.{Fact}
use Rattle.yl_indentation.proofs.Own.{own_facts}
use Rattle.yl_tree.proofs.Own.{Begins, OfEventRules, own_events}
use Rattle.yl_rules.specs.Addressed.{is_addressed}
use Rattle.yl_rules.specs.Comments.{comment_findings, is_too_near, lacks_space, near_findings, starting_space_in}
use Rattle.yl_rules.specs.LineLength.{hash_count}
use Rattle.yl_rules.specs.declared.comments.CommentsOptions.{CommentsOptions}
use Rattle.yl_config.specs.declared.config.Config.{Config}
use Rattle.yl_config.specs.Config.{options_of}
use Rattle.yl_record.specs.Records.{RecordValue}
use Rattle.yl_sections.specs.declared.comments.LexemeEnd.{LexemeEnd}
use Rattle.yl_sections.specs.Kept.{SectionFaultValue, comment_at, comment_lines, comments_from, counted_of, is_on, last_lexeme_end, lexeme_options_of, section_fault, scan_fault_from, shown_comment_findings, shown_comments, tree_options_of, unless_fault, items_if}
use Rattle.yl_sections.specs.Judge.{built_by, document_of, kept_of_section}
use Rattle.yl_sections.specs.Sections.{lexemes_from, lexemes_of}

-- ---- where lexemes, comments and events begin

row_begins : (line high : ℕ) (xs : List LexemeValue) → line < high → AllByRecursion (λ x. x.start.line < high) (map (lexeme_at_line line) xs)
row_begins line high [] h = tt
row_begins line high (x ∷ xs) h = (h, row_begins line high xs h)

lexemes_begin : (line high : ℕ) (rs : List RecordValue) → line + length rs ≤ high → AllByRecursion (λ x. x.start.line < high) (lexemes_from line rs)
lexemes_begin line high [] h = tt
lexemes_begin line high (r ∷ rs) h =
    all_both (λ (x : LexemeValue). x.start.line < high) (map (lexeme_at_line line) r.entry.lexemes) (lexemes_from (line + 1) rs)
    (row_begins line high r.entry.lexemes (omega (arith, h))) (lexemes_begin (line + 1) high rs (omega (arith, h)))

tokens_begin : (high : ℕ) (xs : List LexemeValue) → AllByRecursion (λ x. x.start.line < high) xs → AllByRecursion (λ t. t.start.line < high) (map token_of xs)
tokens_begin high [] h = tt
tokens_begin high (x ∷ xs) h = (h.0, tokens_begin high xs h.1)

comment_begins : (line high : ℕ) (last : Option LexemeEnd) (c : Option CommentValue) → line < high → AllByRecursion (λ c. c.line < high) (comment_at line last c)
comment_begins line high last None h = tt
comment_begins line high last (Some c) h = (h, tt)

comments_begin : (last : Option LexemeEnd) (line high : ℕ) (rs : List RecordValue) → line + length rs ≤ high → AllByRecursion (λ c. c.line < high) (comments_from last line rs)
comments_begin last line high [] h = tt
comments_begin last line high (r ∷ rs) h =
    let end = last_lexeme_end last line r.entry.lexemes in
    all_both (λ (c : PlacedCommentValue). c.line < high) (comment_at line end r.entry.comment) (comments_from end (line + 1) rs)
    (comment_begins line high end r.entry.comment (omega (arith, h))) (comments_begin end (line + 1) high rs (omega (arith, h)))

shown_begin : (line : ℕ) (rs : List RecordValue) → AllByRecursion (λ c. c.line < length rs) (shown_comments line rs)
shown_begin line rs = comments_begin None 0 (length rs) (take line rs) (omega (arith, length-take line rs))

start_begins : (high : ℕ) (x : Option LexemeValue) → 0 < high → IfSome x (λ x. x.start.line < high) → (start_of x).line < high
start_begins high None z h = z
start_begins high (Some x) z h = h

module _ (high : ℕ) (xs : List LexemeValue) (z : 0 < high) (h : AllByRecursion (λ x. x.start.line < high) xs) where
  lexeme_begins : (i : ℕ) → (start_at xs i).line < high
  lexeme_begins i = start_begins high (slice_get xs i) z (all_got (λ (x : LexemeValue). x.start.line < high) xs i h)

  place_begins : (i : Option ℕ) → IfSome (option_map (start_at xs) i) (λ p. p.line < high)
  place_begins None = tt
  place_begins (Some i) = lexeme_begins i

  anchor_begins : (i : Option ℕ) → IfSome (anchor_of xs i) (λ a. a.place.line < high)
  anchor_begins None = tt
  anchor_begins (Some i) = lexeme_begins i

  events_begin : (os : List Outline) → AllByRecursion (Begins high) (map (event_of_outline xs) os)
  events_begin [] = tt
  events_begin (o ∷ os) = (record { place = place_begins o.place; anchor = anchor_begins o.anchor }, events_begin os)

  built_begin : (outcome : DocumentOutcome) → AllByRecursion (Begins high) (built_by xs outcome).events
  built_begin (Events es) = events_begin es
  built_begin (Fails f) = tt

document_begins : (high : ℕ) (xs : List LexemeValue) → AllByRecursion (λ x. x.start.line < high) xs → AllByRecursion (Begins high) (document_of xs).events
document_begins high [] h = tt
document_begins high (x ∷ xs) h = built_begin high (x ∷ xs) (omega (arith, h.0)) h (document_outcome_of_lines parser_at_start start_events (by_line (map token_of (x ∷ xs))))

shown_begins : (high : ℕ) (fault : Option SectionFaultValue) (es : List EventValue) → AllByRecursion (Begins high) es → AllByRecursion (Begins high) (unless_fault fault es)
shown_begins high None es h = h
shown_begins high (Some f) es h = tt

-- ---- what is kept

own_items : {X : Type 0} (P : X → Type 0) (b : Bool) (xs : List X) → AllByRecursion P xs → AllByRecursion P (items_if b xs)
own_items P true xs h = h
own_items P false xs h = tt

-- something holds of the rules on lexemes, comments, keys and anchors
pub record OfSectionRules (K : RuleId → Type 0) : Type 0 where
  pub lexemes : OfLexemeRules K
  pub comments : K Comments
  pub events : OfEventRules K

-- what holds of each problem that such a rule finds in a section's lines
module _ (K : RuleId → Type 0) (k : OfSectionRules K) (config : Config) (rs : List RecordValue) (P : FindingValue → Type 0)
    (own : (rule : RuleId) (line column : ℕ) (text : List ℕ) → K rule → line < length rs → P (record { line = line + 1; column = column; rule = rule; message = text })) where
  own_near : (o : CommentsOptions) (c : PlacedCommentValue) → c.line < length rs → AllByRecursion P (near_findings o c)
  own_near o c h = all_if P (is_too_near o.min_spaces_from_content c.behind c.column) _ (own Comments c.line (c.column + 1) _ k.comments h, tt)

  own_starting : (o : CommentsOptions) (line column : ℕ) (cs : List ℕ) → line < length rs → AllByRecursion P (starting_space_in o line column cs)
  own_starting o line column cs h = all_if P (lacks_space o line column (drop (hash_count cs) cs)) _ (own Comments line (column + hash_count cs + 1) _ k.comments h, tt)

  own_comments : (cs : List PlacedCommentValue) → AllByRecursion (λ c. c.line < length rs) cs → AllByRecursion P (shown_comment_findings config cs)
  own_comments cs h =
      let o = (options_of config).comments in
      own_items P (is_on config Comments) (flat_map (comment_findings o) cs)
      (all_flat_map P (λ (c : PlacedCommentValue). c.line < length rs) (comment_findings o) cs
      (λ c b. all_both P (near_findings o c) (starting_space_in o c.line c.column (chars c.text)) (own_near o c b) (own_starting o c.line c.column (chars c.text) b)) h)

  pub own_found : AllByRecursion P (kept_of_section config rs).found
  unfolding kept_of_section
  own_found =
      let xs = lexemes_of rs in
      let b = document_of xs in
      let fault = section_fault xs b.fault (scan_fault_from 0 rs) in
      let begins = lexemes_begin 0 (length rs) rs (omega arith) in
      all_both P _ _ (own_lexemes K k.lexemes (length rs) P own (lexeme_options_of config) (counted_of xs b.fault) xs begins)
      (all_both P _ _ (own_comments (shown_comments (comment_lines (length rs) xs b.fault) rs) (shown_begin (comment_lines (length rs) xs b.fault) rs))
      (own_events K k.events (length rs) P own (tree_options_of config) (unless_fault fault b.events) (shown_begins (length rs) fault b.events (document_begins (length rs) xs begins))))

module _ (config : Config) (rs : List RecordValue) where
  pub own_kept_facts : AllByRecursion (λ f. f.line < length rs) (kept_of_section config rs).facts
  unfolding kept_of_section
  own_kept_facts =
      let xs = lexemes_of rs in
      own_items (λ (f : Fact). f.line < length rs) (is_on config Indentation) _
      (own_facts (length rs) (map token_of xs) (marked_lexemes xs) (counted_of xs (document_of xs).fault) (map (λ r. r.indentation) rs)
      (tokens_begin (length rs) xs (lexemes_begin 0 (length rs) rs (omega arith))))

  pub own_kept_comments : AllByRecursion (λ c. c.line < length rs) (kept_of_section config rs).comments
  unfolding kept_of_section
  own_kept_comments =
      let line = comment_lines (length rs) (lexemes_of rs) (document_of (lexemes_of rs)).fault in
      all_filter (λ (c : PlacedCommentValue). c.line < length rs) is_addressed (shown_comments line rs) (shown_begin line rs)

  pub own_rows : (kept_of_section config rs).rows ≡ length rs
  unfolding kept_of_section
  own_rows = refl

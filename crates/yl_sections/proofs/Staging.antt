-- How far the document of a section is, row by row.
use Rattle.std.proofs.Common.{◌≡◌, ◌+◌, ◌<◌, ◌++◌, ◌∷◌, [], ℕ, Bool, true, false, List, Option, None, Some, ap, arith, length, map, refl, slice_get, subst, sym, take, ◌∙◌, append-nil, append_assoc}
use Rattle.std.specs.Prelude.{◌==◌, IfSome, OnOk, if◌then◌else◌, option_map}
use Rattle.std.proofs.lemmas.Bool.{eqb-true}
use Rattle.yl_lexeme.specs.declared.meter.Meter.{Meter}
use Rattle.std.proofs.Common.{Result, Ok, Err}
use Rattle.std.specs.Option.{option_map_or, option_or}
use Rattle.std.proofs.lemmas.List.{length-append, take-append-le}
use Rattle.std.proofs.lemmas.Option.{slice_get_past}
use Rattle.std.proofs.Math.Seq.{take-append_seam, take-length}
use Rattle.yl_text.specs.declared.position.Pos.{Pos}
use Rattle.yl_text.specs.Finding.{FindingValue}
use Rattle.yl_lexeme.specs.Lexeme.{LexemeValue}
use Rattle.yl_marks.specs.Keys.{lexeme_at_line, token_of}
use Rattle.yl_marks.specs.Marks.{marked_lexemes}
use Rattle.yl_events.specs.declared.fault.PlacedParseFault.{PlacedParseFault}
use Rattle.yl_events.specs.Faults as parse
use Rattle.yl_indentation.specs.Facts.{indent_facts}
use Rattle.yl_lexeme_rules.specs.Lexemes.{lexeme_findings}
use Rattle.yl_config.specs.declared.config.Config.{Config}
use Rattle.yl_record.specs.Records.{RecordValue}
use Rattle.yl_sections.specs.declared.comments.CommentReader.{CommentReader}
use Rattle.yl_sections.specs.declared.document_judge.DocumentEnd.{DocumentEnd}
use Rattle.yl_sections.specs.declared.document_judge.DocumentJudge.{DocumentJudge}
use Rattle.yl_sections.specs.declared.fault.SectionFault.TheVariants as is
use Rattle.yl_sections.specs.declared.section_judge.Stage.{Stage}
use Rattle.yl_sections.specs.declared.section_judge.Stage.TheVariants.{Before, In, Stopped}
use Rattle.yl_sections.specs.declared.section_judge.StoppedDocument.{StoppedDocument}
use Rattle.yl_sections.specs.declared.section_judge.ToldDocument.{ToldDocument}
use Rattle.yl_sections.specs.Judge.{document_of}
use Rattle.yl_sections.specs.Judging.{EndsSo, IsAt, IsBegun, IsCommented, IsReady, KeepsComments, IsStopped, IsTold, Reads, ReadsComments, ReadsRows, StopsIn, commented, first_column, has_begun, shows_comments, spaces_of}
use Rattle.yl_sections.specs.Kept.{Behind, Here, comment_lines, comments_from, counted_of, document_count, event_findings, lexeme_options_of, section_fault, shown_comments}
use Rattle.yl_sections.specs.Owned.{section_fault_value}
use Rattle.yl_sections.specs.Sections.{lexemes_from, lexemes_of}
use Rattle.yl_sections.proofs.FrontRows.{none_found}
use Rattle.yl_sections.proofs.LineByLine.{quiet_document}
use Rattle.yl_sections.proofs.Lines.{get_before}
use Rattle.yl_sections.proofs.RowJudging.{lexemes_of_both, one_row, row_some}
use Rattle.yl_sections.proofs.Sequence.{one_document}

abbrev pub counted_if : Bool → ℕ → ℕ
counted_if true m = m
counted_if false m = m + 1

all_shown : {A : Type 0} (s : Stage A) (es : List RecordValue) → shows_comments s ≡ true → commented s es ≡ es
all_shown Before es e = refl
all_shown (In d) es e = refl
all_shown (Stopped s) es e = absurd (cc)

-- ---- a row more

module _ (rs : List RecordValue) (r : RecordValue) where
  both : lexemes_of (rs ++ r ∷ []) ≡ lexemes_of rs ++ map (lexeme_at_line (0 + length rs)) r.entry.lexemes
  both = lexemes_of_both 0 rs (r ∷ []) ∙ ap (λ (ys : List LexemeValue). lexemes_of rs ++ ys) (one_row (0 + length rs) r)

  more_some : 0 < length (lexemes_of rs) → 0 < length (lexemes_of (rs ++ r ∷ []))
  more_some h = omega (arith, h, ap (λ (ys : List LexemeValue). length ys) both, length-append (lexemes_of rs) (map (lexeme_at_line (0 + length rs)) r.entry.lexemes))

  pub stops_more : {A : Type 0} (config : Config) (s : StoppedDocument A) → StopsIn config rs s → StopsIn config (rs ++ r ∷ []) s
  stops_more config s h = record {
    some = more_some h.some;
    line = omega (arith, h.line, length-append rs (r ∷ []));
    stopped = λ more. subst (λ (es : List RecordValue). IsStopped config es s) (sym (append_assoc rs (r ∷ []) more)) (h.stopped (r ∷ more));
  }

  pub not_in : {A : Type 0} (config : Config) (s : Stage A) → ((d : DocumentJudge A) → s ≡ In d → ⊥) → IsReady config rs s → IsAt config (rs ++ r ∷ []) s
  not_in config Before other h = absurd h
  not_in config (In d) other h = absurd (other d refl)
  not_in config (Stopped s) other h = stops_more config s h

  -- it has no lexemes
  module _ (empty : r.entry.lexemes ≡ []) where
    none_more : lexemes_of (rs ++ r ∷ []) ≡ lexemes_of rs
    none_more = both ∙ (ap (λ (ys : List LexemeValue). lexemes_of rs ++ map (lexeme_at_line (0 + length rs)) ys) empty ∙ append-nil (lexemes_of rs))

    skipped : {A : Type 0} (config : Config) (d : DocumentJudge A) → ReadsRows config rs d → ReadsRows config (rs ++ r ∷ []) d
    skipped config d h more some =
        let same = append_assoc rs (r ∷ []) more in
        let reads = h (r ∷ more) (subst (λ (es : List RecordValue). 0 < length (lexemes_of es)) same some) in
        let left : lexemes_from (length rs) (r ∷ more) ≡ lexemes_from (length (rs ++ r ∷ [])) more =
        ap (λ (ys : List LexemeValue). map (lexeme_at_line (length rs)) ys ++ lexemes_from (length rs + 1) more) empty
        ∙ ap (λ n. lexemes_from n more) {x = length rs + 1} {y = length (rs ++ r ∷ [])} (omega (arith, length-append rs (r ∷ []))) in
        subst (λ (ys : List LexemeValue). Reads config (lexemes_of ((rs ++ r ∷ []) ++ more)) (spaces_of ((rs ++ r ∷ []) ++ more)) ys d) left
        (subst (λ (es : List RecordValue). Reads config (lexemes_of es) (spaces_of es) (lexemes_from (length rs) (r ∷ more)) d) (sym same) reads)

    pub at_empty : {A : Type 0} (config : Config) (s : Stage A) → IsAt config rs s → IsAt config (rs ++ r ∷ []) s
    at_empty config Before h = none_more ∙ h
    at_empty config (In d) h = (more_some h.0, skipped config d h.1)
    at_empty config (Stopped s) h = stops_more config s h

    pub count_empty : (m : ℕ) → m + document_count (lexemes_of rs) ≡ m + document_count (lexemes_of (rs ++ r ∷ []))
    count_empty m = ap (λ (ys : List LexemeValue). m + document_count ys) (sym none_more)

  pub commented_same : {A : Type 0} (config : Config) (s : Stage A) → IsAt config rs s → IsCommented rs r s s
  commented_same config Before h = (λ e. refl, λ e. absurd (cc))
  commented_same config (In d) h = (λ e. refl, λ e. absurd (cc))
  commented_same config (Stopped s) h = (λ e. absurd (cc), λ e. take-append-le s.place.line rs (r ∷ []) (let l : s.place.line < length rs = h.line in omega (arith, l)))

  -- ---- it has some

  pub keeps_in : {A : Type 0} (d e : DocumentJudge A) → KeepsComments rs r (In d) (In e)
  keeps_in d e = (λ k. refl, λ k. absurd (cc))

  pub keeps_stopped : {A : Type 0} (d : DocumentJudge A) (s : StoppedDocument A) → s.place.line + 1 ≡ length (rs ++ r ∷ []) → KeepsComments rs r (In d) (Stopped s)
  keeps_stopped d s h =
      let last : s.place.line ≡ length rs = omega (arith, h, length-append rs (r ∷ [])) in
      (λ k. absurd (cc), λ k. ap (λ n. take n (rs ++ r ∷ [])) last ∙ take-append_seam rs (r ∷ []))

  pub keeps_ready : {A : Type 0} (config : Config) (s : Stage A) → IsReady config rs s → KeepsComments rs r s s
  keeps_ready config Before h = absurd h
  keeps_ready config (In d) h = keeps_in d d
  keeps_ready config (Stopped s) h = (λ k. absurd (cc), λ k. take-append-le s.place.line rs (r ∷ []) (let l : s.place.line < length rs = h.line in omega (arith, l)))

  pub begun_ready : {A : Type 0} (config : Config) (old new : Stage A) → IsBegun config old new → IsAt config rs old → IsReady config rs new
  begun_ready config Before Before b h = absurd b
  begun_ready config Before (In d) b h = λ more some. by_start more some
    where
      by_start : (more : List RecordValue) → 0 < length (lexemes_of (rs ++ more)) → Reads config (lexemes_of (rs ++ more)) (spaces_of (rs ++ more)) (lexemes_from (length rs) more) d
      by_start more some =
          let parts = lexemes_of_both 0 rs more in
          let all : lexemes_of (rs ++ more) ≡ lexemes_from (length rs) more =
          parts ∙ (ap (λ (ys : List LexemeValue). ys ++ lexemes_from (0 + length rs) more) h ∙ ap (λ n. lexemes_from n more) {x = 0 + length rs} {y = length rs} (omega arith)) in
          subst (λ (ys : List LexemeValue). Reads config (lexemes_of (rs ++ more)) (spaces_of (rs ++ more)) ys d) all (b (lexemes_of (rs ++ more)) (spaces_of (rs ++ more)) some)
  begun_ready config Before (Stopped s) b h = absurd b
  begun_ready config (In d) new b h = subst (λ (s : Stage _). IsReady config rs s) (sym b) h.1
  begun_ready config (Stopped d) new b h = subst (λ (s : Stage _). IsReady config rs s) (sym b) h

  -- comments
  pub commented_so : {A : Type 0} (config : Config) (old mid new : Stage A) → IsBegun config old mid → IsAt config rs old → KeepsComments rs r mid new → IsCommented rs r old new
  commented_so config Before Before new b h keeps = absurd b
  commented_so config Before (In d) new b h keeps = (λ e. refl, keeps.1)
  commented_so config Before (Stopped d) new b h keeps = absurd b
  commented_so config (In d) mid new b h keeps = (λ e. refl, λ e. keeps.1 e ∙ ap (λ (s : Stage _). commented s rs) b)
  commented_so config (Stopped d) mid new b h keeps = (λ e. absurd (shown_not (subst (λ (s : Stage _). shows_comments s ≡ true) b (keeps.0 e))), λ e. keeps.1 e ∙ ap (λ (s : Stage _). commented s rs) b)
    where
      shown_not : false ≡ true → ⊥
      shown_not e = cc

  -- documents
  pub counted_so : {A : Type 0} (config : Config) (old : Stage A) (m n : ℕ) → IsAt config rs old → 0 < length r.entry.lexemes → n ≡ counted_if (has_begun old) m
      → n + document_count (lexemes_of rs) ≡ m + document_count (lexemes_of (rs ++ r ∷ []))
  counted_so config Before m n h some e = omega (arith, e, ap (λ (ys : List LexemeValue). document_count ys) h, one_document (lexemes_of (rs ++ r ∷ [])) (row_some rs r some))
  counted_so config (In d) m n h some e = omega (arith, e, one_document (lexemes_of rs) h.0, one_document (lexemes_of (rs ++ r ∷ [])) (row_some rs r some))
  counted_so config (Stopped d) m n h some e = omega (arith, e, one_document (lexemes_of rs) h.some, one_document (lexemes_of (rs ++ r ∷ [])) (row_some rs r some))

  -- the first lexeme's column
  abbrev pub column : List LexemeValue → ℕ
  column ys = option_map_or (λ x. x.start.col) (slice_get ys 0) 0

  first_stays : 0 < length (lexemes_of rs) → column (lexemes_of rs) ≡ column (lexemes_of (rs ++ r ∷ []))
  first_stays h = sym (ap column both ∙ ap (λ (o : Option LexemeValue). option_map_or (λ x. x.start.col) o 0) (get_before (lexemes_of rs) (map (lexeme_at_line (0 + length rs)) r.entry.lexemes) 0 h))

  column_of : (zs : List LexemeValue) → lexemes_of rs ≡ [] → zs ≡ r.entry.lexemes → column (lexemes_of (rs ++ r ∷ [])) ≡ column (map (lexeme_at_line (0 + length rs)) zs)
  column_of zs none are =
      ap column both
      ∙ (ap (λ (ys : List LexemeValue). column (ys ++ map (lexeme_at_line (0 + length rs)) r.entry.lexemes)) none
      ∙ ap (λ (ys : List LexemeValue). column (map (lexeme_at_line (0 + length rs)) ys)) (sym are))

  pub first_more : {A : Type 0} (config : Config) (s : Stage A) (first : ℕ) (ys : List LexemeValue) → IsAt config rs s → first ≡ column (lexemes_of rs) → ys ≡ r.entry.lexemes → first_column s first ys ≡ column (lexemes_of (rs ++ r ∷ []))
  first_more config Before first [] h e are = e ∙ (ap column h ∙ sym (column_of [] h are))
  first_more config Before first (y ∷ ys) h e are = sym (column_of (y ∷ ys) h are)
  first_more config (In d) first ys h e are = e ∙ first_stays h.0
  first_more config (Stopped s) first ys h e are = e ∙ first_stays h.some

  -- comments
  pub comments_read : {A : Type 0} (config : Config) (old new : Stage A) (c d : CommentReader A) (shows : Bool) → IsCommented rs r old new → shows ≡ shows_comments new → ReadsComments config (commented old rs) c
      → (shows ≡ true → ReadsComments config rs c → ReadsComments config (rs ++ r ∷ []) d) → (shows ≡ false → d ≡ c) → ReadsComments config (commented new (rs ++ r ∷ [])) d
  comments_read config old new c d true so is h shown stays =
      subst (λ (es : List RecordValue). ReadsComments config es d) (sym (all_shown new (rs ++ r ∷ []) (sym is)))
      (shown refl (subst (λ (es : List RecordValue). ReadsComments config es c) (so.0 (sym is)) h))
  comments_read config old new c d false so is h shown stays =
      subst (λ (k : CommentReader _). ReadsComments config (commented new (rs ++ r ∷ [])) k) (sym (stays refl))
      (subst (λ (es : List RecordValue). ReadsComments config es c) (sym (so.1 (sym is))) h)

pub documents_if : (b : Bool) (m n : Meter) → n ≡ (if b then m else record m { documents = m.documents + 1 }) → n.documents ≡ counted_if b m.documents
documents_if true m n e = ap (λ (k : Meter). k.documents) e
documents_if false m n e = ap (λ (k : Meter). k.documents) e

pub lines_if : (b : Bool) (m n : Meter) → n ≡ (if b then m else record m { documents = m.documents + 1 }) → n.lines ≡ m.lines
lines_if true m n e = ap (λ (k : Meter). k.lines) e
lines_if false m n e = ap (λ (k : Meter). k.lines) e

pub empty_list : {X : Type 0} (ys : List X) → (length ys == 0) ≡ true → ys ≡ []
empty_list [] e = refl
empty_list (y ∷ ys) e = absurd (omega (arith, eqb-true (length (y ∷ ys)) 0 e))

pub always : {T E : Type 0} (r : Result T E) {P : Type 0} → P → OnOk r P
always (Ok v) h = h
always (Err e) h = tt

-- ---- the end

module _ (config : Config) (rs : List RecordValue) where
  abbrev xs : List LexemeValue
  xs = lexemes_of rs

  abbrev found_by : List LexemeValue → List FindingValue
  found_by ys = lexeme_findings (lexeme_options_of config) (counted_of ys (document_of ys).fault) ys

  all_lines : comments_from None 0 rs ≡ shown_comments (length rs) rs
  all_lines = sym (ap (λ (es : List RecordValue). comments_from None 0 es) (take-length rs))

  pub told_none : {A : Type 0} (s : Stage A) (t : ToldDocument A) → commented s rs ≡ rs → xs ≡ [] → t.found.items ≡ [] → t.facts.items ≡ [] → t.in_tree.items ≡ [] → t.fault ≡ None → IsTold config rs s t
  told_none s t shown none found facts in_tree fault = record {
    found = found ∙ sym (ap found_by none);
    facts = facts ∙ sym (ap (λ (ys : List LexemeValue). indent_facts (map token_of ys) (marked_lexemes ys) (counted_of ys (document_of ys).fault) (spaces_of rs)) none);
    in_tree = in_tree ∙ (sym (none_found config) ∙ sym (ap (λ (ys : List LexemeValue). event_findings config (document_of ys).events) none));
    fault = ap (option_map section_fault_value) fault ∙ sym (ap (λ (ys : List LexemeValue). section_fault ys (document_of ys).fault None) none);
    comments = ap (λ (es : List RecordValue). comments_from None 0 es) shown ∙ (all_lines ∙ sym (ap (λ (ys : List LexemeValue). shown_comments (comment_lines (length rs) ys (document_of ys).fault) rs) none));
  }

  counted_at_end : (o : Option PlacedParseFault) → IfSome o (λ f. f.place ≡ length xs) → counted_of xs o ≡ length xs
  counted_at_end None h = refl
  counted_at_end (Some f) h = h

  none_there : (f : PlacedParseFault) → f.place ≡ length xs → slice_get xs f.place ≡ None
  none_there f h = slice_get_past xs f.place (omega (arith, h))

  fault_at_end : (o : Option PlacedParseFault) → IfSome o (λ f. f.place ≡ length xs) → option_map (λ f. Behind (parse.fault_text f.kind)) o ≡ section_fault xs o None
  fault_at_end None h = refl
  fault_at_end (Some f) h = sym (ap (λ (x : Option LexemeValue). option_or (option_map (λ y. Here y.start (parse.fault_text f.kind)) x) (option_or None (Some (Behind (parse.fault_text f.kind))))) (none_there f h))

  lines_at_end : (o : Option PlacedParseFault) → IfSome o (λ f. f.place ≡ length xs) → comment_lines (length rs) xs o ≡ length rs
  lines_at_end None h = refl
  lines_at_end (Some f) h = ap (λ (x : Option LexemeValue). option_map_or (λ y. y.start.line) x (length rs)) (none_there f h)

  pub told_in : {A : Type 0} (d : DocumentJudge A) (e : DocumentEnd A) (t : ToldDocument A) → EndsSo config xs (spaces_of rs) e → t.found ≡ e.found → t.facts ≡ e.facts → t.in_tree ≡ e.in_tree
      → option_map section_fault_value t.fault ≡ option_map (λ f. Behind (parse.fault_text f.kind)) e.fault → IsTold config rs (In d) t
  told_in d e t h found facts in_tree fault =
      let o = (document_of xs).fault in
      let after = subst (λ (w : Option PlacedParseFault). IfSome w (λ f. f.place ≡ length xs)) h.fault h.after in
      let counted = sym (counted_at_end o after) in
      record {
        found = ap (λ v. v.items) found ∙ (h.found ∙ ap (λ n. lexeme_findings (lexeme_options_of config) n xs) counted);
        facts = ap (λ v. v.items) facts ∙ (h.facts ∙ ap (λ n. indent_facts (map token_of xs) (marked_lexemes xs) n (spaces_of rs)) counted);
        in_tree = ap (λ v. v.items) in_tree ∙ h.in_tree;
        fault = fault ∙ (ap (option_map (λ f. Behind (parse.fault_text f.kind))) h.fault ∙ fault_at_end o after);
        comments = all_lines ∙ ap (λ n. shown_comments n rs) (sym (lines_at_end o after));
      }

  pub told_stopped : {A : Type 0} (s : StoppedDocument A) (t : ToldDocument A) → StopsIn config rs s → t.found ≡ s.found → t.facts ≡ s.facts → t.in_tree.items ≡ [] → t.fault ≡ Some (is.Here s.place s.text) → IsTold config rs (Stopped s) t
  told_stopped s t h found facts in_tree fault =
      let k = subst (λ (es : List RecordValue). IsStopped config es s) (append-nil rs) (h.stopped []) in
      let b = document_of xs in
      let counted : k.fault.place ≡ counted_of xs b.fault = sym (ap (counted_of xs) k.told) in
      let here : section_fault xs b.fault None ≡ Some (Here k.lexeme.start (parse.fault_text k.fault.kind)) =
      ap (λ (o : Option PlacedParseFault). section_fault xs o None) k.told
      ∙ ap (λ (x : Option LexemeValue). option_or (option_map (λ y. Here y.start (parse.fault_text k.fault.kind)) x) (option_or None (Some (Behind (parse.fault_text k.fault.kind))))) k.there in
      let line : comment_lines (length rs) xs b.fault ≡ k.lexeme.start.line =
      ap (λ (o : Option PlacedParseFault). comment_lines (length rs) xs o) k.told ∙ ap (λ (x : Option LexemeValue). option_map_or (λ y. y.start.line) x (length rs)) k.there in
      record {
        found = ap (λ v. v.items) found ∙ (k.found ∙ ap (λ n. lexeme_findings (lexeme_options_of config) n xs) counted);
        facts = ap (λ v. v.items) facts ∙ (k.facts ∙ ap (λ n. indent_facts (map token_of xs) (marked_lexemes xs) n (spaces_of rs)) counted);
        in_tree = in_tree ∙ sym (ap (event_findings config) (quiet_document xs h.some k.fault k.told) ∙ none_found config);
        fault = ap (option_map section_fault_value) fault ∙ (made s.place k.lexeme.start s.text.now (parse.fault_text k.fault.kind) (sym k.place) k.text ∙ sym here);
        comments = ap (λ n. shown_comments n rs) (ap (λ (p : Pos). p.line) (sym k.place) ∙ sym line);
      }
    where
      made : (p q : Pos) (u v : List ℕ) → p ≡ q → u ≡ v → Some (Here p u) ≡ Some (Here q v)
      made p q u v a b = rw (a, b)

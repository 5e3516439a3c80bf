-- What is kept of the first rows of a section, where all that is read of it begins in them.
use Rattle.std.proofs.Common.{◌≡◌, ◌<◌, ◌≤◌, ◌++◌, ◌+◌, ℕ, zero, suc, Bool, true, false, List, [], ◌∷◌, map, length, take, take_all, refl, ap, sym, subst, ◌∙◌, Option, Some, None, arith, append_assoc, append-nil}
use Rattle.std.specs.Prelude.{slice_get, slice_index, if◌then◌else◌}
use Rattle.std.specs.List.{filter, AllByRecursion}
use Rattle.std.proofs.lemmas.List.{length-take-le, length-take}
use Rattle.std.specs.Option.{option_map_or, option_map, option_or}
use Rattle.std.specs.Bool.{then_some}
use Rattle.yl_text.specs.Finding.{FindingValue}
use Rattle.yl_text.specs.declared.finding.RuleId.TheVariants.{Anchors, KeyDuplicates, KeyOrdering, Indentation}
use Rattle.yl_lexeme.specs.Lexeme.{LexemeValue, CommentValue, PlacedCommentValue}
use Rattle.yl_marks.specs.declared.token.Token.{Token}
use Rattle.yl_marks.specs.declared.symbol.Marked.{Marked}
use Rattle.yl_marks.specs.declared.symbol.Marked.TheVariants.{Open, Close, Lexeme}
use Rattle.yl_marks.specs.Keys.{lexeme_at_line, token_of}
use Rattle.yl_marks.specs.Marks.{marked_lexemes}
use Rattle.yl_row.specs.declared.fault.PlacedScanFault.{PlacedScanFault}
use Rattle.yl_events.specs.declared.fault.PlacedParseFault.{PlacedParseFault}
use Rattle.yl_events.specs.Event.{EventValue}
use Rattle.yl_events.specs.Faults as parse
use Rattle.yl_indentation.specs.declared.fact.Fact.{Fact}
use Rattle.yl_indentation.specs.declared.element.Element.{Element}
use Rattle.yl_indentation.specs.Elements.{element_of, lexeme_element}
use Rattle.yl_indentation.specs.Facts.{facts_after}
use Rattle.yl_lexeme_rules.specs.Lexemes.{lexeme_findings}
use Rattle.yl_tree.specs.declared.options.AnchorsOptions.{AnchorsOptions}
use Rattle.yl_tree.specs.declared.options.KeyDuplicatesOptions.{KeyDuplicatesOptions}
use Rattle.yl_tree.specs.Anchors.{anchors}
use Rattle.yl_tree.specs.KeyRules.{key_duplicates, key_ordering}
use Rattle.yl_config.specs.declared.config.Config.{Config}
use Rattle.yl_config.specs.Config.{options_of}
use Rattle.yl_record.specs.Records.{RecordValue}
use Rattle.yl_sections.specs.declared.comments.LexemeEnd.{LexemeEnd}
use Rattle.yl_sections.specs.Sections.{lexemes_from, lexemes_of}
use Rattle.yl_sections.specs.Kept.{KeptValue, BuiltValue, SectionFaultValue, scan_fault_from, section_fault, hidden_events, counted_of, comment_lines, last_lexeme_end, comment_at, comments_from, shown_comments, lexeme_options_of, shown_comment_findings, event_findings, is_on, facts_of, kept_with, kept_of, Here, Behind, scan_fault_at, unless_fault, items_if}
use Rattle.yl_rules.specs.Addressed.{is_addressed}
use Rattle.yl_sections.specs.Judge.{document_of, kept_of_section}
use Rattle.yl_sections.specs.Front.{IsBare, IsFront}

-- ---- lexemes

abbrev AreBareFrom : ℕ → List RecordValue → Type 0
AreBareFrom n rs = (i : ℕ) (r : RecordValue) → n ≤ i → slice_get rs i ≡ Some r → IsBare r

rest_bare : (n : ℕ) (r : RecordValue) (rs : List RecordValue) → AreBareFrom (suc n) (r ∷ rs) → AreBareFrom n rs
rest_bare n r rs h i x l e = h (suc i) x (omega (arith, l)) e

none_bare : (r : RecordValue) (rs : List RecordValue) → AreBareFrom 0 (r ∷ rs) → AreBareFrom 0 rs
none_bare r rs h i x l e = h (suc i) x (omega arith) e

bare_lexemes : (line : ℕ) (rs : List RecordValue) → AreBareFrom 0 rs → lexemes_from line rs ≡ []
bare_lexemes line [] h = refl
bare_lexemes line (r ∷ rs) h =
    ap (λ (xs : List LexemeValue). map (lexeme_at_line line) xs ++ lexemes_from (line + 1) rs) (h 0 r (omega arith) refl).0 ∙ bare_lexemes (line + 1) rs (none_bare r rs h)

front_lexemes : (line n : ℕ) (rs : List RecordValue) → AreBareFrom n rs → lexemes_from line (take n rs) ≡ lexemes_from line rs
front_lexemes line zero rs h = sym (bare_lexemes line rs h)
front_lexemes line (suc n) [] h = refl
front_lexemes line (suc n) (r ∷ rs) h =
    ap (λ (xs : List LexemeValue). map (lexeme_at_line line) r.entry.lexemes ++ xs) (front_lexemes (line + 1) n rs (rest_bare n r rs h))

-- ---- comments

bare_comments : (last : Option LexemeEnd) (line l : ℕ) (rs : List RecordValue) → AreBareFrom 0 rs → comments_from last line (take l rs) ≡ []
bare_comments last line zero rs h = refl
bare_comments last line (suc l) [] h = refl
bare_comments last line (suc l) (r ∷ rs) h =
    let end = last_lexeme_end last line r.entry.lexemes in
    ap (λ (c : Option CommentValue). comment_at line end c ++ comments_from end (line + 1) (take l rs)) (h 0 r (omega arith) refl).1 ∙ bare_comments end (line + 1) l rs (none_bare r rs h)

front_comments : (last : Option LexemeEnd) (line n l : ℕ) (rs : List RecordValue) → AreBareFrom n rs → comments_from last line (take l (take n rs)) ≡ comments_from last line (take l rs)
front_comments last line zero zero rs h = refl
front_comments last line zero (suc l) rs h = sym (bare_comments last line (suc l) rs h)
front_comments last line (suc n) zero rs h = refl
front_comments last line (suc n) (suc l) [] h = refl
front_comments last line (suc n) (suc l) (r ∷ rs) h =
    let end = last_lexeme_end last line r.entry.lexemes in
    ap (λ (cs : List PlacedCommentValue). comment_at line end r.entry.comment ++ cs) (front_comments end (line + 1) n l rs (rest_bare n r rs h))

all_comments : (n : ℕ) (rs : List RecordValue) → AreBareFrom n rs → shown_comments (length (take n rs)) (take n rs) ≡ shown_comments (length rs) rs
all_comments n rs h =
    let few : length (take n rs) ≤ length rs = omega (arith, length-take n rs) in
    ap (λ (xs : List RecordValue). comments_from None 0 xs) (take_all (length (take n rs)) (take n rs) (omega arith) ∙ sym (take_all (length rs) (take n rs) few))
    ∙ front_comments None 0 n (length rs) rs h

lines_shown : (n : ℕ) (rs : List RecordValue) → AreBareFrom n rs → (o : Option LexemeValue) → shown_comments (option_map_or (λ (x : LexemeValue). x.start.line) o (length (take n rs))) (take n rs) ≡ shown_comments (option_map_or (λ (x : LexemeValue). x.start.line) o (length rs)) rs
lines_shown n rs h None = all_comments n rs h
lines_shown n rs h (Some x) = front_comments None 0 n x.start.line rs h

comments_shown : (n : ℕ) (rs : List RecordValue) (xs : List LexemeValue) → AreBareFrom n rs → (f : Option PlacedParseFault)
    → shown_comments (comment_lines (length (take n rs)) xs f) (take n rs) ≡ shown_comments (comment_lines (length rs) xs f) rs
comments_shown n rs xs h None = all_comments n rs h
comments_shown n rs xs h (Some f) = lines_shown n rs h (slice_get xs f.place)

-- ---- the scan fault

front_sound : (line n : ℕ) (rs : List RecordValue) → ((i : ℕ) (r : RecordValue) → i < n → slice_get rs i ≡ Some r → r.entry.fault ≡ None) → scan_fault_from line (take n rs) ≡ None
front_sound line zero rs h = refl
front_sound line (suc n) [] h = refl
front_sound line (suc n) (r ∷ rs) h =
    ap (λ (f : Option PlacedScanFault). option_or (option_map (scan_fault_at line) f) (scan_fault_from (line + 1) (take n rs))) (h 0 r (omega arith) refl)
    ∙ front_sound (line + 1) n rs (λ i x l e. h (suc i) x (omega (arith, l)) e)

-- ---- indentation

abbrev IsAbove : ℕ → LexemeValue → Type 0
IsAbove m x = x.start.line < m

above_onto : (m : ℕ) (xs ys : List LexemeValue) → AllByRecursion (IsAbove m) xs → AllByRecursion (IsAbove m) ys → AllByRecursion (IsAbove m) (xs ++ ys)
above_onto m [] ys a b = b
above_onto m (x ∷ xs) ys a b = (a.0, above_onto m xs ys a.1 b)

above_line : (m line : ℕ) (xs : List LexemeValue) → line < m → AllByRecursion (IsAbove m) (map (lexeme_at_line line) xs)
above_line m line [] l = tt
above_line m line (x ∷ xs) l = (l, above_line m line xs l)

above_all : (line n : ℕ) (rs : List RecordValue) → AllByRecursion (IsAbove (line + n)) (lexemes_from line (take n rs))
above_all line zero rs = tt
above_all line (suc n) [] = tt
above_all line (suc n) (r ∷ rs) =
    let e : line + 1 + n ≡ line + suc n = omega arith in
    above_onto (line + suc n) (map (lexeme_at_line line) r.entry.lexemes) (lexemes_from (line + 1) (take n rs)) (above_line (line + suc n) line r.entry.lexemes (omega arith))
    (subst (λ m. AllByRecursion (IsAbove m) (lexemes_from (line + 1) (take n rs))) e (above_all (line + 1) n rs))

abbrev indentations : List RecordValue → List ℕ
indentations rs = map (λ (r : RecordValue). r.indentation) rs

same_indent : (n i : ℕ) (rs : List RecordValue) → i < n → slice_index (indentations (take n rs)) i ≡ slice_index (indentations rs) i
same_indent zero i rs l = absurd (omega (arith, l))
same_indent (suc n) i [] l = refl
same_indent (suc n) zero (r ∷ rs) l = refl
same_indent (suc n) (suc i) (r ∷ rs) l = same_indent n i rs (omega (arith, l))

-- lines that begin alike in both
abbrev BeginAlike : List ℕ → List ℕ → Token → Type 0
BeginAlike ms ns t = slice_index ms t.start.line ≡ slice_index ns t.start.line

tokens_alike : (ms ns : List ℕ) (n : ℕ) (xs : List LexemeValue) → AllByRecursion (IsAbove n) xs → ((i : ℕ) → i < n → slice_index ms i ≡ slice_index ns i) → AllByRecursion (BeginAlike ms ns) (map token_of xs)
tokens_alike ms ns n [] h same = tt
tokens_alike ms ns n (x ∷ xs) h same = (same x.start.line h.0, tokens_alike ms ns n xs h.1 same)

token_alike : (ms ns : List ℕ) (ts : List Token) (i : ℕ) (t : Token) → AllByRecursion (BeginAlike ms ns) ts → slice_get ts i ≡ Some t → BeginAlike ms ns t
token_alike ms ns [] i t h e = absurd (cc)
token_alike ms ns (x ∷ ts) zero t h e = let same : x ≡ t = cc in subst (BeginAlike ms ns) same h.0
token_alike ms ns (x ∷ ts) (suc i) t h e = token_alike ms ns ts i t h.1 e

module _ (ms ns : List ℕ) (ts : List Token) (counted : ℕ) (alike : AllByRecursion (BeginAlike ms ns) ts) where
  at_token : (i : ℕ) (o : Option Token) → slice_get ts i ≡ o → lexeme_element ts counted ms i o ≡ lexeme_element ts counted ns i o
  at_token i None e = refl
  at_token i (Some t) e = let same = token_alike ms ns ts i t alike e in rw same refl

  elements_alike : (m : Marked) → element_of ts counted ms m ≡ element_of ts counted ns m
  elements_alike (Open collection column) = refl
  elements_alike Close = refl
  elements_alike (Lexeme i begins) = at_token i (slice_get ts i) refl

  all_alike : (marks : List Marked) → map (element_of ts counted ms) marks ≡ map (element_of ts counted ns) marks
  all_alike [] = refl
  all_alike (m ∷ marks) = ap (λ (e : Element). e ∷ map (element_of ts counted ms) marks) (elements_alike m) ∙ ap (λ (es : List Element). element_of ts counted ns m ∷ es) (all_alike marks)

front_facts : (config : Config) (n : ℕ) (rs : List RecordValue) (counted : ℕ) → AreBareFrom n rs → facts_of config (take n rs) (lexemes_of rs) counted ≡ facts_of config rs (lexemes_of rs) counted
front_facts config n rs counted h =
    let xs = lexemes_of rs in
    let none : 0 + n ≡ n = omega arith in
    let shown : AllByRecursion (IsAbove n) (lexemes_from 0 (take n rs)) = subst (λ m. AllByRecursion (IsAbove m) (lexemes_from 0 (take n rs))) none (above_all 0 n rs) in
    let above : AllByRecursion (IsAbove n) xs = subst (λ (ys : List LexemeValue). AllByRecursion (IsAbove n) ys) (front_lexemes 0 n rs h) shown in
    let alike = tokens_alike (indentations (take n rs)) (indentations rs) n xs above (λ i l. same_indent n i rs l) in
    ap (λ (es : List Element). items_if (is_on config Indentation) (facts_after [] es)) (all_alike (indentations (take n rs)) (indentations rs) (map token_of xs) counted alike (marked_lexemes xs))

-- ---- what is found

none_repeated : (b : Bool) (o : KeyDuplicatesOptions) → option_map_or (λ d. key_duplicates d []) (then_some b o) [] ≡ []
none_repeated true o = refl
none_repeated false o = refl

none_misplaced : (b : Bool) → (if b then key_ordering [] else []) ≡ []
none_misplaced true = refl
none_misplaced false = refl

no_anchors : (b : Bool) (o : AnchorsOptions) → option_map_or (λ a. anchors a []) (then_some b o) [] ≡ []
no_anchors true o = refl
no_anchors false o = refl

pub none_found : (config : Config) → event_findings config [] ≡ []
none_found config =
    rw (none_repeated (is_on config KeyDuplicates) (options_of config).key_duplicates, none_misplaced (is_on config KeyOrdering), no_anchors (is_on config Anchors) (options_of config).anchors) refl

-- with a fault in any case, without, and where the scan fault alone hides the events
module _ (config : Config) (xs cs : List FindingValue) (es : List EventValue) where
  hidden_twice : (f : Option SectionFaultValue) → event_findings config (hidden_events f f es) ≡ []
  hidden_twice None = none_found config
  hidden_twice (Some f) = none_found config

  abbrev Shown : Option SectionFaultValue → Option SectionFaultValue → Type 0
  Shown fault parsed = (xs ++ (cs ++ event_findings config (unless_fault fault es))) ++ event_findings config (hidden_events fault parsed es) ≡ xs ++ (cs ++ event_findings config (unless_fault parsed es))

  nothing_more : (fs : List FindingValue) → (xs ++ (cs ++ fs)) ++ event_findings config [] ≡ xs ++ (cs ++ fs)
  nothing_more fs = ap (λ (gs : List FindingValue). (xs ++ (cs ++ fs)) ++ gs) (none_found config) ∙ append-nil (xs ++ (cs ++ fs))

  all_hidden : (xs ++ (cs ++ event_findings config [])) ++ event_findings config es ≡ xs ++ (cs ++ event_findings config es)
  all_hidden =
      ap (λ (gs : List FindingValue). (xs ++ (cs ++ gs)) ++ event_findings config es) (none_found config)
      ∙ (ap (λ (gs : List FindingValue). (xs ++ gs) ++ event_findings config es) (append-nil cs) ∙ append_assoc xs cs (event_findings config es))

  shown_none : (scanned : Option SectionFaultValue) → Shown scanned None
  shown_none None = nothing_more (event_findings config es)
  shown_none (Some f) = all_hidden

  shown_behind : (scanned : Option SectionFaultValue) (text : List ℕ) → Shown (option_or scanned (Some (Behind text))) (option_or None (Some (Behind text)))
  shown_behind None text = nothing_more (event_findings config [])
  shown_behind (Some f) text = nothing_more (event_findings config [])

  shown_at : (o : Option LexemeValue) (scanned : Option SectionFaultValue) (text : List ℕ) → Shown (option_or (option_map (λ (x : LexemeValue). Here x.start text) o) (option_or scanned (Some (Behind text)))) (option_or (option_map (λ (x : LexemeValue). Here x.start text) o) (option_or None (Some (Behind text))))
  shown_at None scanned text = shown_behind scanned text
  shown_at (Some x) scanned text = nothing_more (event_findings config [])

  shown_all : (ls : List LexemeValue) (f : Option PlacedParseFault) (scanned : Option SectionFaultValue) → Shown (section_fault ls f scanned) (section_fault ls f None)
  shown_all ls None scanned = shown_none scanned
  shown_all ls (Some f) scanned = shown_at (slice_get ls f.place) scanned (parse.fault_text f.kind)

-- ---- what is kept

-- the same of so many rows, with what was hidden
abbrev front_value : ℕ → KeptValue → KeptValue
front_value n k = record {
  rows = n;
  first = k.first;
  found = k.found ++ k.hidden;
  facts = k.facts;
  comments = k.comments;
  fault = k.parse_fault;
  hidden = [];
  parse_fault = k.parse_fault;
}

abbrev value_of : (rows first : ℕ) (found hidden : List FindingValue) (facts : List Fact) (comments : List PlacedCommentValue) (fault : Option SectionFaultValue) → KeptValue
value_of rows first found hidden facts comments fault = record {
  rows = rows;
  first = first;
  found = found;
  facts = facts;
  comments = comments;
  fault = fault;
  hidden = hidden;
  parse_fault = fault;
}

same_value : (m n first : ℕ) (fs gs none : List FindingValue) (fa fb : List Fact) (cs ds : List PlacedCommentValue) (f : Option SectionFaultValue) → m ≡ n → fs ≡ gs → fa ≡ fb → cs ≡ ds → none ≡ []
    → value_of m first fs none fa cs f ≡ value_of n first gs [] fb ds f
same_value m n first fs gs none fa fb cs ds f a b c d e = rw (a, b, c, d, e) refl

module _ (config : Config) (rs : List RecordValue) (n : ℕ) (b : BuiltValue) (within : n ≤ length rs) (h : IsFront n rs) where
  abbrev all : List LexemeValue
  all = lexemes_of rs

  with_front : kept_with config (take n rs) all b (section_fault all b.fault None) ≡ front_value n (kept_with config rs all b (section_fault all b.fault (scan_fault_from 0 rs)))
  with_front =
      let parsed = section_fault all b.fault None in
      let fault = section_fault all b.fault (scan_fault_from 0 rs) in
      let counted = counted_of all b.fault in
      let xs = lexeme_findings (lexeme_options_of config) counted all in
      let comments = shown_comments (comment_lines (length rs) all b.fault) rs in
      let cs = shown_comment_findings config comments in
      let here : shown_comments (comment_lines (length (take n rs)) all b.fault) (take n rs) ≡ comments = comments_shown n rs all h.bare b.fault in
      same_value (length (take n rs)) n (option_map_or (λ (x : LexemeValue). x.start.col) (slice_get all 0) 0) _ ((xs ++ (cs ++ event_findings config (unless_fault fault b.events))) ++ event_findings config (hidden_events fault parsed b.events))
      (event_findings config (hidden_events parsed parsed b.events)) (facts_of config (take n rs) all counted) (facts_of config rs all counted) _ (filter is_addressed comments) parsed
      (length-take-le n rs within)
      (ap (λ (ds : List PlacedCommentValue). xs ++ (shown_comment_findings config ds ++ event_findings config (unless_fault parsed b.events))) here ∙ sym (shown_all config xs cs b.events all b.fault (scan_fault_from 0 rs)))
      (front_facts config n rs counted h.bare)
      (ap (filter is_addressed) here)
      (hidden_twice config xs cs b.events parsed)

  pub front_of_kept : kept_of config (take n rs) b ≡ front_value n (kept_of config rs b)
  front_of_kept =
      ap (λ (xs : List LexemeValue). kept_with config (take n rs) xs b (section_fault xs b.fault (scan_fault_from 0 (take n rs)))) (front_lexemes 0 n rs h.bare)
      ∙ (ap (λ (f : Option SectionFaultValue). kept_with config (take n rs) all b (section_fault all b.fault f)) (front_sound 0 n rs h.sound) ∙ with_front)

-- what is put together of what is kept
pub front_judged : (config : Config) (rs : List RecordValue) (n : ℕ) (k : KeptValue) (ks : List FindingValue) (new : KeptValue) → n ≤ length rs → IsFront n rs → k ≡ kept_of_section config rs
    → ks ≡ k.found ++ k.hidden → new ≡ record { rows = n; first = k.first; found = ks; facts = k.facts; comments = k.comments; fault = k.parse_fault; hidden = []; parse_fault = k.parse_fault }
    → new ≡ kept_of_section config (take n rs)
unfolding kept_of_section
front_judged config rs n k ks new within h is found put =
    put
    ∙ (ap (λ (fs : List FindingValue). let r : KeptValue = record { rows = n; first = k.first; found = fs; facts = k.facts; comments = k.comments; fault = k.parse_fault; hidden = []; parse_fault = k.parse_fault } in r) found
    ∙ (ap (front_value n) is ∙ (sym (front_of_kept config rs n (document_of (lexemes_of rs)) within h)
    ∙ ap (λ (xs : List LexemeValue). kept_of config (take n rs) (document_of xs)) (sym (front_lexemes 0 n rs h.bare)))))

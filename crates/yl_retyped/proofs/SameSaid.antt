-- What is kept of a section by what its rows say.
use Rattle.std.proofs.Common.{◌≡◌, ℕ, List, ◌++◌, length, map, Option, Some, None, refl, ap, sym, ◌∙◌}
use Rattle.std.proofs.lemmas.List.{length-map}
use Rattle.std.proofs.lemmas.Option.{slice_get-map}
use Rattle.std.specs.Option.{option_map, option_map_or, option_or}
use Rattle.std.specs.Prelude.{slice_get}
use Rattle.std.specs.List.{filter}
use Rattle.yl_text.specs.Finding.{FindingValue}
use Rattle.yl_lexeme.specs.Lexeme.{LexemeValue, PlacedCommentValue}
use Rattle.yl_marks.specs.declared.token.Token.{Token}
use Rattle.yl_marks.specs.Keys.{token_of}
use Rattle.yl_events.specs.declared.fault.PlacedParseFault.{PlacedParseFault}
use Rattle.yl_events.specs.Event.{EventValue}
use Rattle.yl_lexeme_rules.specs.Lexemes.{lexeme_findings}
use Rattle.yl_indentation.specs.declared.fact.Fact.{Fact}
use Rattle.yl_rules.specs.Addressed.{is_addressed}
use Rattle.yl_config.specs.declared.config.Config.{Config}
use Rattle.yl_record.specs.Records.{RecordValue}
use Rattle.yl_sections.specs.Sections.{lexemes_of}
use Rattle.yl_sections.specs.Kept.{BuiltValue, KeptValue, SectionFaultValue, comment_lines, counted_of, event_findings, facts_of, hidden_events, kept_of, lexeme_options_of, scan_fault_from, section_fault, shown_comment_findings, shown_comments, Here, Behind, unless_fault}

-- two sections say the same, the documents of which give these
pub record SaySame (config : Config) (rs ss : List RecordValue) (d e : BuiltValue) : Type 0 where
  pub rows : length rs ≡ length ss
  pub indentations : map (λ (r : RecordValue). r.indentation) rs ≡ map (λ (r : RecordValue). r.indentation) ss
  pub scanned : scan_fault_from 0 rs ≡ scan_fault_from 0 ss
  pub comments : (n : ℕ) → shown_comments n rs ≡ shown_comments n ss
  pub tokens : map token_of (lexemes_of rs) ≡ map token_of (lexemes_of ss)
  pub found : (counted : ℕ) → lexeme_findings (lexeme_options_of config) counted (lexemes_of rs) ≡ lexeme_findings (lexeme_options_of config) counted (lexemes_of ss)
  pub fault : d.fault ≡ e.fault
  pub events : event_findings config d.events ≡ event_findings config e.events

-- ---- what depends on tokens alone

tokens_at : (xs ys : List LexemeValue) (i : ℕ) → map token_of xs ≡ map token_of ys → option_map token_of (slice_get xs i) ≡ option_map token_of (slice_get ys i)
tokens_at xs ys i h = sym (slice_get-map token_of xs i) ∙ (ap (λ (ts : List Token). slice_get ts i) h ∙ slice_get-map token_of ys i)

counts_same : (xs ys : List LexemeValue) (f : Option PlacedParseFault) → map token_of xs ≡ map token_of ys → counted_of xs f ≡ counted_of ys f
counts_same xs ys None h = sym (length-map xs token_of) ∙ (ap length h ∙ length-map ys token_of)
counts_same xs ys (Some f) h = refl

abbrev token_in : Token → Option Token → Token
token_in t None = t
token_in t (Some u) = u

token_is : (x y : LexemeValue) → option_map token_of (Some x) ≡ option_map token_of (Some y) → token_of x ≡ token_of y
token_is x y h = ap (token_in (token_of x)) h

some_none : {X : Type 0} (x : LexemeValue) → option_map token_of (Some x) ≡ option_map token_of None → X
some_none x h = absurd (cc)

none_some : {X : Type 0} (x : LexemeValue) → option_map token_of None ≡ option_map token_of (Some x) → X
none_some x h = absurd (cc)

columns_same : (n : ℕ) (a b : Option LexemeValue) → option_map token_of a ≡ option_map token_of b → option_map_or (λ (x : LexemeValue). x.start.col) a n ≡ option_map_or (λ (x : LexemeValue). x.start.col) b n
columns_same n None None h = refl
columns_same n None (Some y) h = none_some y h
columns_same n (Some x) None h = some_none x h
columns_same n (Some x) (Some y) h = ap (λ (t : Token). t.start.col) (token_is x y h)

lines_same : (n : ℕ) (a b : Option LexemeValue) → option_map token_of a ≡ option_map token_of b → option_map_or (λ (x : LexemeValue). x.start.line) a n ≡ option_map_or (λ (x : LexemeValue). x.start.line) b n
lines_same n None None h = refl
lines_same n None (Some y) h = none_some y h
lines_same n (Some x) None h = some_none x h
lines_same n (Some x) (Some y) h = ap (λ (t : Token). t.start.line) (token_is x y h)

parse_faults_same : (text : List ℕ) (scanned : Option SectionFaultValue) (a b : Option LexemeValue) → option_map token_of a ≡ option_map token_of b
    → option_or (option_map (λ (x : LexemeValue). Here x.start text) a) (option_or scanned (Some (Behind text))) ≡ option_or (option_map (λ (x : LexemeValue). Here x.start text) b) (option_or scanned (Some (Behind text)))
parse_faults_same text scanned None None h = refl
parse_faults_same text scanned None (Some y) h = none_some y h
parse_faults_same text scanned (Some x) None h = some_none x h
parse_faults_same text scanned (Some x) (Some y) h = let e : x.start ≡ y.start = ap (λ (t : Token). t.start) (token_is x y h) in rw e refl

comment_lines_same : (n : ℕ) (xs ys : List LexemeValue) (f : Option PlacedParseFault) → map token_of xs ≡ map token_of ys → comment_lines n xs f ≡ comment_lines n ys f
comment_lines_same n xs ys None h = refl
comment_lines_same n xs ys (Some f) h = lines_same n (slice_get xs f.place) (slice_get ys f.place) (tokens_at xs ys f.place h)

faults_same : (xs ys : List LexemeValue) (f : Option PlacedParseFault) (scanned : Option SectionFaultValue) → map token_of xs ≡ map token_of ys → section_fault xs f scanned ≡ section_fault ys f scanned
faults_same xs ys None scanned h = refl
faults_same xs ys (Some f) scanned h = parse_faults_same _ scanned (slice_get xs f.place) (slice_get ys f.place) (tokens_at xs ys f.place h)

facts_same : (config : Config) (rs ss : List RecordValue) (xs ys : List LexemeValue) (counted : ℕ) → map token_of xs ≡ map token_of ys
    → map (λ (r : RecordValue). r.indentation) rs ≡ map (λ (r : RecordValue). r.indentation) ss → facts_of config rs xs counted ≡ facts_of config ss ys counted
facts_same config rs ss xs ys counted h k = rw (h, k) refl

-- ---- the events

shown_same : (config : Config) (f : Option SectionFaultValue) (es fs : List EventValue) → event_findings config es ≡ event_findings config fs
    → event_findings config (unless_fault f es) ≡ event_findings config (unless_fault f fs)
shown_same config None es fs h = h
shown_same config (Some f) es fs h = refl

hidden_same : (config : Config) (f g : Option SectionFaultValue) (es fs : List EventValue) → event_findings config es ≡ event_findings config fs
    → event_findings config (hidden_events f g es) ≡ event_findings config (hidden_events f g fs)
hidden_same config None g es fs h = refl
hidden_same config (Some f) None es fs h = h
hidden_same config (Some f) (Some g) es fs h = refl

-- ---- all

abbrev kept_made : Config → ℕ → ℕ → List FindingValue → List PlacedCommentValue → List FindingValue → List Fact → Option SectionFaultValue → List FindingValue → Option SectionFaultValue → KeptValue
kept_made config rows first ls cs es facts fault hidden parse_fault = record {
  rows = rows;
  first = first;
  found = ls ++ (shown_comment_findings config cs ++ es);
  facts = facts;
  comments = filter is_addressed cs;
  fault = fault;
  hidden = hidden;
  parse_fault = parse_fault;
}

-- by a fault of both documents
kept_by : (config : Config) (rs ss : List RecordValue) (d e : BuiltValue) → SaySame config rs ss d e → (f : Option PlacedParseFault)
    → kept_of config rs (record { events = d.events; fault = f }) ≡ kept_of config ss (record { events = e.events; fault = f })
kept_by config rs ss d e s f =
    let xs = lexemes_of rs in
    let ys = lexemes_of ss in
    let lines : comment_lines (length rs) xs f ≡ comment_lines (length ss) ys f = ap (λ n. comment_lines n xs f) s.rows ∙ comment_lines_same (length ss) xs ys f s.tokens in
    let comments : shown_comments (comment_lines (length rs) xs f) rs ≡ shown_comments (comment_lines (length ss) ys f) ss = ap (λ n. shown_comments n rs) lines ∙ s.comments (comment_lines (length ss) ys f) in
    let counted : counted_of xs f ≡ counted_of ys f = counts_same xs ys f s.tokens in
    let whole : section_fault xs f (scan_fault_from 0 rs) ≡ section_fault ys f (scan_fault_from 0 ss) = ap (section_fault xs f) s.scanned ∙ faults_same xs ys f (scan_fault_from 0 ss) s.tokens in
    let alone : section_fault xs f None ≡ section_fault ys f None = faults_same xs ys f None s.tokens in
    let first : option_map_or (λ (x : LexemeValue). x.start.col) (slice_get xs 0) 0 ≡ option_map_or (λ (x : LexemeValue). x.start.col) (slice_get ys 0) 0 = columns_same 0 (slice_get xs 0) (slice_get ys 0) (tokens_at xs ys 0 s.tokens) in
    let found : lexeme_findings (lexeme_options_of config) (counted_of xs f) xs ≡ lexeme_findings (lexeme_options_of config) (counted_of ys f) ys =
    ap (λ n. lexeme_findings (lexeme_options_of config) n xs) counted ∙ s.found (counted_of ys f) in
    let facts : facts_of config rs xs (counted_of xs f) ≡ facts_of config ss ys (counted_of ys f) = ap (facts_of config rs xs) counted ∙ facts_same config rs ss xs ys (counted_of ys f) s.tokens s.indentations in
    let shown : event_findings config (unless_fault (section_fault xs f (scan_fault_from 0 rs)) d.events) ≡ event_findings config (unless_fault (section_fault ys f (scan_fault_from 0 ss)) e.events) =
    ap (λ g. event_findings config (unless_fault g d.events)) whole ∙ shown_same config (section_fault ys f (scan_fault_from 0 ss)) d.events e.events s.events in
    let hidden : event_findings config (hidden_events (section_fault xs f (scan_fault_from 0 rs)) (section_fault xs f None) d.events)
    ≡ event_findings config (hidden_events (section_fault ys f (scan_fault_from 0 ss)) (section_fault ys f None) e.events) =
    ap (λ g. event_findings config (hidden_events g (section_fault xs f None) d.events)) whole
    ∙ (ap (λ g. event_findings config (hidden_events (section_fault ys f (scan_fault_from 0 ss)) g d.events)) alone
    ∙ hidden_same config (section_fault ys f (scan_fault_from 0 ss)) (section_fault ys f None) d.events e.events s.events) in
    made _ _ _ _ _ _ _ _ _ _ _ _ _ _ _ _ _ _ s.rows first found comments shown facts whole hidden alone
  where
    made : (n m c b : ℕ) (ls ks : List FindingValue) (cs bs : List PlacedCommentValue) (es fs : List FindingValue) (js is : List Fact) (g h : Option SectionFaultValue) (hs gs : List FindingValue) (u v : Option SectionFaultValue)
        → n ≡ m → c ≡ b → ls ≡ ks → cs ≡ bs → es ≡ fs → js ≡ is → g ≡ h → hs ≡ gs → u ≡ v → kept_made config n c ls cs es js g hs u ≡ kept_made config m b ks bs fs is h gs v
    made n m c b ls ks cs bs es fs js is g h hs gs u v e1 e2 e3 e4 e5 e6 e7 e8 e9 = rw (e1, e2, e3, e4, e5, e6, e7, e8, e9) refl

-- the same is kept of them
pub kept_same : (config : Config) (rs ss : List RecordValue) (d e : BuiltValue) → SaySame config rs ss d e → kept_of config rs d ≡ kept_of config ss e
kept_same config rs ss d e s = kept_by config rs ss d e s d.fault ∙ ap (λ f. kept_of config ss (record { events = e.events; fault = f })) s.fault

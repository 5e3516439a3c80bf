-- What is kept of a section, put together.
use Rattle.std.proofs.Common.{◌≡◌, ◌++◌, ℕ, true, List, [], ◌∷◌, map, length, refl, ap, ◌∙◌, Option, None}
use Rattle.std.specs.Prelude.{slice_get}
use Rattle.std.specs.List.{filter, flat_map}
use Rattle.std.specs.Option.{option_map_or}
use Rattle.yl_text.specs.declared.finding.RuleId.TheVariants.{Comments}
use Rattle.yl_rules.specs.Comments.{comment_findings}
use Rattle.yl_config.specs.Config.{options_of}
use Rattle.yl_text.specs.Finding.{FindingValue}
use Rattle.yl_lexeme.specs.Lexeme.{LexemeValue, PlacedCommentValue}
use Rattle.yl_events.specs.Event.{EventValue}
use Rattle.yl_indentation.specs.declared.fact.Fact.{Fact}
use Rattle.yl_lexeme_rules.specs.Lexemes.{lexeme_findings}
use Rattle.yl_config.specs.declared.config.Config.{Config}
use Rattle.yl_record.specs.Records.{RecordValue}
use Rattle.yl_sections.specs.Judge.{document_of, kept_of_section}
use Rattle.yl_sections.specs.Sections.{lexemes_of}
use Rattle.yl_sections.specs.Kept.{BuiltValue, SectionFaultValue, KeptValue, scan_fault_from, section_fault, hidden_events, counted_of, comment_lines, shown_comments, lexeme_options_of, shown_comment_findings, event_findings, facts_of, kept_of, is_on, unless_fault}
use Rattle.yl_rules.specs.Addressed.{is_addressed}

pub kept_is :
    (config : Config) (rs : List RecordValue) (b : BuiltValue) (xs : List LexemeValue) (scanned fault parse_fault : Option SectionFaultValue) (events behind : List EventValue) (counted rows lines first : ℕ)
    (comments kept : List PlacedCommentValue) (found hidden : List FindingValue) (facts : List Fact) (k : KeptValue)
    → k ≡ record { rows = rows; first = first; found = found; facts = facts; comments = kept; fault = fault; hidden = hidden; parse_fault = parse_fault }
    → found ≡ lexeme_findings (lexeme_options_of config) counted xs ++ (shown_comment_findings config comments ++ event_findings config events)
    → facts ≡ facts_of config rs xs counted
    → kept ≡ filter is_addressed comments
    → first ≡ option_map_or (λ (x : LexemeValue). x.start.col) (slice_get xs 0) 0
    → comments ≡ shown_comments lines rs
    → events ≡ unless_fault fault b.events
    → counted ≡ counted_of xs b.fault
    → lines ≡ comment_lines rows xs b.fault
    → fault ≡ section_fault xs b.fault scanned
    → scanned ≡ scan_fault_from 0 rs
    → rows ≡ length rs
    → xs ≡ lexemes_of rs
    → hidden ≡ event_findings config behind
    → behind ≡ hidden_events fault parse_fault b.events
    → parse_fault ≡ section_fault xs b.fault None
    → k ≡ kept_of config rs b
kept_is config rs b xs scanned fault parse_fault events behind counted rows lines first comments kept found hidden facts k h1 h2 h3 h4 h5 h6 h7 h8 h9 h10 h11 h12 h13 h14 h15 h16 =
    rw (h1, h14, h15, h16, h2, h3, h4, h5, h6, h7, h8, h9, h10, h11, h12, h13) refl

-- ---- rules that are on

flat_map-map : {X Y Z : Type 0} (f : Y → List Z) (g : X → Y) (xs : List X) → flat_map (λ x. f (g x)) xs ≡ flat_map f (map g xs)
flat_map-map f g [] = refl
flat_map-map f g (x ∷ xs) = ap (λ ys. f (g x) ++ ys) (flat_map-map f g xs)

pub comments_are : {X : Type 0} (config : Config) (g : X → PlacedCommentValue) (xs : List X) (found : List FindingValue) → is_on config Comments ≡ true
    → found ≡ flat_map (λ x. comment_findings (options_of config).comments (g x)) xs → found ≡ shown_comment_findings config (map g xs)
comments_are config g xs found on e = rw on (e ∙ flat_map-map (comment_findings (options_of config).comments) g xs)

pub kept_so : (config : Config) (rs : List RecordValue) (k : KeptValue) → k ≡ kept_of config rs (document_of (lexemes_of rs)) → k ≡ kept_of_section config rs
unfolding kept_of_section
kept_so config rs k h = h

-- What is kept of pieces stands in their own lines.
use Rattle.std.proofs.Common.{◌≡◌, ◌≤◌, ◌<◌, ◌+◌, ◌-◌, ℕ, Bool, true, false, List, ◌++◌, map, drop, length, None, not, subst, arith}
use Rattle.std.specs.Prelude.{nat_lt}
use Rattle.std.specs.List.{AllByRecursion, filter, flat_map}
use Rattle.std.specs.Str.{chars}
use Rattle.std.proofs.lemmas.Bool.{ltb-false, ltb-true, not-true}
use Rattle.yl_text.specs.declared.finding.RuleId.TheVariants.{Comments, Indentation}
use Rattle.yl_text.specs.Finding.{FindingValue}
use Rattle.yl_text.proofs.Every.{all_back, all_both, all_filter, all_flat_map, all_if, all_map}
use Rattle.yl_lexeme.specs.Lexeme.{PlacedCommentValue}
use Rattle.yl_indentation.specs.declared.fact.Fact.{Fact}
use Rattle.yl_rules.specs.Addressed.{is_addressed}
use Rattle.yl_rules.specs.Comments.{comment_findings, is_too_near, lacks_space, near_findings, starting_space_in}
use Rattle.yl_rules.specs.LineLength.{hash_count}
use Rattle.yl_rules.specs.declared.comments.CommentsOptions.{CommentsOptions}
use Rattle.yl_config.specs.declared.config.Config.{Config}
use Rattle.yl_config.specs.Config.{options_of}
use Rattle.yl_record.specs.Records.{RecordValue}
use Rattle.yl_sections.specs.Judge.{kept_of_section}
use Rattle.yl_sections.specs.Kept.{KeptValue, is_on, items_if, shown_comment_findings}
use Rattle.yl_pieces.specs.State.{start_state}
use Rattle.yl_pieces.specs.Told.{Told, told}
use Rattle.yl_pieces.specs.Patched.{below_first, in_first, row_of}
use Rattle.yl_pieces.specs.Within.{IsAmong, IsToldWithin}
use Rattle.yl_pieces.proofs.Within.{told_is_within}
use Rattle.yl_report.proofs.Filtered.{in_filter}
use Rattle.yl_sections.proofs.Own.{OfSectionRules, own_found}
use Rattle.yl_piece_reports.specs.Plain.{IsWithin, StandsWithin}
use Rattle.yl_piece_reports.specs.Told.{PieceStart, comment_above, fact_above, finding_above, found_in_events, kept_by_told, kept_of_piece, section_start}
use Rattle.yl_piece_reports.specs.Within.{AreWithinParts, PiecesStandWithin}
use Rattle.yl_piece_reports.proofs.PieceCut.{section_is_piece}
use Rattle.yl_piece_reports.proofs.Same.{all_from_in, in_from_all}

-- ---- what is found, cut by lines

cut_above : (front rest : ℕ) (fs : List FindingValue) → AllByRecursion (IsWithin (front + rest)) fs → AllByRecursion (IsWithin front) (in_first row_of front fs)
cut_above front rest fs h =
    all_from_in (IsWithin front) (in_first row_of front fs)
    (λ f i. let r = in_filter (λ (g : FindingValue). nat_lt (row_of g) front) f fs i in of_it f (in_from_all (IsWithin (front + rest)) fs h f r.0) (ltb-true (row_of f) front r.1))
  where
    of_it : (f : FindingValue) → IsWithin (front + rest) f → row_of f < front → IsWithin front f
    of_it f w l = (w.0, omega (arith, w.0, l))

cut_below : (front rest : ℕ) (fs : List FindingValue) → 0 < front → AllByRecursion (IsWithin (front + rest)) fs → AllByRecursion (IsWithin rest) (map (finding_above front) (below_first row_of front fs))
cut_below front rest fs some h =
    all_map (IsWithin rest) IsBehind (finding_above front) (below_first row_of front fs) up
    (all_from_in IsBehind (below_first row_of front fs)
    (λ f i. let r = in_filter (λ (g : FindingValue). not (nat_lt (row_of g) front)) f fs i in
    (in_from_all (IsWithin (front + rest)) fs h f r.0, ltb-false (row_of f) front (not-true (nat_lt (row_of f) front) r.1))))
  where
    IsBehind : FindingValue → Type 0
    IsBehind f = IsWithin (front + rest) f × (front ≤ row_of f)

    up : (f : FindingValue) → IsBehind f → IsWithin rest (finding_above front f)
    up f b = (omega (arith, some, b.1), omega (arith, b.0.1))

parts_within : (front rest : ℕ) (fs : List FindingValue) → 0 < front → AllByRecursion (IsWithin (front + rest)) fs → AreWithinParts front rest fs
parts_within front rest fs some h = record { above = cut_above front rest fs h; below = cut_below front rest fs some h }

-- ---- what the rule comments finds

module _ (low high : ℕ) where
  abbrev IsNear : FindingValue → Type 0
  IsNear f = (low < f.line) × (f.line ≤ high)

  abbrev IsThere : PlacedCommentValue → Type 0
  IsThere c = (low ≤ c.line) × (c.line < high)

  starting_near : (o : CommentsOptions) (line column : ℕ) (cs : List ℕ) → low ≤ line → line < high → AllByRecursion IsNear (starting_space_in o line column cs)
  starting_near o line column cs h l = all_if IsNear (lacks_space o line column (drop (hash_count cs) cs)) _ ((omega (arith, h), omega (arith, l)), tt)

  comment_near : (o : CommentsOptions) (c : PlacedCommentValue) → IsThere c → AllByRecursion IsNear (comment_findings o c)
  comment_near o c h =
      all_both IsNear (near_findings o c) (starting_space_in o c.line c.column (chars c.text))
      (all_if IsNear (is_too_near o.min_spaces_from_content c.behind c.column) _ ((omega (arith, h.0), omega (arith, h.1)), tt))
      (starting_near o c.line c.column (chars c.text) h.0 h.1)

  comments_near : (config : Config) (cs : List PlacedCommentValue) → AllByRecursion IsThere cs → AllByRecursion IsNear (shown_comment_findings config cs)
  comments_near config cs h = by (is_on config Comments)
    where
      by : (b : Bool) → AllByRecursion IsNear (items_if b (flat_map (comment_findings (options_of config).comments) cs))
      by true = all_flat_map IsNear IsThere (comment_findings (options_of config).comments) cs (comment_near (options_of config).comments) h
      by false = tt

-- ---- a piece

module _ (config : Config) (first rows line : ℕ) (t : Told) (in_events : List FindingValue) (h : IsToldWithin line rows t) (tree : AllByRecursion (IsWithin rows) in_events) where
  abbrev piece : KeptValue
  piece = kept_by_told config first rows line t in_events

  facts_if : (b : Bool) (fs : List Fact) → AllByRecursion (λ (f : Fact). f.line < rows) fs → AllByRecursion (λ (f : Fact). f.line < rows) (items_if b fs)
  facts_if true fs g = g
  facts_if false fs g = tt

  found_up : (f : FindingValue) → IsNear line (line + rows) f → IsWithin rows (finding_above line f)
  found_up f b = (omega (arith, b.0), omega (arith, b.1))

  fact_up : (f : Fact) → IsAmong line rows f.line → f.line - line < rows
  fact_up f b = omega (arith, b.0, b.1)

  comment_up : (c : PlacedCommentValue) → IsAmong line rows c.line → c.line - line < rows
  comment_up c b = omega (arith, b.0, b.1)

  told_stands : StandsWithin piece
  told_stands = record {
    found =
        all_both (IsWithin rows) (map (finding_above line) (t.found ++ shown_comment_findings config t.comments)) in_events
        (all_map (IsWithin rows) (IsNear line (line + rows)) (finding_above line) (t.found ++ shown_comment_findings config t.comments) found_up
        (all_both (IsNear line (line + rows)) t.found (shown_comment_findings config t.comments) h.found (comments_near line (line + rows) config t.comments h.comments)))
        tree;
    facts =
        facts_if (is_on config Indentation) (map (fact_above line) t.facts)
        (all_map (λ (f : Fact). f.line < rows) (λ (f : Fact). IsAmong line rows f.line) (fact_above line) t.facts fact_up h.facts);
    comments =
        all_map (λ (c : PlacedCommentValue). c.line < rows) (λ (c : PlacedCommentValue). IsAmong line rows c.line) (comment_above line) (filter is_addressed t.comments) comment_up
        (all_filter (λ (c : PlacedCommentValue). IsAmong line rows c.line) is_addressed t.comments h.comments);
  }

piece_stands : (config : Config) (p : PieceStart) (rs : List RecordValue) (in_events : List FindingValue) → AllByRecursion (IsWithin (length rs)) in_events → StandsWithin (kept_of_piece config p rs in_events)
piece_stands config p rs in_events h = told_stands config p.first (length rs) p.line (told config p.state p.line rs) in_events (told_is_within config p.state p.line rs) h

-- ---- a section

-- whatever the rule
any_rule : OfSectionRules (λ rule. Unit {0})
any_rule = record {
  lexemes = record { braces = tt; brackets = tt; colons = tt; commas = tt; document_start = tt; hyphens = tt; quoted_strings = tt; truthy = tt };
  comments = tt;
  events = record { anchors = tt; key_duplicates = tt; key_ordering = tt };
}

section_found : (config : Config) (rs : List RecordValue) → AllByRecursion (IsWithin (length rs)) (kept_of_section config rs).found
section_found config rs = own_found (λ rule. Unit {0}) any_rule config rs (IsWithin (length rs)) (λ rule line column text k h. (omega arith, omega (arith, h)))

section_stands : (config : Config) (rs : List RecordValue) → (kept_of_section config rs).fault ≡ None → AllByRecursion (IsWithin (length rs)) (found_in_events config rs)
section_stands config rs none =
    let t = told config start_state 0 rs in
    let within : AllByRecursion (IsWithin (length rs)) (kept_of_piece config (section_start config rs) rs (found_in_events config rs)).found
    = subst (λ (k : KeptValue). AllByRecursion (IsWithin (length rs)) k.found) (section_is_piece config rs none) (section_found config rs) in
    all_back (IsWithin (length rs)) (map (finding_above 0) (t.found ++ shown_comment_findings config t.comments)) (found_in_events config rs) within

pub pieces_stand_within : PiecesStandWithin
pieces_stand_within = record { piece = piece_stands; section = section_stands; parts = parts_within }

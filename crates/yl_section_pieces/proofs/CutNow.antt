-- The summary of a section where rows come in place of those of one piece: it is in the same pieces, but for this one.
use Rattle.std.specs.Prelude.{IsPermutation}
use Rattle.std.proofs.Common.{◌≡◌, ◌≤◌, ◌<◌, ◌+◌, ◌-◌, ℕ, Bool, false, List, [], ◌∷◌, ◌++◌, map, length, Some, None, refl, sym, ◌∙◌, ap, subst, arith}
use Rattle.std.specs.Prelude.{option_map, slice_get}
use Rattle.std.specs.List.{AllByRecursion, filter}
use Rattle.std.proofs.lemmas.List.{length-append, map-append}
use Rattle.std.proofs.lemmas.List.Sorted.{Contains-permutation, IsPermutation-sym}
use Rattle.yl_text.specs.declared.finding.RuleId.TheVariants.{Indentation}
use Rattle.yl_text.specs.Finding.{FindingValue}
use Rattle.yl_text.proofs.Every.{all_back, all_both, all_filter, all_front, all_then}
use Rattle.yl_lexeme.specs.Lexeme.{PlacedCommentValue}
use Rattle.yl_indentation.specs.declared.fact.Fact.{Fact}
use Rattle.yl_indentation.specs.FactsAlike.{fact_below}
use Rattle.yl_lexeme_rules.specs.LexemesAlike.{finding_below}
use Rattle.yl_report.proofs.Unique.{In, from_in, in_from}
use Rattle.yl_rules.specs.Addressed.{is_addressed}
use Rattle.yl_config.specs.declared.config.Config.{Config}
use Rattle.yl_record.specs.Records.{RecordValue}
use Rattle.yl_sections.specs.Judge.{document_of, kept_of_section}
use Rattle.yl_sections.specs.Kept.{KeptValue, is_on, items_if, rows_kept}
use Rattle.yl_sections.specs.Sections.{lexemes_of}
use Rattle.yl_lint.specs.TextReport.{moved, moved_comment}
use Rattle.yl_lint.proofs.Arranged.{AreSame, in_behind, in_either}
use Rattle.yl_pieces.specs.State.{DocumentState, start_state}
use Rattle.yl_pieces.specs.Told.{told}
use Rattle.yl_pieces.specs.Edit.{IsEditTold, after_front, after_next}
use Rattle.yl_pieces.specs.Patched.{comment_moved, fact_moved, finding_moved, list_patched, row_of}
use Rattle.yl_pieces.specs.References.{NamedReference}
use Rattle.yl_pieces.specs.Within.{IsAmong}
use Rattle.yl_pieces.proofs.EditTold.{edit_told}
use Rattle.yl_pieces.proofs.PatchedLists.{map_moved}
use Rattle.yl_pieces.proofs.Within.{told_is_within}
use Rattle.yl_piece_names.specs.AnchorsPatched.{placeless}
use Rattle.yl_piece_names.specs.RowsPatched.{AreRowsPatched, IsFoundNow, events_alone, open_behind, row_findings}
use Rattle.yl_piece_names.proofs.KeptNames.{names_of_runs}
use Rattle.yl_piece_names.proofs.RowsPatched.{rows_are_patched}
use Rattle.yl_piece_reports.specs.Cuts.{IsFaultless, IsInPieces, items_in}
use Rattle.yl_piece_reports.specs.Plain.{IsWithin, StandsWithin}
use Rattle.yl_piece_reports.specs.Told.{comment_above, finding_above, found_in_events}
use Rattle.yl_piece_reports.proofs.PieceCut.{section_is_piece}
use Rattle.yl_piece_reports.proofs.Items.{rows_both}
use Rattle.yl_piece_reports.proofs.Same.{are_same, have_same, in_from_all, in_map, same_both, same_is, same_then, same_turned}
use Rattle.yl_section_pieces.specs.Edit.{IsEditAlone, is_on_events, kept_alone}
use Rattle.yl_section_pieces.proofs.FrontStays.{document_sound, first_stays, still_sound}
use Rattle.yl_section_pieces.proofs.PieceItems.{are_apart, in_three, items_moved, items_replaced, map_as}
use Rattle.yl_section_pieces.proofs.Replaced.{AreApart, both_patched, part_replaced, same_patched}
use Rattle.yl_section_pieces.proofs.RunAlone.{IsQuiet, old_alone}
use Rattle.yl_section_pieces.proofs.ToldParts.{all_items_if, comments_same, facts_same, found_of, found_same, found_stands, told_apart}
use Rattle.yl_section_pieces.proofs.ItemsMoved.{comment_back, comment_lies, comment_onto, comment_twice, fact_lies, fact_onto, fact_twice, facts_back_if, finding_back, finding_down, finding_lies, finding_onto, finding_twice}
use Rattle.yl_section_pieces.proofs.RunFound.{row_findings_are, run_found, run_stands}

-- ---- lists

same_permuted : (xs ys : List FindingValue) → IsPermutation xs ys → AreSame xs ys
same_permuted xs ys p = record {
  there = λ f i. in_from f ys (Contains-permutation xs ys f p (from_in f xs i));
  back = λ f i. in_from f xs (Contains-permutation ys xs f (IsPermutation-sym xs ys p) (from_in f ys i));
}

first_in_front : (first : ℕ) (ks ls ms : List KeptValue) → 0 < rows_kept ks
    → option_map (λ (p : KeptValue). p.first) (slice_get (ks ++ ls) 0) ≡ Some first
    → option_map (λ (p : KeptValue). p.first) (slice_get (ks ++ ms) 0) ≡ Some first
first_in_front first [] ls ms some e = absurd (omega (arith, some))
first_in_front first (k ∷ ks) ls ms some e = e

-- ---- the section and its pieces

module _ (config : Config) (front old new rest : List RecordValue) (k : KeptValue) (e : IsEditAlone config front old new k) (ks ls : List KeptValue)
    (cut : IsInPieces (kept_of_section config (front ++ (old ++ rest))) (ks ++ (k ∷ ls))) (within : AllByRecursion StandsWithin (ks ++ (k ∷ ls)))
    (rows_above : rows_kept ks ≡ length front) (rows : k.rows ≡ length old) where
  abbrev was : List RecordValue
  was = front ++ (old ++ rest)

  abbrev now : List RecordValue
  now = front ++ (new ++ rest)

  abbrev n : ℕ
  n = length front

  abbrev old_rows : ℕ
  old_rows = length old

  abbrev new_rows : ℕ
  new_rows = length new

  abbrev before : DocumentState
  before = after_front front

  abbrev after : DocumentState
  after = after_next front old

  abbrev new_piece : KeptValue
  new_piece = kept_alone config before front new

  some : 0 < n
  some = e.edit.some

  -- ---- the section has no fault

  was_none : (kept_of_section config was).fault ≡ None
  was_none = cut.whole.fault

  document_none : (document_of (lexemes_of was)).fault ≡ None
  document_none = document_sound config was was_none

  patched : AreRowsPatched config front old new rest
  patched = rows_are_patched config front old new rest e.edit document_none

  now_none : (kept_of_section config now).fault ≡ None
  now_none = still_sound config front old new rest was_none patched.sound e.sound

  is_told : IsEditTold config front old new rest
  is_told = edit_told config front old new rest e.edit

  faultless_now : IsFaultless (kept_of_section config now)
  faultless_now = subst IsFaultless (sym (section_is_piece config now now_none)) (record { fault = refl; hidden = refl; parse_fault = refl })

  -- ---- where the items stand

  within_above : AllByRecursion StandsWithin ks
  within_above = all_front StandsWithin ks (k ∷ ls) within

  within_here : StandsWithin k
  within_here = (all_back StandsWithin ks (k ∷ ls) within).0

  within_below : AllByRecursion StandsWithin ls
  within_below = (all_back StandsWithin ks (k ∷ ls) within).1

  -- ---- the facts

  abbrev OwnFact : ℕ → Fact → Type 0
  OwnFact rows f = f.line < rows

  facts_in : (ps : List KeptValue) → AllByRecursion StandsWithin ps → AllByRecursion (λ (p : KeptValue). AllByRecursion (OwnFact p.rows) p.facts) ps
  facts_in ps h = all_then StandsWithin (λ (p : KeptValue). AllByRecursion (OwnFact p.rows) p.facts) ps (λ p w. w.facts) h

  abbrev on : Bool
  on = is_on config Indentation

  abbrev facts_told : (line : ℕ) → DocumentState → List RecordValue → List Fact
  facts_told line s rs = items_if on (told config s line rs).facts

  abbrev facts_front : List Fact
  facts_front = facts_told 0 start_state front

  abbrev facts_old : List Fact
  facts_old = facts_told 1 before old

  abbrev facts_new : List Fact
  facts_new = facts_told 1 before new

  abbrev facts_rest : List Fact
  facts_rest = facts_told 1 after rest

  facts_among : (line : ℕ) (s : DocumentState) (rs : List RecordValue)
      → AllByRecursion (λ (f : Fact). IsAmong line (length rs) f.line) (facts_told line s rs)
  facts_among line s rs =
      all_items_if (λ (f : Fact). IsAmong line (length rs) f.line) on (told config s line rs).facts (told_is_within config s line rs).facts

  facts_apart : AreApart (λ (f : Fact). f.line) n old_rows facts_front (map (fact_below (n - 1)) facts_old)
      (map (fact_below (n + old_rows - 1)) facts_rest)
  facts_apart =
      told_apart (λ (f : Fact). f.line) fact_below (λ m f h. refl) n old_rows some facts_front facts_old facts_rest
      (all_then (λ (f : Fact). IsAmong 0 n f.line) (λ (f : Fact). f.line < n) facts_front (λ f h. omega (arith, h.1))
      (facts_among 0 start_state front))
      (facts_among 1 before old)
      (all_then (λ (f : Fact). IsAmong 1 (length rest) f.line) (λ (f : Fact). 1 ≤ f.line) facts_rest (λ f h. h.0) (facts_among 1 after rest))

  facts_now : items_in fact_below (λ p. p.facts) 0 (ks ++ (new_piece ∷ ls)) ≡ (kept_of_section config now).facts
  facts_now =
      items_replaced (λ (f : Fact). f.line) fact_below (λ p. p.facts) OwnFact fact_lies fact_twice old_rows new_rows (fact_moved old_rows new_rows)
      (fact_onto old_rows new_rows)
      n some ks ls k new_piece rows_above rows refl (facts_in ks within_above) within_here.facts (facts_in ls within_below)
      facts_front facts_old facts_rest facts_new
      (facts_back_if n some on (told config before 1 new).facts
      (all_then (λ (f : Fact). IsAmong 1 new_rows f.line) (λ (f : Fact). 1 ≤ f.line) (told config before 1 new).facts (λ f h. h.0)
      (told_is_within config before 1 new).facts))
      facts_apart
      (cut.facts ∙ facts_same config after front old rest is_told.old_told was_none)
      ∙ sym (facts_same config after front new rest is_told.new_told now_none)

  -- ---- the comments

  abbrev OwnComment : ℕ → PlacedCommentValue → Type 0
  OwnComment rows c = c.line < rows

  comments_in : (ps : List KeptValue) → AllByRecursion StandsWithin ps
      → AllByRecursion (λ (p : KeptValue). AllByRecursion (OwnComment p.rows) p.comments) ps
  comments_in ps h = all_then StandsWithin (λ (p : KeptValue). AllByRecursion (OwnComment p.rows) p.comments) ps (λ p w. w.comments) h

  abbrev comments_told : (line : ℕ) → DocumentState → List RecordValue → List PlacedCommentValue
  comments_told line s rs = filter is_addressed (told config s line rs).comments

  abbrev comments_front : List PlacedCommentValue
  comments_front = comments_told 0 start_state front

  abbrev comments_old : List PlacedCommentValue
  comments_old = comments_told 1 before old

  abbrev comments_new : List PlacedCommentValue
  comments_new = comments_told 1 before new

  abbrev comments_rest : List PlacedCommentValue
  comments_rest = comments_told 1 after rest

  comments_among : (line : ℕ) (s : DocumentState) (rs : List RecordValue)
      → AllByRecursion (λ (c : PlacedCommentValue). IsAmong line (length rs) c.line) (comments_told line s rs)
  comments_among line s rs =
      all_filter (λ (c : PlacedCommentValue). IsAmong line (length rs) c.line) is_addressed (told config s line rs).comments
      (told_is_within config s line rs).comments

  comments_apart : AreApart (λ (c : PlacedCommentValue). c.line) n old_rows comments_front (map (moved_comment (n - 1)) comments_old)
      (map (moved_comment (n + old_rows - 1)) comments_rest)
  comments_apart =
      told_apart (λ (c : PlacedCommentValue). c.line) moved_comment (λ m c h. refl) n old_rows some comments_front comments_old comments_rest
      (all_then (λ (c : PlacedCommentValue). IsAmong 0 n c.line) (λ (c : PlacedCommentValue). c.line < n) comments_front (λ c h. omega (arith, h.1))
      (comments_among 0 start_state front))
      (comments_among 1 before old)
      (all_then (λ (c : PlacedCommentValue). IsAmong 1 (length rest) c.line) (λ (c : PlacedCommentValue). 1 ≤ c.line) comments_rest (λ c h. h.0)
      (comments_among 1 after rest))

  comments_back : map (moved_comment n) new_piece.comments ≡ map (moved_comment (n - 1)) comments_new
  comments_back =
      map_as (moved_comment n) (comment_above 1) (moved_comment (n - 1)) (λ (c : PlacedCommentValue). 1 ≤ c.line) (comment_back n some) comments_new
      (all_then (λ (c : PlacedCommentValue). IsAmong 1 new_rows c.line) (λ (c : PlacedCommentValue). 1 ≤ c.line) comments_new (λ c h. h.0)
      (comments_among 1 before new))

  comments_now : items_in moved_comment (λ p. p.comments) 0 (ks ++ (new_piece ∷ ls)) ≡ (kept_of_section config now).comments
  comments_now =
      items_replaced (λ (c : PlacedCommentValue). c.line) moved_comment (λ p. p.comments) OwnComment comment_lies comment_twice old_rows new_rows
      (comment_moved old_rows new_rows) (comment_onto old_rows new_rows)
      n some ks ls k new_piece rows_above rows refl (comments_in ks within_above) within_here.comments (comments_in ls within_below)
      comments_front comments_old comments_rest comments_new
      comments_back
      comments_apart
      (cut.comments ∙ comments_same config after front old rest is_told.old_told was_none)
      ∙ sym (comments_same config after front new rest is_told.new_told now_none)

  -- ---- what is found

  found_in : (ps : List KeptValue) → AllByRecursion StandsWithin ps → AllByRecursion (λ (p : KeptValue). AllByRecursion (IsWithin p.rows) p.found) ps
  found_in ps h = all_then StandsWithin (λ (p : KeptValue). AllByRecursion (IsWithin p.rows) p.found) ps (λ p w. w.found) h

  abbrev found_by : (ps : List KeptValue) → List FindingValue
  found_by ps = items_in moved (λ (p : KeptValue). p.found) 0 ps

  abbrev above_found : List FindingValue
  above_found = found_by ks

  abbrev here_found : List FindingValue
  here_found = map (moved n) k.found

  abbrev below_found : ℕ → List FindingValue
  below_found gone = items_in moved (λ (p : KeptValue). p.found) (n + gone) ls

  pieces_apart : AreApart row_of n old_rows above_found here_found (below_found old_rows)
  pieces_apart =
      are_apart row_of moved (λ (p : KeptValue). p.found) IsWithin finding_lies n old_rows ks ls k rows_above rows
      (found_in ks within_above) within_here.found (found_in ls within_below)

  was_in_three : found_by (ks ++ (k ∷ ls)) ≡ above_found ++ (here_found ++ below_found old_rows)
  was_in_three = in_three row_of moved (λ (p : KeptValue). p.found) IsWithin finding_lies n old_rows ks ls k rows_above rows

  was_same : AreSame (found_by (ks ++ (k ∷ ls))) (kept_of_section config was).found
  was_same = are_same (found_by (ks ++ (k ∷ ls))) (kept_of_section config was).found cut.found

  -- what the rules on keys and anchors found in the section
  abbrev events_was : List FindingValue
  events_was = found_in_events config was

  abbrev events_now : List FindingValue
  events_now = found_in_events config now

  -- and in the lexemes and the comments: above the rows, at the old ones, at the new ones, and below them
  abbrev found_front : List FindingValue
  found_front = found_of config (told config start_state 0 front)

  abbrev found_old : List FindingValue
  found_old = found_of config (told config before 1 old)

  abbrev found_new : List FindingValue
  found_new = found_of config (told config before 1 new)

  abbrev found_rest : List FindingValue
  found_rest = found_of config (told config after 1 rest)

  abbrev told_was : List FindingValue
  told_was = found_front ++ (map (moved (n - 1)) found_old ++ map (moved (n + old_rows - 1)) found_rest)

  abbrev told_now : List FindingValue
  told_now = found_front ++ (map (moved (n - 1)) found_new ++ map (moved (n + new_rows - 1)) found_rest)

  was_found : AreSame (kept_of_section config was).found (told_was ++ events_was)
  was_found = found_same config after front old rest is_told.old_told was_none

  now_found : AreSame (kept_of_section config now).found (told_now ++ events_now)
  now_found = found_same config after front new rest is_told.new_told now_none

  -- none of it stands in the old rows
  off_events : (f : FindingValue) → In f k.found → is_on_events f.rule ≡ false
  off_events f i = in_from_all (λ (g : FindingValue). is_on_events g.rule ≡ false) k.found e.none f i

  in_piece : (f : FindingValue) → In f here_found → is_on_events f.rule ≡ false
  in_piece f i =
      let r = in_map (moved n) f k.found i in
      let same : f.rule ≡ r.0.rule = ap (λ (g : FindingValue). g.rule) r.2 in
      ap is_on_events same ∙ off_events r.0 r.1

  not_above : (f : FindingValue) → In f above_found → n ≤ row_of f → ⊥
  not_above f i far =
      let near : row_of f < n = in_from_all (λ (g : FindingValue). row_of g < n) above_found pieces_apart.above f i in
      omega (arith, near, far)

  not_below : (f : FindingValue) → In f (below_found old_rows) → row_of f < n + old_rows → ⊥
  not_below f i near =
      let far : n + old_rows ≤ row_of f = in_from_all (λ (g : FindingValue). n + old_rows ≤ row_of g) (below_found old_rows) pieces_apart.below f i in
      omega (arith, near, far)

  quiet : IsQuiet n old_rows events_was
  quiet f i far near =
      let there : In f (found_by (ks ++ (k ∷ ls))) = was_same.back f (was_found.back f (in_behind f told_was events_was i)) in
      in_either f above_found (here_found ++ below_found old_rows) (subst (λ (fs : List FindingValue). In f fs) was_in_three there)
      (λ j. absurd (not_above f j far))
      (λ j. in_either f here_found (below_found old_rows) j (λ g. in_piece f g) (λ g. absurd (not_below f g near)))

  -- so keys from before have no part in it
  is_found_now : IsFoundNow config front old new rest
  is_found_now =
      patched.names (record {
        references = ap (λ (rs : List NamedReference). map placeless rs) (e.old_references ∙ sym e.new_references);
        keys = names_of_runs.keys (open_behind front) (events_alone front old) (events_alone front new) e.names;
        asked = names_of_runs.asked (open_behind front) (events_alone front old) (events_alone front new) e.names;
        alone = old_alone config front old rest new e.edit document_none quiet;
      })

  abbrev run_moved : List FindingValue
  run_moved = map (moved (n - 1)) (run_found config front new)

  abbrev cut_by : (all new : List FindingValue) → List FindingValue
  cut_by all new = list_patched row_of (finding_moved old_rows new_rows) n old_rows all new

  events_same : AreSame events_now (cut_by events_was run_moved)
  events_same =
      same_then events_now (cut_by events_was (map (finding_below (n - 1)) (row_findings config front old new rest))) (cut_by events_was run_moved)
      (same_permuted events_now (cut_by events_was (map (finding_below (n - 1)) (row_findings config front old new rest))) is_found_now)
      (same_is (cut_by events_was (map (finding_below (n - 1)) (row_findings config front old new rest))) (cut_by events_was run_moved)
      (ap (λ (fs : List FindingValue). cut_by events_was (map (finding_below (n - 1)) fs))
      (row_findings_are config front new old rest e.new_references)))

  -- what is told of the new rows
  abbrev new_moved : List FindingValue
  new_moved = map (moved (n - 1)) found_new

  told_parts : AreApart row_of n old_rows found_front (map (moved (n - 1)) found_old)
      (map (moved (n + old_rows - 1)) found_rest)
  told_parts =
      told_apart row_of moved finding_down n old_rows some found_front found_old found_rest
      (all_then (λ (f : FindingValue). (0 < f.line) × (f.line ≤ 0 + n)) (λ (f : FindingValue). row_of f < n) found_front
      (λ f h. omega (arith, h.0, h.1))
      (found_stands config start_state 0 front))
      (all_then (λ (f : FindingValue). (1 < f.line) × (f.line ≤ 1 + old_rows)) (λ (f : FindingValue). IsAmong 1 old_rows (row_of f)) found_old
      (λ f h. (omega (arith, h.0), omega (arith, h.0, h.1))) (found_stands config before 1 old))
      (all_then (λ (f : FindingValue). (1 < f.line) × (f.line ≤ 1 + length rest)) (λ (f : FindingValue). 1 ≤ row_of f) found_rest
      (λ f h. omega (arith, h.0))
      (found_stands config after 1 rest))

  onto_told : (f : FindingValue) → finding_moved old_rows new_rows (moved (n + old_rows - 1) f) ≡ moved (n + new_rows - 1) f
  onto_told f =
      let e : n + old_rows - 1 + f.line - old_rows + new_rows ≡ n + new_rows - 1 + f.line = omega (arith, some) in
      λ i. record { line = e i; column = f.column; rule = f.rule; message = f.message }

  told_same : cut_by told_was new_moved ≡ told_now
  told_same =
      part_replaced row_of (finding_moved old_rows new_rows) n old_rows new_moved found_front (map (moved (n - 1)) found_old)
      (map (moved (n + old_rows - 1)) found_rest) (map (moved (n + new_rows - 1)) found_rest) told_parts
      (map_moved (moved (n + old_rows - 1)) (moved (n + new_rows - 1)) (finding_moved old_rows new_rows) onto_told found_rest)

  -- what is kept of them
  abbrev IsLow : FindingValue → Type 0
  IsLow f = 1 ≤ f.line

  new_low : AllByRecursion IsLow found_new
  new_low =
      all_then (λ (f : FindingValue). (1 < f.line) × (f.line ≤ 1 + new_rows)) IsLow found_new (λ f h. omega (arith, h.0))
      (found_stands config before 1 new)

  run_low : AllByRecursion IsLow (run_found config front new)
  run_low =
      all_then (λ (f : FindingValue). (1 < f.line) × (f.line ≤ 1 + new_rows)) IsLow (run_found config front new) (λ f h. omega (arith, h.0))
      (run_stands config front new)

  new_found : map (moved n) new_piece.found ≡ new_moved ++ run_moved
  new_found =
      map-append (moved n) (map (finding_above 1) found_new) (map (finding_above 1) (run_found config front new))
      ∙ (λ i. map_as (moved n) (finding_above 1) (moved (n - 1)) IsLow (finding_back n some) found_new new_low i
      ++ map_as (moved n) (finding_above 1) (moved (n - 1)) IsLow (finding_back n some) (run_found config front new) run_low i)

  -- the pieces now, cut out of those before
  now_in_three : found_by (ks ++ (new_piece ∷ ls)) ≡ cut_by (found_by (ks ++ (k ∷ ls))) (new_moved ++ run_moved)
  now_in_three =
      in_three row_of moved (λ (p : KeptValue). p.found) IsWithin finding_lies n new_rows ks ls new_piece rows_above refl
      ∙ (ap (λ (fs : List FindingValue). above_found ++ (fs ++ below_found new_rows)) new_found
      ∙ (sym (part_replaced row_of (finding_moved old_rows new_rows) n old_rows (new_moved ++ run_moved) above_found here_found
      (below_found old_rows) (below_found new_rows) pieces_apart
      (items_moved row_of moved (λ (p : KeptValue). p.found) IsWithin finding_lies finding_twice old_rows new_rows (finding_moved old_rows new_rows)
      (finding_onto old_rows new_rows) n ls))
      ∙ ap (λ (fs : List FindingValue). cut_by fs (new_moved ++ run_moved)) (sym was_in_three)))

  found_now : AreSame (found_by (ks ++ (new_piece ∷ ls))) (kept_of_section config now).found
  found_now =
      let added = new_moved ++ run_moved in
      same_then (found_by (ks ++ (new_piece ∷ ls))) (cut_by (found_by (ks ++ (k ∷ ls))) added) (kept_of_section config now).found
      (same_is (found_by (ks ++ (new_piece ∷ ls))) (cut_by (found_by (ks ++ (k ∷ ls))) added) now_in_three)
      (same_then (cut_by (found_by (ks ++ (k ∷ ls))) added) (cut_by (told_was ++ events_was) added) (kept_of_section config now).found
      (same_patched (finding_moved old_rows new_rows) n old_rows (found_by (ks ++ (k ∷ ls))) (told_was ++ events_was) added
      (same_then (found_by (ks ++ (k ∷ ls))) (kept_of_section config was).found (told_was ++ events_was) was_same was_found))
      (same_then (cut_by (told_was ++ events_was) added) (told_now ++ events_now) (kept_of_section config now).found
      found_cut
      (same_turned (kept_of_section config now).found (told_now ++ events_now) now_found)))
    where
      found_cut : AreSame (cut_by (told_was ++ events_was) (new_moved ++ run_moved)) (told_now ++ events_now)
      found_cut =
          let each = cut_by told_was new_moved ++ cut_by events_was run_moved in
          let all = cut_by (told_was ++ events_was) (new_moved ++ run_moved) in
          same_then all each (told_now ++ events_now)
          (same_turned each all (both_patched (finding_moved old_rows new_rows) n old_rows told_was events_was new_moved run_moved))
          (same_both (cut_by told_was new_moved) (cut_by events_was run_moved) told_now events_now
          (same_is (cut_by told_was new_moved) told_now told_same)
          (same_turned events_now (cut_by events_was run_moved) events_same))

  -- ---- the section in its pieces

  parts_now : AllByRecursion IsFaultless (ks ++ (new_piece ∷ ls))
  parts_now =
      all_both IsFaultless ks (new_piece ∷ ls) (all_front IsFaultless ks (k ∷ ls) cut.parts)
      (record { fault = refl; hidden = refl; parse_fault = refl }, (all_back IsFaultless ks (k ∷ ls) cut.parts).1)

  rows_now : rows_kept (ks ++ (new_piece ∷ ls)) ≡ (kept_of_section config now).rows
  unfolding kept_of_section
  rows_now =
      let sum_was : rows_kept (ks ++ (k ∷ ls)) ≡ rows_kept ks + (k.rows + rows_kept ls) = rows_both ks (k ∷ ls) in
      let sum_now : rows_kept (ks ++ (new_piece ∷ ls)) ≡ rows_kept ks + (new_rows + rows_kept ls) = rows_both ks (new_piece ∷ ls) in
      let all_was : rows_kept (ks ++ (k ∷ ls)) ≡ length was = cut.rows in
      let long_was : length was ≡ n + (old_rows + length rest) = length-append front (old ++ rest) ∙ ap (λ (l : ℕ). n + l) (length-append old rest) in
      let long_now : length now ≡ n + (new_rows + length rest) = length-append front (new ++ rest) ∙ ap (λ (l : ℕ). n + l) (length-append new rest) in
      let sum : rows_kept (ks ++ (new_piece ∷ ls)) ≡ length now = omega (arith, sum_was, sum_now, all_was, long_was, long_now, rows_above, rows) in
      sum

  some_above : 0 < rows_kept ks
  some_above = omega (arith, some, rows_above)

  first_now : option_map (λ (p : KeptValue). p.first) (slice_get (ks ++ (new_piece ∷ ls)) 0) ≡ Some (kept_of_section config now).first
  first_now =
      first_in_front (kept_of_section config was).first ks (k ∷ ls) (new_piece ∷ ls) some_above cut.first
      ∙ ap (λ (c : ℕ). Some c) (first_stays config front (old ++ rest) (new ++ rest) e.edit.border)

  pub cut_now : IsInPieces (kept_of_section config now) (ks ++ (new_piece ∷ ls))
  cut_now = record {
    whole = faultless_now;
    parts = parts_now;
    first = first_now;
    rows = rows_now;
    found = have_same (found_by (ks ++ (new_piece ∷ ls))) (kept_of_section config now).found found_now;
    facts = facts_now;
    comments = comments_now;
  }

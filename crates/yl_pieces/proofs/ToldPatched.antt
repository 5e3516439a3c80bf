-- What is told of a section, patched by lines.
use Rattle.std.proofs.Common.{◌≡◌, ◌≤◌, ◌<◌, ◌+◌, ◌-◌, ℕ, List, ◌++◌, map, length, None, refl, sym, ◌∙◌, ap, arith}
use Rattle.std.specs.List.{AllByRecursion}
use Rattle.yl_text.specs.Finding.{FindingValue}
use Rattle.yl_text.proofs.Every.{all_map, all_then}
use Rattle.yl_lexeme.specs.Lexeme.{PlacedCommentValue}
use Rattle.yl_indentation.specs.declared.fact.Fact.{Fact}
use Rattle.yl_indentation.specs.FactsAlike.{fact_below}
use Rattle.yl_lexeme_rules.specs.LexemesAlike.{finding_below}
use Rattle.yl_config.specs.declared.config.Config.{Config}
use Rattle.yl_record.specs.Records.{RecordValue}
use Rattle.yl_pieces.specs.State.{DocumentState, start_state}
use Rattle.yl_pieces.specs.Told.{Told, fault_in, told}
use Rattle.yl_pieces.specs.Laws.{comment_below, joined, told_below}
use Rattle.yl_pieces.specs.Edit.{IsEditTold, IsPieceEdit, after_front, after_next, told_in_parts}
use Rattle.yl_pieces.specs.Within.{IsAmong, IsToldWithin}
use Rattle.yl_pieces.specs.Patched.{ToldIsPatched, comment_moved, fact_moved, finding_moved, patched, row_of}
use Rattle.yl_pieces.proofs.EditTold.{edit_told, none_told}
use Rattle.yl_pieces.proofs.JoinedTold.{same_told}
use Rattle.yl_pieces.proofs.PatchedLists.{map_moved, parts_patched}
use Rattle.yl_pieces.proofs.Within.{told_is_within}

-- ---- items of rows from line 1 on, moved to rows that stand further down

-- items in lines from 0 on, and problems in lines from 1 on
module _ {X : Type 0} (line_of : X → ℕ) (down : X → X) (n rows : ℕ) (far : 0 < n) (lies : (x : X) → line_of (down x) ≡ n - 1 + line_of x) where
  pub items_between : (xs : List X) → AllByRecursion (λ x. IsAmong 1 rows (line_of x)) xs → AllByRecursion (λ x. (n ≤ line_of x) × (line_of x < n + rows)) (map down xs)
  items_between xs h =
      all_map (λ x. (n ≤ line_of x) × (line_of x < n + rows)) (λ x. IsAmong 1 rows (line_of x)) down xs
      (λ x k. (omega (arith, far, lies x, k.0), omega (arith, far, lies x, k.1))) h

module _ (n rows : ℕ) (far : 0 < n) where
  abbrev NextRow : FindingValue → Type 0
  NextRow f = (1 < f.line) × (f.line ≤ 1 + rows)

  pub findings_between : (fs : List FindingValue) → AllByRecursion NextRow fs → AllByRecursion (λ f. (n ≤ row_of f) × (row_of f < n + rows)) (map (finding_below (n - 1)) fs)
  findings_between fs h =
      all_map (λ f. (n ≤ row_of f) × (row_of f < n + rows)) NextRow (finding_below (n - 1)) fs
      (λ f k. (omega (arith, far, k.0), omega (arith, far, k.1))) h

-- ---- the three parts of a section, patched

module _ (n old new : ℕ) (far : 0 < n) where
  line_moved : (l : ℕ) → n + old - 1 + l - old + new ≡ n + new - 1 + l
  line_moved l = omega (arith, far)

  abbrev finding_at : FindingValue → ℕ → FindingValue
  finding_at f l = record f { line = l }

  abbrev fact_at : Fact → ℕ → Fact
  fact_at f l = record f { line = l }

  abbrev comment_at : PlacedCommentValue → ℕ → PlacedCommentValue
  comment_at c l = record c { line = l }

  module _ (front rows rest piece : Told) (above : IsToldWithin 0 n front) (between : IsToldWithin 1 old rows) (left : ℕ) (below : IsToldWithin 1 left rest) where
    abbrev all : Told
    all = joined front (joined (told_below (n - 1) rows) (told_below (n + old - 1) rest))

    abbrev after : Told
    after = joined front (joined (told_below (n - 1) piece) (told_below (n + new - 1) rest))

    down : 0 < n + old
    down = omega (arith, far)

    found_patched : (patched n old new all piece).found ≡ after.found
    found_patched =
        parts_patched row_of n old front.found (map (finding_below (n - 1)) rows.found) (map (finding_below (n + old - 1)) rest.found)
        (all_then (λ f. (0 < f.line) × (f.line ≤ 0 + n)) (λ f. row_of f < n) front.found (λ f h. omega (arith, h.0, h.1)) above.found)
        (findings_between n old far rows.found between.found)
        (all_then (λ f. (n + old ≤ row_of f) × (row_of f < n + old + left)) (λ f. n + old ≤ row_of f) _ (λ f h. h.0) (findings_between (n + old) left down rest.found below.found))
        (finding_moved old new) (map (finding_below (n - 1)) piece.found) (map (finding_below (n + new - 1)) rest.found)
        (map_moved (finding_below (n + old - 1)) (finding_below (n + new - 1)) (finding_moved old new) (λ f. ap (finding_at f) (line_moved f.line)) rest.found)

    facts_patched : (patched n old new all piece).facts ≡ after.facts
    facts_patched =
        parts_patched (λ (f : Fact). f.line) n old front.facts (map (fact_below (n - 1)) rows.facts) (map (fact_below (n + old - 1)) rest.facts)
        (all_then (λ f. IsAmong 0 n f.line) (λ f. f.line < n) front.facts (λ f h. omega (arith, h.1)) above.facts)
        (items_between (λ (f : Fact). f.line) (fact_below (n - 1)) n old far (λ f. refl) rows.facts between.facts)
        (all_then (λ f. (n + old ≤ f.line) × (f.line < n + old + left)) (λ f. n + old ≤ f.line) _ (λ f h. h.0)
        (items_between (λ (f : Fact). f.line) (fact_below (n + old - 1)) (n + old) left down (λ f. refl) rest.facts below.facts))
        (fact_moved old new) (map (fact_below (n - 1)) piece.facts) (map (fact_below (n + new - 1)) rest.facts)
        (map_moved (fact_below (n + old - 1)) (fact_below (n + new - 1)) (fact_moved old new) (λ f. ap (fact_at f) (line_moved f.line)) rest.facts)

    comments_patched : (patched n old new all piece).comments ≡ after.comments
    comments_patched =
        parts_patched (λ (c : PlacedCommentValue). c.line) n old front.comments (map (comment_below (n - 1)) rows.comments) (map (comment_below (n + old - 1)) rest.comments)
        (all_then (λ c. IsAmong 0 n c.line) (λ c. c.line < n) front.comments (λ c h. omega (arith, h.1)) above.comments)
        (items_between (λ (c : PlacedCommentValue). c.line) (comment_below (n - 1)) n old far (λ c. refl) rows.comments between.comments)
        (all_then (λ c. (n + old ≤ c.line) × (c.line < n + old + left)) (λ c. n + old ≤ c.line) _ (λ c h. h.0)
        (items_between (λ (c : PlacedCommentValue). c.line) (comment_below (n + old - 1)) (n + old) left down (λ c. refl) rest.comments below.comments))
        (comment_moved old new) (map (comment_below (n - 1)) piece.comments) (map (comment_below (n + new - 1)) rest.comments)
        (map_moved (comment_below (n + old - 1)) (comment_below (n + new - 1)) (comment_moved old new) (λ c. ap (comment_at c) (line_moved c.line)) rest.comments)

    pub all_patched : all.fault ≡ None → after.fault ≡ None → patched n old new all piece ≡ after
    all_patched none none' = same_told _ _ _ _ _ _ _ _ found_patched facts_patched comments_patched (none ∙ sym none')

-- ---- the law

module _ (config : Config) (front old new rest : List RecordValue) (e : IsPieceEdit front old new) (sound : fault_in start_state 0 (front ++ (old ++ rest)) ≡ None) where
  abbrev before : DocumentState
  before = after_front front

  abbrev after_old : DocumentState
  after_old = after_next front old

  edit : IsEditTold config front old new rest
  edit = edit_told config front old new rest e

  abbrev n : ℕ
  n = length front

  no_fault : (told_in_parts config after_old front old rest).fault ≡ None
  no_fault = sym (ap (λ (t : Told). t.fault) edit.old_told) ∙ none_told start_state 0 (front ++ (old ++ rest)) config sound

  no_fault_now : (told_in_parts config after_old front new rest).fault ≡ None
  no_fault_now = sym (ap (λ (t : Told). t.fault) edit.new_told) ∙ none_told start_state 0 (front ++ (new ++ rest)) config (edit.sound sound)

  in_parts : patched n (length old) (length new) (told_in_parts config after_old front old rest) (told config before 1 new) ≡ told_in_parts config after_old front new rest
  in_parts =
      all_patched n (length old) (length new) e.some
      (told config start_state 0 front) (told config before 1 old) (told config after_old 1 rest) (told config before 1 new)
      (told_is_within config start_state 0 front) (told_is_within config before 1 old) (length rest) (told_is_within config after_old 1 rest)
      no_fault no_fault_now

  pub told_patched : told config start_state 0 (front ++ (new ++ rest)) ≡ patched n (length old) (length new) (told config start_state 0 (front ++ (old ++ rest))) (told config before 1 new)
  told_patched =
      edit.new_told
      ∙ sym in_parts
      ∙ ap (λ (t : Told). patched n (length old) (length new) t (told config before 1 new)) (sym edit.old_told)

pub told_is_patched : ToldIsPatched
told_is_patched = λ config front old new rest e sound. told_patched config front old new rest e sound

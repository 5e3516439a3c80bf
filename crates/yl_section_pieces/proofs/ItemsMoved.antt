-- Facts, comments and findings in pieces: where they stand, and further down.
use Rattle.std.proofs.Common.{◌≡◌, ◌≤◌, ◌<◌, ◌+◌, ◌-◌, ℕ, Bool, true, false, List, map, refl, arith}
use Rattle.std.specs.List.{AllByRecursion}
use Rattle.yl_text.specs.Finding.{FindingValue}
use Rattle.yl_lexeme.specs.Lexeme.{PlacedCommentValue}
use Rattle.yl_indentation.specs.declared.fact.Fact.{Fact}
use Rattle.yl_indentation.specs.FactsAlike.{fact_below}
use Rattle.yl_sections.specs.Kept.{items_if}
use Rattle.yl_lint.specs.TextReport.{moved, moved_comment}
use Rattle.yl_pieces.specs.Patched.{comment_moved, fact_moved, finding_moved}
use Rattle.yl_piece_reports.specs.Plain.{IsWithin}
use Rattle.yl_piece_reports.specs.Told.{comment_above, fact_above, finding_above}
use Rattle.yl_section_pieces.proofs.PieceItems.{map_as}

-- ---- further down

pub fact_twice : (n m : ℕ) (f : Fact) → fact_below (n + m) f ≡ fact_below n (fact_below m f)
fact_twice n m f =
    let e : n + m + f.line ≡ n + (m + f.line) = omega arith in λ i. record { line = e i; column = f.column; expectation = f.expectation }

pub comment_twice : (n m : ℕ) (c : PlacedCommentValue) → moved_comment (n + m) c ≡ moved_comment n (moved_comment m c)
comment_twice n m c = let e : n + m + c.line ≡ n + (m + c.line) = omega arith in λ i. record c { line = e i }

pub finding_twice : (n m : ℕ) (f : FindingValue) → moved (n + m) f ≡ moved n (moved m f)
finding_twice n m f =
    let e : n + m + f.line ≡ n + (m + f.line) = omega arith in λ i. record { line = e i; column = f.column; rule = f.rule; message = f.message }

module _ (old new : ℕ) where
  line_onto : (n line : ℕ) → n + old + line - old + new ≡ n + new + line
  line_onto n line = omega arith

  pub fact_onto : (n : ℕ) (f : Fact) → fact_moved old new (fact_below (n + old) f) ≡ fact_below (n + new) f
  fact_onto n f =
      let e : n + old + f.line - old + new ≡ n + new + f.line = line_onto n f.line in λ i. record { line = e i; column = f.column; expectation = f.expectation }

  pub comment_onto : (n : ℕ) (c : PlacedCommentValue) → comment_moved old new (moved_comment (n + old) c) ≡ moved_comment (n + new) c
  comment_onto n c = let e : n + old + c.line - old + new ≡ n + new + c.line = line_onto n c.line in λ i. record c { line = e i }

  pub finding_onto : (n : ℕ) (f : FindingValue) → finding_moved old new (moved (n + old) f) ≡ moved (n + new) f
  finding_onto n f =
      let e : n + old + f.line - old + new ≡ n + new + f.line = line_onto n f.line in λ i. record { line = e i; column = f.column; rule = f.rule; message = f.message }

-- told from line 1 on, and moved to where the piece stands
module _ (n : ℕ) (some : 0 < n) where
  line_back : (line : ℕ) → 1 ≤ line → n + (line - 1) ≡ n - 1 + line
  line_back line h = omega (arith, some, h)

  fact_back : (f : Fact) → 1 ≤ f.line → fact_below n (fact_above 1 f) ≡ fact_below (n - 1) f
  fact_back f h =
      let e : n + (f.line - 1) ≡ n - 1 + f.line = line_back f.line h in λ i. record { line = e i; column = f.column; expectation = f.expectation }

  pub comment_back : (c : PlacedCommentValue) → 1 ≤ c.line → moved_comment n (comment_above 1 c) ≡ moved_comment (n - 1) c
  comment_back c h = let e : n + (c.line - 1) ≡ n - 1 + c.line = line_back c.line h in λ i. record c { line = e i }

  pub finding_back : (f : FindingValue) → 1 ≤ f.line → moved n (finding_above 1 f) ≡ moved (n - 1) f
  finding_back f h =
      let e : n + (f.line - 1) ≡ n - 1 + f.line = line_back f.line h in λ i. record { line = e i; column = f.column; rule = f.rule; message = f.message }

  pub facts_back_if : (b : Bool) (fs : List Fact) → AllByRecursion (λ (f : Fact). 1 ≤ f.line) fs
      → map (fact_below n) (items_if b (map (fact_above 1) fs)) ≡ map (fact_below (n - 1)) (items_if b fs)
  facts_back_if true fs h = map_as (fact_below n) (fact_above 1) (fact_below (n - 1)) (λ (f : Fact). 1 ≤ f.line) fact_back fs h
  facts_back_if false fs h = refl

-- ---- where the items of a piece stand

pub fact_lies : (line rows : ℕ) (f : Fact) → f.line < rows → (line ≤ line + f.line) × (line + f.line < line + rows)
fact_lies line rows f h = (omega arith, omega (arith, h))

pub comment_lies : (line rows : ℕ) (c : PlacedCommentValue) → c.line < rows → (line ≤ line + c.line) × (line + c.line < line + rows)
comment_lies line rows c h = (omega arith, omega (arith, h))

pub finding_lies : (line rows : ℕ) (f : FindingValue) → IsWithin rows f → (line ≤ line + f.line - 1) × (line + f.line - 1 < line + rows)
finding_lies line rows f h = (omega (arith, h.0), omega (arith, h.0, h.1))

pub finding_down : (n : ℕ) (f : FindingValue) → 1 ≤ f.line - 1 → n + f.line - 1 ≡ n + (f.line - 1)
finding_down n f h = omega (arith, h)

-- What is found in sections one after another: each part by itself, behind the measure of the parts before it.
use Rattle.std.proofs.Common.{◌≡◌, ℕ, ◌+◌, ◌<◌, ◌≤◌, Bool, true, false, List, [], ◌∷◌, ◌++◌, map, Option, Some, None, refl, ap, sym, ◌∙◌, arith, append_assoc, if◌then◌else◌}
use Rattle.std.specs.List.{AllByRecursion}
use Rattle.std.specs.Option.{option_or}
use Rattle.std.proofs.lemmas.List.{map-append}
use Rattle.std.specs.Option.{option_map_or}
use Rattle.yl_text.proofs.Every.{all_both}
use Rattle.yl_text.specs.declared.position.Pos.{Pos}
use Rattle.yl_text.specs.declared.finding.RuleId.{RuleId}
use Rattle.yl_text.specs.Finding.{FindingValue, one_finding}
use Rattle.yl_lexeme.specs.Lexeme.{PlacedCommentValue}
use Rattle.yl_indentation.specs.declared.fact.Expectation.{Expectation}
use Rattle.yl_indentation.specs.declared.fact.Expectation.TheVariants.{At, Beyond, EntryIn}
use Rattle.yl_indentation.specs.declared.fact.Fact.{Fact}
use Rattle.yl_indentation.specs.declared.measure.Measure.{Measure}
use Rattle.yl_indentation.specs.declared.options.IndentationOptions.{IndentationOptions}
use Rattle.yl_indentation.specs.declared.options.IndentSequences.{IndentSequences}
use Rattle.yl_indentation.specs.Measures.{empty_measure, and_later, measure_at, measure_of, is_flush}
use Rattle.yl_indentation.specs.Onward.{onward_problems}
use Rattle.yl_indentation.specs.Problems.{finding_at, finding_by, finding_by_width, is_indented, not_as_expected, width_by_spaces}
use Rattle.yl_indentation.proofs.Measured.{and_later_assoc, measure_is_local}
use Rattle.yl_sections.specs.Kept.{KeptValue, SectionFaultValue, unless_fault, rows_kept}
use Rattle.yl_lint.specs.TextReport.{moved, shown, fault_in_sections, comments_in_sections, moved_comment, facts_in_sections, finding_of_fault}
use Rattle.yl_lint.specs.Onward.{onward_in_section, onward_in_sections}
use Rattle.yl_found.specs.Plain.{IsPlain}
use Rattle.yl_summary.specs.Overview.{IsSilent}
use Rattle.yl_summary.proofs.Walks.{measured}
use Rattle.yl_lint.proofs.LineParts.{Between, between_both}
use Rattle.yl_edited_lines.proofs.Pushed.{sections_moved}

-- ---- sections that have no fault, and those that silence nothing

pub shown_plain : (ks : List KeptValue) → AllByRecursion IsPlain ks → shown ks ≡ ks
shown_plain [] h = refl
shown_plain (k ∷ ks) h = ap (λ (f : Option SectionFaultValue). k ∷ unless_fault f (shown ks)) h.0.sound ∙ ap (λ (ls : List KeptValue). k ∷ ls) (shown_plain ks h.1)

pub no_fault : (line : ℕ) (end : Pos) (ks : List KeptValue) → AllByRecursion IsPlain ks → fault_in_sections line end ks ≡ []
no_fault line end [] h = refl
no_fault line end (k ∷ ks) h = ap (λ (f : Option SectionFaultValue). option_map_or (λ f. finding_of_fault line k.rows end ks f ∷ []) f (fault_in_sections (line + k.rows) end ks)) h.0.sound ∙ no_fault (line + k.rows) end ks h.1

pub no_comments : (line : ℕ) (ks : List KeptValue) → AllByRecursion IsSilent ks → comments_in_sections line ks ≡ []
no_comments line [] h = refl
no_comments line (k ∷ ks) h =
    ap (λ (cs : List PlacedCommentValue). map (moved_comment line) cs ++ comments_in_sections (line + k.rows) ks) h.0 ∙ no_comments (line + k.rows) ks h.1

-- ---- comments of sections one after another

pub comments_both : (line there : ℕ) (ks ls : List KeptValue) → there ≡ line + rows_kept ks → comments_in_sections line (ks ++ ls) ≡ comments_in_sections line ks ++ comments_in_sections there ls
comments_both line there [] ls e = ap (λ n. comments_in_sections n ls) (omega (arith, e))
comments_both line there (k ∷ ks) ls e =
    ap (λ (cs : List PlacedCommentValue). map (moved_comment line) k.comments ++ cs) (comments_both (line + k.rows) there ks ls (omega (arith, e)))
    ∙ sym (append_assoc (map (moved_comment line) k.comments) (comments_in_sections (line + k.rows) ks) (comments_in_sections there ls))

same_comment : (n line there : ℕ) (c : PlacedCommentValue) → there ≡ n + line → moved_comment there c ≡ moved_comment n (moved_comment line c)
same_comment n line there c e =
    let l : there + c.line ≡ n + (line + c.line) = omega (arith, e) in
    λ i. record { line = l i; column = c.column; text = c.text; behind = c.behind }

all_comments_moved : (n line there : ℕ) (cs : List PlacedCommentValue) → there ≡ n + line → map (moved_comment there) cs ≡ map (moved_comment n) (map (moved_comment line) cs)
all_comments_moved n line there [] e = refl
all_comments_moved n line there (c ∷ cs) e =
    ap (λ (d : PlacedCommentValue). d ∷ map (moved_comment there) cs) (same_comment n line there c e)
    ∙ ap (λ (ds : List PlacedCommentValue). moved_comment n (moved_comment line c) ∷ ds) (all_comments_moved n line there cs e)

comments_moved : (n line there : ℕ) (ks : List KeptValue) → there ≡ n + line → comments_in_sections there ks ≡ map (moved_comment n) (comments_in_sections line ks)
comments_moved n line there [] e = refl
comments_moved n line there (k ∷ ks) e =
    ap (λ (cs : List PlacedCommentValue). map (moved_comment there) k.comments ++ cs) (comments_moved n (line + k.rows) (there + k.rows) ks (omega (arith, e)))
    ∙ (ap (λ (cs : List PlacedCommentValue). cs ++ map (moved_comment n) (comments_in_sections (line + k.rows) ks)) (all_comments_moved n line there k.comments e)
    ∙ sym (map-append (moved_comment n) (map (moved_comment line) k.comments) (comments_in_sections (line + k.rows) ks)))

-- of two parts, and of three
pub comments_two : (ks ls : List KeptValue) (first : ℕ) → first ≡ rows_kept ks → comments_in_sections 0 (ks ++ ls) ≡ comments_in_sections 0 ks ++ map (moved_comment first) (comments_in_sections 0 ls)
comments_two ks ls first e =
    comments_both 0 first ks ls (omega (arith, e)) ∙ ap (λ (cs : List PlacedCommentValue). comments_in_sections 0 ks ++ cs) (comments_moved first 0 first ls (omega arith))

pub comments_three : (ks ls ms : List KeptValue) (first there : ℕ) → first ≡ rows_kept ks → there ≡ first + rows_kept ls
    → comments_in_sections 0 (ks ++ (ls ++ ms)) ≡ comments_in_sections 0 ks ++ (map (moved_comment first) (comments_in_sections 0 ls) ++ map (moved_comment there) (comments_in_sections 0 ms))
comments_three ks ls ms first there e f =
    comments_both 0 first ks (ls ++ ms) (omega (arith, e))
    ∙ ap (λ (cs : List PlacedCommentValue). comments_in_sections 0 ks ++ cs)
    (comments_both first there ls ms f
    ∙ (ap (λ (cs : List PlacedCommentValue). cs ++ comments_in_sections there ms) (comments_moved first 0 first ls (omega arith))
    ∙ ap (λ (cs : List PlacedCommentValue). map (moved_comment first) (comments_in_sections 0 ls) ++ cs) (comments_moved there 0 there ms (omega arith))))

lower_comments : (line rows high : ℕ) (cs : List PlacedCommentValue) → line + rows ≤ high → AllByRecursion (λ c. c.line < rows) cs → AllByRecursion (λ c. c.line < high) (map (moved_comment line) cs)
lower_comments line rows high [] l h = tt
lower_comments line rows high (c ∷ cs) l h = (omega (arith, l, h.0), lower_comments line rows high cs l h.1)

-- they stand in the lines of their sections
pub comments_within : (line high : ℕ) (ks : List KeptValue) → AllByRecursion IsPlain ks → line + rows_kept ks ≤ high → AllByRecursion (λ c. c.line < high) (comments_in_sections line ks)
comments_within line high [] h l = tt
comments_within line high (k ∷ ks) h l =
    all_both (λ c. c.line < high) (map (moved_comment line) k.comments) (comments_in_sections (line + k.rows) ks) (lower_comments line k.rows high k.comments (omega (arith, l)) h.0.comments)
    (comments_within (line + k.rows) high ks h.1 (omega (arith, l)))

-- ---- measures

-- no later facts
pub and_later_none : (m : Measure) → and_later m empty_measure ≡ m
and_later_none m = λ i. record { step = known m.step i; step_with_entries = known m.step_with_entries i; flush = known m.flush i }
  where
    known : {X : Type 0} (o : Option X) → option_or o None ≡ o
    known None = refl
    known (Some x) = refl

-- ---- parts

pub sections_both : (o : IndentationOptions) (before : Measure) (line there : ℕ) (ks ls : List KeptValue) → there ≡ line + rows_kept ks
    → onward_in_sections o line before (ks ++ ls) ≡ onward_in_sections o line before ks ++ onward_in_sections o there (and_later before (measured ks)) ls
sections_both o before line there [] ls e =
    ap (λ k. onward_in_sections o k before ls) (omega (arith, e)) ∙ ap (λ (m : Measure). onward_in_sections o there m ls) (sym (and_later_none before))
sections_both o before line there (k ∷ ks) ls e =
    let later = and_later before (measure_of k.facts) in
    let m : and_later later (measured ks) ≡ and_later before (measured (k ∷ ks)) =
    and_later_assoc before (measure_of k.facts) (measured ks) ∙ ap (and_later before) (sym (measure_is_local k.facts (facts_in_sections ks))) in
    ap (λ (fs : List FindingValue). onward_in_section o line before k ++ fs) (sections_both o later (line + k.rows) there ks ls (omega (arith, e)))
    ∙ (sym (append_assoc (onward_in_section o line before k) (onward_in_sections o (line + k.rows) later ks) (onward_in_sections o there (and_later later (measured ks)) ls))
    ∙ ap (λ (b : Measure). onward_in_sections o line before (k ∷ ks) ++ onward_in_sections o there b ls) m)

pub sections_apart : (o : IndentationOptions) (before : Measure) (ks ls : List KeptValue)
    → onward_in_sections o 0 before (ks ++ ls) ≡ onward_in_sections o 0 before ks ++ map (moved (rows_kept ks)) (onward_in_sections o 0 (and_later before (measured ks)) ls)
sections_apart o before ks ls =
    sections_both o before 0 (rows_kept ks) ks ls (omega arith)
    ∙ ap (λ (fs : List FindingValue). onward_in_sections o 0 before ks ++ fs) (sections_moved o (and_later before (measured ks)) (rows_kept ks) 0 (rows_kept ks) ls (omega arith))

-- ---- the lines of what is found

pub between_wider : (low high low' high' : ℕ) (fs : List FindingValue) → low' ≤ low → high ≤ high' → Between low high fs → Between low' high' fs
between_wider low high low' high' [] l h b = tt
between_wider low high low' high' (f ∷ fs) l h b = ((omega (arith, l, b.0.0), omega (arith, h, b.0.1)), between_wider low high low' high' fs l h b.1)

pub between_moved : (n low high : ℕ) (fs : List FindingValue) → Between low high fs → Between (n + low) (n + high) (map (moved n) fs)
between_moved n low high [] b = tt
between_moved n low high (f ∷ fs) b = ((omega (arith, b.0.0), omega (arith, b.0.1)), between_moved n low high fs b.1)

-- a problem at a fact's line
unless_there : (rows line column : ℕ) (r : RuleId) (m : List ℕ) (b : Bool) → line < rows → Between 0 rows (if b then [] else one_finding r (line + 1) column m)
unless_there rows line column r m true l = tt
unless_there rows line column r m false l = ((omega arith, omega (arith, l)), tt)

when_there : (rows line column : ℕ) (r : RuleId) (m : List ℕ) (b : Bool) → line < rows → Between 0 rows (if b then one_finding r (line + 1) column m else [])
when_there rows line column r m true l = ((omega arith, omega (arith, l)), tt)
when_there rows line column r m false l = tt

by_width : (rows base : ℕ) (w : Option ℕ) (f : Fact) → f.line < rows → Between 0 rows (finding_by_width w base f)
by_width rows base None f l = when_there rows f.line _ _ _ _ l
by_width rows base (Some w) f l = unless_there rows f.line _ _ _ _ l

either_there : (rows : ℕ) (b : Bool) (xs ys : List FindingValue) → Between 0 rows xs → Between 0 rows ys → Between 0 rows (if b then xs else ys)
either_there rows true xs ys h k = h
either_there rows false xs ys h k = k

by_there : (rows : ℕ) (c : IndentSequences) (flush : Bool) (w : Option ℕ) (f : Fact) (e : Expectation) → f.line < rows → Between 0 rows (finding_by c flush w f e)
by_there rows c flush w f (At e) l = unless_there rows f.line _ _ _ _ l
by_there rows c flush w f (Beyond base) l = by_width rows base w f l
by_there rows c flush w f (EntryIn base) l = either_there rows _ (finding_by_width w base f) (not_as_expected base f) (by_width rows base w f l) (unless_there rows f.line _ _ _ _ l)

indented_there : (rows : ℕ) (o : IndentationOptions) (before : Measure) (fs : List Fact) → AllByRecursion (λ f. f.line < rows) fs → Between 0 rows (onward_problems o before fs)
indented_there rows o before [] h = tt
indented_there rows o before (f ∷ fs) h =
    let here = and_later before (measure_at f.column f.expectation) in
    between_both 0 rows (finding_at o here (is_flush here) f) (onward_problems o here fs) (by_there rows o.indent_sequences (is_flush here) (width_by_spaces o.spaces (is_indented o.indent_sequences (is_flush here) false) here) f f.expectation h.0) (indented_there rows o here fs h.1)

pub sections_between : (o : IndentationOptions) (before : Measure) (line high : ℕ) (ks : List KeptValue) → AllByRecursion IsPlain ks → line + rows_kept ks ≤ high → Between line high (onward_in_sections o line before ks)
sections_between o before line high [] h l = tt
sections_between o before line high (k ∷ ks) h l =
    let later = and_later before (measure_of k.facts) in
    let all = k.found ++ onward_problems o before k.facts in
    between_both line high (onward_in_section o line before k) (onward_in_sections o (line + k.rows) later ks)
    (between_wider (line + 0) (line + k.rows) line high (map (moved line) all) (omega arith) (omega (arith, l)) (between_moved line 0 k.rows all (between_both 0 k.rows k.found (onward_problems o before k.facts) h.0.found (indented_there k.rows o before k.facts h.0.facts))))
    (between_wider (line + k.rows) high line high (onward_in_sections o (line + k.rows) later ks) (omega arith) (omega arith) (sections_between o later (line + k.rows) high ks h.1 (omega (arith, l))))

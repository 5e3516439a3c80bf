-- What is found at a place is said by the facts up to it.
use Rattle.std.proofs.Common.{◌≡◌, refl, sym, ◌∙◌, ap, List, [], ◌∷◌, ◌++◌, ℕ, arith}
use Rattle.yl_text.specs.Finding.{FindingValue}
use Rattle.yl_indentation.specs.declared.fact.Expectation.{Expectation}
use Rattle.yl_indentation.specs.declared.fact.Fact.{Fact}
use Rattle.yl_indentation.specs.declared.measure.Measure.{Measure}
use Rattle.yl_indentation.specs.declared.options.IndentationOptions.{IndentationOptions}
use Rattle.yl_indentation.specs.Measures.{empty_measure, and_later, measure_at, measure_of, is_flush}
use Rattle.yl_indentation.specs.Problems.{finding_at, indent_problems}
use Rattle.yl_indentation.specs.Onward.{CountsEntriesOnceSeen, onward_problems}
use Rattle.yl_indentation.specs.Laws.{FactsCountEntriesOnceSeen, BothCountEntriesOnceSeen, FindingLooksBack, ProblemsLookBack, ProblemsOfSomeLookBack, TextProblemsGoOnward, TextProblemsLookBack}
use Rattle.yl_indentation.proofs.Measured.{and_later_assoc, and_later_unknown, measure_is_local, problems_of_both}

-- ---- measures

pub both_count : BothCountEntriesOnceSeen
both_count m n p q e = grind arith

one_counts : (column : ℕ) (e : Expectation) → CountsEntriesOnceSeen (measure_at column e)
one_counts column e h = grind arith

pub facts_count : FactsCountEntriesOnceSeen
facts_count [] h = refl
facts_count (f ∷ fs) h = both_count (measure_at f.column f.expectation) (measure_of fs) (one_counts f.column f.expectation) (facts_count fs) h

-- ---- one place

pub finding_looks_back : FindingLooksBack
finding_looks_back o before later f h = grind arith

-- ---- one place after another

pub problems_look_back : ProblemsLookBack
problems_look_back o before later [] h = refl
problems_look_back o before later (f ∷ fs) h =
    let at = measure_at f.column f.expectation in
    let here = and_later before at in
    let behind = and_later (measure_of fs) later in
    ap (λ (m : Measure). finding_at o here (is_flush (and_later m later)) f ++ indent_problems o here (and_later m later) fs) (sym (and_later_assoc before at (measure_of fs)))
    ∙ (ap (λ (m : Measure). finding_at o here (is_flush m) f ++ indent_problems o here (and_later (and_later here (measure_of fs)) later) fs) (and_later_assoc here (measure_of fs) later)
    ∙ (ap (λ (zs : List FindingValue). zs ++ indent_problems o here (and_later (and_later here (measure_of fs)) later) fs) (finding_looks_back o before behind f h)
    ∙ ap (λ (zs : List FindingValue). finding_at o here (is_flush here) f ++ zs) (problems_look_back o here later fs (both_count before at h (one_counts f.column f.expectation)))))

-- by the measure of what stands before and of themselves
pub problems_of_these : (o : IndentationOptions) (before : Measure) (fs : List Fact) → CountsEntriesOnceSeen before → indent_problems o before (and_later before (measure_of fs)) fs ≡ onward_problems o before fs
problems_of_these o before fs h =
    ap (λ (m : Measure). indent_problems o before m fs) (sym (and_later_unknown (and_later before (measure_of fs)))) ∙ problems_look_back o before empty_measure fs h

pub problems_of_some : ProblemsOfSomeLookBack
problems_of_some o earlier fs later =
    let before = measure_of earlier in
    let counts = facts_count earlier in
    ap (λ (m : Measure). indent_problems o before m fs)
    (measure_is_local earlier (fs ++ later) ∙ (ap (and_later before) (measure_is_local fs later) ∙ sym (and_later_assoc before (measure_of fs) (measure_of later))))
    ∙ (problems_look_back o before (measure_of later) fs counts
    ∙ sym (ap (λ (m : Measure). indent_problems o before m fs) (measure_is_local earlier fs) ∙ problems_of_these o before fs counts))

pub text_onward : TextProblemsGoOnward
text_onward o fs = problems_of_these o empty_measure fs (facts_count [])

pub text_looks_back : TextProblemsLookBack
text_looks_back o fs later =
    problems_of_both o empty_measure (measure_of (fs ++ later)) fs later
    ∙ ap (λ (zs : List FindingValue). zs ++ indent_problems o (measure_of fs) (measure_of (fs ++ later)) later) (problems_of_some o [] fs later)

-- Measures one after another.
use Rattle.std.proofs.Common.{◌≡◌, refl, sym, ◌∙◌, ap, List, [], ◌∷◌, ◌++◌, append_assoc, Option, Some, None}
use Rattle.std.specs.Option.{option_or}
use Rattle.yl_text.specs.Finding.{FindingValue}
use Rattle.yl_indentation.specs.declared.fact.Fact.{Fact}
use Rattle.yl_indentation.specs.declared.measure.Measure.{Measure}
use Rattle.yl_indentation.specs.declared.options.IndentationOptions.{IndentationOptions}
use Rattle.yl_indentation.specs.Measures.{empty_measure, and_later, measure_at, measure_of}
use Rattle.yl_indentation.specs.Problems.{facts_of_all, finding_at, indent_problems, document_problems}
use Rattle.yl_indentation.specs.Laws.{MeasureIsLocal, ProblemsAreByDocuments}
use Rattle.yl_indentation.specs.Measures.{is_flush}

first_assoc : {X : Type 0} (a b c : Option X) → option_or (option_or a b) c ≡ option_or a (option_or b c)
first_assoc None b c = refl
first_assoc (Some x) b c = refl

first_none : {X : Type 0} (a : Option X) → option_or a None ≡ a
first_none None = refl
first_none (Some x) = refl

pub and_later_assoc : (a b c : Measure) → and_later (and_later a b) c ≡ and_later a (and_later b c)
and_later_assoc a b c = simp first_assoc

pub and_later_unknown : (a : Measure) → and_later a empty_measure ≡ a
and_later_unknown a = simp first_none

pub measure_is_local : MeasureIsLocal
measure_is_local [] later = refl
measure_is_local (f ∷ fs) later =
    ap (and_later (measure_at f.column f.expectation)) (measure_is_local fs later)
    ∙ sym (and_later_assoc (measure_at f.column f.expectation) (measure_of fs) (measure_of later))

pub problems_of_both : (o : IndentationOptions) (before whole : Measure) (xs ys : List Fact)
    → indent_problems o before whole (xs ++ ys) ≡ indent_problems o before whole xs ++ indent_problems o (and_later before (measure_of xs)) whole ys
problems_of_both o before whole [] ys = ap (λ (m : Measure). indent_problems o m whole ys) (sym (and_later_unknown before))
problems_of_both o before whole (f ∷ fs) ys =
    let here = and_later before (measure_at f.column f.expectation) in
    ap (λ (zs : List FindingValue). finding_at o here (is_flush whole) f ++ zs)
    (problems_of_both o here whole fs ys ∙ ap (λ (m : Measure). indent_problems o here whole fs ++ indent_problems o m whole ys) (and_later_assoc before (measure_at f.column f.expectation) (measure_of fs)))
    ∙ sym (append_assoc (finding_at o here (is_flush whole) f) (indent_problems o here whole fs) (indent_problems o (and_later before (measure_of (f ∷ fs))) whole ys))

by_documents : (o : IndentationOptions) (before whole : Measure) (ds : List (List Fact)) → indent_problems o before whole (facts_of_all ds) ≡ document_problems o before whole ds
by_documents o before whole [] = refl
by_documents o before whole (d ∷ ds) =
    problems_of_both o before whole d (facts_of_all ds)
    ∙ ap (λ (zs : List FindingValue). indent_problems o before whole d ++ zs) (by_documents o (and_later before (measure_of d)) whole ds)

pub problems_are_by_documents : ProblemsAreByDocuments
problems_are_by_documents o ds = by_documents o empty_measure (measure_of (facts_of_all ds)) ds

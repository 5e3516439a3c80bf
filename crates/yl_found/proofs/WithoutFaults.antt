-- Sections as if none had a fault: what is found in them, and others in place of some.
use Rattle.std.proofs.Common.{◌≡◌, ℕ, ◌+◌, ◌-◌, List, [], ◌∷◌, ◌++◌, take, drop, refl, ap, sym, subst, ◌∙◌}
use Rattle.std.specs.List.{AllByRecursion, splice}
use Rattle.std.proofs.lemmas.List.{take-map, drop-map, map-append}
use Rattle.yl_text.proofs.Every.{all_drop}
use Rattle.yl_text.specs.Finding.{FindingValue}
use Rattle.yl_indentation.specs.declared.fact.Fact.{Fact}
use Rattle.yl_indentation.specs.declared.measure.Measure.{Measure}
use Rattle.yl_indentation.specs.declared.options.IndentationOptions.{IndentationOptions}
use Rattle.yl_indentation.specs.Measures.{and_later, measure_of}
use Rattle.yl_sections.specs.Kept.{KeptValue, rows_kept}
use Rattle.yl_lint.specs.Onward.{onward_in_section, onward_in_sections}
use Rattle.yl_lint.specs.TextReport.{facts_in_sections, findings_in_section, findings_in_sections}
use Rattle.yl_found.specs.Faultless.{faultless, faultless_one}
use Rattle.yl_found.specs.Plain.{IsPlain}
use Rattle.yl_summary.specs.Overview.{IsSound}
use Rattle.yl_summary.proofs.Walks.{measured}

-- ---- sections as if none had a fault

pub sound_faultless : (ks : List KeptValue) → AllByRecursion IsSound (faultless ks)
sound_faultless [] = tt
sound_faultless (k ∷ ks) = (refl, sound_faultless ks)

facts_faultless : (ks : List KeptValue) → facts_in_sections (faultless ks) ≡ facts_in_sections ks
facts_faultless [] = refl
facts_faultless (k ∷ ks) = ap (λ (fs : List Fact). k.facts ++ fs) (facts_faultless ks)

pub measured_faultless : (ks : List KeptValue) → measured (faultless ks) ≡ measured ks
measured_faultless ks = ap measure_of (facts_faultless ks)

pub rows_faultless : (ks : List KeptValue) → rows_kept (faultless ks) ≡ rows_kept ks
rows_faultless [] = refl
rows_faultless (k ∷ ks) = ap (λ (n : ℕ). k.rows + n) (rows_faultless ks)

pub findings_faultless : (o : IndentationOptions) (w : Measure) (line : ℕ) (before : Measure) (ks : List KeptValue)
    → findings_in_sections o w line before (faultless ks) ≡ findings_in_sections o w line before ks
findings_faultless o w line before [] = refl
findings_faultless o w line before (k ∷ ks) =
    ap (λ (fs : List FindingValue). findings_in_section o w line before k ++ fs) (findings_faultless o w (line + k.rows) (and_later before (measure_of k.facts)) ks)

pub onward_faultless : (o : IndentationOptions) (line : ℕ) (before : Measure) (ks : List KeptValue) → onward_in_sections o line before (faultless ks) ≡ onward_in_sections o line before ks
onward_faultless o line before [] = refl
onward_faultless o line before (k ∷ ks) =
    ap (λ (fs : List FindingValue). onward_in_section o line before k ++ fs) (onward_faultless o (line + k.rows) (and_later before (measure_of k.facts)) ks)

pub faultless_between : (from end : ℕ) (ks : List KeptValue) → take (end - from) (drop from (faultless ks)) ≡ faultless (take (end - from) (drop from ks))
faultless_between from end ks = ap (take (end - from)) (drop-map faultless_one from ks) ∙ take-map faultless_one (end - from) (drop from ks)

pub splice_faultless : (ks ns : List KeptValue) (from end : ℕ) → splice (faultless ks) from end (faultless ns) ≡ faultless (splice ks from end ns)
splice_faultless ks ns from end =
    ap (λ (ls : List KeptValue). ls ++ (faultless ns ++ drop end (faultless ks))) (take-map faultless_one from ks)
    ∙ (ap (λ (ls : List KeptValue). faultless (take from ks) ++ (faultless ns ++ ls)) (drop-map faultless_one end ks)
    ∙ (ap (λ (ls : List KeptValue). faultless (take from ks) ++ ls) (sym (map-append faultless_one ns (drop end ks)))
    ∙ sym (map-append faultless_one (take from ks) (ns ++ drop end ks))))

-- those from one on
pub all_below : (ks : List KeptValue) (end : ℕ) → AllByRecursion IsPlain (faultless ks) → AllByRecursion IsPlain (faultless (drop end ks))
all_below ks end h = subst (λ (ls : List KeptValue). AllByRecursion IsPlain ls) (drop-map faultless_one end ks) (all_drop IsPlain (faultless ks) end h)

-- What a report shows of sections up to one with a fault at a place: what comes behind that one, and how many rows it has, counts nowhere.
use Rattle.std.proofs.Common.{◌≡◌, ◌⊎◌, ◌++◌, ◌+◌, ℕ, List, [], ◌∷◌, map, refl, ap, sym, ◌∙◌, Option, Some, None, inl, inr}
use Rattle.std.specs.Option.{option_map_or}
use Rattle.yl_text.specs.declared.position.Pos.{Pos}
use Rattle.yl_text.specs.Finding.{FindingValue}
use Rattle.yl_lexeme.specs.Lexeme.{PlacedCommentValue}
use Rattle.yl_indentation.specs.declared.fact.Fact.{Fact}
use Rattle.yl_indentation.specs.declared.measure.Measure.{Measure}
use Rattle.yl_indentation.specs.declared.options.IndentationOptions.{IndentationOptions}
use Rattle.yl_indentation.specs.Measures.{and_later, empty_measure, measure_of}
use Rattle.yl_config.specs.declared.config.Config.{Config}
use Rattle.yl_config.specs.Config.{options_of}
use Rattle.yl_sections.specs.Kept.{KeptValue, SectionFaultValue, Here, Behind, unless_fault}
use Rattle.yl_lint.specs.TextReport.{comments_in_sections, facts_in_sections, fault_in_sections, findings_in_section, findings_in_sections, moved_comment, place_after, report_of_kept, shown, syntax_finding, finding_of_fault}
use Rattle.yl_sections.proofs.Quiet.{with_rows}
use Rattle.yl_rescan.proofs.Stops.{IsHere, HaveHere}

-- so many rows more in the last of these
abbrev pub longer_behind : ℕ → KeptValue → List KeptValue → List KeptValue
longer_behind n k [] = with_rows n k ∷ []
longer_behind n k (l ∷ ls) = k ∷ longer_behind n l ls

abbrev pub longer : ℕ → List KeptValue → List KeptValue
longer n [] = []
longer n (k ∷ ks) = longer_behind n k ks

-- ---- the fault

fault_next : (line rows : ℕ) (end : Pos) (xs ys : List KeptValue) (f : Option SectionFaultValue) (us vs : List FindingValue)
    → ((text : List ℕ) → f ≡ Some (Behind text) → place_after (line + rows) end xs ≡ place_after (line + rows) end ys) → (f ≡ None → us ≡ vs)
    → option_map_or (λ f. finding_of_fault line rows end xs f ∷ []) f us ≡ option_map_or (λ f. finding_of_fault line rows end ys f ∷ []) f vs
fault_next line rows end xs ys None us vs place later = later refl
fault_next line rows end xs ys (Some (Here p text)) us vs place later = refl
fault_next line rows end xs ys (Some (Behind text)) us vs place later = ap (λ (p : Pos). syntax_finding p text ∷ []) (place text refl)

fault_last : (line m n : ℕ) (end : Pos) (xs ys : List KeptValue) (f : Option SectionFaultValue) (us vs : List FindingValue) → IsHere f → option_map_or (λ f. finding_of_fault line m end xs f ∷ []) f us ≡ option_map_or (λ f. finding_of_fault line n end ys f ∷ []) f vs
fault_last line m n end xs ys None us vs h = absurd h
fault_last line m n end xs ys (Some (Here p text)) us vs h = refl
fault_last line m n end xs ys (Some (Behind text)) us vs h = absurd h

not_here : (f : Option SectionFaultValue) (P : Type 0) → f ≡ None → IsHere f ⊎ P → P
not_here None P e (inl h) = absurd h
not_here None P e (inr h) = h
not_here (Some f) P e h = absurd (cc)

place_same : (line n : ℕ) (end : Pos) (l : KeptValue) (ls more : List KeptValue) → place_after line end ((l ∷ ls) ++ more) ≡ place_after line end (longer_behind n l ls)
place_same line n end l [] more = refl
place_same line n end l (m ∷ ls) more = refl

only_one : (P : Type 0) → P ⊎ ⊥ → P
only_one P (inl h) = h
only_one P (inr h) = absurd h

fault_behind : (line n : ℕ) (end : Pos) (k : KeptValue) (ks more : List KeptValue) → HaveHere (k ∷ ks) → fault_in_sections line end ((k ∷ ks) ++ more) ≡ fault_in_sections line end (longer_behind n k ks)
fault_behind line n end k [] more h =
    fault_last line k.rows (k.rows + n) end more [] k.fault (fault_in_sections (line + k.rows) end more) [] (only_one (IsHere k.fault) h)
fault_behind line n end k (l ∷ ls) more h =
    fault_next line k.rows end ((l ∷ ls) ++ more) (longer_behind n l ls) k.fault (fault_in_sections (line + k.rows) end ((l ∷ ls) ++ more)) (fault_in_sections (line + k.rows) end (longer_behind n l ls))
    (λ text e. place_same (line + k.rows) n end l ls more) (λ e. fault_behind (line + k.rows) n end l ls more (not_here k.fault (HaveHere (l ∷ ls)) e h))

pub same_fault : (line n : ℕ) (end : Pos) (ks more : List KeptValue) → HaveHere ks → fault_in_sections line end (ks ++ more) ≡ fault_in_sections line end (longer n ks)
same_fault line n end [] more h = absurd h
same_fault line n end (k ∷ ks) more h = fault_behind line n end k ks more h

-- ---- what is shown

hidden_by : (f : Option SectionFaultValue) (xs ys : List KeptValue) → (f ≡ None → xs ≡ ys) → unless_fault f xs ≡ unless_fault f ys
hidden_by None xs ys h = h refl
hidden_by (Some f) xs ys h = refl

-- nothing that comes behind them
pub shown_before : (ks more : List KeptValue) → HaveHere ks → shown (ks ++ more) ≡ shown ks
shown_before [] more h = absurd h
shown_before (k ∷ ks) more h =
    ap (λ (ls : List KeptValue). k ∷ ls) (hidden_by k.fault (shown (ks ++ more)) (shown ks) (λ e. shown_before ks more (not_here k.fault (HaveHere ks) e h)))

-- the same, or with the last one longer
abbrev IsSameOrLonger : ℕ → List KeptValue → List KeptValue → Type 0
IsSameOrLonger n xs ys = (ys ≡ xs) ⊎ (ys ≡ longer n xs)

shown_last : (n : ℕ) (k : KeptValue) (f : Option SectionFaultValue) → with_rows n k ∷ unless_fault f [] ≡ longer n (k ∷ unless_fault f [])
shown_last n k None = refl
shown_last n k (Some f) = refl

shown_next : (n : ℕ) (k l : KeptValue) (ls ys : List KeptValue) (f : Option SectionFaultValue) → IsSameOrLonger n (l ∷ ls) ys → IsSameOrLonger n (k ∷ unless_fault f (l ∷ ls)) (k ∷ unless_fault f ys)
shown_next n k l ls ys None (inl e) = inl (ap (λ (xs : List KeptValue). k ∷ xs) e)
shown_next n k l ls ys None (inr e) = inr (ap (λ (xs : List KeptValue). k ∷ xs) e)
shown_next n k l ls ys (Some f) h = inl refl

shown_behind : (n : ℕ) (k : KeptValue) (ks : List KeptValue) → IsSameOrLonger n (shown (k ∷ ks)) (shown (longer_behind n k ks))
shown_behind n k [] = inr (shown_last n k k.fault)
shown_behind n k (l ∷ ls) = shown_next n k l (unless_fault l.fault (shown ls)) (shown (longer_behind n l ls)) k.fault (shown_behind n l ls)

pub shown_longer : (n : ℕ) (ks : List KeptValue) → IsSameOrLonger n (shown ks) (shown (longer n ks))
shown_longer n [] = inl refl
shown_longer n (k ∷ ks) = shown_behind n k ks

-- what does not depend on how many rows the last one has
pub by_longer : {X : Type 0} (f : List KeptValue → X) (n : ℕ) → ((ks : List KeptValue) → f (longer n ks) ≡ f ks) → (ks more : List KeptValue) → HaveHere ks → f (shown (ks ++ more)) ≡ f (shown (longer n ks))
by_longer {X} f n same ks more h = ap f (shown_before ks more h) ∙ by (shown (longer n ks)) (shown_longer n ks)
  where
    by : (ys : List KeptValue) → IsSameOrLonger n (shown ks) ys → f (shown ks) ≡ f ys
    by ys (inl e) = ap f (sym e)
    by ys (inr e) = sym (ap f e ∙ same (shown ks))

facts_behind : (n : ℕ) (k : KeptValue) (ks : List KeptValue) → facts_in_sections (longer_behind n k ks) ≡ facts_in_sections (k ∷ ks)
facts_behind n k [] = refl
facts_behind n k (l ∷ ls) = ap (λ (fs : List Fact). k.facts ++ fs) (facts_behind n l ls)

pub same_facts : (n : ℕ) (ks : List KeptValue) → facts_in_sections (longer n ks) ≡ facts_in_sections ks
same_facts n [] = refl
same_facts n (k ∷ ks) = facts_behind n k ks

comments_behind : (line n : ℕ) (k : KeptValue) (ks : List KeptValue) → comments_in_sections line (longer_behind n k ks) ≡ comments_in_sections line (k ∷ ks)
comments_behind line n k [] = refl
comments_behind line n k (l ∷ ls) = ap (λ (cs : List PlacedCommentValue). map (moved_comment line) k.comments ++ cs) (comments_behind (line + k.rows) n l ls)

pub same_comments : (line n : ℕ) (ks : List KeptValue) → comments_in_sections line (longer n ks) ≡ comments_in_sections line ks
same_comments line n [] = refl
same_comments line n (k ∷ ks) = comments_behind line n k ks

findings_behind : (o : IndentationOptions) (whole : Measure) (line n : ℕ) (before : Measure) (k : KeptValue) (ks : List KeptValue)
    → findings_in_sections o whole line before (longer_behind n k ks) ≡ findings_in_sections o whole line before (k ∷ ks)
findings_behind o whole line n before k [] = refl
findings_behind o whole line n before k (l ∷ ls) =
    ap (λ (fs : List FindingValue). findings_in_section o whole line before k ++ fs) (findings_behind o whole (line + k.rows) n (and_later before (measure_of k.facts)) l ls)

pub same_findings : (o : IndentationOptions) (whole : Measure) (line n : ℕ) (before : Measure) (ks : List KeptValue) → findings_in_sections o whole line before (longer n ks) ≡ findings_in_sections o whole line before ks
same_findings o whole line n before [] = refl
same_findings o whole line n before (k ∷ ks) = findings_behind o whole line n before k ks

-- ---- the report

-- it is the same with other sections behind them, and with a longer last one
pub same_report : (config : Config) (in_lines : List FindingValue) (first : List ℕ) (end : Pos) (n : ℕ) (ks more : List KeptValue) → HaveHere ks
    → report_of_kept config in_lines first end (ks ++ more) ≡ report_of_kept config in_lines first end (longer n ks)
unfolding report_of_kept
same_report config in_lines first end n ks more h =
    let o = (options_of config).indentation in
    let comments = by_longer (λ (xs : List KeptValue). comments_in_sections 0 xs) n (same_comments 0 n) ks more h in
    let facts = by_longer (λ (xs : List KeptValue). facts_in_sections xs) n (same_facts n) ks more h in
    let findings = by_longer (λ (xs : List KeptValue). findings_in_sections o (measure_of (facts_in_sections (shown (longer n ks)))) 0 empty_measure xs) n (same_findings o (measure_of (facts_in_sections (shown (longer n ks)))) 0 n empty_measure) ks more h in
    rw (comments, same_fault 0 n end ks more h, facts, findings) refl

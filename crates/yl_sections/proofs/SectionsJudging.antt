-- Sections are judged one after another.
use Rattle.std.proofs.Common.{◌≡◌, ◌+◌, ℕ, Bool, true, false, List, [], ◌∷◌, ◌++◌, Option, map, refl, sym, subst, ◌∙◌, ap, append_assoc, append-nil, arith}
use Rattle.std.proofs.lemmas.List.{map-append}
use Rattle.yl_lexeme.specs.declared.lexeme.Kind.{Kind}
use Rattle.yl_config.specs.declared.config.Config.{Config}
use Rattle.yl_record.specs.Records.{RecordValue}
use Rattle.yl_sections.specs.Judge.{kept_of_section}
use Rattle.yl_sections.specs.declared.judging.SectionsJudge.{SectionsJudge}
use Rattle.yl_sections.specs.declared.section_judge.SectionJudge.{SectionJudge}
use Rattle.yl_sections.specs.Judging.{Judges, JudgesAll, with_front}
use Rattle.yl_sections.specs.Kept.{KeptValue, document_count, documents_in}
use Rattle.yl_sections.specs.Sections.{is_section_start, last_kind_from, lexemes_of, parts, sections, with_row}

module _ (done : List (List RecordValue)) (here : List RecordValue) (last next : Option Kind) (r : RecordValue) (rs : List RecordValue) (kind : next ≡ last_kind_from last r.entry.lexemes)
    (whole : (more : List RecordValue) → done ++ with_front here (parts last more) ≡ sections (rs ++ more)) where
  one_more : (more : List RecordValue) → done ++ with_front here (with_row (is_section_start last r.entry.lexemes) r (parts next more)) ≡ sections ((rs ++ r ∷ []) ++ more)
  one_more more =
      ap (λ (k : Option Kind). done ++ with_front here (with_row (is_section_start last r.entry.lexemes) r (parts k more))) kind
      ∙ (whole (r ∷ more) ∙ ap (λ (es : List RecordValue). sections es) (sym (append_assoc rs (r ∷ []) more)))

  -- a section begins with the row
  pub turned : is_section_start last r.entry.lexemes ≡ true → (more : List RecordValue) → (done ++ here ∷ []) ++ with_front ([] ++ r ∷ []) (parts next more) ≡ sections ((rs ++ r ∷ []) ++ more)
  turned starts more =
      append_assoc done (here ∷ []) (with_front (r ∷ []) (parts next more))
      ∙ (ap (λ (hs : List RecordValue). done ++ (hs ∷ with_front (r ∷ []) (parts next more))) (sym (append-nil here))
      ∙ (ap (λ (b : Bool). done ++ with_front here (with_row b r (parts next more))) (sym starts) ∙ one_more more))

  -- the row belongs to the present one
  pub went_on : is_section_start last r.entry.lexemes ≡ false → (more : List RecordValue) → done ++ with_front (here ++ r ∷ []) (parts next more) ≡ sections ((rs ++ r ∷ []) ++ more)
  went_on starts more =
      ap (λ (hs : List RecordValue). done ++ (hs ∷ (parts next more).later)) (append_assoc here (r ∷ []) (parts next more).here)
      ∙ (ap (λ (b : Bool). done ++ with_front here (with_row b r (parts next more))) (sym starts) ∙ one_more more)

-- ---- documents

documents_of_both : (a b : List (List RecordValue)) → documents_in (a ++ b) ≡ documents_in a + documents_in b
documents_of_both [] b = omega (arith)
documents_of_both (s ∷ a) b = omega (arith, documents_of_both a b)

pub documents_so_far : (done : List (List RecordValue)) (here : List RecordValue) (last : Option Kind) (rs : List RecordValue) → ((more : List RecordValue) → done ++ with_front here (parts last more) ≡ sections (rs ++ more))
    → documents_in (sections rs) ≡ documents_in done + document_count (lexemes_of here)
documents_so_far done here last rs whole =
    let all : done ++ here ∷ [] ≡ sections rs =
    ap (λ (hs : List RecordValue). done ++ hs ∷ []) (sym (append-nil here)) ∙ (whole [] ∙ ap (λ (es : List RecordValue). sections es) (append-nil rs)) in
    sym (ap documents_in all) ∙ (documents_of_both done (here ∷ []) ∙ omega (arith))

pub documents_turned : (done : List (List RecordValue)) (here : List RecordValue) → documents_in (done ++ here ∷ []) ≡ documents_in done + document_count (lexemes_of here)
documents_turned done here = documents_of_both done (here ∷ []) ∙ omega (arith)

-- ---- what is kept

pub kept_turned : (config : Config) (done : List (List RecordValue)) (here : List RecordValue) (old new : List KeptValue) (k : KeptValue) → new ≡ old ++ k ∷ [] → k ≡ kept_of_section config here → old ≡ map (kept_of_section config) done
    → new ≡ map (kept_of_section config) (done ++ here ∷ [])
kept_turned config done here old new k pushed is kept =
    pushed
    ∙ (ap (λ (j : KeptValue). old ++ j ∷ []) is
    ∙ (ap (λ (ks : List KeptValue). ks ++ kept_of_section config here ∷ []) kept ∙ sym (map-append (kept_of_section config) done (here ∷ []))))

pub all_kept : (config : Config) (done : List (List RecordValue)) (here : List RecordValue) (last : Option Kind) (rs : List RecordValue) (new : List KeptValue) → ((more : List RecordValue) → done ++ with_front here (parts last more) ≡ sections (rs ++ more))
    → new ≡ map (kept_of_section config) (done ++ here ∷ []) → new ≡ map (kept_of_section config) (sections rs)
all_kept config done here last rs new whole told =
    told
    ∙ ap (map (kept_of_section config))
    (ap (λ (hs : List RecordValue). done ++ hs ∷ []) (sym (append-nil here)) ∙ (whole [] ∙ ap (λ (es : List RecordValue). sections es) (append-nil rs)))

-- ---- a row more

module _ {A : Type 0} (config : Config) (rs : List RecordValue) (r : RecordValue) (old new : SectionsJudge A) (mid : SectionJudge A) where
  pub judged_next : (starts : Bool) → (h : JudgesAll config rs old) → starts ≡ is_section_start old.last r.entry.lexemes → new.last ≡ last_kind_from old.last r.entry.lexemes
      → ((here : List RecordValue) → starts ≡ true → Judges config here old.judge → (new.kept.items ≡ old.kept.items ++ kept_of_section config here ∷ []) × Judges config [] mid)
      → (starts ≡ false → (mid ≡ old.judge) × (new.kept.items ≡ old.kept.items))
      → ((here : List RecordValue) → Judges config here mid → Judges config (here ++ r ∷ []) new.judge) → JudgesAll config (rs ++ r ∷ []) new
  judged_next true h is kind turns stays reads =
      let next = turns h.here refl h.judges in
      record {
        done = h.done ++ h.here ∷ [];
        here = [] ++ r ∷ [];
        kept = kept_turned config h.done h.here old.kept.items new.kept.items (kept_of_section config h.here) next.0 refl h.kept;
        judges = reads [] next.1;
        whole = turned h.done h.here old.last new.last r rs kind h.whole (sym is);
      }
  judged_next false h is kind turns stays reads =
      let same = stays refl in
      record {
        done = h.done;
        here = h.here ++ r ∷ [];
        kept = same.1 ∙ h.kept;
        judges = reads h.here (subst (λ (j : SectionJudge A). Judges config h.here j) (sym same.0) h.judges);
        whole = went_on h.done h.here old.last new.last r rs kind h.whole (sym is);
      }

  pub counted_next : (starts : Bool) → (h : JudgesAll config rs old) → starts ≡ is_section_start old.last r.entry.lexemes → new.last ≡ last_kind_from old.last r.entry.lexemes
      → ((here : List RecordValue) → starts ≡ true → Judges config here old.judge → (new.kept.items ≡ old.kept.items ++ kept_of_section config here ∷ []) × Judges config [] mid)
      → (starts ≡ false → (mid ≡ old.judge) × (new.kept.items ≡ old.kept.items))
      → (m n : ℕ) → ((here : List RecordValue) → Judges config here mid → n + document_count (lexemes_of here) ≡ m + document_count (lexemes_of (here ++ r ∷ [])))
      → n + documents_in (sections rs) ≡ m + documents_in (sections (rs ++ r ∷ []))
  counted_next true h is kind turns stays m n reads =
      let next = turns h.here refl h.judges in
      let count = reads [] next.1 in
      let before = documents_so_far h.done h.here old.last rs h.whole in
      let after = documents_so_far (h.done ++ h.here ∷ []) ([] ++ r ∷ []) new.last (rs ++ r ∷ []) (turned h.done h.here old.last new.last r rs kind h.whole (sym is)) in
      omega (arith, count, before, after, documents_turned h.done h.here)
  counted_next false h is kind turns stays m n reads =
      let same = stays refl in
      let count = reads h.here (subst (λ (j : SectionJudge A). Judges config h.here j) (sym same.0) h.judges) in
      let before = documents_so_far h.done h.here old.last rs h.whole in
      let after = documents_so_far h.done (h.here ++ r ∷ []) new.last (rs ++ r ∷ []) (went_on h.done h.here old.last new.last r rs kind h.whole (sym is)) in
      omega (arith, count, before, after)

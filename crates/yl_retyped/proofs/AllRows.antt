-- The same is kept of each section of rows that say the same to the rules, but for values that are typed anew.
use Rattle.std.proofs.Common.{◌≡◌, ◌≤◌, ℕ, inl, inr, List, [], ◌∷◌, ◌++◌, length, map, take, drop, refl, ap, sym, ◌∙◌, append_assoc, arith}
use Rattle.std.proofs.lemmas.List.{length-drop}
use Rattle.yl_lexeme.specs.declared.lexeme.Kind.{Kind}
use Rattle.yl_lexeme.specs.Lexeme.{LexemeValue}
use Rattle.yl_lexeme_rules.specs.declared.options.LexemeOptions.{LexemeOptions}
use Rattle.yl_config.specs.declared.config.Config.{Config}
use Rattle.yl_record.specs.Records.{RecordValue}
use Rattle.yl_sections.specs.Judge.{kept_of_section}
use Rattle.yl_sections.specs.Kept.{KeptValue, lexeme_options_of}
use Rattle.yl_sections.specs.Sections.{sections}
use Rattle.yl_retyped.specs.Retyped.{IsQuiet}
use Rattle.yl_retyped.specs.Rows.{AreRowsAlike, IsRowAlike}
use Rattle.yl_retyped.proofs.Cut.{AllRelated, SameKinds, alike_between, sections_alike}
use Rattle.yl_retyped.proofs.Findings.{findings_stay}
use Rattle.yl_retyped.proofs.Marks.{marks_stay}
use Rattle.yl_retyped.proofs.Facts.{keys_stay}
use Rattle.yl_retyped.proofs.Roles.{events_law}
use Rattle.yl_retyped.proofs.OneRow.{row_alike}

-- ---- the options

quiet_by : (o q : LexemeOptions) (x : LexemeValue) → q.truthy ≡ o.truthy → q.quoted_strings ≡ o.quoted_strings → IsQuiet o x → IsQuiet q x
quiet_by o q x d e h = rw (d, e) h

alike_by : (o q : LexemeOptions) (r s : RecordValue) → q.truthy ≡ o.truthy → q.quoted_strings ≡ o.quoted_strings → IsRowAlike o r s → IsRowAlike q r s
alike_by o q r s d e (inl h) = inl h
alike_by o q r s d e (inr h) =
    let l = h.lexemes in
    inr (record {
      indentation = h.indentation;
      lexemes = record {
        front = l.front;
        p = l.p;
        x = l.x;
        y = l.y;
        old = l.old;
        new = l.new;
        retyped = l.retyped;
        quiet = quiet_by o q _ d e l.quiet;
        new_quiet = quiet_by o q _ d e l.new_quiet;
      };
      comment = h.comment;
      new_comment = h.new_comment;
      fault = h.fault;
    })

-- ---- the rows

kinds_same : (front : List LexemeValue) (p x y : LexemeValue) → y.kind ≡ x.kind
    → map (λ (z : LexemeValue). z.kind) (front ++ p ∷ x ∷ []) ≡ map (λ (z : LexemeValue). z.kind) (front ++ p ∷ y ∷ [])
kinds_same [] p x y h = ap (λ (k : Kind). p.kind ∷ k ∷ []) (sym h)
kinds_same (l ∷ front) p x y h = ap (λ (ks : List Kind). l.kind ∷ ks) (kinds_same front p x y h)

kinds_alike : (o : LexemeOptions) (r s : RecordValue) → IsRowAlike o r s → SameKinds r s
kinds_alike o r s (inl h) = ap (map (λ (z : LexemeValue). z.kind)) h.lexemes
kinds_alike o r s (inr h) =
    let l = h.lexemes in
    let v = l.retyped in
    ap (map (λ (z : LexemeValue). z.kind)) l.old ∙ (kinds_same l.front l.p l.x l.y v.kind ∙ sym (ap (map (λ (z : LexemeValue). z.kind)) l.new))

same_alike : (o : LexemeOptions) (r : RecordValue) → IsRowAlike o r r
same_alike o r = inl (record { indentation = refl; lexemes = refl; comment = refl; fault = refl })

rows_alike : (config : Config) (us rs ss : List RecordValue) → AllRelated (IsRowAlike (lexeme_options_of config)) rs ss → kept_of_section config (us ++ rs) ≡ kept_of_section config (us ++ ss)
rows_alike config us [] [] h = refl
rows_alike config us [] (s ∷ ss) h = absurd h
rows_alike config us (r ∷ rs) [] h = absurd h
rows_alike config us (r ∷ rs) (s ∷ ss) h =
    row_alike marks_stay keys_stay findings_stay events_law config us rs r s h.0
    ∙ (ap (kept_of_section config) (sym (append_assoc us (s ∷ []) rs))
    ∙ (rows_alike config (us ++ s ∷ []) rs ss h.1 ∙ ap (kept_of_section config) (append_assoc us (s ∷ []) ss)))

cons_same : {x y : KeptValue} {xs ys : List KeptValue} → x ≡ y → xs ≡ ys → x ∷ xs ≡ y ∷ ys
cons_same a b = rw (a, b) refl

all_alike : (config : Config) (xs ys : List (List RecordValue)) → AllRelated (AllRelated (IsRowAlike (lexeme_options_of config))) xs ys → map (kept_of_section config) xs ≡ map (kept_of_section config) ys
all_alike config [] [] h = refl
all_alike config [] (y ∷ ys) h = absurd h
all_alike config (x ∷ xs) [] h = absurd h
all_alike config (x ∷ xs) (y ∷ ys) h = cons_same (rows_alike config [] x y h.0) (all_alike config xs ys h.1)

same_length : (old new : List RecordValue) (end : ℕ) → end ≤ length old → end ≤ length new → drop end old ≡ drop end new → length old ≡ length new
same_length old new end m n behind = let rest : length (drop end old) ≡ length (drop end new) = ap length behind in omega (arith, length-drop end old, length-drop end new, rest)

pub sections_kept : (config : Config) (o : LexemeOptions) (old new : List RecordValue) (from end : ℕ) → (lexeme_options_of config).truthy ≡ o.truthy → (lexeme_options_of config).quoted_strings ≡ o.quoted_strings
    → from ≤ end → end ≤ length old → end ≤ length new → take from old ≡ take from new → drop end old ≡ drop end new → AreRowsAlike o old new from end
    → map (kept_of_section config) (sections old) ≡ map (kept_of_section config) (sections new)
sections_kept config o old new from end d e l m n before behind alike =
    let q = lexeme_options_of config in
    all_alike config (sections old) (sections new)
    (sections_alike (IsRowAlike q) (kinds_alike q) old new
    (alike_between (IsRowAlike q) (same_alike q) old new from end before behind l m (same_length old new end m n behind) (λ i a b r s x y. alike_by o q r s d e (alike i r s a b x y))))

-- The loop over sections.
use Rattle.std.proofs.Common.{◌≡◌, ℕ, zero, suc, ◌+◌, ◌<◌, ◌≤◌, false, List, [], ◌∷◌, ◌++◌, length, map, refl, ap, sym, ◌∙◌, append_assoc, arith}
use Rattle.std.specs.Prelude.{◌==◌}
use Rattle.yl_lexeme.specs.Lexeme.{LexemeValue}
use Rattle.yl_record.specs.Records.{RecordValue}
use Rattle.yl_sections.specs.Sections.{lexemes_of}
use Rattle.yl_sections.specs.Kept.{KeptValue, document_count, documents_in}

-- ---- a document

-- some length is not 0
pub not_zero : (n : ℕ) → (n == 0) ≡ false → 0 < n
not_zero zero e = absurd (cc)
not_zero (suc n) e = omega arith

pub one_document : (xs : List LexemeValue) → 0 < length xs → document_count xs ≡ 1
one_document [] l = absurd (omega (arith, l))
one_document (x ∷ xs) l = refl

pub no_document : (xs : List LexemeValue) → length xs ≡ 0 → document_count xs ≡ 0
no_document [] l = refl
no_document (x ∷ xs) l = absurd (omega (arith, l))

pub few_documents : (xs : List LexemeValue) → document_count xs ≤ 1
few_documents [] = omega arith
few_documents (x ∷ xs) = omega arith

-- ---- a section more

pub kept_more : (f : List RecordValue → KeptValue) (items new total : List KeptValue) (s : List RecordValue) (before after : List (List RecordValue)) (k : KeptValue) → before ≡ s ∷ after → k ≡ f s
    → new ≡ items ++ k ∷ [] → items ++ map f before ≡ total → new ++ map f after ≡ total
kept_more f items new total s before after k cut is pushed whole =
    ap (λ (ks : List KeptValue). ks ++ map f after) pushed
    ∙ (append_assoc items (k ∷ []) (map f after)
    ∙ (ap (λ (j : KeptValue). items ++ (j ∷ map f after)) is ∙ (ap (λ (ss : List (List RecordValue)). items ++ map f ss) (sym cut) ∙ whole)))

pub documents_more : (old new total : ℕ) (s : List RecordValue) (before after : List (List RecordValue)) → before ≡ s ∷ after → new ≡ old + document_count (lexemes_of s)
    → old + documents_in before ≡ total → new + documents_in after ≡ total
documents_more old new total s before after cut counted whole =
    let all : documents_in before ≡ document_count (lexemes_of s) + documents_in after = ap documents_in cut in
    omega (arith, all, counted, whole)

-- Where sections begin in records that go on alike.
use Rattle.std.proofs.Common.{◌≡◌, ℕ, zero, suc, ◌+◌, ◌-◌, ◌<◌, ◌≤◌, true, false, List, [], ◌∷◌, take, drop, Option, None, ap, sym, ◌∙◌, arith}
use Rattle.std.specs.List.{AllByRecursion}
use Rattle.yl_lexeme.specs.declared.lexeme.Kind.{Kind}
use Rattle.yl_record.specs.Records.{RecordValue}
use Rattle.yl_sections.specs.Last.{HasNoLexeme}
use Rattle.yl_sections.specs.Local.{begins_section, kind_after, is_start_at}
use Rattle.yl_sections.proofs.Cuts.{last_anew}
use Rattle.yl_sections.proofs.SectionStarts.{starts_after, from_row, quiet, same_before}

-- behind a last lexeme of the same kind
pub by_kind : (old new : List RecordValue) (i j e : ℕ) → kind_after None (take i old) ≡ kind_after None (take j new) → drop i old ≡ drop j new → is_start_at new (j + e) ≡ is_start_at old (i + e)
by_kind old new i j e kind same =
    from_row None new j e
    ∙ (ap (λ (rs : List RecordValue). starts_after (kind_after None (take j new)) rs e) (sym same)
    ∙ (ap (λ (last : Option Kind). starts_after last (drop i old) e) (sym kind) ∙ sym (from_row None old i e)))

-- what stands before a row that begins one does not count behind it
pub alone : (last : Option Kind) (rs : List RecordValue) (e : ℕ) → begins_section last rs ≡ true → starts_after last rs (suc e) ≡ starts_after None rs (suc e)
alone last [] e b = absurd (cc)
alone last (r ∷ rs) e b = ap (λ (k : Option Kind). starts_after k rs e) (last_anew last r.entry.lexemes b)

-- from a row on with which a section begins in both
pub by_start : (old new : List RecordValue) (i j e : ℕ) → drop i old ≡ drop j new → is_start_at old i ≡ true → is_start_at new j ≡ true → is_start_at new (j + e) ≡ true → is_start_at old (i + e) ≡ true
by_start old new i j zero same a b h = let e : i + 0 ≡ i = omega arith in ap (λ k. is_start_at old k) e ∙ a
by_start old new i j (suc e) same a b h =
    from_row None old i (suc e)
    ∙ (alone (kind_after None (take i old)) (drop i old) e a
    ∙ (ap (λ (rs : List RecordValue). starts_after None rs (suc e)) same
    ∙ (sym (alone (kind_after None (take j new)) (drop j new) e b) ∙ (sym (from_row None new j (suc e)) ∙ h))))

-- not among rows without lexemes
pub none_among : (rs total : List RecordValue) (c j i : ℕ) → take c rs ≡ take c total → AllByRecursion HasNoLexeme (drop j total) → j ≤ i → i < c → is_start_at rs i ≡ false
none_among rs total c j i same none o l =
    let n : j + (i - j) ≡ i = omega (arith, o) in
    same_before rs total c i same l ∙ (ap (λ k. is_start_at total k) (sym n) ∙ (from_row None total j (i - j) ∙ quiet (kind_after None (take j total)) (drop j total) (i - j) none))

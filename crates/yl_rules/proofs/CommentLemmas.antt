-- What the bytes of a comment tell of its characters.
use Rattle.std.proofs.Common.{◌≡◌, ◌<◌, ◌≤◌, ℕ, ◌+◌, ◌++◌, List, [], ◌∷◌, Bool, true, false, not, ◌==◌, drop, refl, sym, ◌∙◌, ap, arith, ⊎_elim}
use Rattle.std.specs.Prelude.{◌&&◌, codes}
use Rattle.std.specs.Str.{chars, IsUtf8}
use Rattle.std.proofs.lemmas.Bool.{cases_lt, cond-true, cond-false}
use Rattle.std.proofs.lemmas.Bool.Decides.{nat_tests}
use Rattle.std.proofs.lemmas.Str.{encode_ascii, encodes-chars}
use Rattle.yl_text.specs.Character.{is_non_space, starts_by}
use Rattle.yl_text.specs.Finding.{FindingValue}
use Rattle.yl_text.specs.declared.finding.RuleId.TheVariants.{Comments}
use Rattle.yl_rules.specs.LineLength.{hash_count}
use Rattle.yl_rules.specs.Comments.{is_shebang, lacks_space, starting_space_in}
use Rattle.yl_rules.specs.declared.comments.CommentsOptions.{CommentsOptions}
use Rattle.yl_rules.proofs.OneWord.{is_hash, hash_is_ascii}
use Rattle.yl_rules.proofs.Encoded.{IsSameTest, prefix_len-encodes, drop-encodes, starts_by-encodes}
use lib.Utf8.{encodes}

abbrev is_no_space : ℕ → Bool
is_no_space c = not (c == 0x20)

abbrev is_exclamation : ℕ → Bool
is_exclamation c = c == 0x21

abbrev after_hashes : List ℕ → List ℕ
after_hashes cs = drop (hash_count cs) cs

no_space_same : IsSameTest is_no_space true
no_space_same b h = grind (arith, nat_tests)

exclamation_same : IsSameTest is_exclamation false
exclamation_same b h = grind (arith, nat_tests)

non_space_same : IsSameTest is_non_space true
non_space_same b h = grind (arith, nat_tests)

-- a longer character is no `!`
shebang : (cs : List ℕ) → is_shebang (encodes cs) ≡ is_shebang cs
shebang [] = refl
shebang (c ∷ cs) =
    let start = starts_by-encodes is_exclamation false (c ∷ cs) exclamation_same in
    ⊎_elim
    (λ (h : c < 128).
    ap (λ (b : Bool). b && starts_by is_non_space (drop 1 (encodes (c ∷ cs)))) start
    ∙ ap (λ (bs : List ℕ). is_exclamation c && starts_by is_non_space (drop 1 (bs ++ encodes cs))) (encode_ascii c h)
    ∙ ap (λ (b : Bool). is_exclamation c && b) (starts_by-encodes is_non_space true cs non_space_same))
    (λ (h : 128 ≤ c). rw (start, exclamation_same c h) refl)
    (cases_lt c 128)

lacks : (o : CommentsOptions) (line column : ℕ) (cs : List ℕ) → lacks_space o line column (encodes cs) ≡ lacks_space o line column cs
lacks o line column cs = rw (starts_by-encodes is_no_space true cs no_space_same, shebang cs) refl

same_hashes : (cs : List ℕ) → hash_count (encodes cs) ≡ hash_count cs
same_hashes cs = prefix_len-encodes is_hash cs hash_is_ascii

past : (cs : List ℕ) → after_hashes (encodes cs) ≡ encodes (after_hashes cs)
past cs = ap (λ (n : ℕ). drop n (encodes cs)) (same_hashes cs) ∙ drop-encodes is_hash cs hash_is_ascii

same_finding : (o : CommentsOptions) (line column : ℕ) (cs : List ℕ) → starting_space_in o line column (encodes cs) ≡ starting_space_in o line column cs
same_finding o line column cs = rw (past cs, lacks o line column (after_hashes cs), same_hashes cs) refl

-- the rule says the same of a comment's bytes
pub starting_space-chars : (o : CommentsOptions) (line column : ℕ) (bs : List ℕ) → IsUtf8 bs → starting_space_in o line column bs ≡ starting_space_in o line column (chars bs)
starting_space-chars o line column bs u = ap (starting_space_in o line column) (sym (encodes-chars bs u)) ∙ same_finding o line column (chars bs)

pub none_lacking : (o : CommentsOptions) (line column : ℕ) (bs : List ℕ) → IsUtf8 bs → lacks_space o line column (after_hashes bs) ≡ false → [] ≡ starting_space_in o line column (chars bs)
none_lacking o line column bs u e = sym (cond-false _ _ _ e) ∙ starting_space-chars o line column bs u

pub one_lacking : (o : CommentsOptions) (line column width : ℕ) (bs message : List ℕ) (f : FindingValue) → IsUtf8 bs → lacks_space o line column (after_hashes bs) ≡ true → width ≡ hash_count bs → message ≡ codes "missing starting space in comment"
    → f ≡ record { line = line + 1; column = column + width + 1; rule = Comments; message = message } → f ∷ [] ≡ starting_space_in o line column (chars bs)
one_lacking o line column width bs message f u e w m is = rw (is, m, w) (sym (cond-true _ _ _ e)) ∙ starting_space-chars o line column bs u

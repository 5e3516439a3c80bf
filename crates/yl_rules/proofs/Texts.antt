-- What a line's bytes tell of its characters, and of what the rules find in it.
use Rattle.std.proofs.Common.{◌≡◌, ◌≢◌, ◌≤◌, ℕ, ◌+◌, ◌-◌, length, List, [], ◌∷◌, refl, sym, ◌∙◌, ap, arith}
use Rattle.std.specs.Prelude.{codes}
use Rattle.std.specs.List.{count_by}
use Rattle.std.specs.Str.{chars, IsUtf8}
use Rattle.std.proofs.lemmas.Bool.{cond-true, cond-false, eq-eqb, ne_eqb, le-leb}
use Rattle.std.proofs.lemmas.Bool.Decides.{nat_tests}
use Rattle.std.proofs.lemmas.List.Sums.{suffix_len-le-length, count_by-le-length}
use Rattle.std.proofs.lemmas.Str.{encodes-chars}
use Rattle.yl_text.specs.Character.{is_white}
use Rattle.yl_text.specs.Finding.{FindingValue}
use Rattle.yl_text.specs.declared.finding.RuleId.TheVariants.{TrailingSpaces}
use Rattle.yl_rules.specs.TrailingSpaces.{end_white, trailing_spaces}
use Rattle.yl_rules.specs.LineLength.{is_non_breakable}
use Rattle.yl_rules.specs.Rows.{line_findings}
use Rattle.yl_rules.specs.declared.options.RowOptions.{RowOptions}
use Rattle.yl_rules.proofs.Encoded.{IsAsciiTest, begins, count-encodes, suffix_len-encodes}
use Rattle.yl_rules.proofs.OneWord.{is_non_breakable-encodes}

white_is_ascii : IsAsciiTest is_white
white_is_ascii b h = grind (arith, nat_tests)

pub count-chars : (bs : List ℕ) → IsUtf8 bs → count_by begins bs ≡ length (chars bs)
count-chars bs u = ap (count_by begins) (sym (encodes-chars bs u)) ∙ count-encodes (chars bs)

pub end_white-chars : (bs : List ℕ) → IsUtf8 bs → end_white bs ≡ end_white (chars bs)
end_white-chars bs u = ap end_white (sym (encodes-chars bs u)) ∙ suffix_len-encodes is_white (chars bs) white_is_ascii

pub is_non_breakable-chars : (bs : List ℕ) → IsUtf8 bs → is_non_breakable bs ≡ is_non_breakable (chars bs)
is_non_breakable-chars bs u = ap is_non_breakable (sym (encodes-chars bs u)) ∙ is_non_breakable-encodes (chars bs)

pub width_within : (bs : List ℕ) → IsUtf8 bs → length (chars bs) ≤ length bs
width_within bs u = omega (arith, count-chars bs u, count_by-le-length begins bs)

pub white_within : (bs : List ℕ) → IsUtf8 bs → end_white bs ≤ length (chars bs)
white_within bs u = omega (arith, end_white-chars bs u, suffix_len-le-length is_white (chars bs))

pub no_trailing : (bs : List ℕ) (line white : ℕ) → IsUtf8 bs → white ≡ end_white bs → white ≡ 0 → [] ≡ trailing_spaces line (chars bs)
no_trailing bs line white u e z = sym (cond-true _ _ _ (eq-eqb (end_white (chars bs)) 0 (sym (end_white-chars bs u) ∙ sym e ∙ z)))

pub some_trailing : (bs message : List ℕ) (line white width : ℕ) (f : FindingValue) → IsUtf8 bs → white ≡ end_white bs → white ≢ 0 → width ≡ length (chars bs) → message ≡ codes "trailing spaces"
    → f ≡ record { line = line; column = width - white + 1; rule = TrailingSpaces; message = message } → f ∷ [] ≡ trailing_spaces line (chars bs)
some_trailing bs message line white width f u e z w m is =
    let same : white ≡ end_white (chars bs) = e ∙ end_white-chars bs u in
    rw (is, m, w, same) (sym (cond-false _ _ _ (ne_eqb (end_white (chars bs)) 0 (λ h. z (same ∙ h)))))

-- a line that fits by its bytes and does not end in white space
pub nothing_there : (o : RowOptions) (bs : List ℕ) (line : ℕ) → IsUtf8 bs → length bs ≤ o.max → end_white bs ≤ 0 → line_findings o line (chars bs) ≡ []
nothing_there o bs line u short clean =
    let fits : length (chars bs) ≤ o.max = omega (arith, width_within bs u, short) in
    rw (sym (no_trailing bs line (end_white bs) u refl (omega (arith, clean))), le-leb (length (chars bs)) o.max fits) refl

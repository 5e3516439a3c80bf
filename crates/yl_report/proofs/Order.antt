-- The order of findings is total, and only equal findings tie.
use Rattle.std.proofs.Common.{◌≡◌, ℕ, List, [], ◌∷◌, Bool, refl, sym, ◌∙◌, ap, Option, Some}
use Rattle.std.specs.Prelude.{bytes_eq}
use Rattle.std.specs.List.{find}
use Rattle.std.specs.Ordering.{nat_cmp, eq_by_cmp, is_lt, ordering_then}
use Rattle.std.specs.declared.cmp.Ordering.{Ordering}
use Rattle.std.specs.declared.cmp.Ordering.TheVariants.{Less, Equal, Greater}
use Rattle.std.specs.Cmp.{IsTotalOrder, then_total, on_total, nat_cmp_total, IsStrictWeakOrder}
use Rattle.std.specs.Cmp.Lexicographic.{slice_cmp, nat_list_cmp_total}
use Rattle.std.specs.FinSet.{nat_cmp-IsAntisymmetric, slice_cmp-IsAntisymmetric}
use Rattle.std.proofs.lemmas.List.Sorted.{ranks_by}
use Rattle.yl_text.specs.declared.finding.RuleId.{RuleId}
use Rattle.yl_text.specs.declared.finding.RuleId.TheVariants.{Anchors, Braces, Brackets, Colons, Commas, Comments, DocumentStart, EmptyLines, Hyphens, Indentation, KeyDuplicates, KeyOrdering, LineLength, NewLineAtEndOfFile, NewLines, QuotedStrings, Syntax, TrailingSpaces, Truthy}
use Rattle.yl_text.specs.Finding.{FindingValue, rule_name}
use Rattle.yl_report.specs.Report.{finding_order}
use Rattle.std.specs.List.{dedup}
use Rattle.std.specs.Cmp.{IsEquivalence, eq_by_cmp_equiv, Equal-is}
use Rattle.std.specs.List.Sorted.{IsPermutation, IsSorted}
use Rattle.std.proofs.lemmas.List.Kept.{IsStrictlySortedBy-dedup, Contains-dedup, Contains-from_dedup}
use Rattle.std.proofs.lemmas.List.Sorted.{Contains-permutation, IsPermutation-sym}
use Rattle.yl_report.specs.Arranged.{IsArranged}

pub order_total : IsTotalOrder finding_order
order_total =
    then_total (on_total (λ (f : FindingValue). f.line) nat_cmp_total)
    (then_total (on_total (λ (f : FindingValue). f.column) nat_cmp_total)
    (then_total (on_total (λ (f : FindingValue). rule_name f.rule) nat_list_cmp_total) (on_total (λ (f : FindingValue). f.message) nat_list_cmp_total)))

pub below_ranks : IsStrictWeakOrder (λ (x y : FindingValue). is_lt (finding_order x y))
below_ranks = ranks_by order_total (λ (x : FindingValue). x)

abbrev named : List ℕ → Option RuleId
named w =
    find (λ r. bytes_eq (rule_name r) w)
    (Anchors ∷ Braces ∷ Brackets ∷ Colons ∷ Commas ∷ Comments ∷ DocumentStart ∷ EmptyLines ∷ Hyphens ∷ Indentation ∷ KeyDuplicates ∷ KeyOrdering ∷ LineLength ∷ NewLineAtEndOfFile ∷ NewLines ∷ QuotedStrings ∷ Syntax ∷ TrailingSpaces ∷ Truthy ∷ [])

names : (r : RuleId) → named (rule_name r) ≡ Some r
names Anchors = refl
names Braces = refl
names Brackets = refl
names Colons = refl
names Commas = refl
names Comments = refl
names DocumentStart = refl
names EmptyLines = refl
names Hyphens = refl
names Indentation = refl
names KeyDuplicates = refl
names KeyOrdering = refl
names LineLength = refl
names NewLineAtEndOfFile = refl
names NewLines = refl
names QuotedStrings = refl
names Syntax = refl
names TrailingSpaces = refl
names Truthy = refl

same_rule : (r s : RuleId) → rule_name r ≡ rule_name s → r ≡ s
same_rule r s e = let found : Some r ≡ Some s = sym (names r) ∙ ap named e ∙ names s in cc

both : (a b : Ordering) → ordering_then a b ≡ Equal → (a ≡ Equal) × (b ≡ Equal)
both Less b e = cc
both Equal b e = (refl, e)
both Greater b e = cc

pub only_equal : (x y : FindingValue) → finding_order x y ≡ Equal → x ≡ y
only_equal x y e =
    let first = both (nat_cmp x.line y.line) _ e in
    let second = both (nat_cmp x.column y.column) _ first.1 in
    let third = both (slice_cmp nat_cmp (rule_name x.rule) (rule_name y.rule)) _ second.1 in
    let line = nat_cmp-IsAntisymmetric x.line y.line first.0 in
    let column = nat_cmp-IsAntisymmetric x.column y.column second.0 in
    let rule = same_rule x.rule y.rule (slice_cmp-IsAntisymmetric nat_cmp-IsAntisymmetric (rule_name x.rule) (rule_name y.rule) third.0) in
    let message = slice_cmp-IsAntisymmetric nat_cmp-IsAntisymmetric x.message y.message third.1 in
    λ i. record { line = line i; column = column i; rule = rule i; message = message i }

abbrev pub same : FindingValue → FindingValue → Bool
same x y = eq_by_cmp finding_order x y

same_equiv : IsEquivalence same
same_equiv = eq_by_cmp_equiv order_total

pub arranged : (xs mid ys : List FindingValue) → IsPermutation xs mid → IsSorted finding_order mid → ys ≡ dedup same mid → IsArranged xs ys
arranged xs mid ys moved sorted once = record {
  sorted = rw once (IsStrictlySortedBy-dedup order_total (λ x y. refl) mid sorted);
  all = λ f h. rw once (Contains-dedup same_equiv (λ x y e. only_equal x y ((Equal-is (finding_order x y)).0 e)) mid f (Contains-permutation xs mid f moved h));
  only = λ f h. Contains-permutation mid xs f (IsPermutation-sym xs mid moved) (Contains-from_dedup same mid f (rw once at h));
}

-- Records that come row by row, and are judged as they come.
use Rattle.std.proofs.Common.{◌≡◌, ℕ, ◌+◌, ◌<◌, ◌≤◌, List, [], ◌∷◌, ◌++◌, length, map, take, drop, get_or, ap, sym, ◌∙◌, subst, append-nil, append_assoc, arith}
use Rattle.std.proofs.lemmas.List.{length-map, take-append-drop, take_all, take_more}
use Rattle.yl_text.specs.Character.{indentation}
use Rattle.yl_record.specs.Parts.{entries_in, indentations_in, indentation_in}
use Rattle.yl_record.specs.Records.{RecordValue}
use Rattle.yl_record.specs.Recorded.{RecorderValue, recorded, if_wanted, entries_with_rest}
use Rattle.yl_lint.proofs.Rows.{few_with}

-- no more records at the text's end than were not taken
pub few_at_end : (r : RecorderValue) (all : List RecordValue) → all ≡ recorded r [] → length all ≤ length r.records
few_at_end r all is =
    let ns = indentations_in r.records ++ map indentation [] in
    let few : length (recorded r []) ≤ length ns = few_with ns (if_wanted r.states (entries_with_rest (entries_in r.records) r.taken r.stand [])) in
    let len : length ns ≡ length r.records = ap (λ (xs : List ℕ). length xs) (append-nil (indentations_in r.records)) ∙ length-map r.records indentation_in in
    omega (arith, ap (λ (xs : List RecordValue). length xs) is, few, len)

pub none_judged : {X : Type 0} (P : List X → Type 0) (rs ys : List X) → P rs → P (rs ++ take 0 ys)
none_judged P rs ys h = subst P (sym (append-nil rs)) h

pub one_judged : {X : Type 0} (P : List X → Type 0) (rs ys : List X) (i : ℕ) (y : X) → i < length ys → y ≡ get_or ys i y → P ((rs ++ take i ys) ++ y ∷ []) → P (rs ++ take (i + 1) ys)
one_judged P rs ys i y within is h =
    subst P (append_assoc rs (take i ys) (y ∷ []) ∙ ap (λ zs. rs ++ zs) (ap (λ z. take i ys ++ z ∷ []) is ∙ sym (take_more ys i y within))) h

pub all_judged : {X : Type 0} (P : List X → Type 0) (rs ys : List X) (i : ℕ) → length ys ≤ i → P (rs ++ take i ys) → P (rs ++ ys)
all_judged P rs ys i end h = subst P (ap (λ zs. rs ++ zs) (take_all i ys end)) h

-- the complete ones were judged, and are let go
pub let_go_judged : (rs complete before after : List RecordValue) (n : ℕ) → complete ≡ take n before → after ≡ drop n before → (rs ++ complete) ++ after ≡ rs ++ before
let_go_judged rs complete before after n is gone =
    append_assoc rs complete after
    ∙ ap (λ (zs : List RecordValue). rs ++ zs) (ap (λ (ys : List RecordValue). ys ++ after) is ∙ (ap (λ (ys : List RecordValue). take n before ++ ys) gone ∙ take-append-drop n before))

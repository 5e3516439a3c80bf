-- What the rule anchors finds depends on nothing of an event but what it keeps.
use Rattle.std.proofs.Common.{◌≡◌, ℕ, List, [], ◌∷◌, ◌++◌, map, take, get_or, length, ◌+◌, ◌<◌, refl, sym, ◌∙◌, ap, append_assoc, Bool, not, ◌&&◌, ◌||◌, Option, Some, None, codes}
use Rattle.std.specs.Prelude.{if◌then◌else◌}
use Rattle.std.proofs.lemmas.List.{append-nil, map-append, take_more}
use Rattle.yl_text.specs.declared.finding.RuleId.TheVariants.{Anchors}
use Rattle.yl_text.specs.Finding.{FindingValue, at_each}
use Rattle.yl_events.specs.Event.{EventValue, EventKindValue, EventAnchorValue, DocumentStart, DocumentEnd, SequenceStart, SequenceEnd, MappingStart, MappingEnd, AliasOf, ScalarOf, Empty}
use Rattle.yl_tree.specs.declared.options.AnchorsOptions.{AnchorsOptions}
use Rattle.yl_tree.specs.Anchors.{anchor_findings, anchors, anchors_at, undeclared_alias, is_alias_of, is_anchor_of, is_declared, is_used}
use Rattle.yl_tree.specs.Messages.{name_finding}
use Rattle.yl_tree.specs.Sufficient.{kept_kind, reference_of}
use Rattle.yl_tree.proofs.Skipped.{before_same}

alias_kept : (q : List ℕ) (kind : EventKindValue) → is_alias_of q kind ≡ is_alias_of q (kept_kind kind)
alias_kept q (AliasOf name) = refl
alias_kept q DocumentStart = refl
alias_kept q DocumentEnd = refl
alias_kept q SequenceStart = refl
alias_kept q SequenceEnd = refl
alias_kept q MappingStart = refl
alias_kept q MappingEnd = refl
alias_kept q (ScalarOf style value) = refl
alias_kept q Empty = refl

module _ (o : AnchorsOptions) (e : EventValue) where
  told_kept : (before : List EventValue) (kind : EventKindValue)
      → undeclared_alias o before e kind ≡ undeclared_alias o before (reference_of e) (kept_kind kind)
  told_kept before (AliasOf name) = refl
  told_kept before DocumentStart = refl
  told_kept before DocumentEnd = refl
  told_kept before SequenceStart = refl
  told_kept before SequenceEnd = refl
  told_kept before MappingStart = refl
  told_kept before MappingEnd = refl
  told_kept before (ScalarOf style value) = refl
  told_kept before Empty = refl

  used_kept : (xs es : List EventValue) (q : List ℕ) → is_used (xs ++ e ∷ es) q ≡ is_used (xs ++ reference_of e ∷ es) q
  used_kept [] es q = ap (λ (b : Bool). not (is_anchor_of q e.anchor) && (b || is_used es q)) (alias_kept q e.kind)
  used_kept (x ∷ xs) es q =
      ap (λ (b : Bool). not (is_anchor_of q x.anchor) && (is_alias_of q x.kind || b)) (used_kept xs es q)

  anchor_kept : (before : List EventValue) (anchor : Option EventAnchorValue) (xs es : List EventValue)
      → anchor_findings o before anchor (xs ++ e ∷ es) ≡ anchor_findings o before anchor (xs ++ reference_of e ∷ es)
  anchor_kept before None xs es = refl
  anchor_kept before (Some anchor) xs es =
      ap (λ (b : Bool). (if o.forbid_duplicated_anchors && is_declared before anchor.name then name_finding Anchors (Some anchor.place) (codes "found duplicated anchor \"") anchor.name (codes "\"") else [])
      ++ (if o.forbid_unused_anchors && not b then name_finding Anchors (Some anchor.place) (codes "found unused anchor \"") anchor.name (codes "\"") else []))
      (used_kept xs es anchor.name)

  each_kept : (before xs es : List EventValue)
      → at_each (anchors_at o) before (xs ++ e ∷ es) ≡ at_each (anchors_at o) before (xs ++ reference_of e ∷ es)
  each_kept before [] es =
      ap (λ (fs : List FindingValue). (fs ++ anchor_findings o before e.anchor es) ++ at_each (anchors_at o) (e ∷ before) es) (told_kept before e.kind)
      ∙ ap (λ (fs : List FindingValue). anchors_at o before (reference_of e) es ++ fs) (before_same o (e ∷ before) (reference_of e ∷ before) (λ q. refl) es)
  each_kept before (x ∷ xs) es =
      ap (λ (fs : List FindingValue). (undeclared_alias o before x x.kind ++ fs) ++ at_each (anchors_at o) (x ∷ before) (xs ++ e ∷ es))
      (anchor_kept before x.anchor xs es)
      ∙ ap (λ (fs : List FindingValue). anchors_at o before x (xs ++ reference_of e ∷ es) ++ fs) (each_kept (x ∷ before) xs es)

  pub kept : (xs es : List EventValue) → anchors o (xs ++ e ∷ es) ≡ anchors o (xs ++ reference_of e ∷ es)
  kept xs es = each_kept [] xs es

  -- one event more is kept
  pub kept_more : {R : Type 0} (v : R → EventValue) (old new : List R) (r : R) (es : List EventValue) (all : List FindingValue)
      → v r ≡ reference_of e → new ≡ old ++ r ∷ [] → anchors o (map v old ++ e ∷ es) ≡ all → anchors o (map v new ++ es) ≡ all
  kept_more {R = R} v old new r es all r_is new_is h =
      ap (λ (rs : List R). anchors o (map v rs ++ es)) new_is
      ∙ ap (λ (xs : List EventValue). anchors o (xs ++ es)) (map-append v old (r ∷ []))
      ∙ ap (anchors o) (append_assoc (map v old) (v r ∷ []) es)
      ∙ ap (λ (x : EventValue). anchors o (map v old ++ x ∷ es)) r_is
      ∙ sym (kept (map v old) es)
      ∙ h

all_kept : (o : AnchorsOptions) (xs es : List EventValue) → anchors o (xs ++ map reference_of es) ≡ anchors o (xs ++ es)
all_kept o xs [] = refl
all_kept o xs (e ∷ es) =
    ap (anchors o) (sym (append_assoc xs (reference_of e ∷ []) (map reference_of es)))
    ∙ all_kept o (xs ++ reference_of e ∷ []) es
    ∙ ap (anchors o) (append_assoc xs (reference_of e ∷ []) es)
    ∙ sym (kept o e xs es)

pub suffices : (o : AnchorsOptions) (es : List EventValue) → anchors o (map reference_of es) ≡ anchors o es
suffices o es = all_kept o [] es

-- ---- events that are made of what is kept

pub events_more : {E R V : Type 0} (f : E → V) (v : R → V) (old new : List E) (rs : List R) (i : ℕ) (e : E) (r : R)
    → i < length rs → r ≡ get_or rs i r → map f old ≡ map v (take i rs) → new ≡ old ++ e ∷ [] → f e ≡ v r → map f new ≡ map v (take (i + 1) rs)
events_more {E = E} {R = R} {V = V} f v old new rs i e r within r_is h new_is same =
    ap (map f) new_is
    ∙ map-append f old (e ∷ [])
    ∙ ap (λ (xs : List V). xs ++ f e ∷ []) h
    ∙ ap (λ (x : V). map v (take i rs) ++ x ∷ []) (same ∙ ap v r_is)
    ∙ sym (map-append v (take i rs) (get_or rs i r ∷ []))
    ∙ sym (ap (map v) (take_more rs i r within))

pub all_found : {E R : Type 0} (o : AnchorsOptions) (f : E → EventValue) (v : R → EventValue) (es events : List E) (rs references : List R) (all : List FindingValue)
    → es ≡ events → map f events ≡ map v rs → rs ≡ references → anchors o (map v references ++ []) ≡ all → anchors o (map f es) ≡ all
all_found {E = E} {R = R} o f v es events rs references all es_is same rs_is h =
    ap (λ (xs : List E). anchors o (map f xs)) es_is
    ∙ ap (anchors o) same
    ∙ ap (λ (xs : List R). anchors o (map v xs)) rs_is
    ∙ ap (anchors o) (sym (append-nil (map v references)))
    ∙ h

-- What the rule anchors finds does not depend on an event that has no anchor and is no alias.
use Rattle.std.proofs.Common.{◌≡◌, ℕ, List, [], ◌∷◌, ◌++◌, refl, ◌∙◌, ap, Bool, false, not, ◌&&◌, ◌||◌, Option, Some, None, codes}
use Rattle.std.specs.Prelude.{is_some, if◌then◌else◌}
use Rattle.yl_text.specs.declared.finding.RuleId.TheVariants.{Anchors}
use Rattle.yl_text.specs.Finding.{FindingValue, at_each}
use Rattle.yl_events.specs.Event.{EventValue, EventKindValue, EventAnchorValue, DocumentStart, DocumentEnd, SequenceStart, SequenceEnd, MappingStart, MappingEnd, AliasOf, ScalarOf, Empty}
use Rattle.yl_tree.specs.declared.options.AnchorsOptions.{AnchorsOptions}
use Rattle.yl_tree.specs.Anchors.{anchor_findings, anchors, anchors_at, undeclared_alias, is_alias_event, is_alias_of, is_anchor_of, is_declared, is_used}
use Rattle.yl_tree.specs.Messages.{name_finding}
use Rattle.yl_tree.specs.References.{is_reference}
use Rattle.yl_tree.proofs.References.{both_false, nothing_at}

no_anchor_of : (name : List ℕ) (anchor : Option EventAnchorValue) → is_some anchor ≡ false
    → is_anchor_of name anchor ≡ false
no_anchor_of name None none = refl
no_anchor_of name (Some anchor) none = cc

no_alias_of : (name : List ℕ) (kind : EventKindValue) → is_alias_event kind ≡ false
    → is_alias_of name kind ≡ false
no_alias_of name (AliasOf alias) none = cc
no_alias_of name DocumentStart none = refl
no_alias_of name DocumentEnd none = refl
no_alias_of name SequenceStart none = refl
no_alias_of name SequenceEnd none = refl
no_alias_of name MappingStart none = refl
no_alias_of name MappingEnd none = refl
no_alias_of name (ScalarOf style value) none = refl
no_alias_of name Empty none = refl

-- ---- by the events before

module _ (o : AnchorsOptions) (old new : List EventValue) (same : (q : List ℕ) → is_declared old q ≡ is_declared new q) where
  alias_same : (e : EventValue) (kind : EventKindValue)
      → undeclared_alias o old e kind ≡ undeclared_alias o new e kind
  alias_same e (AliasOf name) =
      ap (λ (b : Bool). if o.forbid_undeclared_aliases && not b then name_finding Anchors e.place (codes "found undeclared alias \"") name (codes "\"") else []) (same name)
  alias_same e DocumentStart = refl
  alias_same e DocumentEnd = refl
  alias_same e SequenceStart = refl
  alias_same e SequenceEnd = refl
  alias_same e MappingStart = refl
  alias_same e MappingEnd = refl
  alias_same e (ScalarOf style value) = refl
  alias_same e Empty = refl

  anchor_same : (anchor : Option EventAnchorValue) (after : List EventValue)
      → anchor_findings o old anchor after ≡ anchor_findings o new anchor after
  anchor_same None after = refl
  anchor_same (Some anchor) after =
      ap (λ (b : Bool). (if o.forbid_duplicated_anchors && b then name_finding Anchors (Some anchor.place) (codes "found duplicated anchor \"") anchor.name (codes "\"") else [])
      ++ (if o.forbid_unused_anchors && not (is_used after anchor.name) then name_finding Anchors (Some anchor.place) (codes "found unused anchor \"") anchor.name (codes "\"") else []))
      (same anchor.name)

  at_same : (e : EventValue) (after : List EventValue)
      → anchors_at o old e after ≡ anchors_at o new e after
  at_same e after =
      ap (λ (fs : List FindingValue). fs ++ anchor_findings o old e.anchor after) (alias_same e e.kind)
      ∙ ap (λ (fs : List FindingValue). undeclared_alias o new e e.kind ++ fs) (anchor_same e.anchor after)

pub before_same : (o : AnchorsOptions) (old new : List EventValue)
    → ((q : List ℕ) → is_declared old q ≡ is_declared new q) → (es : List EventValue)
    → at_each (anchors_at o) old es ≡ at_each (anchors_at o) new es
before_same o old new same [] = refl
before_same o old new same (e ∷ es) =
    ap (λ (fs : List FindingValue). fs ++ at_each (anchors_at o) (e ∷ old) es) (at_same o old new same e es)
    ∙ ap (λ (fs : List FindingValue). anchors_at o new e es ++ fs)
    (before_same o (e ∷ old) (e ∷ new) (λ q. ap (λ (b : Bool). is_anchor_of q e.anchor || b) (same q)) es)

-- ---- by the events behind

module _ (o : AnchorsOptions) (e : EventValue) (none : is_reference e ≡ false) where
  anchor_none : (q : List ℕ) → is_anchor_of q e.anchor ≡ false
  anchor_none q = no_anchor_of q e.anchor (both_false (is_some e.anchor) (is_alias_event e.kind) none).0

  alias_none : (q : List ℕ) → is_alias_of q e.kind ≡ false
  alias_none q = no_alias_of q e.kind (both_false (is_some e.anchor) (is_alias_event e.kind) none).1

  declared_skips : (before : List EventValue) (q : List ℕ) → is_declared (e ∷ before) q ≡ is_declared before q
  declared_skips before q = ap (λ (b : Bool). b || is_declared before q) (anchor_none q)

  used_skips : (xs es : List EventValue) (q : List ℕ) → is_used (xs ++ e ∷ es) q ≡ is_used (xs ++ es) q
  used_skips [] es q =
      ap (λ (b : Bool). not b && (is_alias_of q e.kind || is_used es q)) (anchor_none q)
      ∙ ap (λ (b : Bool). b || is_used es q) (alias_none q)
  used_skips (x ∷ xs) es q =
      ap (λ (b : Bool). not (is_anchor_of q x.anchor) && (is_alias_of q x.kind || b)) (used_skips xs es q)

  anchor_skips : (before : List EventValue) (anchor : Option EventAnchorValue) (xs es : List EventValue)
      → anchor_findings o before anchor (xs ++ e ∷ es) ≡ anchor_findings o before anchor (xs ++ es)
  anchor_skips before None xs es = refl
  anchor_skips before (Some anchor) xs es =
      ap (λ (b : Bool). (if o.forbid_duplicated_anchors && is_declared before anchor.name then name_finding Anchors (Some anchor.place) (codes "found duplicated anchor \"") anchor.name (codes "\"") else [])
      ++ (if o.forbid_unused_anchors && not b then name_finding Anchors (Some anchor.place) (codes "found unused anchor \"") anchor.name (codes "\"") else []))
      (used_skips xs es anchor.name)

  each_skips : (before xs es : List EventValue)
      → at_each (anchors_at o) before (xs ++ e ∷ es) ≡ at_each (anchors_at o) before (xs ++ es)
  each_skips before [] es =
      ap (λ (fs : List FindingValue). fs ++ at_each (anchors_at o) (e ∷ before) es) (nothing_at o before e es none)
      ∙ before_same o (e ∷ before) before (declared_skips before) es
  each_skips before (x ∷ xs) es =
      ap (λ (fs : List FindingValue). (undeclared_alias o before x x.kind ++ fs) ++ at_each (anchors_at o) (x ∷ before) (xs ++ e ∷ es))
      (anchor_skips before x.anchor xs es)
      ∙ ap (λ (fs : List FindingValue). anchors_at o before x (xs ++ es) ++ fs) (each_skips (x ∷ before) xs es)

  pub skipped : (xs es : List EventValue) → anchors o (xs ++ e ∷ es) ≡ anchors o (xs ++ es)
  skipped xs es = each_skips [] xs es

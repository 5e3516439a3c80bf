-- The rules on keys and anchors find the same in events that differ only in values that are no keys.
use Rattle.std.specs.Prelude.{ℕ, ◌≡◌, refl, Bool, true, false, not, ◌&&◌, ◌||◌, if◌then◌else◌, List, [], ◌∷◌, ◌++◌, bytes_eq, codes, Option, Some, None}
use Rattle.std.specs.List.{list_any}
use Rattle.std.specs.Option.{option_map_or}
use Rattle.std.proofs.Common.{sym, ◌∙◌, ap, subst}
use Rattle.yl_text.specs.declared.finding.RuleId.{RuleId}
use Rattle.yl_text.specs.declared.finding.RuleId.TheVariants as rules
use Rattle.yl_text.specs.declared.position.Pos.{Pos}
use Rattle.yl_text.specs.Finding.{at_each}
use Rattle.yl_lexeme.specs.declared.lexeme.Style.{Style}
use Rattle.yl_events.specs.Event.{EventValue, EventKindValue, EventAnchorValue, AliasOf, ScalarOf}
use Rattle.yl_tree.specs.declared.options.AnchorsOptions.{AnchorsOptions}
use Rattle.yl_tree.specs.declared.options.KeyDuplicatesOptions.{KeyDuplicatesOptions}
use Rattle.yl_tree.specs.declared.options.TreeOptions.{TreeOptions}
use Rattle.yl_tree.specs.Anchors.{is_alias_of, is_declared, is_used, undeclared_alias, anchor_findings, anchors, anchors_at}
use Rattle.yl_tree.specs.KeyRules.{key_duplicates, key_finding, key_ordering, is_duplicate, is_greater}
use Rattle.yl_tree.specs.Keys.{name_of, earlier_keys}
use Rattle.yl_tree.specs.OpenNodes.{OpenNodes, with_event, collections_behind, keys_if_next}
use Rattle.yl_tree.specs.Tree.{tree_findings}
use Rattle.yl_tree.proofs.Keys.{earlier}

-- a test of a name by the earlier keys of its mapping
abbrev pub Test : Type 0
Test = List (List ℕ) → List ℕ → Bool

abbrev pub IsQuietWithout : Test → Type 0
IsQuietWithout test = (name : List ℕ) → test [] name ≡ false

-- behind these open collections the rules see no difference between two events
pub record AlikeEvent (s : OpenNodes) (e f : EventValue) : Type 0 where
  pub anchor : e.anchor ≡ f.anchor
  pub undeclared : (o : AnchorsOptions) (before : List EventValue) → undeclared_alias o before e e.kind ≡ undeclared_alias o before f f.kind
  pub alias : (name : List ℕ) → is_alias_of name e.kind ≡ is_alias_of name f.kind
  pub opens : with_event e s ≡ with_event f s
  pub finding : (test : Test) → IsQuietWithout test → (id : RuleId) (front : List ℕ) (before : List EventValue) → collections_behind before ≡ s
      → key_finding test id front before e (name_of e) ≡ key_finding test id front before f (name_of f)

abbrev pub AllAlike : OpenNodes → List EventValue → List EventValue → Type 0
AllAlike s [] [] = Unit {0}
AllAlike s (e ∷ es) (f ∷ fs) = AlikeEvent s e f × AllAlike (with_event e s) es fs
AllAlike s es fs = ⊥

-- ---- events that are alike

pub alike_same : (s : OpenNodes) (e f : EventValue) → e ≡ f → AlikeEvent s e f
alike_same s e f p = subst (λ (g : EventValue). AlikeEvent s e g) p (record { anchor = refl; undeclared = λ o before. refl; alias = λ name. refl; opens = refl; finding = λ test quiet id front before is. refl })

-- where no key is next nothing is found
unfound : (test : Test) → IsQuietWithout test → (id : RuleId) (front : List ℕ) (before : List EventValue) (e : EventValue) → earlier_keys before ≡ [] → (name : Option (List ℕ))
    → key_finding test id front before e name ≡ []
unfound test quiet id front before e none None = refl
unfound test quiet id front before e none (Some name) = rw (none, quiet name) refl

no_earlier : (s : OpenNodes) (before : List EventValue) → collections_behind before ≡ s → (s.innermost.is_mapping && s.innermost.is_key_next) ≡ false → earlier_keys before ≡ []
no_earlier s before is off = earlier before ∙ ap (λ (t : OpenNodes). keys_if_next t.innermost) is ∙ rw off refl

-- a scalar that is no key, by its value
abbrev pub scalar_of : Style → Option Pos → Option EventAnchorValue → Bool → List ℕ → EventValue
scalar_of style place anchor tagged value = record { kind = ScalarOf style value; place = place; anchor = anchor; is_tagged = tagged }

pub alike_scalar : (s : OpenNodes) (style : Style) (place : Option Pos) (anchor : Option EventAnchorValue) (tagged : Bool) (v w : List ℕ) → (s.innermost.is_mapping && s.innermost.is_key_next) ≡ false
    → AlikeEvent s (scalar_of style place anchor tagged v) (scalar_of style place anchor tagged w)
alike_scalar s style place anchor tagged v w off = record {
  anchor = refl;
  undeclared = λ o before. refl;
  alias = λ name. refl;
  opens = rw off refl;
  finding = λ test quiet id front before is. let none = no_earlier s before is off in
      unfound test quiet id front before (scalar_of style place anchor tagged v) none (name_of (scalar_of style place anchor tagged v))
      ∙ sym (unfound test quiet id front before (scalar_of style place anchor tagged w) none (name_of (scalar_of style place anchor tagged w)));
}

-- ---- the rules on keys

found_before : (test : Test) (id : RuleId) (front : List ℕ) (before before' : List EventValue) (e : EventValue) (name : Option (List ℕ)) → earlier_keys before ≡ earlier_keys before'
    → key_finding test id front before e name ≡ key_finding test id front before' e name
found_before test id front before before' e None same = refl
found_before test id front before before' e (Some name) same = rw same refl

both_earlier : (s : OpenNodes) (before before' : List EventValue) → collections_behind before ≡ s → collections_behind before' ≡ s → earlier_keys before ≡ earlier_keys before'
both_earlier s before before' is is' = earlier before ∙ ap (λ (t : OpenNodes). keys_if_next t.innermost) (is ∙ sym is') ∙ sym (earlier before')

both : {X : Type 0} (a b c d : List X) → a ≡ b → c ≡ d → a ++ c ≡ b ++ d
both a b c d p q = cc

same_keys : (test : Test) → IsQuietWithout test → (id : RuleId) (front : List ℕ) (s : OpenNodes) (before before' es fs : List EventValue) → collections_behind before ≡ s → collections_behind before' ≡ s → AllAlike s es fs
    → at_each (λ b e after. key_finding test id front b e (name_of e)) before es ≡ at_each (λ b e after. key_finding test id front b e (name_of e)) before' fs
same_keys test quiet id front s before before' [] [] is is' all = refl
same_keys test quiet id front s before before' [] (f ∷ fs) is is' all = absurd all
same_keys test quiet id front s before before' (e ∷ es) [] is is' all = absurd all
same_keys test quiet id front s before before' (e ∷ es) (f ∷ fs) is is' all = both _ _ _ _
    (all.0.finding test quiet id front before is ∙ found_before test id front before before' f (name_of f) (both_earlier s before before' is is'))
    (same_keys test quiet id front (with_event e s) (e ∷ before) (f ∷ before') es fs (ap (with_event e) is) (ap (with_event f) is' ∙ sym all.0.opens) all.1)

-- ---- the rule on anchors

same_undeclared : (o : AnchorsOptions) (before before' : List EventValue) (e : EventValue) (k : EventKindValue) → ((name : List ℕ) → is_declared before name ≡ is_declared before' name)
    → undeclared_alias o before e k ≡ undeclared_alias o before' e k
same_undeclared o before before' e (AliasOf name) same = rw (same name) refl
same_undeclared o before before' e k same = refl

same_anchor : (o : AnchorsOptions) (before before' after after' : List EventValue) (a : Option EventAnchorValue) → ((name : List ℕ) → is_declared before name ≡ is_declared before' name)
    → ((name : List ℕ) → is_used after name ≡ is_used after' name) → anchor_findings o before a after ≡ anchor_findings o before' a after'
same_anchor o before before' after after' None declared used = refl
same_anchor o before before' after after' (Some a) declared used = rw (declared a.name, used a.name) refl

same_used : (s : OpenNodes) (es fs : List EventValue) → AllAlike s es fs → (name : List ℕ) → is_used es name ≡ is_used fs name
same_used s [] [] all name = refl
same_used s [] (f ∷ fs) all name = absurd all
same_used s (e ∷ es) [] all name = absurd all
same_used s (e ∷ es) (f ∷ fs) all name = rw (all.0.anchor, all.0.alias name, same_used (with_event e s) es fs all.1 name) refl

same_anchors : (o : AnchorsOptions) (s : OpenNodes) (before before' es fs : List EventValue) → ((name : List ℕ) → is_declared before name ≡ is_declared before' name) → AllAlike s es fs
    → at_each (anchors_at o) before es ≡ at_each (anchors_at o) before' fs
same_anchors o s before before' [] [] declared all = refl
same_anchors o s before before' [] (f ∷ fs) declared all = absurd all
same_anchors o s before before' (e ∷ es) [] declared all = absurd all
same_anchors o s before before' (e ∷ es) (f ∷ fs) declared all = both _ _ _ _
    (both _ _ _ _
    (all.0.undeclared o before ∙ same_undeclared o before before' f f.kind declared)
    (ap (λ (a : Option EventAnchorValue). anchor_findings o before a es) all.0.anchor ∙ same_anchor o before before' es fs f.anchor declared (same_used (with_event e s) es fs all.1)))
    (same_anchors o (with_event e s) (e ∷ before) (f ∷ before') es fs (λ name. rw (all.0.anchor, declared name) refl) all.1)

-- ---- all of them

pub and_false : (b : Bool) → (b && false) ≡ false
and_false true = refl
and_false false = refl

duplicates : (o : Option KeyDuplicatesOptions) (es fs : List EventValue) → AllAlike (collections_behind []) es fs → option_map_or (λ d. key_duplicates d es) o [] ≡ option_map_or (λ d. key_duplicates d fs) o []
duplicates None es fs all = refl
duplicates (Some o) es fs all = same_keys (is_duplicate o) (λ name. and_false (o.forbid_duplicated_merge_keys || not (bytes_eq name (codes "<<")))) rules.KeyDuplicates (codes "duplication of key \"") (collections_behind []) [] [] es fs refl refl all

ordering : (on : Bool) (es fs : List EventValue) → AllAlike (collections_behind []) es fs → (if on then key_ordering es else []) ≡ (if on then key_ordering fs else [])
ordering false es fs all = refl
ordering true es fs all = same_keys (λ earlier name. list_any (λ key. is_greater key name) earlier) (λ name. refl) rules.KeyOrdering (codes "wrong ordering of key \"") (collections_behind []) [] [] es fs refl refl all

references : (o : Option AnchorsOptions) (es fs : List EventValue) → AllAlike (collections_behind []) es fs → option_map_or (λ a. anchors a es) o [] ≡ option_map_or (λ a. anchors a fs) o []
references None es fs all = refl
references (Some o) es fs all = same_anchors o (collections_behind []) [] [] es fs (λ name. refl) all

pub same_findings : (o : TreeOptions) (es fs : List EventValue) → AllAlike (collections_behind []) es fs → tree_findings o es ≡ tree_findings o fs
same_findings o es fs all = both _ _ _ _ (duplicates o.key_duplicates es fs all) (both _ _ _ _ (ordering o.key_ordering es fs all) (references o.anchors es fs all))

-- Events that are passed one after another to what is kept of a run and to the rules on keys.
use Rattle.std.proofs.Common.{◌≡◌, ℕ, ◌+◌, ◌≤◌, List, [], ◌∷◌, ◌++◌, length, map, take, drop, Some, sym, ◌∙◌, ap, subst, append_assoc}
use Rattle.std.specs.Prelude.{slice_get}
use Rattle.std.proofs.lemmas.List.{drop_all, map-append, take_all}
use Rattle.yl_text.specs.Finding.{FindingValue}
use Rattle.yl_text.proofs.Seams.{drop_here, take_here}
use Rattle.yl_events.specs.Event.{EventValue}
use Rattle.yl_tree.specs.declared.tree_rules.TreeRules.{TreeRules}
use Rattle.yl_tree.specs.OpenNodes.{OpenNodes}
use Rattle.yl_tree.specs.TreeRules.{Finds}
use Rattle.yl_pieces.specs.Events.{without_anchor}
use Rattle.yl_piece_names.specs.KeptNames.{RunNamesValue, names_of_run}

module _ (events : List EventValue) (i : ℕ) where
  module _ (e : EventValue) (there : slice_get events i ≡ Some e) where
    -- one event more
    pub names_on : (t : OpenNodes) (es : List EventValue) (new : RunNamesValue) → new ≡ names_of_run t ((es ++ map without_anchor (take i events)) ++ without_anchor e ∷ [])
        → new ≡ names_of_run t (es ++ map without_anchor (take (i + 1) events))
    names_on t es new pushed =
        pushed
        ∙ ap (names_of_run t) (append_assoc es (map without_anchor (take i events)) (without_anchor e ∷ [])
        ∙ ap (λ (fs : List EventValue). es ++ fs) (sym (map-append without_anchor (take i events) (e ∷ [])) ∙ ap (map without_anchor) (sym (take_here events i e there))))

    pub rules_on : {A : Type 0} (u : TreeRules A) (es : List EventValue) (all : List FindingValue) → Finds u (map without_anchor (drop i events) ++ es) all
        → Finds u (without_anchor e ∷ (map without_anchor (drop (i + 1) events) ++ es)) all
    rules_on u es all finds = subst (λ (fs : List EventValue). Finds u (map without_anchor fs ++ es) all) (drop_here events i e there) finds

  module _ (past : length events ≤ i) where
    -- no event is left
    pub names_done : (t : OpenNodes) (es : List EventValue) (new : RunNamesValue) → new ≡ names_of_run t (es ++ map without_anchor (take i events))
        → new ≡ names_of_run t (es ++ map without_anchor events)
    names_done t es new now = now ∙ ap (λ (fs : List EventValue). names_of_run t (es ++ map without_anchor fs)) (take_all i events past)

    pub rules_done : {A : Type 0} (u : TreeRules A) (es : List EventValue) (all : List FindingValue) → Finds u (map without_anchor (drop i events) ++ es) all → Finds u es all
    rules_done u es all finds = subst (λ (fs : List EventValue). Finds u (map without_anchor fs ++ es) all) (drop_all i events past) finds

-- What the rules on keys find at a run stands in the rows of the run.
use Rattle.std.specs.Prelude.{if◌then◌else◌, IfSome}
use Rattle.std.proofs.Common.{◌≡◌, ℕ, ◌+◌, List, [], ◌∷◌, ◌++◌, Bool, true, false, codes, refl, Option, Some, None}
use Rattle.std.specs.List.{AllByRecursion, flat_map}
use Rattle.std.specs.Option.{option_map_or}
use Rattle.std.specs.Str.{chars}
use Rattle.yl_text.specs.declared.position.Pos.{Pos}
use Rattle.yl_text.specs.declared.finding.RuleId.{RuleId}
use Rattle.yl_text.specs.declared.finding.RuleId.TheVariants.{KeyDuplicates, KeyOrdering}
use Rattle.yl_text.specs.Finding.{FindingValue}
use Rattle.yl_text.proofs.Every.{all_both, all_if}
use Rattle.yl_events.specs.Event.{EventValue}
use Rattle.yl_tree.specs.declared.options.AnchorsOptions.{AnchorsOptions}
use Rattle.yl_tree.specs.declared.options.KeyDuplicatesOptions.{KeyDuplicatesOptions}
use Rattle.yl_tree.specs.declared.options.TreeOptions.{TreeOptions}
use Rattle.yl_tree.specs.Greatest.{is_greater_among}
use Rattle.yl_tree.specs.Keys.{name_of}
use Rattle.yl_tree.specs.KeyRules.{is_duplicate}
use Rattle.yl_tree.specs.Messages.{name_finding, printed_character}
use Rattle.yl_tree.specs.OpenNodes.{OpenNodes, keys_if_next, with_event}
use Rattle.yl_open_collections.specs.Counted.{finding_among, key_findings_after}
use Rattle.yl_pieces.specs.DuplicatesOfRuns.{duplicates_after}
use Rattle.yl_pieces.specs.OrderingOfRuns.{ordering_after}
use Rattle.yl_pieces.specs.References.{NamedReference}
use Rattle.yl_piece_names.specs.Moved.{IfNamed}
use Rattle.yl_piece_names.specs.AnchorsPatched.{anchors_between}
use Rattle.yl_piece_names.specs.TreePatched.{tree_findings_after}

-- what holds of problems of a rule at a line that counts from 1, where the events stand in such lines, counted from 0
module _ (P : FindingValue → Type 0) (Q : ℕ → Type 0) where
  abbrev pub Stands : Option Pos → Type 0
  Stands place = IfSome place (λ (p : Pos). Q p.line)

  abbrev pub OfRule : RuleId → Type 0
  OfRule rule = (line column : ℕ) (message : List ℕ) → Q line → P (record { line = line + 1; column = column; rule = rule; message = message })

  module _ (test : List (List ℕ) → List ℕ → Bool) (rule : RuleId) (words : List ℕ) (each : OfRule rule) where
    name_holds : (place : Option Pos) (front name back : List ℕ) → Stands place → AllByRecursion P (name_finding rule place front name back)
    name_holds None front name back h = tt
    name_holds (Some p) front name back h = (each p.line (p.col + 1) (front ++ (flat_map printed_character (chars name) ++ back)) h, tt)

    one_holds : (keys : List (List ℕ)) (e : EventValue) (name : Option (List ℕ)) → IfSome name (λ (n : List ℕ). Stands e.place)
        → AllByRecursion P (finding_among test rule words keys e name)
    one_holds keys e None h = tt
    one_holds keys e (Some name) h =
        all_if P (test keys name) (name_finding rule e.place words name (codes "\" in mapping"))
        (name_holds e.place words name (codes "\" in mapping") h)

    pub found_hold : (s : OpenNodes) (es : List EventValue) → AllByRecursion (IfNamed Stands) es
        → AllByRecursion P (key_findings_after test rule words s es)
    found_hold s [] h = tt
    found_hold s (e ∷ es) h =
        all_both P (finding_among test rule words (keys_if_next s.innermost) e (name_of e)) (key_findings_after test rule words (with_event e s) es)
        (one_holds (keys_if_next s.innermost) e (name_of e) h.0) (found_hold (with_event e s) es h.1)

  pub duplicates_hold : OfRule KeyDuplicates → (d : KeyDuplicatesOptions) (s : OpenNodes) (es : List EventValue)
      → AllByRecursion (IfNamed Stands) es → AllByRecursion P (duplicates_after d s es)
  duplicates_hold each d s es h = found_hold (is_duplicate d) KeyDuplicates (codes "duplication of key \"") each s es h

  pub ordering_hold : OfRule KeyOrdering → (s : OpenNodes) (es : List EventValue) → AllByRecursion (IfNamed Stands) es
      → AllByRecursion P (ordering_after s es)
  ordering_hold each s es h = found_hold is_greater_among KeyOrdering (codes "wrong ordering of key \"") each s es h

  -- both rules, as far as they are on, at a run without anchors and aliases
  module _ (duplicates : OfRule KeyDuplicates) (ordering : OfRule KeyOrdering) (s : OpenNodes) (es : List EventValue)
      (h : AllByRecursion (IfNamed Stands) es) where
    duplicates_if : (d : Option KeyDuplicatesOptions) → AllByRecursion P (option_map_or (λ d. duplicates_after d s es) d [])
    duplicates_if None = tt
    duplicates_if (Some d) = duplicates_hold duplicates d s es h

    ordering_if : (on : Bool) → AllByRecursion P (if on then ordering_after s es else [])
    ordering_if true = ordering_hold ordering s es h
    ordering_if false = tt

    anchors_if : (a : Option AnchorsOptions) → AllByRecursion P (option_map_or (λ a. anchors_between a [] [] []) a [])
    anchors_if None = tt
    anchors_if (Some a) = tt

    pub tree_holds : (o : TreeOptions) → AllByRecursion P (tree_findings_after o s es [] [] [])
    tree_holds o =
        all_both P (option_map_or (λ d. duplicates_after d s es) o.key_duplicates [])
        ((if o.key_ordering then ordering_after s es else []) ++ option_map_or (λ a. anchors_between a [] [] []) o.anchors [])
        (duplicates_if o.key_duplicates)
        (all_both P (if o.key_ordering then ordering_after s es else []) (option_map_or (λ a. anchors_between a [] [] []) o.anchors [])
        (ordering_if o.key_ordering) (anchors_if o.anchors))

-- at a run without anchors and aliases those above and below it have no part
pub none_between : (o : TreeOptions) (s : OpenNodes) (es : List EventValue) (above below : List NamedReference)
    → tree_findings_after o s es above [] below ≡ tree_findings_after o s es [] [] []
none_between o s es above below = by o.anchors
  where
    by : (a : Option AnchorsOptions)
        → option_map_or (λ d. duplicates_after d s es) o.key_duplicates []
        ++ ((if o.key_ordering then ordering_after s es else []) ++ option_map_or (λ a. anchors_between a above [] below) a [])
        ≡ option_map_or (λ d. duplicates_after d s es) o.key_duplicates []
        ++ ((if o.key_ordering then ordering_after s es else []) ++ option_map_or (λ a. anchors_between a [] [] []) a [])
    by None = refl
    by (Some a) = refl

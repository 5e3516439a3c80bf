-- A run of rows in whose piece the rules on keys found nothing: keys from before it have no part in it.
use Rattle.std.specs.Prelude.{if◌then◌else◌, bytes_eq, not, IfSome}
use Rattle.std.proofs.Common.{◌≡◌, ◌≤◌, ◌<◌, ◌+◌, ◌-◌, ℕ, List, [], ◌∷◌, ◌++◌, map, length, Bool, true, false, ◌||◌, codes, refl, sym, ◌∙◌, ap, subst, inl, arith, Option, Some, None}
use Rattle.std.specs.List.{AllByRecursion}
use Rattle.std.specs.Option.{option_map_or}
use Rattle.yl_text.specs.declared.finding.RuleId.{RuleId}
use Rattle.yl_text.specs.declared.finding.RuleId.TheVariants.{KeyDuplicates, KeyOrdering}
use Rattle.yl_text.specs.Finding.{FindingValue}
use Rattle.yl_report.proofs.Unique.{In}
use Rattle.yl_lint.proofs.Arranged.{in_behind, in_front}
use Rattle.yl_events.specs.Event.{EventValue}
use Rattle.yl_lexeme_rules.specs.LexemesAlike.{finding_below}
use Rattle.yl_tree.specs.declared.options.KeyDuplicatesOptions.{KeyDuplicatesOptions}
use Rattle.yl_tree.specs.declared.options.TreeOptions.{TreeOptions}
use Rattle.yl_tree.specs.Anchors.{anchors}
use Rattle.yl_tree.specs.Greatest.{is_greater_among}
use Rattle.yl_tree.specs.KeyRules.{is_duplicate, is_greater, key_duplicates, key_ordering}
use Rattle.yl_tree.specs.OpenNodes.{OpenNodes}
use Rattle.yl_tree.specs.Tree.{tree_findings}
use Rattle.yl_open_collections.specs.OpenBy.{without_keys}
use Rattle.yl_config.specs.declared.config.Config.{Config}
use Rattle.yl_record.specs.Records.{RecordValue}
use Rattle.yl_sections.specs.Judge.{document_of}
use Rattle.yl_sections.specs.Kept.{tree_options_of}
use Rattle.yl_sections.specs.Sections.{lexemes_of}
use Rattle.yl_pieces.specs.DuplicatesOfRuns.{duplicates_after, event_below}
use Rattle.yl_pieces.specs.OrderingOfRuns.{ordering_after}
use Rattle.yl_pieces.specs.Edit.{IsPieceEdit, after_front}
use Rattle.yl_pieces.specs.Patched.{below_first, finding_moved, in_first, list_patched, row_of}
use Rattle.yl_pieces.proofs.KeyFindings.{all_moved}
use Rattle.yl_piece_names.specs.TreePatched.{AreFoundAlone, EventsEdit}
use Rattle.yl_piece_names.specs.RowsPatched.{event_parts, events_alone, events_behind, events_of_rows, open_behind}
use Rattle.yl_piece_names.proofs.RowsEvents.{events_from_1}
use Rattle.yl_piece_names.proofs.RowsPatched.{rows_are_patched}
use Rattle.yl_piece_names.proofs.TreePatched.{tree_patched}
use Rattle.yl_piece_reports.specs.Told.{found_in_events}
use Rattle.yl_section_pieces.specs.Edit.{is_on_events}
use Rattle.yl_section_pieces.proofs.KeysStand.{duplicates_hold, ordering_hold}
use Rattle.yl_section_pieces.proofs.NoneAlone.{none_alone, none_mapped}

-- what is found in these rows is found by no rule on keys and anchors
abbrev pub IsQuiet : (n rows : ℕ) → List FindingValue → Type 0
IsQuiet n rows fs = (f : FindingValue) → In f fs → n ≤ row_of f → row_of f < n + rows → is_on_events f.rule ≡ false

module _ (n rows : ℕ) (all : List FindingValue) (quiet : IsQuiet n rows all) (rule : RuleId) (on : is_on_events rule ≡ true) where
  abbrev IsThere : FindingValue → Type 0
  IsThere f = (f.rule ≡ rule) × ((n ≤ row_of f) × (row_of f < n + rows))

  loud : (f : FindingValue) → In f all → IsThere f → ⊥
  loud f i h =
      let off : is_on_events f.rule ≡ false = quiet f i h.1.0 h.1.1 in
      let wrong : true ≡ false = sym on ∙ (sym (ap is_on_events h.0) ∙ off) in
      absurd cc

  none_there : (fs : List FindingValue) → AllByRecursion IsThere fs → ((f : FindingValue) → In f fs → In f all) → fs ≡ []
  none_there [] h each = refl
  none_there (f ∷ fs) h each = absurd (loud f (each f (inl refl)) h.0)

module _ (config : Config) (front old rest : List RecordValue) (new : List RecordValue) (e : IsPieceEdit front old new)
    (none : (document_of (lexemes_of (front ++ (old ++ rest)))).fault ≡ None) where
  abbrev o : TreeOptions
  o = tree_options_of config

  abbrev n : ℕ
  n = length front

  abbrev events : List EventValue
  events = events_of_rows (front ++ (old ++ rest))

  abbrev s : OpenNodes
  s = open_behind front

  abbrev behind : List EventValue
  behind = events_behind front old

  abbrev alone : List EventValue
  alone = events_alone front old

  -- the old rows in their own place
  same_edit : IsPieceEdit front old old
  same_edit =
      record { some = e.some; closed = e.closed; sound = e.sound; border = e.border; old_piece = e.old_piece; new_piece = e.old_piece; same = refl }

  edit : EventsEdit n (length old) (length old) (event_parts front old old rest) events events
  edit = (rows_are_patched config front old old rest same_edit none).events

  from_1 : behind ≡ map (event_below (n - 1)) alone
  from_1 = events_from_1 (after_front front) n old e.some

  -- what is found at them is found in the section
  patched_in : (all new : List FindingValue) → all ≡ list_patched row_of (finding_moved (length old) (length old)) n (length old) all new
      → (f : FindingValue) → In f new → In f all
  patched_in all new is f i =
      let first = in_first row_of n all in
      let last = map (finding_moved (length old) (length old)) (below_first row_of (n + length old) all) in
      subst (λ (fs : List FindingValue). In f fs) (sym is) (in_behind f first (new ++ last) (in_front f new last i))

  abbrev anchors_found : List FindingValue
  anchors_found = option_map_or (λ a. anchors a events) o.anchors []

  abbrev ordering_found : Bool → List FindingValue
  ordering_found on = if on then key_ordering events else []

  abbrev duplicates_found : Option KeyDuplicatesOptions → List FindingValue
  duplicates_found d = option_map_or (λ d. key_duplicates d events) d []

  duplicates_in : (d : KeyDuplicatesOptions) → o.key_duplicates ≡ Some d → (f : FindingValue) → In f (duplicates_after d s behind)
      → In f (tree_findings o events)
  duplicates_in d is f i =
      in_front f (duplicates_found o.key_duplicates) (ordering_found o.key_ordering ++ anchors_found)
      (subst (λ (x : Option KeyDuplicatesOptions). In f (duplicates_found x)) (sym is)
      (patched_in (key_duplicates d events) (duplicates_after d s behind)
      (tree_patched.duplicates d n (length old) (length old) (event_parts front old old rest) events events edit refl) f i))

  ordering_in : o.key_ordering ≡ true → (f : FindingValue) → In f (ordering_after s behind) → In f (tree_findings o events)
  ordering_in is f i =
      in_behind f (duplicates_found o.key_duplicates) (ordering_found o.key_ordering ++ anchors_found)
      (in_front f (ordering_found o.key_ordering) anchors_found
      (subst (λ (x : Bool). In f (ordering_found x)) (sym is)
      (patched_in (key_ordering events) (ordering_after s behind)
      (tree_patched.ordering n (length old) (length old) (event_parts front old old rest) events events edit refl) f i)))

  module _ (quiet : IsQuiet n (length old) (found_in_events config (front ++ (old ++ rest)))) where
    abbrev InRows : ℕ → Type 0
    InRows line = (n ≤ line) × (line < n + length old)

    abbrev OfRule : RuleId → FindingValue → Type 0
    OfRule rule f = (f.rule ≡ rule) × ((n ≤ row_of f) × (row_of f < n + length old))

    in_row : (line : ℕ) → InRows line → (n ≤ line + 1 - 1) × (line + 1 - 1 < n + length old)
    in_row line h = (omega (arith, h.0), omega (arith, h.1))

    no_duplicates : (d : KeyDuplicatesOptions) → o.key_duplicates ≡ Some d → duplicates_after d s alone ≡ []
    no_duplicates d is =
        none_mapped (finding_below (n - 1)) (duplicates_after d s alone)
        (sym (all_moved (is_duplicate d) KeyDuplicates (codes "duplication of key \"") (n - 1) s alone)
        ∙ (ap (λ (es : List EventValue). duplicates_after d s es) (sym from_1)
        ∙ none_there n (length old) (tree_findings o events) quiet KeyDuplicates refl (duplicates_after d s behind)
        (duplicates_hold (OfRule KeyDuplicates) InRows (λ line column message h. (refl, in_row line h)) d s behind edit.stand_in)
        (duplicates_in d is)))

    no_ordering : o.key_ordering ≡ true → ordering_after s alone ≡ []
    no_ordering is =
        none_mapped (finding_below (n - 1)) (ordering_after s alone)
        (sym (all_moved is_greater_among KeyOrdering (codes "wrong ordering of key \"") (n - 1) s alone)
        ∙ (ap (λ (es : List EventValue). ordering_after s es) (sym from_1)
        ∙ none_there n (length old) (tree_findings o events) quiet KeyOrdering refl (ordering_after s behind)
        (ordering_hold (OfRule KeyOrdering) InRows (λ line column message h. (refl, in_row line h)) s behind edit.stand_in)
        (ordering_in is)))

    duplicates_alone : (d : KeyDuplicatesOptions) → duplicates_after d s alone ≡ []
        → duplicates_after d s alone ≡ duplicates_after d (without_keys s) alone
    duplicates_alone d h =
        h ∙ sym (none_alone (λ name. d.forbid_duplicated_merge_keys || not (bytes_eq name (codes "<<")))
        (λ key name. bytes_eq key name) KeyDuplicates (codes "duplication of key \"") s alone h)

    ordering_alone : ordering_after s alone ≡ [] → ordering_after s alone ≡ ordering_after (without_keys s) alone
    ordering_alone h = h ∙ sym (none_alone (λ name. true) (λ key name. is_greater key name) KeyOrdering (codes "wrong ordering of key \"") s alone h)

    duplicates_if : (d : Option KeyDuplicatesOptions) → o.key_duplicates ≡ d
        → IfSome d (λ d. duplicates_after d s alone ≡ duplicates_after d (without_keys s) alone)
    duplicates_if None is = tt
    duplicates_if (Some d) is = duplicates_alone d (no_duplicates d is)

    pub old_alone : AreFoundAlone o s alone
    old_alone = record { duplicates = duplicates_if o.key_duplicates refl; ordering = λ is. ordering_alone (no_ordering is) }

-- A run of rows that is judged by itself, and one row more.
use Rattle.std.proofs.Common.{◌≡◌, ℕ, true, false, List, [], ◌∷◌, ◌++◌, length, map, Bool, refl, sym, ◌∙◌, ap, subst, append_assoc, append-nil, Option, Some, None}
use Rattle.std.specs.Prelude.{is_some}
use Rattle.std.specs.List.{list_any}
use Rattle.yl_text.specs.Finding.{FindingValue}
use Rattle.yl_events.specs.declared.fault.PlacedParseFault.{PlacedParseFault}
use Rattle.yl_events.specs.Event.{EventValue}
use Rattle.yl_tree.specs.declared.options.TreeOptions.{TreeOptions}
use Rattle.yl_tree.specs.OpenNodes.{OpenNodes}
use Rattle.yl_tree.specs.References.{is_reference}
use Rattle.yl_tree.specs.TreeRules.{Finds}
use Rattle.yl_open_collections.specs.OpenBy.{kinds_and_turns}
use Rattle.yl_config.specs.declared.config.Config.{Config}
use Rattle.yl_record.specs.Records.{RecordValue}
use Rattle.yl_sections.specs.Kept.{KeptValue, tree_options_of}
use Rattle.yl_pieces.specs.State.{DocumentState}
use Rattle.yl_pieces.specs.Told.{Told, fault_in, is_border, state_after, told}
use Rattle.yl_pieces.specs.Events.{events_in}
use Rattle.yl_pieces.specs.Piece.{JudgesRows, unless_fault}
use Rattle.yl_piece_names.specs.declared.opening.Opening.{Opening}
use Rattle.yl_piece_names.specs.KeptNames.{names_of_run}
use Rattle.yl_piece_names.specs.OpeningEvents.{opened_by}
use Rattle.yl_piece_reports.specs.Told.{finding_above, kept_by_told}
use Rattle.yl_section_pieces.specs.declared.run_judge.RunJudge.{RunJudge}
use Rattle.yl_section_pieces.specs.RunJudging.{EndAlike, JudgesRun, found_by, kept_of_run}

module _ {A : Type 0} (config : Config) (o : TreeOptions) (s : DocumentState) (openings : List Opening) (rs : List RecordValue) (r : RecordValue) (more : List EventValue)
    (told : events_in s 1 (rs ++ r ∷ []) ≡ events_in s 1 rs ++ more) (old new : RunJudge A) (was : JudgesRun config o s openings rs old) where
  names_more : ((t : OpenNodes) (es : List EventValue) → old.names ≡ names_of_run t es → new.names ≡ names_of_run t (es ++ more))
      → (t : OpenNodes) → kinds_and_turns t ≡ opened_by openings → new.names ≡ names_of_run t (events_in s 1 (rs ++ r ∷ []))
  names_more pushed t same = pushed t (events_in s 1 rs) (was.names t same) ∙ ap (names_of_run t) (sym told)

  found_more : ((es : List EventValue) (all : List FindingValue) → Finds old.rules (more ++ es) all → Finds new.rules es all)
      → (es : List EventValue) → list_any is_reference (events_in s 1 (rs ++ r ∷ []) ++ es) ≡ false → Finds new.rules es (found_by o openings (events_in s 1 (rs ++ r ∷ []) ++ es))
  found_more pushed es none =
      let same : events_in s 1 (rs ++ r ∷ []) ++ es ≡ events_in s 1 rs ++ (more ++ es) = ap (λ (fs : List EventValue). fs ++ es) told ∙ append_assoc (events_in s 1 rs) more es in
      subst (λ (fs : List EventValue). Finds new.rules es (found_by o openings fs)) (sym same)
      (pushed es (found_by o openings (events_in s 1 rs ++ (more ++ es))) (was.found (more ++ es) (ap (list_any is_reference) (sym same) ∙ none)))

  -- one row more
  pub row_more : JudgesRows config s (rs ++ r ∷ []) new.rows → fault_in s 1 (rs ++ r ∷ []) ≡ None
      → ((t : OpenNodes) (es : List EventValue) → old.names ≡ names_of_run t es → new.names ≡ names_of_run t (es ++ more))
      → ((es : List EventValue) (all : List FindingValue) → Finds old.rules (more ++ es) all → Finds new.rules es all)
      → JudgesRun config o s openings (rs ++ r ∷ []) new
  row_more rows sound names rules = record { rows = rows; sound = sound; names = names_more names; found = found_more rules }

-- all of them
pub found_all : {A : Type 0} (config : Config) (o : TreeOptions) (s : DocumentState) (openings : List Opening) (rs : List RecordValue) (j : RunJudge A) → JudgesRun config o s openings rs j
    → list_any is_reference (events_in s 1 rs) ≡ false → Finds j.rules [] (found_by o openings (events_in s 1 rs))
found_all config o s openings rs j h none =
    let all : events_in s 1 rs ++ [] ≡ events_in s 1 rs = append-nil (events_in s 1 rs) in
    subst (λ (es : List EventValue). Finds j.rules [] (found_by o openings es)) all (h.found [] (ap (list_any is_reference) all ∙ none))

-- the state after rows without a fault
pub state_of : (fault : Option PlacedParseFault) (s after : DocumentState) → fault ≡ None → Some after ≡ unless_fault fault s → after ≡ s
state_of None s after none is = cc
state_of (Some f) s after none is = absurd (cc)

pub no_fault : (fault : Option PlacedParseFault) (b : Bool) → b ≡ is_some fault → b ≡ false → fault ≡ None
no_fault None b is off = refl
no_fault (Some f) b is off = absurd (cc)

-- two runs of rows
pub ends : {A : Type 0} (config : Config) (o p : TreeOptions) (s : DocumentState) (openings : List Opening) (old new : List RecordValue) (one other : RunJudge A) → JudgesRun config o s openings old one
    → JudgesRun config p s openings new other → (a b : DocumentState) → a ≡ state_after s 1 old → b ≡ state_after s 1 new → is_border a ≡ true → a ≡ b → one.names ≡ other.names → other.names.has_references ≡ false
    → EndAlike s old new one other
ends config o p s openings old new one other was now a b is_a is_b border same names none =
    record { state = sym is_a ∙ same ∙ is_b; border = ap is_border (sym is_a) ∙ border; names = names; none = none }

-- ---- what is kept of the rows

pub summary_so : (config : Config) (s : DocumentState) (openings : List Opening) (rs : List RecordValue) (rows : ℕ) (t : Told) (found : List FindingValue) (k : KeptValue)
    → k ≡ kept_by_told config 0 rows 1 t (map (finding_above 1) found) → rows ≡ length rs → t ≡ told config s 1 rs → found ≡ found_by (tree_options_of config) openings (events_in s 1 rs)
    → k ≡ kept_of_run config s openings rs
summary_so config s openings rs rows t found k is count told_is found_is = is ∙ (λ i. kept_by_told config 0 (count i) 1 (told_is i) (map (finding_above 1) (found_is i)))
